-- What is promised of a table that was compiled from a tree: no value is changed by it at any approximation, nor what is
-- consulted, nor the number of what is referred to.
use Rattle.std.specs.Prelude.{◌≡◌, ℕ, ◌≤◌, List, map, Option, ◌↔◌}
use Rattle.lucid_value.specs.Plain.{PlainValue}
use Rattle.lucid_tree.specs.Tree.{Head, PlainTree, form, name, call, block, PlainTrees, tree, PlainDefs}
use Rattle.lucid_tree.specs.Levels.{goes_to, Elements, HoldsExactly}
use Rattle.lucid_tree.specs.Env.{Env, empty, scope, frozen_at, Referent, Position, name_target, call_target}
use Rattle.lucid_tree.specs.Meaning.{val, hval}
use Rattle.lucid_tree.specs.Demand.{seen, consults}
use Rattle.lucid_equations.specs.Nodes.{Equations}
use Rattle.lucid_equations.specs.Datons.{Daton}
use Rattle.lucid_equations.specs.Values.{eqval, eqhval}
use Rattle.lucid_equations.specs.Visits.{visits, consults_on_nodes}
use Rattle.lucid_equations.specs.Counts.{HasDistinct, Points, datons, valued_datons, contexts}
use Rattle.lucid_compile.specs.Counts.{entries, valued_entries, environments}
use Rattle.lucid_compile.specs.Static.{Numbers, Source, context_for, event_of}
use Rattle.lucid_compile.specs.Compiles.{Compiles}
use Rattle.lucid_compile.specs.Places.{place_of}

-- The root's approximations are the tree's, at every limit and point.
abbrev pub HasSameValues : Equations → PlainTree → Type 0
HasSameValues p e = (b : Elements) (m t s : ℕ) → eqval p b m t s ≡ val b m e empty t s

-- The same elements are consulted, in the same order, at every limit, added number and point.
abbrev pub HasSameConsults : Equations → PlainTree → Type 0
HasSameConsults p e = (b : Elements) (m d t s : ℕ) → consults_on_nodes p b m d t s ≡ consults b m d e empty t s

-- Whatever the tree refers to and enters, the table does in the same order: the daton of the entry, the context that matches the
-- environment entry by entry.
abbrev pub HasMatchingVisits : Numbers → Equations → PlainTree → Type 0
HasMatchingVisits nu p e = (b : Elements) (m d t s : ℕ) → visits p b m d t s ≡ map (event_of nu) (seen b m d e empty t s)

-- a tree of a list
pub data IsAmong (x : PlainTree) : PlainTrees → Type 0 where
  first_among : {es : PlainTrees} → IsAmong x (tree x es)
  later_among : {e : PlainTree} {es : PlainTrees} → IsAmong x es → IsAmong x (tree e es)

-- A part of the program is evaluated in an environment: the program itself in the empty one; with a form its parts; with a block
-- its subject; with a name or a call what it goes on with, at some time.
pub data IsEvaluated (e : PlainTree) : PlainTree → Env → Type 0 where
  the_program : IsEvaluated e e empty
  a_part : {at : ℕ} {f : Head} {es : PlainTrees} {env : Env} {x : PlainTree} → IsEvaluated e (form at f es) env → IsAmong x es → IsEvaluated e x env
  a_subject : {at : ℕ} {x : PlainTree} {ds : PlainDefs} {env : Env} → (t : ℕ) → IsEvaluated e (block at x ds) env → IsEvaluated e x (scope ds (frozen_at ds t) env)
  by_name : {at : ℕ} {n : List ℕ} {env : Env} {k : Referent} {x : Position} {u : ℕ} → (t : ℕ) → IsEvaluated e (name at n) env
      → name_target n env t ≡ goes_to k x u → IsEvaluated e x.tree x.env
  by_call : {at : ℕ} {n : List ℕ} {es : PlainTrees} {env : Env} {k : Referent} {x : Position} {u : ℕ} → (t : ℕ) → IsEvaluated e (call at n es) env
      → call_target at n es env env t ≡ goes_to k x u → IsEvaluated e x.tree x.env

-- Two environments in which the same place of the source is evaluated are equal exactly where their contexts are.
abbrev pub HasOneContextForOneEnvironment : Numbers → PlainTree → Type 0
HasOneContextForOneEnvironment nu e =
    (x y : PlainTree) (f g : Env) → IsEvaluated e x f → IsEvaluated e y g → place_of x ≡ place_of y → (f ≡ g) ↔ (context_for nu f ≡ context_for nu g)

-- As many different datons are visited as different entries are referred to, over any list of points.
abbrev pub HasAsManyDatons : Equations → PlainTree → Type 0
HasAsManyDatons p e = (b : Elements) (m d : ℕ) (points : Points) (n : ℕ) → HasDistinct (entries b m d e points) n ↔ HasDistinct (datons p b m d points) n

-- At most as many different contexts are entered as different environments, over any list of points.
abbrev pub HasNoMoreContexts : Equations → PlainTree → Type 0
HasNoMoreContexts p e =
    (b : Elements) (m d : ℕ) (points : Points) (n k : ℕ) → HasDistinct (environments b m d e points) n → HasDistinct (contexts p b m d points) k → k ≤ n

-- Where exactly what is referred to over a list of points is held, each with its value, and of the table exactly what is visited,
-- each with its value, the approximations are the same again, at every limit and point.
abbrev pub HasSameHeldValues : Equations → PlainTree → Type 0
HasSameHeldValues p e =
    (b : Elements) (m : ℕ) (points : Points) (held : Referent → (space : ℕ) → Option PlainValue) (kept : Daton → (space : ℕ) → Option PlainValue)
    → HoldsExactly (valued_entries b m e points) held → HoldsExactly (valued_datons p b m points) kept
    → (n t s : ℕ) → eqhval p (record { element = b; held = kept }) n t s ≡ hval (record { element = b; held = held }) n e empty t s

-- The table keeps the tree, for some numbers of names and of call places.
pub record KeepsTree (p : Equations) (e : PlainTree) : Type 0 where
  pub numbers : Numbers
  pub values : HasSameValues p e
  pub consults : HasSameConsults p e
  pub matches : HasMatchingVisits numbers p e
  pub one_for_one : HasOneContextForOneEnvironment numbers e
  pub as_many : HasAsManyDatons p e
  pub no_more : HasNoMoreContexts p e
  pub held : HasSameHeldValues p e

-- A table that has what each part of the tree needs keeps the tree.
abbrev pub CompiledTablesKeepTrees : Type 0
CompiledTablesKeepTrees = (nu : Numbers) (so : Source) (p : Equations) (e : PlainTree) → Compiles nu so p e → KeepsTree p e
