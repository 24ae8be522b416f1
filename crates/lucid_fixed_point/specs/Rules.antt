-- What trees have by rules alone, without approximations: one rule for each way in which a value comes about, as a language's meaning is
-- written as a natural semantics. The rules for forms read the rows of Wadge and Ashcroft's book and of this language; those for names,
-- calls and blocks are their rules of scopes.
use Rattle.std.specs.Prelude.{◌≡◌, ℕ, List, Option, Some, None}
use Rattle.lucid_value.specs.Plain.{PlainValue}
use Rattle.lucid_tree.specs.Tree.{Head, PlainTree, form, name, call, block, PlainTrees, PlainDefs}
use Rattle.lucid_tree.specs.Rows.{plan, run, Reader}
use Rattle.lucid_tree.specs.Levels.{Elements}
use Rattle.lucid_tree.specs.Env.{Env, empty, scope, args, plain_def, function_def, current_def, definition, param, tree_at, frozen_at}
use Rattle.lucid_tree.specs.Find.{Outwards}

-- There is a derivation that the tree, in the environment, has the value at the time and the space, over these inputs. Derivations are
-- finite, and nothing else has a value: it is the least relation that the rules close, and so the least solution of the equations.
pub data Derives (b : Elements) : PlainTree → Env → (time space : ℕ) → PlainValue → Type 0 where
  -- A form has what its row gives to a reader that reads of the parts only what they have. The number says how far a search looks: any
  -- that is enough serves.
  by_row : {at : ℕ} {f : Head} {es : PlainTrees} {env : Env} {t s : ℕ} {v : PlainValue} (m : ℕ) (reader : Reader (Option PlainValue))
      → ((i u r : ℕ) → tree_at es i ≡ None → reader i u r ≡ None)
      → ((i u r : ℕ) (x : PlainTree) (w : PlainValue) → tree_at es i ≡ Some x → reader i u r ≡ Some w → Derives b x env u r w)
      → run (plan m f t s) reader ≡ Some v → Derives b (form at f es) env t s v
  -- A plain name has what the right side of its definition has, in the environment from its block's scope on.
  by_right_side : {n : List ℕ} {env rest : Env} {ds : PlainDefs} {z : Option ℕ} {at d : ℕ} {x : PlainTree} {t s : ℕ} {v : PlainValue}
      → Outwards n env (scope ds z rest) → definition n ds ≡ plain_def d x → Derives b x (scope ds z rest) t s v → Derives b (name at n) env t s v
  -- A parameter has what the actual in its place has, in the caller's environment.
  by_actual : {n : List ℕ} {env caller rest : Env} {ns : List (List ℕ)} {ats : List ℕ} {es : PlainTrees} {at i : ℕ} {x : PlainTree} {t s : ℕ} {v : PlainValue}
      → Outwards n env (args ns ats es caller rest) → param n ns ≡ Some i → tree_at es i ≡ Some x → Derives b x caller t s v → Derives b (name at n) env t s v
  -- A current name has what its right side has outside the block, at the time at which the block was opened.
  by_frozen : {n : List ℕ} {env rest : Env} {ds : PlainDefs} {at d u : ℕ} {x : PlainTree} {t s : ℕ} {v : PlainValue}
      → Outwards n env (scope ds (Some u) rest) → definition n ds ≡ current_def d x → Derives b x rest u s v → Derives b (name at n) env t s v
  -- A free name has the element of its input at the time.
  by_element : {n : List ℕ} {env : Env} {at t s : ℕ} {v : PlainValue} → Outwards n env empty → b n t ≡ Some v → Derives b (name at n) env t s v
  -- A call has what the function's right side has, behind the actuals, in front of the environment from the function's block on.
  by_call : {n : List ℕ} {env rest : Env} {ds : PlainDefs} {z : Option ℕ} {at d : ℕ} {ns : List (List ℕ)} {ats : List ℕ} {es : PlainTrees} {x : PlainTree} {t s : ℕ} {v : PlainValue}
      → Outwards n env (scope ds z rest) → definition n ds ≡ function_def d ns ats x
      → Derives b x (args ns ats es env (scope ds z rest)) t s v → Derives b (call at n es) env t s v
  -- A block has what its subject has behind its definitions.
  by_block : {at : ℕ} {e : PlainTree} {ds : PlainDefs} {env : Env} {t s : ℕ} {v : PlainValue}
      → Derives b e (scope ds (frozen_at ds t) env) t s v → Derives b (block at e ds) env t s v
