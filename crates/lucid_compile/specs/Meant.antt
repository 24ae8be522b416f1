-- What the nodes of a tree's table mean: their pieces.
use Rattle.std.specs.Prelude.{◌≡◌, ℕ, Option, Some, slice_get}
use Rattle.lucid_value.specs.Plain.{PlainValue}
use Rattle.lucid_tree.specs.Tree.{PlainTree}
use Rattle.lucid_tree.specs.Env.{Env, Referent}
use Rattle.lucid_tree.specs.Levels.{Elements, HoldsExactly}
use Rattle.lucid_tree.specs.Meaning.{val, hval}
use Rattle.lucid_tags.specs.Contexts.{Context}
use Rattle.lucid_equations.specs.Nodes.{PlainNode, Equations}
use Rattle.lucid_equations.specs.Datons.{Daton}
use Rattle.lucid_equations.specs.Values.{node_val, node_hval}
use Rattle.lucid_equations.specs.Counts.{Points, valued_datons}
use Rattle.lucid_compile.specs.Counts.{valued_entries}
use Rattle.lucid_compile.specs.Static.{context_for}
use Rattle.lucid_compile.specs.Promise.{IsEvaluated}
use Rattle.lucid_compile.specs.Notes.{Note, noted_tree}
use Rattle.lucid_compile.specs.Settled.{pieces, numbers_of}

-- A context matches an environment in which a piece is evaluated.
pub record Matches (e : PlainTree) (n : Note) (env : Env) (c : Context) : Type 0 where
  pub evaluated : IsEvaluated e (noted_tree n.kind) env
  pub context : context_for (numbers_of e) env ≡ c

-- The values that are held, of the tree and of its table: exactly what the tree refers to over a list of points, each with its value, and
-- exactly what the table visits there.
pub record AreHeldOverPoints (e : PlainTree) (p : Equations) (b : Elements) (held : Referent → (space : ℕ) → Option PlainValue)
    (kept : Daton → (space : ℕ) → Option PlainValue) : Type 0 where
  pub limit : ℕ
  pub points : Points
  pub of_tree : HoldsExactly (valued_entries b limit e points) held
  pub of_table : HoldsExactly (valued_datons p b limit points) kept

-- There the node of the piece has its approximations, at every limit and point, with held values too; and no other environment matches
-- the context.
abbrev pub NodesMeanTheirPieces : PlainTree → Equations → (node : ℕ → PlainNode) → Type 0
NodesMeanTheirPieces e p node =
    (id : ℕ) (n : Note) → slice_get (pieces e) id ≡ Some n → (env : Env) (c : Context) → Matches e n env c
    → ((b : Elements) (m t s : ℕ) → node_val p b m (node id) c t s ≡ val b m (noted_tree n.kind) env t s)
    × ((b : Elements) (held : Referent → ℕ → Option PlainValue) (kept : Daton → ℕ → Option PlainValue) → AreHeldOverPoints e p b held kept → (m t s : ℕ)
    → node_hval p (record { element = b; held = kept }) m (node id) c t s ≡ hval (record { element = b; held = held }) m (noted_tree n.kind) env t s)
    × ((f : Env) → Matches e n f c → f ≡ env)
