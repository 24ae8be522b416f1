-- Where terminals that spell no tree go wrong.
use Rattle.std.specs.Prelude.{◌≡◌, ℕ, ◌+◌, ◌≤◌, ◌<◌, List, ◌++◌, length, map, take, get_or}
use Rattle.lucid_tree.specs.Tree.{PlainTree}
use Rattle.lucid_parse.specs.Grammar.{PlacedTerminal, Spells}

-- some program begins with the terminals
abbrev pub Begins : List PlacedTerminal → Type 0
Begins terminals = (more : List PlacedTerminal) × (tree : PlainTree) × Spells 0 (terminals ++ more) tree

-- the terminals spell no tree
abbrev pub SpellsNone : List PlacedTerminal → Type 0
SpellsNone terminals = (tree : PlainTree) → Spells 0 terminals tree → ⊥

-- the place of the terminal at an index, and of the end behind them
abbrev pub place_of : List PlacedTerminal → ℕ → ℕ → ℕ
place_of terminals end index = get_or (map (λ one. one.at) terminals) index end

-- The place of the first terminal such that no program begins with the terminals through it, or the end where a program begins with all of them.
pub record IsFault (terminals : List PlacedTerminal) (end at : ℕ) : Type 0 where
  pub index : ℕ
  pub within : index ≤ length terminals
  pub before : Begins (take index terminals)
  pub through : index < length terminals → Begins (take (index + 1) terminals) → ⊥
  pub place : at ≡ place_of terminals end index
