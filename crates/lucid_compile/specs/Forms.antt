-- What the node of a form is.
use Rattle.std.specs.Prelude.{◌≡◌, ℕ, List, [], ◌∷◌, get_or}
use Rattle.lucid_value.specs.Plain.{PlainValue}
use Rattle.lucid_tree.specs.Tree.{Head, const, apply, stream}
use Rattle.lucid_equations.specs.Nodes.{PlainNode, row}
use Rattle.lucid_equations.specs.Rows.{all_at, made, parts, as_node}
use Rattle.lucid_equations.specs.Sound.{IsFilled}
use Rattle.lucid_equations.specs.declared.rows.Node.{Node}
use Rattle.lucid_equations.specs.declared.rows.Node.TheVariants.{Const, Apply, Freeze}
use Rattle.lucid_compile.specs.Building.{Lists, OneConstant}
use Rattle.lucid_compile.specs.Known.{IsKnown, NamesNothing}

-- the node of a form with these numbers: those of its parts in order, or of a constant its own first
abbrev pub node_of : Head → (a b c : ℕ) → Node
node_of (const v) a b c = Const a
node_of (apply op n) a b c = Apply op (a ∷ b ∷ c ∷ [])
node_of (stream f) a b c = made f a b c

-- the first number in the node of a form: of a constant its own, which is then kept; else that of the first part
abbrev pub HasFirst : (o n : Lists) → Head → (ids : List ℕ) → (number : ℕ) → Type 0
HasFirst o n (const v) ids a = OneConstant o n v a
HasFirst o n _ ids a = (n ≡ o) × (a ≡ get_or ids 0 0)

-- a node that freezes no time
abbrev pub FreezesNothing : Node → Type 0
FreezesNothing (Freeze a) = ⊥
FreezesNothing _ = Unit {0}

-- the node is this form of the parts of these numbers, and names nothing else
pub record IsForm (f : Head) (ids : List ℕ) (n : Node) : Type 0 where
  pub means : (vs : List PlainValue) (ns : List (List ℕ)) (ts : List PlainNode) → as_node vs ns ts n ≡ row f (all_at ts ids)
  pub known : (count : ℕ) → IsKnown count n
  pub parts_are : parts n ≡ ids
  pub alone : NamesNothing n
  pub own : FreezesNothing n
  pub filled : IsFilled n
