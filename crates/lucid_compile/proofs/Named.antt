-- The row of a node that is a name, and the parts of a node that freezes nothing.
use Rattle.lucid_compile.proofs.Common.{◌≡◌, ℕ, List, Option, Some, None, refl, PlainValue, Binding, PlainNode, reference, EachBelow, parts, as_node, Node, Freeze, EachStandsIn, PartsStand, IsFilled, NodeRow, ScopeRow, Numbering, reference_by, node_by, IsKnown}
use Rattle.lucid_scope.specs.declared.scoped.Binding.TheVariants.{Plain as PlainName}
use Rattle.lucid_compile.specs.Forms.{FreezesNothing}

-- the parts of a node that freezes nothing
pub parts-own : (xs : List ScopeRow) (rs : List NodeRow) (s : ℕ) (n : Node) → FreezesNothing n → EachStandsIn rs s (parts n) → PartsStand xs rs s n
parts-own xs rs s (Freeze a) f h = absurd f
parts-own xs rs s n f h = h

pub named-stands : (xs : List ScopeRow) (rs : List NodeRow) (s : ℕ) (g : Numbering) (b : Option Binding) → PartsStand xs rs s (node_by g b)
named-stands xs rs s g None = tt
named-stands xs rs s g (Some (PlainName d)) = tt
named-stands xs rs s g _ = tt

pub named-filled : (g : Numbering) (b : Option Binding) → IsFilled (node_by g b)
named-filled g None = tt
named-filled g (Some (PlainName d)) = tt
named-filled g _ = tt

pub named-means : (vs : List PlainValue) (inputs : List (List ℕ)) (ts : List PlainNode) (g : Numbering) (b : Option Binding)
    → as_node vs inputs ts (node_by g b) ≡ reference (reference_by g inputs b)
named-means vs inputs ts g None = refl
named-means vs inputs ts g (Some (PlainName d)) = refl
named-means vs inputs ts g _ = refl

pub named-known : (n : ℕ) (g : Numbering) (b : Option Binding) → IsKnown n (node_by g b)
named-known n g None = tt
named-known n g (Some (PlainName d)) = tt
named-known n g _ = tt

pub named-parts : (n : ℕ) (g : Numbering) (b : Option Binding) → EachBelow n (parts (node_by g b))
named-parts n g None = tt
named-parts n g (Some (PlainName d)) = tt
named-parts n g _ = tt
