-- Forms over streams, read from nodes and made into nodes.
use Rattle.lucid_equations.proofs.Common.{◌≡◌, ℕ, List, [], ◌∷◌, Option, None, Some, refl, subst, length, take, get_or, row, all_at, node_by, parts, Node, Const, Table}
use Rattle.lucid_tree.specs.declared.form.Form.{Form}
use Rattle.lucid_tree.specs.Forms.{part_count}
use Rattle.lucid_tree.specs.declared.form.Form.TheVariants as forms
use Rattle.lucid_tree.specs.Tree.{stream}
use Rattle.lucid_equations.specs.Rows.{read, made, nodes_of}
use Rattle.lucid_equations.specs.declared.rows.Node.TheVariants.{Input, Apply, Freeze, Refer, Call}

pub made_is_read : (f : Form) (a b c : ℕ) → read (made f a b c) ≡ Some (f, take (part_count f) (a ∷ b ∷ c ∷ []))
made_is_read forms.If a b c = refl
made_is_read _ a b c = refl

-- the node is made of what was read
abbrev IsMadeOf : Node → Option (Form × List ℕ) → Type 0
IsMadeOf n None = Unit {0}
IsMadeOf n (Some p) = made p.0 (get_or p.1 0 0) (get_or p.1 1 0) (get_or p.1 2 0) ≡ n

is_made : (n : Node) → IsMadeOf n (read n)
is_made (Const k) = tt
is_made (Input k) = tt
is_made (Apply op args) = tt
is_made (Freeze a) = tt
is_made (Refer n l) = tt
is_made (Call n q l) = tt
is_made _ = refl

pub read_is_made : (n : Node) (f : Form) (is : List ℕ) → read n ≡ Some (f, is) → made f (get_or is 0 0) (get_or is 1 0) (get_or is 2 0) ≡ n
read_is_made n f is h = subst (IsMadeOf n) h (is_made n)

-- A node that is read as a form over streams has these parts, as many as the form's row says, and is the form over the nodes of their numbers.
pub record IsFormNode (n : Node) (f : Form) (is : List ℕ) : Type 0 where
  pub parts_are : parts n ≡ is
  pub count : length is ≡ part_count f
  pub node_is : (T : Table) → node_by T n ≡ row (stream f) (all_at (nodes_of T) is)

abbrev IsReadAs : Node → Option (Form × List ℕ) → Type 0
IsReadAs n None = Unit {0}
IsReadAs n (Some p) = IsFormNode n p.0 p.1

read_as : (n : Node) → IsReadAs n (read n)
read_as (Const k) = tt
read_as (Input k) = tt
read_as (Apply op args) = tt
read_as (Freeze a) = tt
read_as (Refer n l) = tt
read_as (Call n q l) = tt
read_as _ = record { parts_are = refl; count = refl; node_is = λ T. refl }

pub is_form_node : (n : Node) (p : Form × List ℕ) → read n ≡ Some p → IsFormNode n p.0 p.1
is_form_node n p e = subst (IsReadAs n) e (read_as n)
