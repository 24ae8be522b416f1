-- The words of rows that aren't a name's or a value's: letters and digits alone.
use Rattle.lucid_flat.proofs.Common.{◌^◌, refl, arith, AllByRecursion, IsSolid, decimals_solid, Op, Add, ScopeKind, Root, Node, Apply, Entry, Plain, kind_word, op_word, form_word, node_numbers, node_words, entry_word, NodeFits}
use Rattle.lucid_equations.specs.declared.rows.ScopeKind.TheVariants.{Called as CalledScope, Frozen as FrozenScope}

op_solid : (op : Op) → IsSolid (op_word op)
op_solid Add = refl
op_solid op = refl

form_solid : (n : Node) → IsSolid (form_word n)
form_solid (Apply op args) = refl
form_solid n = refl

-- the words of a node
pub node_solid : (n : Node) → NodeFits n → AllByRecursion IsSolid (node_words n)
node_solid (Apply op args) h = (refl, (op_solid op, decimals_solid (2 ^ 32) (omega arith) args h.0))
node_solid n h = (form_solid n, decimals_solid (2 ^ 32) (omega arith) (node_numbers n) h.0)

pub kind_solid : (k : ScopeKind) → IsSolid (kind_word k)
kind_solid Root = refl
kind_solid CalledScope = refl
kind_solid FrozenScope = refl

pub entry_solid : (e : Entry) → IsSolid (entry_word e)
entry_solid (Plain a) = refl
entry_solid e = refl
