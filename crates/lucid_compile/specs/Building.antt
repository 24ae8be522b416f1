-- What one row more does to the lists of a table.
use Rattle.std.specs.Prelude.{◌≡◌, ℕ, List, [], ◌∷◌, ◌++◌, map, length}
use Rattle.lucid_value.specs.Plain.{PlainValue}
use Rattle.lucid_value.specs.View.{plain}
use Rattle.lucid_compile.specs.Keys.{KeyLists, key_lists, no_keys, with_name_key, with_function_key, with_call_key}
use Rattle.lucid_compile.specs.declared.numbering.Key.{Key}
use Rattle.lucid_compile.specs.declared.building.Rows.{Rows}
use Rattle.lucid_compile.specs.declared.building.Body.{Body}
use Rattle.lucid_equations.specs.declared.rows.ScopeRow.{ScopeRow}
use Rattle.lucid_equations.specs.declared.rows.NodeRow.{NodeRow}
use Rattle.lucid_equations.specs.declared.rows.NameRow.{NameRow}
use Rattle.lucid_equations.specs.declared.rows.PlaceRow.{PlaceRow}

-- the rows, and the keys of them that were noted
pub record Lists : Type 0 where
  pub scopes : List ScopeRow
  pub constants : List PlainValue
  pub nodes : List NodeRow
  pub names : List NameRow
  pub places : List PlaceRow
  pub bodies : List Body
  pub keys : KeyLists

abbrev pub lists : Rows → Lists
lists r = record { scopes = r.scopes.items; constants = map plain r.constants.items; nodes = r.nodes.items; names = r.names.items; places = r.places.items; bodies = r.bodies.items; keys = key_lists r.keys }

abbrev pub no_lists : Lists
no_lists = record { scopes = []; constants = []; nodes = []; names = []; places = []; bodies = []; keys = no_keys }

abbrev pub with_scope : ScopeRow → Lists → Lists
with_scope r l = record { scopes = l.scopes ++ r ∷ []; constants = l.constants; nodes = l.nodes; names = l.names; places = l.places; bodies = l.bodies; keys = l.keys }

abbrev pub with_constant : PlainValue → Lists → Lists
with_constant v l = record { scopes = l.scopes; constants = l.constants ++ v ∷ []; nodes = l.nodes; names = l.names; places = l.places; bodies = l.bodies; keys = l.keys }

abbrev pub with_node : NodeRow → Lists → Lists
with_node r l = record { scopes = l.scopes; constants = l.constants; nodes = l.nodes ++ r ∷ []; names = l.names; places = l.places; bodies = l.bodies; keys = l.keys }

abbrev pub with_name : Key → NameRow → Lists → Lists
with_name k r l = record { scopes = l.scopes; constants = l.constants; nodes = l.nodes; names = l.names ++ r ∷ []; places = l.places; bodies = l.bodies; keys = with_name_key k l.keys }

abbrev pub with_body : Key → Body → Lists → Lists
with_body k b l = record { scopes = l.scopes; constants = l.constants; nodes = l.nodes; names = l.names; places = l.places; bodies = l.bodies ++ b ∷ []; keys = with_function_key k l.keys }

abbrev pub with_place : (call place : Key) → PlaceRow → Lists → Lists
with_place c k p l = record { scopes = l.scopes; constants = l.constants; nodes = l.nodes; names = l.names; places = l.places ++ p ∷ []; bodies = l.bodies; keys = with_call_key c k l.keys }

-- one scope more, with its number
pub record OneScope (o n : Lists) (r : ScopeRow) (id : ℕ) : Type 0 where
  pub lists : n ≡ with_scope r o
  pub number : id ≡ length o.scopes

-- one constant more, with its number
pub record OneConstant (o n : Lists) (v : PlainValue) (id : ℕ) : Type 0 where
  pub lists : n ≡ with_constant v o
  pub number : id ≡ length o.constants

-- one node more, with its number
pub record OneNode (o n : Lists) (r : NodeRow) (id : ℕ) : Type 0 where
  pub lists : n ≡ with_node r o
  pub number : id ≡ length o.nodes
