-- How the row of a line is read from its first word and the words behind it. A constant is none of them: it is read as a value.
use Rattle.std.specs.Prelude.{ℕ, ◌^◌, List, Option, Some, None, codes, if◌then◌else◌}
use Rattle.std.specs.Option.{option_map}
use Rattle.std.specs.Str.{bytes_eq}
use Rattle.lucid_value.specs.Names.{is_name}
use Rattle.lucid_equations.specs.declared.rows.ScopeKind.{ScopeKind}
use Rattle.lucid_equations.specs.declared.rows.ScopeKind.TheVariants.{Called as CalledScope, Frozen as FrozenScope}
use Rattle.lucid_equations.specs.declared.rows.ScopeRow.{ScopeRow}
use Rattle.lucid_equations.specs.declared.rows.Entry.{Entry}
use Rattle.lucid_equations.specs.declared.rows.Entry.TheVariants.{Plain, Parameter, Current, Called}
use Rattle.lucid_equations.specs.declared.rows.NodeRow.{NodeRow}
use Rattle.lucid_equations.specs.declared.rows.NameRow.{NameRow}
use Rattle.lucid_equations.specs.declared.rows.PlaceRow.{PlaceRow}
use Rattle.lucid_flat.specs.FlatText.{FlatRow, scope_row, input_row, node_row, name_row, place_row, root_row}
use Rattle.lucid_texts.specs.Words.{◌>>=◌, words_of, take_word, take_number, is_end}
use Rattle.lucid_flat.specs.Words.{few_numbers_of, exactly}
use Rattle.lucid_flat.specs.Forms.{node_of}

-- the kind of a scope that isn't the root
abbrev pub kind_of : List ℕ → Option ScopeKind
kind_of w = if bytes_eq w (codes "called") then Some CalledScope else (if bytes_eq w (codes "frozen") then Some FrozenScope else None)

-- the row of a scope: its parent and its kind, and no more
unfoldable pub scope_of : List (List ℕ) → Option ScopeRow
scope_of ws = do
  p ← take_number (2 ^ 32) ws
  k ← take_word p.1
  kind ← kind_of k.0
  if is_end k.1 then Some (record { parent = p.0; kind = kind }) else None

-- the name of an input
unfoldable pub input_of : List ℕ → Option (List ℕ)
input_of t = if is_name t then Some t else None

-- the row of a node: its scope, and the words of the node
unfoldable pub node_row_of : List (List ℕ) → Option NodeRow
node_row_of ws = do
  s ← take_number (2 ^ 32) ws
  n ← node_of s.1
  Some (record { scope = s.0; node = n })

-- the entry of a name by its word, with its number
abbrev pub entry_of : List ℕ → ℕ → Option Entry
entry_of w n =
    if bytes_eq w (codes "plain") then Some (Plain n)
    else (if bytes_eq w (codes "parameter") then Some (Parameter n)
    else (if bytes_eq w (codes "current") then Some (Current n) else (if bytes_eq w (codes "called") then Some (Called n) else None)))

-- the row of a name, where the first word is one of the four kinds: its scope and its number
unfoldable pub name_of : (word : List ℕ) → List (List ℕ) → Option NameRow
name_of w ws = do
  ns ← exactly 2 ws
  e ← entry_of w ns.second
  Some (record { scope = ns.first; kind = e })

-- the row of a call place: its scope, its name and its actuals
unfoldable pub place_of : List (List ℕ) → Option PlaceRow
place_of ws = do
  s ← take_number (2 ^ 32) ws
  n ← take_number (2 ^ 32) s.1
  ns ← few_numbers_of n.1
  Some (record { scope = s.0; name = n.0; actuals = ns })

-- the root: one number
unfoldable pub root_of : List (List ℕ) → Option ℕ
root_of ws = do
  ns ← exactly 1 ws
  Some ns.first

-- The row of a first word and the bytes behind its blank.
unfoldable pub tail_row : (word tail : List ℕ) → Option FlatRow
tail_row w t =
    if bytes_eq w (codes "scope") then option_map scope_row (scope_of (words_of t))
    else (if bytes_eq w (codes "input") then option_map input_row (input_of t)
    else (if bytes_eq w (codes "node") then option_map node_row (node_row_of (words_of t))
    else (if bytes_eq w (codes "place") then option_map place_row (place_of (words_of t))
    else (if bytes_eq w (codes "root") then option_map root_row (root_of (words_of t)) else option_map name_row (name_of w (words_of t))))))
