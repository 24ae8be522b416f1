-- The names in scope at a place, and what a name there belongs to: the first definition of it in the innermost scope that has one.
-- The rule is this language's own; the search for a name is that of environments.
use Rattle.std.specs.Prelude.{ℕ, List, Option, Some, None, get_or}
use Rattle.lucid_tree.specs.Tree.{PlainTree, PlainDefs}
use Rattle.lucid_tree.specs.Env.{Found, absent, plain_def, function_def, current_def, definition, param}

-- What is in scope, innermost first: a block's definitions; or a function's parameters, with the place of its definition and
-- their own places.
pub data Static : Type 0 where
  outermost : Static
  in_block : PlainDefs → Static → Static
  in_function : (def : ℕ) → (names : List (List ℕ)) → (places : List ℕ) → Static → Static

-- What a name belongs to: no scope; a plain name; a parameter, by its number from 0 and its place; a current name; a function.
-- `home` is what is in scope from the entry on that has the name, `outside` what is in scope outside that entry.
pub data Meaning : Type 0 where
  free : Meaning
  plain_name : (def : ℕ) → (right : PlainTree) → (home : Static) → Meaning
  parameter : (def index place : ℕ) → (home : Static) → Meaning
  current_name : (def : ℕ) → (right : PlainTree) → (home outside : Static) → Meaning
  function : (def : ℕ) → (names : List (List ℕ)) → (places : List ℕ) → (right : PlainTree) → (home : Static) → Meaning

-- the block's own definition, or else what the name belongs to outside
abbrev pub defined_in : Found → (home outside : Static) → (outer : Meaning) → Meaning
defined_in absent k o outer = outer
defined_in (plain_def at e) k o outer = plain_name at e k
defined_in (function_def at ns ats e) k o outer = function at ns ats e k
defined_in (current_def at e) k o outer = current_name at e k o

-- the function's own parameter, or else what the name belongs to outside
abbrev pub parameter_in : Option ℕ → (def : ℕ) → (places : List ℕ) → (home : Static) → (outer : Meaning) → Meaning
parameter_in None d ats k outer = outer
parameter_in (Some i) d ats k outer = parameter d i (get_or ats i 0) k

-- what a name belongs to
abbrev pub meaning : List ℕ → Static → Meaning
meaning n outermost = free
meaning n (in_block ds k) = defined_in (definition n ds) (in_block ds k) k (meaning n k)
meaning n (in_function d ns ats k) = parameter_in (param n ns) d ats (in_function d ns ats k) (meaning n k)
