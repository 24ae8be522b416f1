-- How a node is read from the words of its line: the word of its form, and then the numbers.
use Rattle.std.specs.Prelude.{ℕ, Bool, List, [], ◌∷◌, ◌==◌, ◌&&◌, Option, Some, length, codes, if◌then◌else◌}
use Rattle.std.specs.List.{find}
use Rattle.std.specs.Str.{bytes_eq}
use Rattle.lucid_ops.specs.Codes.{operators}
use Rattle.lucid_ops.specs.declared.op.Op.{Op}
use Rattle.lucid_equations.specs.declared.rows.Node.{Node}
use Rattle.lucid_equations.specs.declared.rows.Node.TheVariants.{Apply}
use Rattle.lucid_flat.specs.declared.ops.OpWord.{OpWord}
use Rattle.lucid_flat.specs.declared.words.Three.{Three}
use Rattle.lucid_flat.specs.FlatText.{op_word, form_word, nodes_with, node_numbers}
use Rattle.lucid_texts.specs.Words.{◌>>=◌, take_word}
use Rattle.lucid_flat.specs.Words.{three_of, exactly}

-- the operator of a word
unfoldable pub op_of : List ℕ → Option Op
op_of w = find (λ op. bytes_eq (op_word op) w) operators

-- a row of the code's table has its operator's word
abbrev pub op_in : OpWord → Op
op_in r = r.op

abbrev pub is_own : OpWord → Bool
is_own r = bytes_eq (op_word r.op) r.word.now

-- the node's form has this word and so many numbers
abbrev pub has_form : (word : List ℕ) → (count : ℕ) → Node → Bool
has_form w k n = bytes_eq (form_word n) w && (length (node_numbers n) == k)

-- the node of a form's word and some numbers
unfoldable pub form_node : List ℕ → Three → Option Node
form_node w ns = find (has_form w ns.count) (nodes_with w ns.first ns.second ns.third)

-- the node of an operator's word and three numbers
unfoldable pub apply_node : List (List ℕ) → Option Node
apply_node ws = do
  w ← take_word ws
  op ← op_of w.0
  ns ← exactly 3 w.1
  Some (Apply op (ns.first ∷ ns.second ∷ ns.third ∷ []))

-- The node that some words are.
unfoldable pub node_of : List (List ℕ) → Option Node
node_of ws = do
  w ← take_word ws
  if bytes_eq w.0 (codes "apply") then apply_node w.1 else (three_of w.1 >>= λ ns. form_node w.0 ns)
