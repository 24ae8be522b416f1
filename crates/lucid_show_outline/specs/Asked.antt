-- What is asked for, by its name at its point; and contexts by their numbers.
use Rattle.std.specs.Prelude.{ℕ, ◌-◌, ◌==◌, List, [], ◌++◌, codes, decimal, Option, Some, None, slice_get, if◌then◌else◌}
use Rattle.lucid_tree.specs.Tree.{PlainTree, form, name, call, block}
use Rattle.lucid_print.specs.Canonical.{source}
use Rattle.lucid_cert_rules.specs.Certificates.{PlainJudgment}
use Rattle.lucid_cert_rules.specs.declared.rows.ContextRow.{ContextRow}
use Rattle.lucid_cert_rules.specs.declared.rows.ContextRow.TheVariants.{Call, Frozen}

unfoldable pub node_text : (node : ℕ) → List ℕ
node_text n = codes "node " ++ decimal n

-- A name, or a call with its arguments as they are written; a node that stands for none is told by its number.
unfoldable pub piece_text : (node : ℕ) → PlainTree → List ℕ
piece_text n (name at x) = x
piece_text n (call at x es) = source (call at x es)
piece_text n (form at h es) = node_text n
piece_text n (block at e ds) = node_text n

unfoldable pub name_text : (node : ℕ) → Option PlainTree → List ℕ
name_text n (Some e) = piece_text n e
name_text n None = node_text n

-- a space, where it isn't 0
unfoldable pub space_text : (space : ℕ) → List ℕ
space_text s = if s == 0 then [] else codes " space " ++ decimal s

-- The name or the call of a judgment, at its time and its space.
unfoldable pub asked_text : List PlainTree → PlainJudgment → List ℕ
asked_text es j = name_text j.node (slice_get es j.node) ++ (codes " at " ++ (decimal j.time ++ space_text j.space))

unfoldable pub row_word : ContextRow → List ℕ
row_word (Call base place caller) = codes "call "
row_word (Frozen base time) = codes "block "

unfoldable pub context_word : Option ContextRow → List ℕ
context_word (Some r) = row_word r
context_word None = codes "context "

-- A context: the program, or by what it enters, with its number.
unfoldable pub context_text : List ContextRow → (number : ℕ) → List ℕ
context_text cs n = if n == 0 then codes "program" else context_word (slice_get cs (n - 1)) ++ decimal n
