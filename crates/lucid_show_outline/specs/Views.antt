-- What texts are made of: a program's table, the pieces of its tree that have nodes, a certificate's rows, and the names whose values are told.
use Rattle.std.specs.Prelude.{ℕ, List, map, Option, slice_get}
use Rattle.std.specs.Option.{option_and_then}
use Rattle.lucid_tree.specs.Tree.{PlainTree}
use Rattle.lucid_equations.specs.declared.table.Table.{Table}
use Rattle.lucid_cert_rules.specs.Certificates.{PlainJudgment, plain_judgment}
use Rattle.lucid_cert_rules.specs.declared.rows.ContextRow.{ContextRow}
use Rattle.lucid_cert_rules.specs.declared.rows.Why.{Why}
use Rattle.lucid_show_outline.specs.Pieces.{lent, node_pieces}
use Rattle.lucid_show_outline.specs.declared.source.Source.{Source}

pub record View : Type 0 where
  pub table : Table
  pub pieces : List PlainTree
  pub contexts : List ContextRow
  pub judgments : List PlainJudgment
  pub names : List (List ℕ)

-- of a certificate of a program, by its table and its tree
abbrev pub view : Table → PlainTree → Why → (names : List (List ℕ)) → View
view T e w names = record { table = T; pieces = node_pieces e; contexts = w.contexts; judgments = w.judgments; names = names }

abbrev pub view_of : Source → View
view_of s = record {
  table = s.table.now;
  pieces = lent s.pieces.items;
  contexts = s.contexts.now;
  judgments = map plain_judgment s.judgments.now;
  names = s.names.now;
}

-- the judgment that is the use of this number
unfoldable pub used : View → (uses : List ℕ) → (number : ℕ) → Option PlainJudgment
used v us k = option_and_then (slice_get v.judgments) (slice_get us k)
