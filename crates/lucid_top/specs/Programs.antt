-- What is run: the tree of a source, columns of it side by side, or the table of a flat form. Runs are said of the subject that it is, and of
-- what is counted of it.
use Rattle.std.specs.Prelude.{ℕ, List, map}
use Rattle.lucid_tree.specs.Tree.{PlainTree}
use Rattle.lucid_tree.specs.Env.{Env, empty, Referent}
use Rattle.lucid_tree.specs.Meaning.{val, hval}
use Rattle.lucid_scan.specs.Refusals.{most_source_bytes}
use Rattle.lucid_columns.specs.Columns.{column, with_columns}
use Rattle.lucid_tags.specs.Contexts.{Context}
use Rattle.lucid_equations.specs.Datons.{Daton}
use Rattle.lucid_equations.specs.declared.table.Table.{Table}
use Rattle.lucid_compile.specs.Counts.{entries, valued_entries, environments}
use Rattle.lucid_session.specs.Subject.{Subject, OneStream, stream_subject, tree_stream, table_stream, columns_subject, table_columns}
use Rattle.lucid_session.specs.Figures.{Layout, one_stream, side_by_side, Counted, table_counted, columns_counted}

-- what is counted of a tree, where values are demanded so: the entries that it refers to, and the environments that it enters
abbrev pub tree_counted : PlainTree → Layout → Counted Referent Env
tree_counted e l = record {
  refers = λ b m d points. entries b m d e points;
  valued = λ b m points. valued_entries b m e points;
  enters = λ b m d points. environments b m d e points;
  value = λ b m t s. val b m e empty t s;
  held_value = λ b held m t s. hval (record { element = b; held = held }) m e empty t s;
  layout = l;
}

-- The streams of columns of a tree: each is that of the tree with the column as its subject.
abbrev pub column_streams : PlainTree → (columns : List (List ℕ)) → List OneStream
column_streams e columns = map (λ n. tree_stream (column e n)) columns

-- The tree with columns of it as the subject, over space. The new nodes have their places behind those of every source.
abbrev pub beside : PlainTree → (columns : List (List ℕ)) → PlainTree
beside e columns = with_columns e most_source_bytes columns

-- A program that is run: a tree, or columns of it; a table, or its root at so many spaces.
pub data Program : Type 0 where
  of_tree : PlainTree → Program
  of_columns : PlainTree → (columns : List (List ℕ)) → Program
  of_table : Table → Program
  of_spaces : Table → (spaces : ℕ) → Program

-- what its run is about
abbrev pub program_subject : Program → Subject
program_subject (of_tree e) = stream_subject (tree_stream e)
program_subject (of_columns e columns) = columns_subject (column_streams e columns)
program_subject (of_table t) = stream_subject (table_stream t)
program_subject (of_spaces t n) = columns_subject (table_columns t n)

-- what it refers to, and what it enters: entries and environments, or datons and contexts
abbrev pub Referred : Program → Type 0
Referred (of_tree e) = Referent
Referred (of_columns e columns) = Referent
Referred (of_table t) = Daton
Referred (of_spaces t n) = Daton

abbrev pub Entered : Program → Type 0
Entered (of_tree e) = Env
Entered (of_columns e columns) = Env
Entered (of_table t) = Context
Entered (of_spaces t n) = Context

-- What is counted of it. Of columns it is what all of them refer to and enter together: one store serves them.
abbrev pub program_counted : (p : Program) → Counted (Referred p) (Entered p)
program_counted (of_tree e) = tree_counted e one_stream
program_counted (of_columns e columns) = tree_counted (beside e columns) (side_by_side (column_streams e columns))
program_counted (of_table t) = table_counted t
program_counted (of_spaces t n) = columns_counted t n
