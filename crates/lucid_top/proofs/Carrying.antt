-- A run of a table that keeps a tree is a run of the tree; and a run is as good that is seen with the same parts.
use Rattle.lucid_top.proofs.Common.{◌≡◌, ℕ, suc, ◌+◌, Bool, true, false, List, [], ◌∷◌, map, length, arith, ◌∙◌, Option, Some, None, Err, refl, sym, ap, subst, IsSomeAnd, slice_get, range_with_len, slice_get_within, World, Summary, RunFault, PlainTree, Elements, equations_of, Table, KeepsTree, most_source_bytes, AreColumns, PlainWords, stream_subject, tree_stream, RunView, Told, HasElements, Ran, Figures, Stop, Outcome, task_of, Program, of_tree, of_columns, of_table, beside, program_subject, program_counted, viewed, most_input_bytes, table_program, run_result, RanSo, IsRunStop}
use Rattle.std.proofs.Common.{cond, nat_eq, Result}
use Rattle.lucid_ports.specs.declared.run.RunFault.TheVariants as fault
use Rattle.lucid_columns.specs.Columns.{column}
use Rattle.lucid_columns.specs.Laws.{IsSpace, ColumnsAreSpaces}
use Rattle.lucid_session.specs.Subject.{OneStream, table_stream, table_stream_at, columns_subject, table_columns, AreSameStream}
use Rattle.lucid_session.specs.Runs.{PolicyView}
use Rattle.lucid_session.specs.Figures.{Layout, one_stream, side_by_side, root_counted, table_counted, columns_counted}
use Rattle.lucid_session.specs.Laws.{StandsFor, SameStreamsRunAlike, FiguresCarry}
use Rattle.lucid_report.specs.declared.stop.Stop.TheVariants as stop
use Rattle.lucid_top.specs.declared.task.Task.TheVariants as task
use Rattle.lucid_top.specs.Programs.{of_spaces, column_streams, tree_counted}
use Rattle.lucid_top.specs.Runs.{under}
use Rattle.lucid_top.proofs.FewColumns.{no_columns, some_columns}
use Rattle.lucid_top.proofs.Begun.{RanWith, ran_with, want_of_memory}

-- the stream of a table that keeps a tree is that of the tree
same_stream : (T : Table) (e : PlainTree) → KeepsTree (equations_of T) e → AreSameStream (table_stream T) (tree_stream e)
same_stream T e keeps = record { values = λ b m t. keeps.values b m t 0; pairs = λ b m d t. keeps.consults b m d t 0 }

pub stream_is : (T : Table) (e : PlainTree) → KeepsTree (equations_of T) e → table_stream T ≡ tree_stream e
stream_is T e keeps = λ k. record { value = λ b m t. keeps.values b m t 0 k; pairs = λ b m d t. keeps.consults b m d t 0 k }

-- and wherever values are demanded, the table stands for the tree in all that is counted
stands_for : (T : Table) (e : PlainTree) (l : Layout) → KeepsTree (equations_of T) e → StandsFor (root_counted T l) (tree_counted e l)
stands_for T e l keeps = record {
  demands = λ b t s. ((λ h. h), (λ h. h));
  values = λ b m t s. keeps.values b m t s;
  as_many = λ b m d points n h. (keeps.as_many b m d points n).1 h;
  no_more = λ b m d points n k x y. keeps.no_more b m d points n k x y;
  held = λ b m points held kept x y n t s. keeps.held b m points held kept x y n t s;
}

tree_ran : SameStreamsRunAlike → FiguresCarry → (T : Table) (e : PlainTree) → KeepsTree (equations_of T) e
    → (b : Elements) (r : RunView) (o : Option (Result Summary RunFault))
    → IsSomeAnd o (λ y. Ran (stream_subject (table_stream T)) b r y × Figures (table_counted T) b r y)
    → IsSomeAnd o (λ y. Ran (stream_subject (tree_stream e)) b r y × Figures (tree_counted e one_stream) b r y)
tree_ran alike carry T e keeps b r None h = absurd h
tree_ran alike carry T e keeps b r (Some y) h = (
  alike (table_stream T) (tree_stream e) (same_stream T e keeps) b r y h.0,
  carry T one_stream (tree_counted e one_stream) (stands_for T e one_stream keeps)
      b r y h.1,
)

pub runs_tree : SameStreamsRunAlike → FiguresCarry → (T : Table) (e : PlainTree) → KeepsTree (equations_of T) e → (r : RunView) (o : Outcome)
    → RanSo (of_table T) r o → RanSo (of_tree e) r o
runs_tree alike carry T e keeps r o h b has = tree_ran alike carry T e keeps b r (run_result o) (h b has)

-- streams that are the same one by one are the same in order
streams_from : (T : Table) (f : List ℕ → OneStream) (a : ℕ) (ns : List (List ℕ))
    → ((i : ℕ) (n : List ℕ) → slice_get ns i ≡ Some n → table_stream_at T (a + i) ≡ f n)
    → map (table_stream_at T) (range_with_len a (length ns)) ≡ map f ns
streams_from T f a [] same = refl
streams_from T f a (n ∷ ns) same =
    ap (λ x. x ∷ map (table_stream_at T) (range_with_len (a + 1) (length ns))) (ap (table_stream_at T) (at_first a) ∙ same 0 n refl)
    ∙ ap (λ xs. f n ∷ xs) (streams_from T f (a + 1) ns (λ i m at. ap (table_stream_at T) (one_on a i) ∙ same (suc i) m at))
  where
    at_first : (k : ℕ) → k ≡ k + 0
    at_first k = omega arith

    one_on : (k i : ℕ) → (k + 1) + i ≡ k + suc i
    one_on k i = omega arith

-- the streams of a table that keeps a tree with its columns beside each other are those of the columns
column_is : (T : Table) (e : PlainTree) (columns : List (List ℕ)) → KeepsTree (equations_of T) (beside e columns) → (i : ℕ) (n : List ℕ)
    → IsSpace e most_source_bytes columns i n
    → table_stream_at T i ≡ tree_stream (column e n)
column_is T e columns keeps i n is = λ k. record {
  value = λ b m t. (keeps.values b m t i ∙ is.values b m t) k;
  pairs = λ b m d t. (keeps.consults b m d t i ∙ is.consults b m d t) k;
}

columns_are : ColumnsAreSpaces → (T : Table) (e : PlainTree) (columns : List (List ℕ)) → KeepsTree (equations_of T) (beside e columns) → AreColumns e columns
    → table_columns T (length columns) ≡ column_streams e columns
columns_are spaces T e columns keeps are =
    streams_from T (λ n. tree_stream (column e n)) 0 columns
    (λ i n at. ap (table_stream_at T) (from_zero i)
    ∙ column_is T e columns keeps i n (spaces e most_source_bytes columns i n at (are i n (slice_get_within columns i n at) at)))
  where
    from_zero : (i : ℕ) → 0 + i ≡ i
    from_zero i = omega arith

columns_ran : FiguresCarry → (T : Table) (e : PlainTree) (columns : List (List ℕ)) → KeepsTree (equations_of T) (beside e columns)
    → table_columns T (length columns) ≡ column_streams e columns
    → (b : Elements) (r : RunView) (o : Option (Result Summary RunFault))
    → IsSomeAnd o (λ y. Ran (columns_subject (table_columns T (length columns))) b r y × Figures (columns_counted T (length columns)) b r y)
    → IsSomeAnd o (λ y. Ran (columns_subject (column_streams e columns)) b r y
    × Figures (tree_counted (beside e columns) (side_by_side (column_streams e columns))) b r y)
columns_ran carry T e columns keeps same b r None h = absurd h
columns_ran carry T e columns keeps same b r (Some y) h = (
  subst (λ xs. Ran (columns_subject xs) b r y) same h.0,
  carry T (side_by_side (column_streams e columns)) (tree_counted (beside e columns) (side_by_side (column_streams e columns)))
      (stands_for T (beside e columns) (side_by_side (column_streams e columns)) keeps) b r y
      (subst (λ xs. Figures (root_counted T (side_by_side xs)) b r y) same h.1),
)

-- So a run of such a table at as many spaces is a run of the columns.
pub runs_columns : FiguresCarry → ColumnsAreSpaces → (T : Table) (e : PlainTree) (columns : List (List ℕ)) → KeepsTree (equations_of T) (beside e columns)
    → AreColumns e columns
    → (r : RunView) (o : Outcome) → RanSo (of_spaces T (length columns)) r o → RanSo (of_columns e columns) r o
runs_columns carry spaces T e columns keeps are r o h b has =
    columns_ran carry T e columns keeps (columns_are spaces T e columns keeps are) b r (run_result o) (h b has)

-- Where words name no column, a table runs as it is; where they name some, at as many spaces.
at_root : (w : PlainWords) (T : Table) → nat_eq (length w.columns) 0 ≡ true → table_program w T ≡ of_table T
at_root w T is = ap (λ b. cond b (of_table T) (of_spaces T (length w.columns))) is

at_spaces : (w : PlainWords) (T : Table) → nat_eq (length w.columns) 0 ≡ false → table_program w T ≡ of_spaces T (length w.columns)
at_spaces w T is = ap (λ b. cond b (of_table T) (of_spaces T (length w.columns))) is

pub one_table : (w : PlainWords) (T : Table) → task_of w ≡ task.Run → table_program w T ≡ of_table T
one_table w T is = at_root w T (no_columns w is)

pub spaces_of_table : (w : PlainWords) (T : Table) → task_of w ≡ task.Columns → table_program w T ≡ of_spaces T (length w.columns)
spaces_of_table w T is = at_spaces w T (some_columns w is)

-- so what is promised of the table's run is promised of the program
module _ (w : PlainWords) (T : Table) (r : RunView) (y : Result Summary RunFault) where
  abbrev HasLines : Program → Type 0
  HasLines p = (b : Elements) → HasElements r b → Ran (program_subject p) b r y

  abbrev HasFigures : Program → Type 0
  HasFigures p = (b : Elements) → HasElements r b → Figures (program_counted p) b r y

  pub root_lines : nat_eq (length w.columns) 0 ≡ true → HasLines (of_table T) → HasLines (table_program w T)
  root_lines is h = subst HasLines (sym (at_root w T is)) h

  pub root_figures : nat_eq (length w.columns) 0 ≡ true → HasFigures (of_table T) → HasFigures (table_program w T)
  root_figures is h = subst HasFigures (sym (at_root w T is)) h

  pub spaces_lines : (n : ℕ) → n ≡ length w.columns → nat_eq (length w.columns) 0 ≡ false → HasLines (of_spaces T n) → HasLines (table_program w T)
  spaces_lines n same is h = subst HasLines (sym (at_spaces w T is)) (subst (λ k. HasLines (of_spaces T k)) same h)

  pub spaces_figures : (n : ℕ) → n ≡ length w.columns → nat_eq (length w.columns) 0 ≡ false → HasFigures (of_spaces T n) → HasFigures (table_program w T)
  spaces_figures n same is h = subst HasFigures (sym (at_spaces w T is)) (subst (λ k. HasFigures (of_spaces T k)) same h)

-- a run with these parts
abbrev parts : (count depth : ℕ) → (w v : World) → (o p : Told) → PolicyView → (names : List (List ℕ)) → (places : List ℕ) → (most : ℕ) → RunView
parts count depth w v o p policy names places most = record {
  count = count;
  depth = depth;
  policy = policy;
  names = names;
  places = places;
  most = most;
  before = w;
  after = v;
  out_before = o;
  out_after = p;
}

-- a run seen with the same parts
pub seen_same : (prog : Program) (words : PlainWords) (w v : World) (o p : Told) (result : Result Summary RunFault) (policy : PolicyView)
    (names free : List (List ℕ)) (places numbers : List ℕ)
    (most : ℕ) → names ≡ free → places ≡ numbers → most ≡ most_input_bytes
    → RanWith prog (parts words.count words.depth w v o p policy names places most) result
    → RanWith prog (under policy (viewed words free numbers w v o p)) result
seen_same prog words w v o p result policy names free places numbers most by_names by_places by_most h =
    subst (λ m. RanWith prog (parts words.count words.depth w v o p policy free numbers m) result) by_most
    (subst (λ ps. RanWith prog (parts words.count words.depth w v o p policy free ps most) result) by_places
    (subst (λ ns. RanWith prog (parts words.count words.depth w v o p policy ns places most) result) by_names h))

-- the outcome of a run that stopped
pub stopped_run : (prog : Program) (r : RunView) (free : List (List ℕ)) (stats : Bool) (f : RunFault) (s : Stop) → IsRunStop free stats f s
    → RanWith prog r (Err f) → RanSo prog r (Err s)
stopped_run prog r free stats (fault.TooDeep time lost cleared) s is h =
    ran_with prog r (Err s) (Err (fault.TooDeep time lost cleared)) (ap (λ x. run_result (Err x)) is) h
stopped_run prog r free stats fault.ReadFault s is h = ran_with prog r (Err s) (Err fault.ReadFault) (ap (λ x. run_result (Err x)) is) h
stopped_run prog r free stats fault.WriteFault s is h = ran_with prog r (Err s) (Err fault.WriteFault) (ap (λ x. run_result (Err x)) is) h
stopped_run prog r free stats fault.NoMemory s is h = ran_with prog r (Err s) (Err fault.NoMemory) (ap (λ x. run_result (Err x)) is) h
stopped_run prog r free stats (fault.TooLarge k) (stop.TooLarge stream name) is h =
    ran_with prog r (Err (stop.TooLarge stream name)) (Err (fault.TooLarge k)) (ap (λ x. Some (Err (fault.TooLarge x))) is.0) h
stopped_run prog r free stats (fault.TooLarge k) stop.NoMemory is h =
    ran_with prog r (Err stop.NoMemory) (Err fault.NoMemory) refl (want_of_memory prog r (fault.TooLarge k) h)
stopped_run prog r free stats (fault.TooLarge k) _ is h = absurd is
