-- How a call comes to its outcome that makes a certificate.
use Rattle.lucid_top.proofs.Common.{◌≡◌, ℕ, ◌+◌, ◌≤◌, List, length, Some, Ok, Err, inr, sym, ap, subst, ◌∙◌, arith, slice_get, World, most_source_bytes, rises_from, PlainWords, Stop, Outcome, Call, of_tree, FitsGiven, files_for, Asks, IsMaking, IsReadStop, KeepsNames, AreFresh, Run, certificate_of, first_place, first_input, run_places, time_asked, viewed, view_of, Makes, MakingComesOnly, IsNotMade, PlainTree, Table, ComesOnly, WritesNothing, reaches_made, Rests, ProvesTable, Comes, range_with_len}
use Rattle.lucid_compile.specs.Settled.{table_of as tree_table}
use Rattle.lucid_session.specs.Subject.{OneStream, table_stream, tree_stream}
use Rattle.lucid_report.specs.declared.stop.Done.TheVariants as done
use Rattle.lucid_report.specs.declared.stop.Stop.TheVariants as stop
use Rattle.lucid_top.specs.declared.task.Task.TheVariants as task
use Rattle.lucid_top.specs.Runs.{world_before, world_after}
use Rattle.lucid_top.proofs.Carrying.{stream_is}
use Rattle.lucid_top.proofs.TreeTables.{keeps_it}
use Rattle.lucid_top.proofs.Certifying.{words_are, inputs_are, first_is, has_files, places_are}
use Rattle.lucid_top.proofs.Ending.{first_place_le, inputs_unread, place_stops}
use Rattle.lucid_top.proofs.Promising.{makes_alike}
use Rattle.lucid_top.proofs.RunEnds.{Reached, run_with, one_run, files_long, tells_alike}

module _ (c : Call) (w : PlainWords) (t : Table) (v : World) (b : ProvesTable c task.Why w t v) (fits : FitsGiven t.inputs w.given) where
  abbrev making : IsMaking c
  making = has_files c task.Why w t v b fits

  abbrev asks : Asks c
  asks = b.names.program.source.asks

  words : asks.words ≡ w
  words = words_are c task.Why w t v b

  named : t.inputs ≡ b.names.free
  named = inputs_are c task.Why w t v b

  -- no certificate is read
  first_here : v.reached ≡ first_input w
  first_here =
      let here : first_input w ≡ first_place w.source + 0 = first_is c task.Why w t v b in
      let before = b.first in omega (arith, here, before)

  places : run_places (certificate_of making) ≡ first_input w + length t.inputs
  places = places_are c task.Why w t v b fits

  -- the places of the inputs stop the call
  pub reaching_stop : (files : List (List ℕ)) (s : Stop) → length files ≡ length t.inputs → KeepsNames v c.after → AreFresh files v c.after
      → c.after.reached ≤ v.reached + length files
      → length files ≤ most_source_bytes → IsReadStop v c.after s → WritesNothing c → Comes c (Err s)
  reaching_stop files s as_many kept fresh few short why_stops silent =
      let one = first_place_le w.source in
      let first = b.first in
      let here = first_here in
      let all = places in
      let rests : Rests c = record {
        reaches = reaches_made making b.made (omega (arith, few, here, as_many, all));
        silent = silent;
        unread = inputs_unread c w files v b.read here fresh few;
      } in
      place_stops c asks v s b.kept kept why_stops rests (omega (arith, few, first, one, short))

  -- It has such outcomes alone.
  only : (x : World) (o : Outcome) → c.before.faults ≤ x.faults → x.faults ≤ c.after.faults
      → MakingComesOnly t.inputs (time_asked w) x.faults c.after.faults c.out_before.faults c.out_after.faults o → (IsNotMade o → WritesNothing c)
      → ComesOnly c o
  only x (Ok done.Written) le mono h silent = inr (inr making)
  only x (Err (stop.TooDeep time lost cleared stats)) le mono h silent = inr (making, h.0 ∙ ap time_asked (sym words), h.1, silent tt)
  only x (Err (stop.TooLarge stream name)) le mono h silent = inr (inr (making, subst (λ names. slice_get names stream ≡ Some name) named h))
  only x (Err stop.ReadFault) le mono h silent = rises_from c.before.faults x.faults c.after.faults le mono h
  only x (Err stop.WriteFault) le mono h silent = h
  only x (Err stop.NoMemory) le mono h silent = tt
  only x _ le mono h silent = absurd h

  -- It ends.
  pub making_ends : (numbers : List ℕ) (x : World) (o : Outcome) → KeepsNames v x → Reached t.inputs w.given v x numbers → length t.inputs ≤ most_source_bytes
      → c.after.reached ≡ x.reached
      → x.faults ≤ c.after.faults → Makes t (table_stream t) (viewed w t.inputs numbers x c.after c.out_before c.out_after) (time_asked w) o
      → MakingComesOnly t.inputs (time_asked w) x.faults c.after.faults c.out_before.faults c.out_after.faults o → Comes c o
  making_ends numbers x o kept reached few same mono makes outcomes =
      let tree : PlainTree = b.names.program.tree in
      let free : List (List ℕ) = b.names.free in
      let at : ℕ = time_asked w in
      let run : Run = run_with w (of_tree tree) t.inputs in
      let long : length (files_for t.inputs w.given) ≡ length t.inputs = files_long t.inputs w.given in
      let numbers_are : numbers ≡ range_with_len (first_input w) (length t.inputs) =
      reached.numbers_are ∙ ap (λ n. range_with_len n (length (files_for t.inputs w.given))) first_here ∙ ap (range_with_len (first_input w)) long in
      let alike = tells_alike c w (of_tree tree) t.inputs v x first_here b.kept kept reached.fresh reached.reached same mono in
      let by_tree_makes : Makes t (tree_stream tree) (viewed w t.inputs (range_with_len (first_input w) (length t.inputs)) x c.after c.out_before c.out_after)
      at o =
      subst (λ qs. Makes t (tree_stream tree) (viewed w t.inputs qs x c.after c.out_before c.out_after) at o) numbers_are
      (subst (λ (y : OneStream). Makes t y (viewed w t.inputs numbers x c.after c.out_before c.out_after) at o)
      (stream_is t tree (keeps_it tree free t b.is b.table)) makes) in
      let there : Makes t (tree_stream tree) (view_of c run) at o =
      makes_alike t (tree_stream tree) w t.inputs (range_with_len (first_input w) (length t.inputs)) x c.after (world_before c run) (world_after c run)
      c.out_before c.out_after alike at o by_tree_makes in
      let same_run : run ≡ certificate_of making = one_run (of_tree tree) (sym words) named in
      let here : Makes t (tree_stream tree) (view_of c (certificate_of making)) (time_asked (certificate_of making).words) o =
      subst (λ p. Makes t (tree_stream tree) (view_of c p) (time_asked p.words) o) same_run there in
      let by_its_table : Makes (tree_table tree free) (tree_stream tree) (view_of c (certificate_of making)) (time_asked (certificate_of making).words) o =
      subst (λ (u : Table). Makes u (tree_stream tree) (view_of c (certificate_of making)) (time_asked (certificate_of making).words) o) b.is here in
      let one = first_place_le w.source in
      let first = b.first in
      let first_at = first_here in
      let all = places in
      let reach = reached.reached in
      let kept_faults = kept.faults in
      let kept_before = b.kept.faults in
      record {
        only = only x o (omega (arith, kept_before, kept_faults)) mono outcomes makes.silent;
        how = inr (inr (inr (inr (making, b.made, (b.table, by_its_table), omega (arith, same, reach, long, first_at, all)))));
        few_places = omega (arith, same, reach, long, few, first, one);
      }
