-- How a call comes to its outcome that checks a certificate.
use Rattle.lucid_top.proofs.Common.{◌≡◌, ℕ, ◌+◌, ◌≤◌, List, length, Some, Ok, Err, inl, inr, sym, ap, subst, ◌∙◌, arith, IfSome, slice_get, World, most_source_bytes, rises_from, file, PlainWords, Stop, Outcome, Call, of_tree, FitsGiven, files_for, Asks, by_certificate, MayCheck, IsCheck, IsSource, IsSourceStop, IsReadStop, KeepsNames, AreFresh, Run, first_place, first_input, certificate_of, run_places, viewed, view_of, Why, HeldCertificate, RefusesCertificate, Checks, CheckComesOnly, IsStopped, PlainTree, Table, ComesOnly, WritesNothing, reaches_certificate, reaches_checked, Rests, ProvesTable, Comes, range_with_len}
use Rattle.lucid_compile.specs.Settled.{table_of as tree_table}
use Rattle.lucid_session.specs.Subject.{table_stream, tree_stream}
use Rattle.lucid_report.specs.declared.stop.Done.TheVariants as done
use Rattle.lucid_report.specs.declared.stop.Stop.TheVariants as stop
use Rattle.lucid_top.specs.declared.task.Task.TheVariants as task
use Rattle.lucid_top.specs.Runs.{most_places, world_before, world_after}
use Rattle.lucid_top.proofs.TreeTables.{keeps_it}
use Rattle.lucid_top.proofs.Certifying.{words_are, inputs_are, first_is, has_files, places_are}
use Rattle.lucid_top.proofs.Ending.{first_place_le, inputs_unread, place_stops}
use Rattle.lucid_top.proofs.RunEnds.{Reached, run_with, one_run, files_long, tells_alike}
use Rattle.lucid_top.proofs.Proving.{by_the_tree, checks_alike}

module _ (c : Call) (w : PlainWords) (t : Table) (v : World) (b : ProvesTable c task.Check w t v) where
  abbrev asks : Asks c
  asks = b.names.program.source.asks

  words : asks.words ≡ w
  words = words_are c task.Check w t v b

  named : t.inputs ≡ b.names.free
  named = inputs_are c task.Check w t v b

  -- the place of the certificate comes behind the source's
  one_more : first_input w ≡ first_place w.source + 1
  one_more = first_is c task.Check w t v b

  module _ (fits : FitsGiven t.inputs w.given) where
    abbrev may : MayCheck c
    may = has_files c task.Check w t v b fits

    -- the file of the certificate stops the call
    same_file : (bytes : List ℕ) → IsSource (file w.check) v bytes → IsSource (file asks.words.check) c.before bytes
    same_file bytes is =
        subst (λ (u : PlainWords). IsSource (file u.check) c.before bytes) (sym words) (subst (λ held. IfSome held (λ h. bytes ≡ h)) (b.kept.names w.check) is)

    certificate_rests : WritesNothing c → c.after.reached ≤ v.reached + 1 → Rests c
    certificate_rests silent few =
        let one = one_more in
        let first = b.first in
        let few' : c.after.reached ≤ first_input w = omega (arith, few, one, first) in
        record {
          reaches = reaches_certificate may b.made (subst (λ u. c.after.reached ≤ first_input u) (sym words) few');
          silent = silent;
          unread = λ u asked q le lt new is.
              let read = b.read in
              let same : u ≡ w = cc (asked, read) in
              let le' : first_input w ≤ q = subst (λ x. first_input x ≤ q) same le in absurd (omega (arith, few', le', lt));
        }

    few_reached : c.after.reached ≤ v.reached + 1 → c.after.reached ≤ most_places
    few_reached few =
        let one = first_place_le w.source in
        let first = b.first in omega (arith, few, one, first)

    pub certificate_stop : (s : Stop) → KeepsNames v c.after → IsSourceStop RefusesCertificate (file w.check) v c.after s → WritesNothing c
        → c.after.reached ≤ v.reached + 1 → Comes c (Err s)
    certificate_stop (stop.Refused why) kept h silent few = record {
      only = (by_certificate may h.0 (same_file h.0 h.1) h.2, silent);
      how = inl ((by_certificate may h.0 (same_file h.0 h.1) h.2, b.made), certificate_rests silent few);
      few_places = few_reached few;
    }
    certificate_stop stop.ReadFault kept h silent few = place_stops c asks v stop.ReadFault b.kept kept h (certificate_rests silent few) (few_reached few)
    certificate_stop stop.NoMemory kept h silent few = place_stops c asks v stop.NoMemory b.kept kept tt (certificate_rests silent few) (few_reached few)
    certificate_stop _ kept h silent few = absurd h

    -- Once the certificate is read, it is checked.
    module _ (u : World) (why : Why) (held : HeldCertificate w.check v why) (kept : KeepsNames v u) (first : u.reached ≡ v.reached + 1) where
      abbrev is_check : IsCheck c
      is_check = record { may = may; why = why; held = record { bytes = held.bytes; is = same_file held.bytes held.is; holds = held.holds } }

      first_here : u.reached ≡ first_input w
      first_here =
          let one = one_more in
          let before = b.first in omega (arith, first, before, one)

      kept_all : KeepsNames c.before u
      kept_all = record { names = λ name. kept.names name ∙ b.kept.names name; faults = let e = b.kept.faults in let f = kept.faults in omega (arith, e, f) }

      places : run_places (certificate_of may) ≡ first_input w + length t.inputs
      places = places_are c task.Check w t v b fits

      -- the places of the inputs stop the call
      pub reaching_stop : (files : List (List ℕ)) (s : Stop) → length files ≡ length t.inputs → KeepsNames u c.after → AreFresh files u c.after
          → c.after.reached ≤ u.reached + length files
          → length files ≤ most_source_bytes → IsReadStop u c.after s → WritesNothing c → Comes c (Err s)
      reaching_stop files s as_many kept' fresh few short why_stops silent =
          let one = first_place_le w.source in
          let more = one_more in
          let here = first_here in
          let all = places in
          let rests : Rests c = record {
            reaches = reaches_checked is_check b.made (omega (arith, few, here, as_many, all));
            silent = silent;
            unread = inputs_unread c w files u b.read here fresh few;
          } in
          place_stops c asks u s kept_all kept' why_stops rests (omega (arith, few, here, more, one, short))

      -- It has such outcomes alone.
      only : (x : World) (o : Outcome) → c.before.faults ≤ x.faults → x.faults ≤ c.after.faults
          → CheckComesOnly t.inputs x.faults c.after.faults c.out_before.faults c.out_after.faults o → (IsStopped o → WritesNothing c) → ComesOnly c o
      only x (Ok done.Written) le mono h silent = inr (inl is_check)
      only x (Err (stop.Wrong n)) le mono h silent = (is_check, silent tt)
      only x (Err (stop.TooLarge stream name)) le mono h silent = inr (inl (is_check, subst (λ names. slice_get names stream ≡ Some name) named h))
      only x (Err stop.ReadFault) le mono h silent = rises_from c.before.faults x.faults c.after.faults le mono h
      only x (Err stop.WriteFault) le mono h silent = h
      only x (Err stop.NoMemory) le mono h silent = tt
      only x _ le mono h silent = absurd h

      -- It ends.
      pub check_ends : (numbers : List ℕ) (x : World) (o : Outcome) → KeepsNames u x → Reached t.inputs w.given u x numbers
          → length t.inputs ≤ most_source_bytes → c.after.reached ≡ x.reached
          → x.faults ≤ c.after.faults → Checks t (table_stream t) why (viewed w t.inputs numbers x c.after c.out_before c.out_after) o
          → CheckComesOnly t.inputs x.faults c.after.faults c.out_before.faults c.out_after.faults o → Comes c o
      check_ends numbers x o kept' reached few same mono checks outcomes =
          let tree : PlainTree = b.names.program.tree in
          let free : List (List ℕ) = b.names.free in
          let run : Run = run_with w (of_tree tree) t.inputs in
          let long : length (files_for t.inputs w.given) ≡ length t.inputs = files_long t.inputs w.given in
          let numbers_are : numbers ≡ range_with_len (first_input w) (length t.inputs) =
          reached.numbers_are ∙ ap (λ n. range_with_len n (length (files_for t.inputs w.given))) first_here ∙ ap (range_with_len (first_input w)) long in
          let alike = tells_alike c w (of_tree tree) t.inputs u x first_here kept_all kept' reached.fresh reached.reached same mono in
          let by_tree_checks : Checks t (tree_stream tree) why
          (viewed w t.inputs (range_with_len (first_input w) (length t.inputs)) x c.after c.out_before c.out_after) o =
          subst (λ qs. Checks t (tree_stream tree) why (viewed w t.inputs qs x c.after c.out_before c.out_after) o) numbers_are
          (by_the_tree t tree why (viewed w t.inputs numbers x c.after c.out_before c.out_after) o
          (keeps_it tree free t b.is b.table) checks) in
          let there : Checks t (tree_stream tree) why (view_of c run) o =
          checks_alike t (tree_stream tree) why w t.inputs (range_with_len (first_input w) (length t.inputs)) x c.after (world_before c run) (world_after c run)
          c.out_before c.out_after alike o by_tree_checks in
          let same_run : run ≡ certificate_of may = one_run (of_tree tree) (sym words) named in
          let here : Checks t (tree_stream tree) why (view_of c (certificate_of may)) o =
          subst (λ p. Checks t (tree_stream tree) why (view_of c p) o) same_run there in
          let by_its_table : Checks (tree_table tree free) (tree_stream tree) why (view_of c (certificate_of may)) o =
          subst (λ (u : Table). Checks u (tree_stream tree) why (view_of c (certificate_of may)) o) b.is here in
          let one = first_place_le w.source in
          let more = one_more in
          let first_at = first_here in
          let all = places in
          let reach = reached.reached in
          let kept_faults = kept'.faults in
          let kept_before = kept_all.faults in
          record {
            only = only x o (omega (arith, kept_before, kept_faults)) mono outcomes checks.silent;
            how = inr (inr (inr (inl (is_check, b.made, (b.table, by_its_table), omega (arith, same, reach, long, first_at, all)))));
            few_places = omega (arith, same, reach, long, few, first_at, more, one);
          }
