-- A call that is about to make or to check a certificate, its source being read: the words NAME=FILE stop it, or the inputs have their files.
use Rattle.lucid_top.proofs.Common.{◌≡◌, ◌+◌, ◌≤◌, true, length, Err, inl, inr, sym, ap, subst, ◌∙◌, arith, World, PlainWords, Stop, Task, Call, FitsGiven, RefusesGiven, IsRefusalOf, Asks, by_tree, by_given, HasFiles, certificate_of, certificate_places, first_place, first_input, run_places, WritesNothing, ProvesTable, Comes, Table, task_of, is_certificate}
use Rattle.lucid_report.specs.declared.stop.Stop.TheVariants as stop
use Rattle.lucid_top.proofs.Ending.{first_place_le, rests_of, memory_stops}
use Rattle.lucid_top.proofs.TreeTables.{names_are}

module _ (c : Call) (k : Task) (w : PlainWords) (t : Table) (v : World) (b : ProvesTable c k w t v) where
  abbrev asks : Asks c
  asks = b.names.program.source.asks

  pub words_are : asks.words ≡ w
  words_are =
      let there = asks.read in
      let here = b.read in cc (there, here)

  pub inputs_are : t.inputs ≡ b.names.free
  inputs_are = names_are b.names.program.tree b.names.free t b.is

  pub asked_are : task_of asks.words ≡ k
  asked_are = ap task_of words_are ∙ b.task

  -- where the places of the inputs begin
  pub first_is : first_input w ≡ first_place w.source + certificate_places k
  first_is = ap (λ n. first_place w.source + n) (ap certificate_places b.task)

  -- the words NAME=FILE stop the call
  pub given_stops : is_certificate k ≡ true → (s : Stop) → IsRefusalOf (RefusesGiven t.inputs w.given) s → WritesNothing c
      → c.after.reached ≤ first_place w.source → Comes c (Err s)
  given_stops one (stop.Refused why) refused silent few =
      let here : RefusesGiven b.names.free asks.words.given why =
      subst (λ (u : PlainWords). RefusesGiven b.names.free u.given why) (sym words_are)
      (subst (λ names. RefusesGiven names w.given why) inputs_are refused) in
      let for_one : is_certificate (task_of asks.words) ≡ true = ap is_certificate asked_are ∙ one in
      record {
        only = (by_given (by_tree b.names) (inr for_one) here, silent);
        how = inl ((by_given (by_tree b.names) (inr for_one) here, b.made), rests_of c w b.read silent few);
        few_places = let one = first_place_le w.source in omega (arith, few, one);
      }
  given_stops one stop.NoMemory refused silent few = memory_stops c w b.read silent few
  given_stops one _ refused silent few = absurd refused

  module _ (fits : FitsGiven t.inputs w.given) where
    abbrev pub has_files : HasFiles c k
    has_files = record {
      names = b.names;
      task = asked_are;
      fits = subst (λ (u : PlainWords). FitsGiven b.names.free u.given) (sym words_are) (subst (λ names. FitsGiven names w.given) inputs_are fits);
    }

    -- as many places as the words and the inputs need
    pub places_are : run_places (certificate_of has_files) ≡ first_input w + length t.inputs
    places_are = ap (λ x. first_input x + length b.names.free) words_are ∙ ap (λ names. first_input w + length names) (sym inputs_are)
