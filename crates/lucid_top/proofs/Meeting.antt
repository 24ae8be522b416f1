-- From how a call comes to its outcome to the clauses of the command.
use Rattle.lucid_top.proofs.Common.{◌++◌, WantsInputs, inputs_in, files_for, by_tree, task_of, option_map, all_bytes, ◌≡◌, ℕ, ◌<◌, ◌≤◌, Bool, true, false, nat_lt, List, [], length, Some, None, Err, ◌⊎◌, inl, inr, refl, ap, subst, arith, Contents, PlainWords, Refusal, Outcome, Call, form_of, is_certificate, time_asked, Asks, IsWriting, IsTextFor, asks_for, IsRun, by_words, by_text, by_flat, by_names, by_missing, by_judging, by_given, first_place, run_places, run_of, unread_place, view_of, RanSo, ReadsSource, most_read, WritesNothing, TellsFiles, ReadFails, ComesOnly, MeetsOutcome, IsMade, reaches_nothing, reaches_source, reaches_inputs, Rests, Comes, ltb-true, ChecksTree, ConsumesNothing, EndsCheck, EndsMaking, HasFiles, IsCheck, IsMaking, IsWellMade, MakesTree, MayCheck, Task, ReadsCertificate, Run, before_checking, before_making, by_certificate, by_checking, by_making, certificate_of, first_input, reaches_certificate, reaches_checked, reaches_made}
use Rattle.std.proofs.Common.{cond}
use Rattle.lucid_ports.specs.declared.run.RunFault.TheVariants as fault
use Rattle.lucid_report.specs.declared.refusal.Refusal.TheVariants as refusal
use Rattle.lucid_report.specs.declared.stop.Stop.TheVariants as stop
use Rattle.lucid_top.specs.Stages.{Refuses}
use Rattle.lucid_top.specs.Clauses.{IsRefusedSo, Writes, TellsFaults, EndsAtFaults, IsEvaluated, places_before}
use Rattle.lucid_top.specs.Runs.{under, GivesBytes}
use Rattle.lucid_top.specs.Names.{source_names, certificate_names, names_for, AsksFront}
use Rattle.lucid_top.specs.Stages.{HasProgram}
use Rattle.lucid_top.specs.Coming.{AsksSo, asks_source, asks_inputs, AreJustReached, Reaches, StopsEarly, EndsRun, EndsWriting, Checked, Made}
use Rattle.lucid_top.proofs.RunEnds.{in_range}
use Rattle.lucid_top.proofs.Begun.{ran_with, never_read, never_made, same_contents}
use Rattle.lucid_top.proofs.NamesAsked.{front_more}
use Rattle.lucid_top.proofs.OneCall.{OneVerdict, same_words, not_asked, run_or_text, wanted_or_text, run_or_certificate, certificate_or_text, made_or_checked, asks_in, same_tree, same_inputs, same_run, same_text, same_certificate, same_why, one_refusal, run_not_refused, run_not_stopped, text_not_refused, may_refused, check_not_refused, making_not_refused, OfCertificate}

-- how a call comes to its outcome
abbrev pub How : Call → Outcome → Type 0
How c o = (StopsEarly c o × Rests c) ⊎ (EndsRun c o ⊎ (EndsWriting c o ⊎ (Checked c o ⊎ Made c o)))

-- by words that are refused nothing is read, run or written
stopped_by_words : (c : Call) (o : Outcome) (why : Refusal) → (Asks c → ⊥) → ((v : Refusal) → Refuses c v → v ≡ why) → How c o → IsRefusedSo o why
stopped_by_words c (Err (stop.Refused v)) why asks one (inl early) = inl (ap (λ x. Err (stop.Refused x)) (one v early.0.0))
stopped_by_words c (Err stop.ReadFault) why asks one (inl early) = absurd (asks early.0)
stopped_by_words c (Err stop.NoMemory) why asks one (inl early) = inr refl
stopped_by_words c o why asks one (inr (inl run)) = absurd (asks (asks_for run.0.program))
stopped_by_words c o why asks one (inr (inr (inl writing))) = absurd (asks writing.2.0)
stopped_by_words c o why asks one (inr (inr (inr (inl check)))) = absurd (asks (asks_in check.0.may))
stopped_by_words c o why asks one (inr (inr (inr (inr made)))) = absurd (asks (asks_in made.0))
stopped_by_words c _ why asks one (inl early) = absurd early.0

-- where nothing of an input was consumed, nothing is
rested : (c : Call) (p : Run) → c.asked ≡ Some p.words → Rests c → (q : ℕ) → first_input p.words ≤ q → (b : Bool) → nat_lt q c.after.reached ≡ b
    → (old new : Contents)
    → (unread_place c p q).contents ≡ Some old → (cond b (c.after.place q) (unread_place c p q)).contents ≡ Some new → length new.consumed ≤ length old.consumed
rested c p read rests q le true lt old new before after =
    let none : new.consumed ≡ [] = rests.unread p.words read q le (ltb-true q c.after.reached lt) new after in
    let zero : length new.consumed ≡ 0 = ap length none in omega (arith, zero)
rested c p read rests q le false lt old new before after = same_contents (unread_place c p q).contents old new before after

consumes_nothing : (c : Call) (p : Run) → c.asked ≡ Some p.words → Rests c → ConsumesNothing (view_of c p)
consumes_nothing c p read rests k n q is old new before after =
    let at = in_range (first_input p.words) (length p.inputs) k q is.1 in
    rested c p read rests q (omega (arith, at.0)) (nat_lt q c.after.reached) refl old new before after

-- texts of one kind are texts of another
as_text : (c : Call) (o : Outcome) (P Q : List ℕ → Type 0) → ((text : List ℕ) → P text → Q text) → Writes c o P → Writes c o Q
as_text c o P Q h w = record {
  front = elim w.front [ inl silent ↦ inl silent | inr some ↦ inr (some.0, h some.0 some.1, some.2) ];
  whole = λ is. let some = w.whole is in (some.0, h some.0 some.1, some.2);
  complete = w.complete;
}

-- where the words are refused, no place is reached
none_reached : (c : Call) (o : Outcome) → (Asks c → ⊥) → How c o → c.after.reached ≡ 0
none_reached c o asks (inl early) = of_early early.1.reaches
  where
    of_early : Reaches c → c.after.reached ≡ 0
    of_early (reaches_nothing none) = none
    of_early (reaches_source a few) = absurd (asks a)
    of_early (reaches_inputs r is_made few fresh) = absurd (asks (asks_for r.program))
    of_early (reaches_certificate m is_made few) = absurd (asks (asks_in m))
    of_early (reaches_checked k is_made few) = absurd (asks (asks_in k.may))
    of_early (reaches_made m is_made few) = absurd (asks (asks_in m))
none_reached c o asks (inr (inl run)) = absurd (asks (asks_for run.0.program))
none_reached c o asks (inr (inr (inl writing))) = absurd (asks writing.2.0)
none_reached c o asks (inr (inr (inr (inl check)))) = absurd (asks (asks_in check.0.may))
none_reached c o asks (inr (inr (inr (inr made)))) = absurd (asks (asks_in made.0))

-- where no program is run and no certificate is made or read, at most the source's place is
few_reached : (c : Call) (a : Asks c) → ((r : IsRun c) → IsMade r.program → ⊥) → ((m : MayCheck c) → ⊥) → ((m : IsMaking c) → ⊥) → Reaches c
    → c.after.reached ≤ first_place a.words.source
few_reached c a no_run no_check none_made (reaches_nothing none) = omega (arith, none)
few_reached c a no_run no_check none_made (reaches_source b few) = subst (λ (w : PlainWords). c.after.reached ≤ first_place w.source) (same_words b a) few
few_reached c a no_run no_check none_made (reaches_inputs r is_made few fresh) = absurd (no_run r is_made)
few_reached c a no_run no_check none_made (reaches_certificate m is_made few) = absurd (no_check m)
few_reached c a no_run no_check none_made (reaches_checked k is_made few) = absurd (no_check k.may)
few_reached c a no_run no_check none_made (reaches_made m is_made few) = absurd (none_made m)

-- the source's place is among those before a refusal, and where that is one of a certificate, so is the certificate's
source_before : {c : Call} {why : Refusal} (w : PlainWords) (a : Refuses c why) → first_place w.source ≤ places_before w a
source_before w (by_words none) = omega arith
source_before w (by_text s other refused) = omega arith
source_before w (by_flat s is refused) = omega arith
source_before w (by_names t other refused) = omega arith
source_before w (by_missing n is refused) = omega arith
source_before w (by_judging n is refused) = omega arith
source_before w (by_given p is refused) = omega arith
source_before w (by_certificate m bytes is refused) = omega arith

module _ (l : OneVerdict) (c : Call) (told : TellsFiles c) where
  certificate_before : (why : Refusal) (w : PlainWords) (a : Refuses c why) → OfCertificate l c told a → first_input w ≤ places_before w a
  certificate_before why w (by_certificate m bytes is refused) of = omega arith
  certificate_before why w (by_words none) of = absurd of
  certificate_before why w (by_text s other refused) of = absurd of
  certificate_before why w (by_flat s is refused) of = absurd of
  certificate_before why w (by_names t other refused) of = absurd of
  certificate_before why w (by_missing n is refused) of = absurd of
  certificate_before why w (by_judging n is refused) of = absurd of
  certificate_before why w (by_given p is refused) of = absurd of

  first : (o : Outcome) (why : Refusal) → Refuses c why → (o ≡ Err stop.ReadFault → ⊥) → How c o → IsRefusedSo o why
  first (Err (stop.Refused v)) why refused no_read (inl early) = inl (ap (λ x. Err (stop.Refused x)) (one_refusal l c told v why early.0.0 early.0.1 refused))
  first (Err stop.ReadFault) why refused no_read (inl early) = absurd (no_read refl)
  first (Err stop.NoMemory) why refused no_read (inl early) = inr refl
  first o why refused no_read (inr (inl run)) =
      absurd (run_not_refused l c told run.0 why refused (λ q asked. same_inputs l c told run.0.program q (inl run.0.task) asked run.1))
  first o why refused no_read (inr (inr (inl writing))) = absurd (text_not_refused l c told writing.0 why refused)
  first o why refused no_read (inr (inr (inr (inl check)))) = absurd (check_not_refused l c told check.0 why refused (inl check.1))
  first o why refused no_read (inr (inr (inr (inr made)))) = absurd (making_not_refused l c told made.0 why refused (inl made.1))
  first _ why refused no_read (inl early) = absurd early.0

  refused_silent : (o : Outcome) (why : Refusal) → Refuses c why → How c o → WritesNothing c
  refused_silent o why refused (inl early) = early.1.silent
  refused_silent o why refused (inr (inl run)) =
      absurd (run_not_refused l c told run.0 why refused (λ q asked. same_inputs l c told run.0.program q (inl run.0.task) asked run.1))
  refused_silent o why refused (inr (inr (inl writing))) = absurd (text_not_refused l c told writing.0 why refused)
  refused_silent o why refused (inr (inr (inr (inl check)))) = absurd (check_not_refused l c told check.0 why refused (inl check.1))
  refused_silent o why refused (inr (inr (inr (inr made)))) = absurd (making_not_refused l c told made.0 why refused (inl made.1))

  runs_so : (r : IsRun c) (o : Outcome) → ComesOnly c o → How c o → RanSo (run_of r).program (under c.policy (view_of c (run_of r))) o
  runs_so r (Err (stop.Refused v)) only (inl early) = absurd (run_not_stopped l c told r v early.0.0 early.0.1)
  runs_so r (Err stop.ReadFault) only (inl early) =
      let view = under c.policy (view_of c (run_of r)) in
      ran_with (run_of r).program view (Err stop.ReadFault) (Err fault.ReadFault) refl
      (never_read (run_of r).program view early.1.silent (consumes_nothing c (run_of r) (asks_for r.program).read early.1) only)
  runs_so r (Err stop.NoMemory) only (inl early) =
      let view = under c.policy (view_of c (run_of r)) in
      ran_with (run_of r).program view (Err stop.NoMemory) (Err fault.NoMemory) refl
      (never_made (run_of r).program view early.1.silent (consumes_nothing c (run_of r) (asks_for r.program).read early.1))
  runs_so r o only (inr (inl run)) = subst (λ p. RanSo p.program (under c.policy (view_of c p)) o) (same_run l c told r run.0 run.1) run.2
  runs_so r o only (inr (inr (inl writing))) = absurd (run_or_text r writing.0)
  runs_so r o only (inr (inr (inr (inl check)))) = absurd (run_or_certificate r check.0.may refl)
  runs_so r o only (inr (inr (inr (inr made)))) = absurd (run_or_certificate r made.0 refl)
  runs_so r _ only (inl early) = absurd early.0

  -- what is consumed of an input and what is left are the bytes of its file, also where it was reached alone
  still : (r : IsRun c) → Reaches c → AreJustReached c (run_of r)
  still r (reaches_nothing none) q le lt = absurd (omega (arith, none, lt))
  still r (reaches_source a few) q le lt =
      let few' : c.after.reached ≤ first_place (run_of r).words.source =
      subst (λ (w : PlainWords). c.after.reached ≤ first_place w.source) (same_words a (asks_for r.program)) few in
      absurd (omega (arith, few', le, lt))
  still r (reaches_certificate m is_made few) q le lt = absurd (run_or_certificate r m refl)
  still r (reaches_checked k is_made few) q le lt = absurd (run_or_certificate r k.may refl)
  still r (reaches_made m is_made few) q le lt = absurd (run_or_certificate r m refl)
  still r (reaches_inputs s is_made few fresh) q le lt = subst (AreJustReached c) (same_run l c told r s is_made) fresh q le lt

  rested_bytes : (p : Run) (q : ℕ) (b : Bool) → nat_lt q c.after.reached ≡ b
      → (q < c.after.reached → (c.after.place q).contents ≡ (unread_place c p q).contents)
      → option_map all_bytes (cond b (c.after.place q) (unread_place c p q)).contents ≡ option_map all_bytes (unread_place c p q).contents
  rested_bytes p q true lt same = ap (option_map all_bytes) (same (ltb-true q c.after.reached lt))
  rested_bytes p q false lt same = refl

  gives_so : (r : IsRun c) (o : Outcome) → How c o → GivesBytes (view_of c (run_of r))
  gives_so r o (inl early) k n q is =
      let at = in_range (first_input (run_of r).words) (length (run_of r).inputs) k q is.1 in
      rested_bytes (run_of r) q (nat_lt q c.after.reached) refl (still r early.1.reaches q (omega (arith, at.0)))
  gives_so r o (inr (inl run)) k n q is = subst (λ p. GivesBytes (view_of c p)) (same_run l c told r run.0 run.1) run.4 k n q is
  gives_so r o (inr (inr (inl writing))) k n q is = absurd (run_or_text r writing.0)
  gives_so r o (inr (inr (inr (inl check)))) k n q is = absurd (run_or_certificate r check.0.may refl)
  gives_so r o (inr (inr (inr (inr made)))) k n q is = absurd (run_or_certificate r made.0 refl)

  writes_so : (x : IsWriting c) (o : Outcome) → ComesOnly c o → How c o → Writes c o (IsTextFor x)
  writes_so x (Err (stop.Refused v)) only (inl early) = absurd (text_not_refused l c told x v early.0.0)
  writes_so x (Err stop.ReadFault) only (inl early) =
      record { front = inl early.1.silent; whole = λ e. absurd (cc e); complete = λ reads writes. absurd (reads only) }
  writes_so x (Err stop.NoMemory) only (inl early) = record { front = inl early.1.silent; whole = λ e. absurd (cc e); complete = λ reads writes. inr refl }
  writes_so x o only (inr (inl run)) = absurd (run_or_text run.0 x)
  writes_so x o only (inr (inr (inl writing))) = as_text c o (IsTextFor writing.0) (IsTextFor x) (same_text l c told writing.0 x) writing.1
  writes_so x o only (inr (inr (inr (inl check)))) = absurd (certificate_or_text check.0.may refl x)
  writes_so x o only (inr (inr (inr (inr made)))) = absurd (certificate_or_text made.0 refl x)
  writes_so x _ only (inl early) = absurd early.0

  -- a check is that of the same tree, by the same certificate, over the same inputs
  as_check : (k j : IsCheck c) (o : Outcome) → IsWellMade j.may.names.program.tree
      → ChecksTree j.may.names.program.tree j.why (view_of c (certificate_of j.may)) o
      → ChecksTree k.may.names.program.tree k.why (view_of c (certificate_of k.may)) o
  as_check k j o is_made x =
      subst (λ p. ChecksTree k.may.names.program.tree k.why (view_of c p) o) (same_certificate l c told k.may j.may is_made)
      (subst (λ w. ChecksTree k.may.names.program.tree w (view_of c (certificate_of j.may)) o) (same_why l c told k j)
      (subst (λ p. ChecksTree p j.why (view_of c (certificate_of j.may)) o) (same_tree l c told j.may.names.program k.may.names.program) x))

  checks_so : (k : IsCheck c) (o : Outcome) → How c o → EndsCheck k o
  checks_so k (Err (stop.Refused v)) (inl early) = absurd (check_not_refused l c told k v early.0.0 (inr early.0.1))
  checks_so k (Err stop.ReadFault) (inl early) = before_checking (inl refl) early.1.silent
      (consumes_nothing c (certificate_of k.may) (asks_in k.may).read early.1)
  checks_so k (Err stop.NoMemory) (inl early) = before_checking (inr refl) early.1.silent
      (consumes_nothing c (certificate_of k.may) (asks_in k.may).read early.1)
  checks_so k o (inr (inl run)) = absurd (run_or_certificate run.0 k.may refl)
  checks_so k o (inr (inr (inl writing))) = absurd (certificate_or_text k.may refl writing.0)
  checks_so k o (inr (inr (inr (inl check)))) = by_checking (as_check k check.0 o check.1 check.2)
  checks_so k o (inr (inr (inr (inr made)))) = absurd (made_or_checked made.0 k.may)
  checks_so k _ (inl early) = absurd early.0

  -- a certificate is one of the same tree, at the same time, over the same inputs
  as_made : (m n : IsMaking c) (o : Outcome) → IsWellMade n.names.program.tree
      → MakesTree n.names.program.tree (view_of c (certificate_of n)) (time_asked (certificate_of n).words) o
      → MakesTree m.names.program.tree (view_of c (certificate_of m)) (time_asked (certificate_of m).words) o
  as_made m n o is_made x =
      subst (λ p. MakesTree m.names.program.tree (view_of c p) (time_asked p.words) o) (same_certificate l c told m n is_made)
      (subst (λ p. MakesTree p (view_of c (certificate_of n)) (time_asked (certificate_of n).words) o) (same_tree l c told n.names.program m.names.program) x)

  makes_so : (m : IsMaking c) (o : Outcome) → How c o → EndsMaking m o
  makes_so m (Err (stop.Refused v)) (inl early) = absurd (making_not_refused l c told m v early.0.0 (inr early.0.1))
  makes_so m (Err stop.ReadFault) (inl early) = before_making (inl refl) early.1.silent (consumes_nothing c (certificate_of m) (asks_in m).read early.1)
  makes_so m (Err stop.NoMemory) (inl early) = before_making (inr refl) early.1.silent (consumes_nothing c (certificate_of m) (asks_in m).read early.1)
  makes_so m o (inr (inl run)) = absurd (run_or_certificate run.0 m refl)
  makes_so m o (inr (inr (inl writing))) = absurd (certificate_or_text m refl writing.0)
  makes_so m o (inr (inr (inr (inl check)))) = absurd (made_or_checked m check.0.may)
  makes_so m o (inr (inr (inr (inr made)))) = by_making (as_made m made.0 o made.1 made.2)
  makes_so m _ (inl early) = absurd early.0

  refused_reaches : (o : Outcome) (a : Asks c) (why : Refusal) (x : Refuses c why) → How c o → c.after.reached ≤ places_before a.words x
  refused_reaches o a why x (inl early) = of_early early.1.reaches
    where
      of_early : Reaches c → c.after.reached ≤ places_before a.words x
      of_early (reaches_nothing none) = omega (arith, none)
      of_early (reaches_source b few) =
          let few' : c.after.reached ≤ first_place a.words.source = subst (λ (w : PlainWords). c.after.reached ≤ first_place w.source) (same_words b a) few in
          let before = source_before a.words x in omega (arith, few', before)
      of_early (reaches_inputs r is_made few fresh) = absurd
          (run_not_refused l c told r why x (λ q asked. same_inputs l c told r.program q (inl r.task) asked is_made))
      of_early (reaches_certificate m is_made few) =
          let few' : c.after.reached ≤ first_input a.words = subst (λ (w : PlainWords). c.after.reached ≤ first_input w) (same_words (asks_in m) a) few in
          let before = certificate_before why a.words x (may_refused l c told m refl why x (inl is_made)) in omega (arith, few', before)
      of_early (reaches_checked k is_made few) = absurd (check_not_refused l c told k why x (inl is_made))
      of_early (reaches_made m is_made few) = absurd (making_not_refused l c told m why x (inl is_made))
  refused_reaches o a why x (inr (inl run)) = absurd
      (run_not_refused l c told run.0 why x (λ q asked. same_inputs l c told run.0.program q (inl run.0.task) asked run.1))
  refused_reaches o a why x (inr (inr (inl writing))) = absurd (text_not_refused l c told writing.0 why x)
  refused_reaches o a why x (inr (inr (inr (inl check)))) = absurd (check_not_refused l c told check.0 why x (inl check.1))
  refused_reaches o a why x (inr (inr (inr (inr made)))) = absurd (making_not_refused l c told made.0 why x (inl made.1))

  text_reaches : (o : Outcome) (a : Asks c) (x : IsWriting c) → How c o → c.after.reached ≤ first_place a.words.source
  text_reaches o a x (inl early) = few_reached c a (λ r is_made. run_or_text r x) (λ m. certificate_or_text m refl x) (λ m. certificate_or_text m refl x)
      early.1.reaches
  text_reaches o a x (inr (inl run)) = absurd (run_or_text run.0 x)
  text_reaches o a x (inr (inr (inl writing))) = few_reached c a (λ r is_made. run_or_text r x) (λ m. certificate_or_text m refl x)
      (λ m. certificate_or_text m refl x) (reaches_source writing.2.0 writing.2.1)
  text_reaches o a x (inr (inr (inr (inl check)))) = absurd (certificate_or_text check.0.may refl x)
  text_reaches o a x (inr (inr (inr (inr made)))) = absurd (certificate_or_text made.0 refl x)

  begun_reaches : (r : IsRun c) → Reaches c → c.after.reached ≤ run_places (run_of r)
  begun_reaches r (reaches_nothing none) = omega (arith, none)
  begun_reaches r (reaches_source a few) =
      let few' : c.after.reached ≤ first_place (run_of r).words.source =
      subst (λ (w : PlainWords). c.after.reached ≤ first_place w.source) (same_words a (asks_for r.program)) few in
      omega (arith, few')
  begun_reaches r (reaches_certificate m is_made few) = absurd (run_or_certificate r m refl)
  begun_reaches r (reaches_checked k is_made few) = absurd (run_or_certificate r k.may refl)
  begun_reaches r (reaches_made m is_made few) = absurd (run_or_certificate r m refl)
  begun_reaches r (reaches_inputs s is_made few fresh) = subst (λ p. c.after.reached ≤ run_places p) (same_run l c told r s is_made) few

  run_reaches : (r : IsRun c) (o : Outcome) → How c o → c.after.reached ≤ run_places (run_of r)
  run_reaches r o (inl early) = begun_reaches r early.1.reaches
  run_reaches r o (inr (inl run)) = let all = subst (λ p. c.after.reached ≡ run_places p) (same_run l c told r run.0 run.1) run.3 in omega (arith, all)
  run_reaches r o (inr (inr (inl writing))) = absurd (run_or_text r writing.0)
  run_reaches r o (inr (inr (inr (inl check)))) = absurd (run_or_certificate r check.0.may refl)
  run_reaches r o (inr (inr (inr (inr made)))) = absurd (run_or_certificate r made.0 refl)

  -- of a certificate no more than its inputs
  certificate_begins : {t : Task} (m : HasFiles c t) → is_certificate t ≡ true → Reaches c → c.after.reached ≤ run_places (certificate_of m)
  certificate_begins m one (reaches_nothing none) = omega (arith, none)
  certificate_begins m one (reaches_source a few) =
      let few' : c.after.reached ≤ first_place (asks_in m).words.source =
      subst (λ (w : PlainWords). c.after.reached ≤ first_place w.source) (same_words a (asks_in m)) few in omega (arith, few')
  certificate_begins m one (reaches_inputs r is_made few fresh) = absurd (run_or_certificate r m one)
  certificate_begins m one (reaches_certificate k is_made few) =
      let few' : c.after.reached ≤ first_input (asks_in m).words =
      subst (λ (w : PlainWords). c.after.reached ≤ first_input w) (same_words (asks_in k) (asks_in m)) few in omega (arith, few')
  certificate_begins m one (reaches_checked k is_made few) = subst (λ p. c.after.reached ≤ run_places p) (same_certificate l c told m k.may is_made) few
  certificate_begins m one (reaches_made k is_made few) = subst (λ p. c.after.reached ≤ run_places p) (same_certificate l c told m k is_made) few

  check_reaches : (k : IsCheck c) (o : Outcome) → How c o → c.after.reached ≤ run_places (certificate_of k.may)
  check_reaches k o (inl early) = certificate_begins k.may refl early.1.reaches
  check_reaches k o (inr (inl run)) = absurd (run_or_certificate run.0 k.may refl)
  check_reaches k o (inr (inr (inl writing))) = absurd (certificate_or_text k.may refl writing.0)
  check_reaches k o (inr (inr (inr (inl check)))) =
      let all = subst (λ p. c.after.reached ≡ run_places p) (same_certificate l c told k.may check.0.may check.1) check.3 in omega (arith, all)
  check_reaches k o (inr (inr (inr (inr made)))) = absurd (made_or_checked made.0 k.may)

  made_reaches : (m : IsMaking c) (o : Outcome) → How c o → c.after.reached ≤ run_places (certificate_of m)
  made_reaches m o (inl early) = certificate_begins m refl early.1.reaches
  made_reaches m o (inr (inl run)) = absurd (run_or_certificate run.0 m refl)
  made_reaches m o (inr (inr (inl writing))) = absurd (certificate_or_text m refl writing.0)
  made_reaches m o (inr (inr (inr (inl check)))) = absurd (made_or_checked m check.0.may)
  made_reaches m o (inr (inr (inr (inr made)))) =
      let all = subst (λ p. c.after.reached ≡ run_places p) (same_certificate l c told m made.0 made.1) made.3 in omega (arith, all)

  evaluated_reaches : (r : IsRun c) (o : Outcome) → IsEvaluated o → How c o → c.after.reached ≡ run_places (run_of r)
  evaluated_reaches r (Err (stop.Refused v)) is (inl early) = absurd is
  evaluated_reaches r (Err stop.ReadFault) is (inl early) = absurd is
  evaluated_reaches r (Err stop.NoMemory) is (inl early) = absurd is
  evaluated_reaches r o is (inr (inl run)) = subst (λ p. c.after.reached ≡ run_places p) (same_run l c told r run.0 run.1) run.3
  evaluated_reaches r o is (inr (inr (inl writing))) = absurd (run_or_text r writing.0)
  evaluated_reaches r o is (inr (inr (inr (inl check)))) = absurd (run_or_certificate r check.0.may refl)
  evaluated_reaches r o is (inr (inr (inr (inr made)))) = absurd (run_or_certificate r made.0 refl)
  evaluated_reaches r _ is (inl early) = absurd early.0

  -- the names that are asked for, of a program with these inputs
  names_so : (p : HasProgram c) → WantsInputs p → AsksSo c (asks_for p).words → AsksFront (names_for (asks_for p).words (inputs_in p)) c.before c.after
  names_so p wants (asks_source front) =
      front_more (source_names (asks_for p).words.source)
      (certificate_names (task_of (asks_for p).words) (asks_for p).words.check ++ files_for (inputs_in p) (asks_for p).words.given) c.before c.after front
  names_so p wants (asks_inputs q made wants' front) =
      subst (λ free. AsksFront (names_for (asks_for p).words free) c.before c.after) (same_inputs l c told q p wants' wants made) front

-- where a text is written
text_names : (c : Call) (w : PlainWords) → IsWriting c → AsksSo c w → AsksFront (source_names w.source) c.before c.after
text_names c w x (asks_source front) = front
text_names c w x (asks_inputs p made wants front) = absurd (wanted_or_text p wants x)

-- of any program
some_names : (c : Call) (w : PlainWords) → AsksSo c w → (free : List (List ℕ)) × AsksFront (names_for w free) c.before c.after
some_names c w (asks_source front) =
    ([], front_more (source_names w.source) (certificate_names (task_of w) w.check ++ files_for [] w.given) c.before c.after front)
some_names c w (asks_inputs p made wants front) = (inputs_in p, front)

-- a read fault is counted
counted : (c : Call) (o : Outcome) → ComesOnly c o → (ReadFails c → ⊥) → o ≡ Err stop.ReadFault → ⊥
counted c o only reads is = reads (subst (ComesOnly c) is only)

-- words that are refused have that refusal alone
only_usage : (c : Call) → c.asked ≡ None → (v : Refusal) → Refuses c v → v ≡ refusal.Usage
only_usage c none v (by_words none') = refl
only_usage c none v (by_text s other refused) = absurd (not_asked s.asks none)
only_usage c none v (by_flat s is refused) = absurd (not_asked s.asks none)
only_usage c none v (by_names t other refused) = absurd (not_asked t.source.asks none)
only_usage c none v (by_missing n is refused) = absurd (not_asked n.program.source.asks none)
only_usage c none v (by_judging n is refused) = absurd (not_asked n.program.source.asks none)
only_usage c none v (by_given p is refused) = absurd (not_asked (asks_for p) none)
only_usage c none v (by_certificate m bytes is refused) = absurd (not_asked (asks_in m) none)

silent_or : (c : Call) (o : Outcome) → How c o → WritesNothing c ⊎ (IsRun c ⊎ (IsWriting c ⊎ (IsCheck c ⊎ IsMaking c)))
silent_or c o (inl early) = inl early.1.silent
silent_or c o (inr (inl run)) = inr (inl run.0)
silent_or c o (inr (inr (inl writing))) = inr (inr (inl writing.0))
silent_or c o (inr (inr (inr (inl check)))) = inr (inr (inr (inl check.0)))
silent_or c o (inr (inr (inr (inr made)))) = inr (inr (inr (inr made.0)))

pub meets : OneVerdict → (c : Call) (o : Outcome) → Comes c o
    → ((a : Asks c) → ReadsSource (most_read (form_of a.words)) a.words.source c.after)
    → ((a : Asks c) → ReadsCertificate a.words c.after) → ((w : PlainWords) → c.asked ≡ Some w → AsksSo c w)
    → (c.asked ≡ None → c.after.asked ≡ c.before.asked) → TellsFaults c o → EndsAtFaults c → MeetsOutcome c o
meets l c o h within certificate asks unasked faults late = record {
  comes_only = h.only;
  tells_faults = faults;
  late = late;
  refused_where = record {
    usage = λ none. stopped_by_words c o refusal.Usage (λ a. not_asked a none) (only_usage c none) h.how;
    first = λ why refused told reads. first l c told o why refused (counted c o h.only reads) h.how;
    silent = λ why refused told. refused_silent l c told o why refused h.how;
  };
  silent = silent_or c o h.how;
  headline = λ r told. runs_so l c told r o h.only h.how;
  gives = λ r told. gives_so l c told r o h.how;
  written = λ x told. writes_so l c told x o h.only h.how;
  checked = λ k told. checks_so l c told k o h.how;
  made = λ m told. makes_so l c told m o h.how;
  reaches = record {
    unasked = λ asks. none_reached c o asks h.how;
    refused = λ a why refused told. refused_reaches l c told o a why refused h.how;
    written = λ a x told. text_reaches l c told o a x h.how;
    run = λ r told. run_reaches l c told r o h.how;
    checked = λ k told. check_reaches l c told k o h.how;
    made = λ m told. made_reaches l c told m o h.how;
    evaluated = λ r told is. evaluated_reaches l c told r o is h.how;
  };
  names = record {
    unasked = unasked;
    asked = λ a. some_names c a.words (asks a.words a.read);
    written = λ a x. text_names c a.words x (asks a.words a.read);
    run = λ r told. names_so l c told r.program (inl r.task) (asks (asks_for r.program).words (asks_for r.program).read);
    checked = λ k told. names_so l c told (by_tree k.may.names) (inr (ap is_certificate k.may.task)) (asks (asks_in k.may).words (asks_in k.may).read);
    made = λ m told. names_so l c told (by_tree m.names) (inr (ap is_certificate m.task)) (asks (asks_in m).words (asks_in m).read);
  };
  source_within = within;
  certificate_within = certificate;
  few_places = h.few_places;
}
