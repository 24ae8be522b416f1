-- What a call does: it stops early, or it writes or runs behind a source that was read.
use Rattle.lucid_top.proofs.Common.{◌≡◌, ◌≢◌, ℕ, ◌+◌, List, [], ◌∷◌, ◌++◌, Some, Ok, Err, None, inr, refl, sym, ap, subst, arith, IsErrOf, CountsNoFaultUnless, World, most_source_bytes, PlainSource, file, made, PlainWords, plain_words, words_asked, Told, Stop, Task, Outcome, Call, task_of, form_of, IsWriting, IsTextFor, ReadsSource, most_read, IsProgramStop, WritesOnly, Comes, MayBegin, IsMade, WantsInputs, inputs_in, files_for, ReadsCertificate, first_place, HasReached, ◌≤◌, ◌∙◌, ReadsPlace, most_certificate_bytes}
use Rattle.std.proofs.Common.{Result, ◌^◌, ◌-◌}
use Rattle.clap.proofs.BuiltLemmas.{on_ok_always}
use Rattle.lucid_words.specs.declared.Words.{Words}
use Rattle.lucid_words.specs.declared.WordsRefusal.{WordsRefusal}
use Rattle.lucid_words.specs.declared.WordsRefusal.TheVariants as words
use Rattle.lucid_words.specs.Numbers.{IsFromToIfGiven, MadeIsFromTo}
use Rattle.lucid_report.specs.declared.stop.Stop.TheVariants as stop
use Rattle.lucid_report.specs.Refusals.{words_stop}
use Rattle.lucid_top.specs.declared.task.Task.TheVariants as task
use Rattle.lucid_top.specs.Places.{HasRead, CountsNoRead, CountsNoWrite}
use Rattle.lucid_top.specs.Stages.{HasProgram}
use Rattle.lucid_top.specs.Coming.{Does, AsksSo, asks_source, asks_inputs}
use Rattle.lucid_top.specs.Names.{source_names, certificate_names, AsksFront}
use Rattle.lucid_ports.specs.Faults.{AsksNoneLate}
use Rattle.lucid_ports.specs.Told.{WritesNoneLate}
use Rattle.lucid_top.proofs.NamesAsked.{none_asked, asked_then}
use Rattle.lucid_top.proofs.FewColumns.{few_columns}
use Rattle.lucid_top.proofs.TextsOnly.{texts_only}
use Rattle.lucid_top.proofs.Counting.{none_at_ok, handed_on, counts_then}
use Rattle.lucid_top.proofs.Ending.{Begins, IsText, within_text, words_stops, program_stops, memory_stops, writes}

-- the source is read so, and then something else comes of it; or what stopped its reading is handed on
pub has_read : {T U : Type 0} (x : T) (most : ℕ) (s : PlainSource) (v w : World) (r : Result U Stop) → HasRead {T = T} most s v w (Ok x) → HasRead most s v w r
has_read x most s v w r h =
    record {
      reached = on_ok_always r h.reached;
      few = h.few;
      asks = h.asks;
      asked = on_ok_always r h.asked;
      within = h.within;
      keeps = h.keeps;
      counts_no_read = inr (none_at_ok x stop.ReadFault v.faults w.faults h.counts_no_read);
      late = h.late;
    }

pub has_stopped : {T U : Type 0} (e : Stop) (most : ℕ) (s : PlainSource) (v w : World) → HasRead {T = T} most s v w (Err e) → HasRead {T = U} most s v w (Err e)
has_stopped e most s v w h =
    record {
      reached = tt;
      few = h.few;
      asks = h.asks;
      asked = tt;
      within = h.within;
      keeps = h.keeps;
      counts_no_read = handed_on e e stop.ReadFault v.faults w.faults refl h.counts_no_read;
      late = h.late;
    }

-- so it is where one file more is reached and read
pub has_reached : {T U : Type 0} (x : T) (most : ℕ) (v w : World) (r : Result U Stop) → HasReached {T = T} most v w (Ok x) → HasReached most v w r
has_reached x most v w r h = record {
  reached = on_ok_always r h.reached;
  few = h.few;
  others = h.others;
  within = h.within;
  keeps = h.keeps;
  counts_no_read = inr (none_at_ok x stop.ReadFault v.faults w.faults h.counts_no_read);
  late = h.late;
}

pub reaching_stopped : {T U : Type 0} (e : Stop) (most : ℕ) (v w : World) → HasReached {T = T} most v w (Err e) → HasReached {T = U} most v w (Err e)
reaching_stopped e most v w h = record {
  reached = tt;
  few = h.few;
  others = h.others;
  within = h.within;
  keeps = h.keeps;
  counts_no_read = handed_on e e stop.ReadFault v.faults w.faults refl h.counts_no_read;
  late = h.late;
}

-- what the words ask for may begin
pub may_begin : (texts : List (List ℕ)) (words : Words) (t : Task) (v : World) → words_asked texts ≡ Some (plain_words words)
    → MadeIsFromTo 1 10000 words.source → IsFromToIfGiven 0 (2 ^ 63 - 1) words.why → t ≡ task_of (plain_words words) → v.reached ≡ 0 → MayBegin words t v
may_begin texts words t v asked given time is none = record {
  made = given;
  columns = few_columns texts (plain_words words) asked;
  task = sym is;
  text = λ other. texts_only texts (plain_words words) asked (λ run. other (is ∙ run));
  time = time;
  none = none;
}

-- where no place is reached, nothing is read
pub none_read : (most : ℕ) (s : PlainSource) (w : World) → w.reached ≡ 0 → ReadsSource most s w
none_read most (file name) w none = λ lt. absurd (omega (arith, none, lt))
none_read most (made n) w none = tt

pub no_certificate : (w : PlainWords) (v : World) → v.reached ≡ 0 → ReadsCertificate w v
no_certificate w v none task lt = absurd (omega (arith, none, lt))

-- words that are refused stop the call, or want of memory does once they are read, before anything else is
pub words_do : (c : Call) (e : WordsRefusal) → (e ≡ words.Usage → c.asked ≡ None) → c.after ≡ c.before → c.out_after ≡ c.out_before → c.after.reached ≡ 0
    → Does c (Err (words_stop e))
words_do c e refused same silent none = record {
  comes = words_stops c e refused (ap (λ (t : Told). t.bytes) silent) none;
  counts_no_read = inr (ap (λ (w : World). w.faults) same);
  counts_no_write = inr (ap (λ (t : Told). t.faults) silent);
  read_late = λ good. ap (λ (w : World). w.late) same;
  write_late = λ good. ap (λ (t : Told). t.late) silent;
  within = λ v asked. none_read _ v.source c.after none;
  certificate = λ v asked. no_certificate v c.after none;
  asks = λ v asked. asks_source (none_asked (source_names v.source) c.before c.after (ap (λ (w : World). w.asked) same));
  unasked = λ none'. ap (λ (w : World). w.asked) same;
}

pub want_does : (c : Call) (w : PlainWords) → Begins c w → c.after ≡ c.before → c.out_after ≡ c.out_before → c.after.reached ≡ 0 → Does c (Err stop.NoMemory)
want_does c w b same silent none = record {
  comes = memory_stops c w b (ap (λ (t : Told). t.bytes) silent) (omega (arith, none));
  counts_no_read = inr (ap (λ (w : World). w.faults) same);
  counts_no_write = inr (ap (λ (t : Told). t.faults) silent);
  read_late = λ good. ap (λ (w : World). w.late) same;
  write_late = λ good. ap (λ (t : Told). t.late) silent;
  within = λ v asked. none_read _ v.source c.after none;
  certificate = λ v asked. no_certificate v c.after none;
  asks = λ v asked. asks_source (none_asked (source_names v.source) c.before c.after (ap (λ (w : World). w.asked) same));
  unasked = λ none'. ap (λ (w : World). w.asked) same;
}

-- what is asked for, whatever the words of the call are called
pub asks_too : (c : Call) (w : PlainWords) → c.asked ≡ Some w → AsksSo c w → (v : PlainWords) → c.asked ≡ Some v → AsksSo c v
asks_too c w read asks v asked = let same : w ≡ v = cc (read, asked) in subst (AsksSo c) same asks

pub not_none : (c : Call) (w : PlainWords) {X : Type 0} → c.asked ≡ Some w → c.asked ≡ None → X
not_none c w read none = absurd (cc (read, none))

-- nor is a certificate read, where no place but the source's is reached, or none is asked for
pub unread_certificate : (c : Call) (w : PlainWords) → c.asked ≡ Some w → c.after.reached ≤ first_place w.source → (v : PlainWords) → c.asked ≡ Some v
    → ReadsCertificate v c.after
unread_certificate c w read few v asked task lt =
    let same : w ≡ v = cc (read, asked) in
    let few' : c.after.reached ≤ first_place v.source = subst (λ (u : PlainWords). c.after.reached ≤ first_place u.source) same few in
    absurd (omega (arith, few', lt))

other_certificate : (c : Call) (w : PlainWords) → c.asked ≡ Some w → task_of w ≢ task.Check → (v : PlainWords) → c.asked ≡ Some v → ReadsCertificate v c.after
other_certificate c w read other v asked task = let same : w ≡ v = cc (read, asked) in absurd (other (ap task_of same ∙ task))

-- no more of the source is read, whatever the words of the call are called
pub reads_for : (c : Call) (w : PlainWords) → c.asked ≡ Some w → ReadsSource (most_read (form_of w)) w.source c.after → (v : PlainWords) → c.asked ≡ Some v
    → ReadsSource (most_read (form_of v)) v.source c.after
reads_for c w read within v asked = let same : w ≡ v = cc (read, asked) in
    subst (λ (u : PlainWords). ReadsSource (most_read (form_of u)) u.source c.after) same within

-- a stop before anything is written
pub stops : {T : Type 0} (c : Call) (w : PlainWords) (s : Stop) → c.asked ≡ Some w → c.out_after ≡ c.out_before → c.after.reached ≤ first_place w.source
    → AsksFront (source_names w.source) c.before c.after → Comes c (Err s)
    → CountsNoFaultUnless (IsErrOf {T = T} (Err s) stop.ReadFault) c.before.faults c.after.faults → AsksNoneLate c.before c.after
    → ReadsSource (most_read (form_of w)) w.source c.after → Does c (Err s)
stops c w s read silent few asks comes counts late within = record {
  comes = comes;
  counts_no_read = handed_on s s stop.ReadFault c.before.faults c.after.faults refl counts;
  counts_no_write = inr (ap (λ (t : Told). t.faults) silent);
  read_late = late;
  write_late = λ good. ap (λ (t : Told). t.late) silent;
  within = reads_for c w read within;
  certificate = unread_certificate c w read few;
  asks = asks_too c w read (asks_source asks);
  unasked = not_none c w read;
}

-- the source or the names stop the call
pub program_does : {T : Type 0} (c : Call) (w : PlainWords) (s : Stop) → Begins c w → IsText w → task_of w ≢ task.Print → c.out_after ≡ c.out_before
    → IsProgramStop w.source c.before c.after s → HasRead {T = T} (most_source_bytes + 1) w.source c.before c.after (Err s) → Does c (Err s)
program_does c w s b text other silent why h =
    stops c w s b silent h.few h.asks (program_stops c w s b text other why (ap (λ (t : Told). t.bytes) silent) h.few) h.counts_no_read h.late
    (within_text w w.source c.after text h.within)

-- want of memory behind a source that was read
pub memory_does : {T : Type 0} (x : T) (most : ℕ) (c : Call) (w : PlainWords) → Begins c w → c.out_after ≡ c.out_before
    → HasRead {T = T} most w.source c.before c.after (Ok x)
    → ReadsSource (most_read (form_of w)) w.source c.after → Does c (Err stop.NoMemory)
memory_does x most c w b silent h within = record {
  comes = memory_stops c w b (ap (λ (t : Told). t.bytes) silent) h.few;
  counts_no_read = inr (none_at_ok x stop.ReadFault c.before.faults c.after.faults h.counts_no_read);
  counts_no_write = inr (ap (λ (t : Told). t.faults) silent);
  read_late = h.late;
  write_late = λ good. ap (λ (t : Told). t.late) silent;
  within = reads_for c w b within;
  certificate = unread_certificate c w b h.few;
  asks = asks_too c w b (asks_source h.asks);
  unasked = not_none c w b;
}

-- the text that is asked for is written
pub writing_does : {T : Type 0} (x : T) (c : Call) (w : PlainWords) (y : IsWriting c) (o : Outcome) → Begins c w → IsText w
    → HasRead {T = T} (most_source_bytes + 1) w.source c.before c.after (Ok x)
    → WritesOnly (IsTextFor y) c.out_before c.out_after o → CountsNoWrite o c.out_before.faults c.out_after.faults
    → WritesNoneLate c.out_before c.out_after → Does c o
writing_does x c w y o b text h written counted late = record {
  comes = writes c w y o b h.few written;
  counts_no_read = inr (none_at_ok x stop.ReadFault c.before.faults c.after.faults h.counts_no_read);
  counts_no_write = counted;
  read_late = h.late;
  write_late = late;
  within = reads_for c w b (within_text w w.source c.after text h.within);
  certificate = unread_certificate c w b h.few;
  asks = asks_too c w b (asks_source h.asks);
  unasked = not_none c w b;
}

-- a run behind a source that was read
pub run_does : {T : Type 0} (x : T) (c : Call) (w : PlainWords) (v : World) (o : Outcome) → c.asked ≡ Some w → task_of w ≢ task.Check → Comes c o
    → CountsNoFaultUnless (IsErrOf {T = T} (Ok x) stop.ReadFault) c.before.faults v.faults → CountsNoRead o v c.after
    → CountsNoWrite o c.out_before.faults c.out_after.faults → AsksNoneLate c.before v → AsksNoneLate v c.after → WritesNoneLate c.out_before c.out_after
    → AsksSo c w → ReadsSource (most_read (form_of w)) w.source c.after → Does c o
run_does x c w v o read other comes counts behind counted first second late asks within = record {
  comes = comes;
  counts_no_read = counts_then c.before.faults v.faults c.after.faults (none_at_ok x stop.ReadFault c.before.faults v.faults counts) behind;
  counts_no_write = counted;
  read_late = λ good. second (none_at_ok x stop.ReadFault c.before.faults v.faults counts ∙ good) ∙ first good;
  write_late = late;
  within = reads_for c w read within;
  certificate = other_certificate c w read other;
  asks = asks_too c w read asks;
  unasked = not_none c w read;
}

-- a check behind a source that was read
pub check_does : {T : Type 0} (x : T) (c : Call) (w : PlainWords) (v : World) (o : Outcome) → c.asked ≡ Some w → Comes c o
    → CountsNoFaultUnless (IsErrOf {T = T} (Ok x) stop.ReadFault) c.before.faults v.faults → CountsNoRead o v c.after
    → CountsNoWrite o c.out_before.faults c.out_after.faults → AsksNoneLate c.before v → AsksNoneLate v c.after → WritesNoneLate c.out_before c.out_after
    → AsksSo c w → ReadsSource (most_read (form_of w)) w.source c.after → v.reached ≡ first_place w.source
    → ReadsPlace (most_certificate_bytes + 1) v.reached c.after → Does c o
check_does x c w v o read comes counts behind counted before behind_it late asks within first reads = record {
  comes = comes;
  counts_no_read = counts_then c.before.faults v.faults c.after.faults (none_at_ok x stop.ReadFault c.before.faults v.faults counts) behind;
  counts_no_write = counted;
  read_late = λ good. behind_it (none_at_ok x stop.ReadFault c.before.faults v.faults counts ∙ good) ∙ before good;
  write_late = late;
  within = reads_for c w read within;
  certificate = λ u asked task.
      let same : w ≡ u = cc (read, asked) in
      subst (λ (y : PlainWords). ReadsPlace (most_certificate_bytes + 1) (first_place y.source) c.after) same
      (subst (λ q. ReadsPlace (most_certificate_bytes + 1) q c.after) first reads);
  asks = asks_too c w read asks;
  unasked = not_none c w read;
}

-- what a run asks for, or a making of a certificate, behind the source
pub asks_behind : (c : Call) (w : PlainWords) (v : World) (p : HasProgram c) (free : List (List ℕ)) → IsMade p → WantsInputs p → inputs_in p ≡ free
    → certificate_names (task_of w) w.check ≡ [] → v.asked ≡ c.before.asked ++ source_names w.source → AsksFront (files_for free w.given) v c.after
    → AsksSo c w
asks_behind c w v p free well wants inputs none asked front =
    asks_inputs p well wants
    (asked_then (source_names w.source) (certificate_names (task_of w) w.check ++ files_for (inputs_in p) w.given) c.before v c.after asked
    (subst (λ l. AsksFront (l ++ files_for (inputs_in p) w.given) v c.after) (sym none)
    (subst (λ l. AsksFront (files_for l w.given) v c.after) (sym inputs) front)))

-- and a check, behind the source and the certificate
pub asks_check : (c : Call) (w : PlainWords) (v : World) (p : HasProgram c) (free : List (List ℕ)) → IsMade p → WantsInputs p → inputs_in p ≡ free
    → task_of w ≡ task.Check → v.asked ≡ c.before.asked ++ source_names w.source → AsksFront (w.check ∷ files_for free w.given) v c.after → AsksSo c w
asks_check c w v p free well wants inputs is asked front =
    let names : certificate_names (task_of w) w.check ≡ w.check ∷ [] = ap (λ t. certificate_names t w.check) is in
    asks_inputs p well wants
    (asked_then (source_names w.source) (certificate_names (task_of w) w.check ++ files_for (inputs_in p) w.given) c.before v c.after asked
    (subst (λ l. AsksFront (l ++ files_for (inputs_in p) w.given) v c.after) (sym names)
    (subst (λ l. AsksFront (w.check ∷ files_for l w.given) v c.after) (sym inputs) front)))
