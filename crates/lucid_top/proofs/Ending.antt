-- How a call comes to its outcome: it stops early, or it writes a text.
use Rattle.lucid_top.proofs.Common.{◌≡◌, ◌≢◌, ℕ, ◌+◌, ◌-◌, ◌<◌, ◌≤◌, List, [], length, get_or, Option, Some, None, Ok, Err, inl, inr, refl, sym, ap, subst, ◌∙◌, arith, slice_get, option_map, IfOk, slice_get-get_or, ∥∥₁_map, le_refl, take_all, World, Contents, with_all, PlainTree, Table, most_source_bytes, places, IsWellMade, HasNoFault, Scoped, scoped_tree, scoped_inputs, IsJudgeRefusal, JudgeRefusal, rises_from, PlainSource, file, made, PlainWords, Told, Refusal, Stop, Form, Task, Outcome, Call, task_of, form_of, WritesWhole, WritesFront, judge_stop, IsRefusalOf, RefusesText, RefusesNames, RefusesBeside, StandsBeside, HasInputs, most_flat_bytes, RefusesFlat, RefusesGiven, FitsGiven, IsSource, Asks, HasTree, HasFlat, HasNames, HasColumns, IsWriting, IsTextFor, asks_for, inputs_in, IsAskedFor, IsRun, by_words, by_text, by_flat, by_names, by_missing, by_judging, by_given, first_place, run_places, run_of, KeepsNames, ReadsSource, most_read, SpeltBySource, FlatBySource, IsAcceptedBeside, IsSourceStop, IsProgramStop, IsColumnsStop, IsReadStop, AreFresh, WritesOnly, WritesNothing, reaches_nothing, reaches_source, Rests, IsOfMade, RunsTable, Comes, OnOk, by_tree, certificate_places, first_input, by_columns, by_table}
use Rattle.std.proofs.Common.{Result}
use Rattle.lucid_ports.specs.World.{unread}
use Rattle.lucid_scope.specs.Bindings.{IsResolved}
use Rattle.lucid_scope.specs.declared.scoped.Binding.{Binding}
use Rattle.lucid_cycles.specs.declared.judgment.JudgeRefusal.TheVariants as judge
use Rattle.lucid_words.specs.declared.WordsRefusal.{WordsRefusal}
use Rattle.lucid_words.specs.declared.WordsRefusal.TheVariants as words
use Rattle.lucid_report.specs.declared.stop.Done.TheVariants as done
use Rattle.lucid_report.specs.declared.stop.Stop.TheVariants as stop
use Rattle.lucid_top.specs.declared.task.Form.TheVariants as form
use Rattle.lucid_top.specs.declared.task.Task.TheVariants as task
use Rattle.lucid_report.specs.Refusals.{words_stop}
use Rattle.lucid_top.specs.Judged.{RefusesColumns}
use Rattle.lucid_top.specs.Stages.{HasProgram, task_for, Refuses}
use Rattle.lucid_top.specs.Runs.{most_places}
use Rattle.lucid_top.specs.Places.{IsAccepted}
use Rattle.lucid_top.specs.Writing.{WritesSome, WritesSomeFront}

-- the words of a call are read
abbrev pub Begins : Call → PlainWords → Type 0
Begins c w = c.asked ≡ Some w

-- and the source is no flat form; it is one
abbrev pub IsText : PlainWords → Type 0
IsText w = form_of w ≢ form.Flat

abbrev pub IsFlat : PlainWords → Type 0
IsFlat w = form_of w ≡ form.Flat

-- how much of a source may be read, by its form
most_of_text : (f : Form) → f ≢ form.Flat → most_read f ≡ most_source_bytes + 1
most_of_text form.Flat other = absurd (other refl)
most_of_text form.Text other = refl
most_of_text form.Made other = refl

pub within_text : (w : PlainWords) (s : PlainSource) (u : World) → IsText w → ReadsSource (most_source_bytes + 1) s u → ReadsSource (most_read (form_of w)) s u
within_text w s u text within = subst (λ most. ReadsSource most s u) (sym (most_of_text (form_of w) text)) within

pub within_flat : (w : PlainWords) (s : PlainSource) (u : World) → IsFlat w → ReadsSource (most_flat_bytes + 1) s u → ReadsSource (most_read (form_of w)) s u
within_flat w s u flat within = subst (λ f. ReadsSource (most_read f) s u) (sym flat) within

abbrev pub asks_of : (c : Call) (w : PlainWords) → Begins c w → Asks c
asks_of c w b = record { words = w; read = b }

abbrev pub tree_of : (c : Call) (w : PlainWords) (p : PlainTree) → Begins c w → IsText w → SpeltBySource w.source c.before p → HasTree c
tree_of c w p b text s = record { source = record { asks = asks_of c w b; bytes = s.bytes; is = s.is }; form = text; tree = p; spelt = s.spelt }

abbrev pub flat_of : (c : Call) (w : PlainWords) (t : Table) → Begins c w → IsFlat w → FlatBySource w.source c.before t → HasFlat c
flat_of c w t b flat s = record { source = record { asks = asks_of c w b; bytes = s.bytes; is = s.is }; form = flat; table = t; spelt = s.spelt }

pub first_place_le : (s : PlainSource) → first_place s ≤ 1
first_place_le (file name) = omega arith
first_place_le (made n) = omega arith

-- where no place but the source's is reached, nothing of an input is read
pub rests_of : (c : Call) (w : PlainWords) → Begins c w → WritesNothing c → c.after.reached ≤ first_place w.source → Rests c
rests_of c w b silent few = record {
  reaches = reaches_source (asks_of c w b) few;
  silent = silent;
  unread = λ v asked q le lt new is.
      let same : v ≡ w = cc (asked, b) in
      let le' : first_input w ≤ q = subst (λ u. first_input u ≤ q) same le in
      absurd (omega (arith, few, le', lt));
}

few_places : (c : Call) (s : PlainSource) → c.after.reached ≤ first_place s → c.after.reached ≤ 1048578
few_places c s few = let one = first_place_le s in omega (arith, few, one)

-- the source stops the call, which is refused as its text is
stops_by : (Refused : List ℕ → Refusal → Type 0) (c : Call) (w : PlainWords) (s : Stop) → Begins c w
    → ((bytes : List ℕ) → IsSource w.source c.before bytes → (why : Refusal) → Refused bytes why → (r : Refuses c why) × IsOfMade r)
    → IsSourceStop Refused w.source c.before c.after s → WritesNothing c → c.after.reached ≤ first_place w.source → Comes c (Err s)
stops_by Refused c w (stop.Refused why) b refuses why_stops silent few =
    let r = refuses why_stops.0 why_stops.1 why why_stops.2 in
    record { only = (r.0, silent); how = inl (r, rests_of c w b silent few); few_places = few_places c w.source few }
stops_by Refused c w stop.ReadFault b refuses why_stops silent few =
    record { only = why_stops; how = inl (asks_of c w b, rests_of c w b silent few); few_places = few_places c w.source few }
stops_by Refused c w stop.NoMemory b refuses why_stops silent few =
    record { only = tt; how = inl (tt, rests_of c w b silent few); few_places = few_places c w.source few }
stops_by Refused c w _ b refuses why_stops silent few = absurd why_stops

pub source_stops : (c : Call) (w : PlainWords) (s : Stop) → Begins c w → IsText w → IsSourceStop RefusesText w.source c.before c.after s → WritesNothing c
    → c.after.reached ≤ first_place w.source → Comes c (Err s)
source_stops c w s b text = stops_by RefusesText c w s b (λ bytes is why r. (by_text (record { asks = asks_of c w b; bytes = bytes; is = is }) text r, tt))

pub flat_stops : (c : Call) (w : PlainWords) (s : Stop) → Begins c w → IsFlat w → IsSourceStop RefusesFlat w.source c.before c.after s → WritesNothing c
    → c.after.reached ≤ first_place w.source → Comes c (Err s)
flat_stops c w s b flat = stops_by RefusesFlat c w s b (λ bytes is why r. (by_flat (record { asks = asks_of c w b; bytes = bytes; is = is }) flat r, tt))

-- want of memory stops the call
pub memory_stops : (c : Call) (w : PlainWords) → Begins c w → WritesNothing c → c.after.reached ≤ first_place w.source → Comes c (Err stop.NoMemory)
memory_stops c w b silent few = record { only = tt; how = inl (tt, rests_of c w b silent few); few_places = few_places c w.source few }

-- what is written whole is written in front
pub whole_front : (text : List ℕ) (before after : Told) → WritesWhole text before after → WritesFront text before after
whole_front text before after h =
    (length text, le_refl (length text), h ∙ ap (λ l. with_all l before.bytes) (sym (take_all (length text) text (le_refl (length text)))))

-- texts of one kind are written, which are texts of another
pub as_text : (P Q : List ℕ → Type 0) (before after : Told) (o : Outcome) → ((text : List ℕ) → P text → Q text) → WritesOnly P before after o
    → WritesOnly Q before after o
as_text P Q before after (Ok done.Written) f h = (h.0, f h.0 h.1, h.2)
as_text P Q before after (Err stop.WriteFault) f h = ((h.0.0, f h.0.0 h.0.1, h.0.2), h.1)
as_text P Q before after (Err stop.NoMemory) f h = elim h [ inl silent ↦ inl silent | inr some ↦ inr (some.0, f some.0 some.1, some.2) ]
as_text P Q before after _ f h = absurd h

front_of_some : (P : List ℕ → Type 0) (before after : Told) → WritesSome P before after → WritesSomeFront P before after
front_of_some P before after h = (h.0, h.1, whole_front h.0 before after h.2)

-- the text that is asked for is written
pub writes : (c : Call) (w : PlainWords) (x : IsWriting c) (o : Outcome) → Begins c w → c.after.reached ≤ first_place w.source
    → WritesOnly (IsTextFor x) c.out_before c.out_after o → Comes c o
writes c w x (Ok done.Written) b few h = record {
  only = inl x;
  how =
      inr
      (inr
      (inl (
        x,
        record { front = inr (front_of_some (IsTextFor x) c.out_before c.out_after h); whole = λ _. h; complete = λ _ _. inl refl },
        (asks_of c w b, few),
      )));
  few_places = few_places c w.source few;
}
writes c w x (Err stop.WriteFault) b few h = record {
  only = h.1;
  how = inr (inr (inl (x, record { front = inr h.0; whole = λ e. absurd (cc e); complete = λ _ writes. absurd (writes h.1) }, (asks_of c w b, few))));
  few_places = few_places c w.source few;
}
writes c w x (Err stop.NoMemory) b few h = record {
  only = tt;
  how = inr (inr (inl (x, record { front = h; whole = λ e. absurd (cc e); complete = λ _ _. inr refl }, (asks_of c w b, few))));
  few_places = few_places c w.source few;
}
writes c w x (Ok (done.Ran summary stats)) b few h = absurd h
writes c w x _ b few h = absurd h

-- where something else than the canonical source is asked for, the names are looked at
pub not_print : (w : PlainWords) (t : Task) → task_of w ≡ t → (t ≡ task.Print → ⊥) → task_of w ≢ task.Print
not_print w t is other is_print = other (sym is ∙ is_print)

-- the tree is accepted
accepted : (source : PlainSource) (w : World) (p q : PlainTree) → SpeltBySource source w p → HasNoFault p → IsWellMade p → length (places p) ≤ 1048576 → q ≡ p
    → IsAccepted source w q
accepted source w p q spelt none well few same =
    let here : IsAccepted source w p = record { spelt = spelt; no_fault = none; well_made = well; few = few } in subst (IsAccepted source w) (sym same) here

pub all_accepted : (source : PlainSource) (w : World) (p : PlainTree) (r : Result Scoped Stop) → SpeltBySource source w p → IsWellMade p
    → length (places p) ≤ 1048576
    → IfOk r (λ s. scoped_tree s ≡ p) → OnOk r (HasNoFault p) → IfOk r (λ s. IsAccepted source w (scoped_tree s))
all_accepted source w p (Ok s) spelt well few same none = accepted source w p (scoped_tree s) spelt none well few same
all_accepted source w p (Err e) spelt well few same none = tt

-- the names stop the call
pub names_stop : (source : PlainSource) (old new : World) (p : PlainTree) (s : Stop) → SpeltBySource source old p → IsWellMade p
    → IsRefusalOf (RefusesNames p) s → IsProgramStop source old new s
names_stop source old new p (stop.Refused why) spelt well refused = inr (p, spelt, well, refused)
names_stop source old new p stop.NoMemory spelt well refused = tt
names_stop source old new p _ spelt well refused = absurd refused

pub source_stop : (source : PlainSource) (old new : World) (s : Stop) → IsSourceStop RefusesText source old new s → IsProgramStop source old new s
source_stop source old new (stop.Refused why) h = inl h
source_stop source old new _ h = h

names_refuse : (c : Call) (w : PlainWords) (p : PlainTree) (why : Refusal) → Begins c w → IsText w → task_of w ≢ task.Print → SpeltBySource w.source c.before p
    → IsWellMade p → RefusesNames p why
    → WritesNothing c → c.after.reached ≤ first_place w.source → Comes c (Err (stop.Refused why))
names_refuse c w p why b text other spelt well refused silent few = record {
  only = (by_names (tree_of c w p b text spelt) other refused, silent);
  how = inl ((by_names (tree_of c w p b text spelt) other refused, well), rests_of c w b silent few);
  few_places = few_places c w.source few;
}

-- the source or the names stop the call
pub program_stops : (c : Call) (w : PlainWords) (s : Stop) → Begins c w → IsText w → task_of w ≢ task.Print → IsProgramStop w.source c.before c.after s
    → WritesNothing c
    → c.after.reached ≤ first_place w.source → Comes c (Err s)
program_stops c w (stop.Refused why) b text other (inl h) silent few = source_stops c w (stop.Refused why) b text h silent few
program_stops c w (stop.Refused why) b text other (inr names) silent few = names_refuse c w names.0 why b text other names.1 names.2 names.3 silent few
program_stops c w stop.NoMemory b text other h silent few = source_stops c w stop.NoMemory b text h silent few
program_stops c w stop.ReadFault b text other h silent few = source_stops c w stop.ReadFault b text h silent few
program_stops c w _ b text other h silent few = absurd h

-- the names of the program that is run or judged
abbrev pub names_of : (c : Call) (w : PlainWords) (p : PlainTree) (free : List (List ℕ)) → Begins c w → IsText w → task_of w ≢ task.Print
    → IsAccepted w.source c.before p → HasInputs p free
    → HasNames c
names_of c w p free b text other a inputs =
    record { program = tree_of c w p b text a.spelt; task = other; no_fault = a.no_fault; free = free; are_free = inputs }

-- a run is no printing, nor is a judgment
pub run_not_print : (w : PlainWords) → task_of w ≡ task.Run → task_of w ≢ task.Print
run_not_print w is = not_print w task.Run is (λ e. absurd (cc e))

pub flat_not_print : (w : PlainWords) → task_of w ≡ task.Flat → task_of w ≢ task.Print
flat_not_print w is = not_print w task.Flat is (λ e. absurd (cc e))

pub cycles_not_print : (w : PlainWords) → task_of w ≡ task.Cycles → task_of w ≢ task.Print
cycles_not_print w is = not_print w task.Cycles is (λ e. absurd (cc e))

pub columns_not_print : (w : PlainWords) → task_of w ≡ task.Columns → task_of w ≢ task.Print
columns_not_print w is = not_print w task.Columns is (λ e. absurd (cc e))

pub check_not_print : (w : PlainWords) → task_of w ≡ task.Check → task_of w ≢ task.Print
check_not_print w is = not_print w task.Check is (λ e. absurd (cc e))

pub why_not_print : (w : PlainWords) → task_of w ≡ task.Why → task_of w ≢ task.Print
why_not_print w is = not_print w task.Why is (λ e. absurd (cc e))

-- the columns that are run
abbrev pub columns_of : (c : Call) (w : PlainWords) (q : PlainTree) (free : List (List ℕ)) → Begins c w → IsText w → task_of w ≡ task.Columns
    → (a : IsAcceptedBeside w.source c.before w.columns q free) → HasInputs q free → HasColumns c
columns_of c w q free b text is a inputs = record {
  names = names_of c w a.tree a.beside.free b text (columns_not_print w is) a.accepted a.beside.are_free;
  are = a.beside.are;
  free = free;
  are_free = subst (λ p. HasInputs p free) a.beside.is inputs;
}

-- the source, the names or the columns stop the call
missing_stops : (c : Call) (w : PlainWords) (p : PlainTree) (free : List (List ℕ)) (why : Refusal) → Begins c w → IsText w → task_of w ≡ task.Columns
    → IsAccepted w.source c.before p
    → HasInputs p free → RefusesColumns p w.columns why → WritesNothing c → c.after.reached ≤ first_place w.source → Comes c (Err (stop.Refused why))
missing_stops c w p free why b text is a inputs refused silent few =
    let names = names_of c w p free b text (columns_not_print w is) a inputs in
    record {
      only = (by_missing names is refused, silent);
      how = inl ((by_missing names is refused, tt), rests_of c w b silent few);
      few_places = few_places c w.source few;
    }

pub columns_stops : (c : Call) (w : PlainWords) (s : Stop) → Begins c w → IsText w → task_of w ≡ task.Columns
    → IsColumnsStop w.source w.columns c.before c.after s → WritesNothing c
    → c.after.reached ≤ first_place w.source → Comes c (Err s)
columns_stops c w (stop.Refused why) b text is (inl h) silent few = program_stops c w (stop.Refused why) b text (columns_not_print w is) h silent few
columns_stops c w (stop.Refused why) b text is (inr h) silent few = missing_stops c w h.0 h.2.0 why b text is h.1 h.2.1 h.3 silent few
columns_stops c w stop.NoMemory b text is h silent few = program_stops c w stop.NoMemory b text (columns_not_print w is) h silent few
columns_stops c w stop.ReadFault b text is h silent few = program_stops c w stop.ReadFault b text (columns_not_print w is) h silent few
columns_stops c w _ b text is h silent few = absurd h

-- the tree is accepted, and its columns are beside each other
pub all_accepted_beside : (source : PlainSource) (w : World) (p : PlainTree) (columns : List (List ℕ)) (r : Result Scoped Stop) → SpeltBySource source w p
    → IsWellMade p → length (places p) ≤ 1048576
    → IfOk r (λ s. StandsBeside p columns (scoped_tree s) (scoped_inputs s)) → IfOk r (λ s. IsAcceptedBeside source w columns (scoped_tree s) (scoped_inputs s))
all_accepted_beside source w p columns (Ok s) spelt well few stands =
    record { tree = p; accepted = record { spelt = spelt; no_fault = stands.no_fault; well_made = well; few = few }; beside = stands }
all_accepted_beside source w p columns (Err e) spelt well few stands = tt

pub beside_stop : (source : PlainSource) (old new : World) (p : PlainTree) (columns : List (List ℕ)) (s : Stop) → SpeltBySource source old p → IsWellMade p
    → length (places p) ≤ 1048576
    → IsRefusalOf (RefusesBeside p columns) s → IsColumnsStop source columns old new s
beside_stop source old new p columns (stop.Refused why) spelt well few (inl names) = inl (names_stop source old new p (stop.Refused why) spelt well names)
beside_stop source old new p columns (stop.Refused why) spelt well few (inr h) =
    inr (p, record { spelt = spelt; no_fault = h.0; well_made = well; few = few }, h.1, h.2)
beside_stop source old new p columns stop.NoMemory spelt well few refused = tt
beside_stop source old new p columns _ spelt well few refused = absurd refused

pub source_columns_stop : (source : PlainSource) (columns : List (List ℕ)) (old new : World) (s : Stop) → IsSourceStop RefusesText source old new s
    → IsColumnsStop source columns old new s
source_columns_stop source columns old new (stop.Refused why) h = inl (inl h)
source_columns_stop source columns old new _ h = h

-- the judgment stops the call
pub judging_stops : (c : Call) (w : PlainWords) (p : PlainTree) (free : List (List ℕ)) (e : JudgeRefusal) → Begins c w → IsText w → task_of w ≡ task.Cycles
    → IsAccepted w.source c.before p
    → HasInputs p free → IsJudgeRefusal p e → WritesNothing c → c.after.reached ≤ first_place w.source → Comes c (Err (judge_stop e))
judging_stops c w p free (judge.Outside at) b text is a inputs refused silent few =
    let names = names_of c w p free b text (cycles_not_print w is) a inputs in
    record {
      only = (by_judging names is (record { refusal = judge.Outside at; is = refl; refused = refused }), silent);
      how = inl ((by_judging names is (record { refusal = judge.Outside at; is = refl; refused = refused }), a.well_made), rests_of c w b silent few);
      few_places = few_places c w.source few;
    }
judging_stops c w p free judge.TooMany b text is a inputs refused silent few =
    let names = names_of c w p free b text (cycles_not_print w is) a inputs in
    record {
      only = (by_judging names is (record { refusal = judge.TooMany; is = refl; refused = refused }), silent);
      how = inl ((by_judging names is (record { refusal = judge.TooMany; is = refl; refused = refused }), a.well_made), rests_of c w b silent few);
      few_places = few_places c w.source few;
    }
judging_stops c w p free judge.NoMemory b text is a inputs refused silent few =
    record { only = tt; how = inl (tt, rests_of c w b silent few); few_places = few_places c w.source few }

-- the words of a program that is run
pub words_of : (c : Call) (w : PlainWords) (t : Table) (v : World) (b : RunsTable c w t v) → (asks_for b.program).words ≡ w
words_of c w t v b =
    let there = (asks_for b.program).read in
    let here = b.read in cc (there, here)

-- the table is run, where the words give its inputs files
abbrev pub run_of_table : (c : Call) (w : PlainWords) (t : Table) (v : World) → RunsTable c w t v → FitsGiven t.inputs w.given → IsRun c
run_of_table c w t v b fits =
    let words : (asks_for b.program).words ≡ w = words_of c w t v b in
    record {
      program = b.program;
      task = ap task_of words ∙ b.task;
      fits = subst (λ (x : PlainWords). FitsGiven (inputs_in b.program) x.given) (sym words) (subst (λ names. FitsGiven names w.given) (sym b.inputs) fits);
    }

-- it reads no certificate
first_of : (w : PlainWords) (t : Task) → task_of w ≡ t → certificate_places t ≡ 0 → first_input w ≡ first_place w.source
first_of w t is none =
    let here : certificate_places (task_of w) ≡ certificate_places t = ap certificate_places is in
    ap (λ n. first_place w.source + n) (here ∙ none) ∙ and_none (first_place w.source)
  where
    and_none : (n : ℕ) → n + 0 ≡ n
    and_none n = omega arith

pub first_of_run : (c : Call) (w : PlainWords) (t : Table) (v : World) → RunsTable c w t v → first_input w ≡ first_place w.source
first_of_run c w t v b = first_of w (task_for b.program) b.task (none b.program)
  where
    none : (p : HasProgram c) → certificate_places (task_for p) ≡ 0
    none (by_tree n) = refl
    none (by_columns h) = refl
    none (by_table f) = refl

-- it reaches the source's place and one for each input of the table
pub places_of_table : (c : Call) (w : PlainWords) (t : Table) (v : World) (b : RunsTable c w t v) (fits : FitsGiven t.inputs w.given)
    → run_places (run_of (run_of_table c w t v b fits)) ≡ first_place w.source + length t.inputs
places_of_table c w t v b fits =
    let words : (asks_for b.program).words ≡ w = words_of c w t v b in
    ap (λ x. first_input x + length (inputs_in b.program)) words ∙ ap (λ names. first_input w + length names) b.inputs
    ∙ ap (λ n. n + length t.inputs) (first_of_run c w t v b)

-- the words NAME=FILE stop the call
pub given_stops : (c : Call) (w : PlainWords) (t : Table) (v : World) (s : Stop) → RunsTable c w t v → IsRefusalOf (RefusesGiven t.inputs w.given) s
    → WritesNothing c
    → c.after.reached ≤ first_place w.source → Comes c (Err s)
given_stops c w t v (stop.Refused why) b refused silent few =
    let same : (asks_for b.program).words ≡ w = words_of c w t v b in
    let is : IsAskedFor b.program = ap task_of same ∙ b.task in
    let here : RefusesGiven (inputs_in b.program) (asks_for b.program).words.given why =
    subst (λ (u : PlainWords). RefusesGiven (inputs_in b.program) u.given why) (sym same)
    (subst (λ names. RefusesGiven names w.given why) (sym b.inputs) refused) in
    record {
      only = (by_given b.program (inl is) here, silent);
      how = inl ((by_given b.program (inl is) here, b.made), rests_of c w b.read silent few);
      few_places = few_places c w.source few;
    }
given_stops c w t v stop.NoMemory b refused silent few = memory_stops c w b.read silent few
given_stops c w t v _ b refused silent few = absurd refused

-- the free names of a tree that was resolved
pub inputs_of : (q : PlainTree) (names : List (List ℕ)) (bindings : ℕ → Option Binding) → ∥ IsResolved q names bindings ∥₁ → HasInputs q names
inputs_of q names bindings resolved = ∥∥₁_map resolved (λ r. r.inputs_are)

-- of a place that nothing was consumed of
nothing_consumed : (held : Option (List ℕ)) (contents : Option Contents) (new : Contents) → contents ≡ option_map unread held → contents ≡ Some new
    → new.consumed ≡ []
nothing_consumed None contents new fresh is = absurd (cc (fresh, is))
nothing_consumed (Some bytes) contents new fresh is = let same : new ≡ unread bytes = cc (fresh, is) in ap (λ (x : Contents). x.consumed) same

within : (q w n v : ℕ) → w ≤ q → q < v → v ≤ w + n → (k : ℕ) × (q ≡ w + k) × (k < n)
within q w n v le lt few = (q - w, omega (arith, le), omega (arith, le, lt, few))

fresh_consumed : (files : List (List ℕ)) (old new : World) → AreFresh files old new → new.reached ≤ old.reached + length files → (q : ℕ) → old.reached ≤ q
    → q < new.reached
    → (c : Contents) → (new.place q).contents ≡ Some c → c.consumed ≡ []
fresh_consumed files old new fresh few q le lt c is =
    let k = within q old.reached (length files) new.reached le lt few in
    let file : List ℕ = get_or files k.0 [] in
    let there : slice_get files k.0 ≡ Some file = slice_get-get_or files k.0 [] k.2 in
    let lt' : old.reached + k.0 < new.reached = omega (arith, k.1, lt) in
    let place = fresh k.0 file there lt' in
    nothing_consumed (old.holds file) (new.place (old.reached + k.0)).contents c place.contents (subst (λ n. (new.place n).contents ≡ Some c) k.1 is)

-- where the places of the inputs were reached and no more, nothing of an input is read
pub inputs_unread : (c : Call) (w : PlainWords) (files : List (List ℕ)) (v : World) → c.asked ≡ Some w → v.reached ≡ first_input w → AreFresh files v c.after
    → c.after.reached ≤ v.reached + length files → (u : PlainWords) → c.asked ≡ Some u → (q : ℕ) → first_input u ≤ q → q < c.after.reached
    → (new : Contents) → (c.after.place q).contents ≡ Some new → new.consumed ≡ []
inputs_unread c w files v read first fresh few u asked q le lt new is =
    let same : u ≡ w = cc (asked, read) in
    let le' : first_input w ≤ q = subst (λ x. first_input x ≤ q) same le in
    fresh_consumed files v c.after fresh few q (omega (arith, first, le')) lt new is

-- a place stops the call
pub place_stops : (c : Call) (a : Asks c) (v : World) (s : Stop) → KeepsNames c.before v → KeepsNames v c.after → IsReadStop v c.after s → Rests c
    → c.after.reached ≤ most_places
    → Comes c (Err s)
place_stops c a v stop.ReadFault kept kept' rises rests few =
    record { only = rises_from c.before.faults v.faults c.after.faults kept.faults kept'.faults rises; how = inl (a, rests); few_places = few }
place_stops c a v stop.NoMemory kept kept' rises rests few = record { only = tt; how = inl (tt, rests); few_places = few }
place_stops c a v _ kept kept' rises rests few = absurd rises

-- where nothing is reached, nothing is read
nothing_reached : (c : Call) → WritesNothing c → c.after.reached ≡ 0 → Rests c
nothing_reached c silent none = record { reaches = reaches_nothing none; silent = silent; unread = λ v asked q le lt new is. absurd (omega (arith, lt, none)) }

-- the words stop the call
pub words_stops : (c : Call) (e : WordsRefusal) → (e ≡ words.Usage → c.asked ≡ None) → WritesNothing c → c.after.reached ≡ 0 → Comes c (Err (words_stop e))
words_stops c words.Usage refused silent none = record {
  only = (by_words (refused refl), silent);
  how = inl ((by_words (refused refl), tt), nothing_reached c silent none);
  few_places = omega (arith, none);
}
words_stops c words.NoMemory refused silent none = record { only = tt; how = inl (tt, nothing_reached c silent none); few_places = omega (arith, none) }
