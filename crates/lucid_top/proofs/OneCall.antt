-- A call has one of each thing: words, source, tree, free names, certificate, first refusal; and where it has a run, a text or a check, no refusal.
use Rattle.lucid_top.proofs.Common.{◌≡◌, ◌≢◌, ℕ, ◌<◌, false, Bool, true, List, length, Option, Some, None, ◌⊎◌, inl, inr, refl, sym, ◌∙◌, ap, subst, arith, IsSome, IfSome, slice_get, option_and_then, slice_get_within, cases_order, World, IsWellMade, Table, canonical, HasNoFault, PlainSource, file, made, PlainWords, IsJudged, Refusal, Task, Call, task_of, form_of, is_certificate, Spelt, RefusesText, RefusesNames, RefusesJudging, HasInputs, Given, word_refusal, refusal_at, AreRightBelow, RefusedFirst, RefusesGiven, FitsGiven, by_word, by_two, IsSource, IsTold, Asks, HasTree, HasFlat, HasNames, HasFiles, IsWriting, IsTextFor, prints, judges, flattens, HasColumns, by_tree, by_columns, by_table, asks_for, program_in, inputs_in, IsAskedFor, WantsInputs, IsRun, IsMaking, MayCheck, IsCheck, certificate_file, by_words, by_text, by_flat, by_names, by_missing, by_judging, by_given, by_certificate, IsFlatForm, SpellsTable, RefusesFlat, Program, of_tree, of_columns, of_table, beside, Run, run_of, certificate_of, HoldsCertificate, RefusesCertificate, OneCertificate, CertificateIsNotRefused, OneCertificateRefusal, TellsFiles, IsMade, IsOfMade, OneTextRefusal, OneNameRefusal, OneListOfInputs, OneFlatTable, TableIsNotRefused, OneFlatRefusal}
use Rattle.std.specs.Prelude.{take}
use Rattle.lucid_top.specs.declared.task.Task.TheVariants as task
use Rattle.lucid_top.specs.declared.task.Form.TheVariants as form
use Rattle.lucid_top.specs.Judged.{RefusesColumns}
use Rattle.lucid_top.specs.Stages.{HasSource, columns_named, HasProgram, task_for, Refuses}
use Rattle.lucid_top.specs.Texts.{IsJudgmentLine}
use Rattle.lucid_top.proofs.NoColumn.{one_missing, none_missing}
use Rattle.lucid_top.proofs.NoJudgment.{one_judging_refusal, judged_not_refused}
use Rattle.lucid_top.specs.Laws.{OneTree, TreeIsNotRefused, NamesAreNotRefused}

-- what holds of every source
pub record OneVerdict : Type 0 where
  pub one_tree : OneTree
  pub not_refused : TreeIsNotRefused
  pub one_text_refusal : OneTextRefusal
  pub names_not_refused : NamesAreNotRefused
  pub one_name_refusal : OneNameRefusal
  pub one_list : OneListOfInputs
  pub one_flat_table : OneFlatTable
  pub table_not_refused : TableIsNotRefused
  pub one_flat_refusal : OneFlatRefusal
  pub one_certificate : OneCertificate
  pub certificate_not_refused : CertificateIsNotRefused
  pub one_certificate_refusal : OneCertificateRefusal

-- what a name holds is one list of bytes, where it is told; so is a source
held_once : (held : Option (List ℕ)) (a b : List ℕ) → IsSome held → IfSome held (λ h. a ≡ h) → IfSome held (λ h. b ≡ h) → a ≡ b
held_once None a b told x y = absurd (cc told)
held_once (Some h) a b told x y = x ∙ sym y

source_once : (s : PlainSource) (w : World) (a b : List ℕ) → IsTold s w → IsSource s w a → IsSource s w b → a ≡ b
source_once (file name) w a b told x y = held_once (w.holds name) a b told x y
source_once (made n) w a b told x y = x ∙ sym y

-- the first word that is refused is one
number_once : (free : List (List ℕ)) (given : Given) (v w : Refusal) (a : RefusedFirst free given v) (b : RefusedFirst free given w) → a.number ≡ b.number
number_once free given v w a b = ordered (cases_order a.number b.number)
  where
    ordered : (a.number ≡ b.number) ⊎ ((a.number < b.number) ⊎ (b.number < a.number)) → a.number ≡ b.number
    ordered (inl same) = same
    ordered (inr (inl below)) = let none = b.right a.number below in let is = a.is in absurd (cc (none, is))
    ordered (inr (inr above)) = let none = a.right b.number above in let is = b.is in absurd (cc (none, is))

first_once : (free : List (List ℕ)) (given : Given) (v w : Refusal) → RefusedFirst free given v → RefusedFirst free given w → v ≡ w
first_once free given v w a b =
    let here : refusal_at free given b.number ≡ Some v = subst (λ k. refusal_at free given k ≡ Some v) (number_once free given v w a b) a.is in
    let there = b.is in cc (here, there)

-- it is one of the words
is_within : (o : Option (List ℕ × List ℕ)) (f : List ℕ × List ℕ → Option Refusal) (v : Refusal) → option_and_then f o ≡ Some v
    → (w : List ℕ × List ℕ) × (o ≡ Some w)
is_within None f v is = absurd (cc is)
is_within (Some w) f v is = (w, refl)

first_within : (free : List (List ℕ)) (given : Given) (v : Refusal) (a : RefusedFirst free given v) → a.number < length given
first_within free given v a =
    let there = is_within (slice_get given a.number) (λ word. word_refusal free (take a.number given) word.0) v a.is in
    slice_get_within given a.number there.0 there.1

all_right : (free : List (List ℕ)) (given : Given) (v : Refusal) → RefusedFirst free given v → AreRightBelow free given (length given) → ⊥
all_right free given v a right =
    let none = right a.number (first_within free given v a) in
    let is = a.is in absurd (cc (none, is))

given_once : (free : List (List ℕ)) (given : Given) (v w : Refusal) → RefusesGiven free given v → RefusesGiven free given w → v ≡ w
given_once free given v w (by_word a) (by_word b) = first_once free given v w a b
given_once free given v w (by_word a) (by_two right two) = absurd (all_right free given v a right)
given_once free given v w (by_two right two) (by_word b) = absurd (all_right free given w b right)
given_once free given v w (by_two right two) (by_two right' two') = refl

given_fits : (free : List (List ℕ)) (given : Given) (v : Refusal) → RefusesGiven free given v → FitsGiven free given → ⊥
given_fits free given v (by_word a) fits = all_right free given v a fits.right
given_fits free given v (by_two right two) fits = let one = fits.one_left in absurd (omega (arith, two, one))

-- the words of a call are one, or they are refused
pub same_words : {c : Call} (a b : Asks c) → a.words ≡ b.words
same_words a b =
    let x = a.read in
    let y = b.read in cc (x, y)

pub not_asked : {c : Call} → Asks c → c.asked ≡ None → ⊥
not_asked a none = let x = a.read in absurd (cc (x, none))

-- a call has one task
pub one_task : {c : Call} (a b : Asks c) (x y : Task) → task_of a.words ≡ x → task_of b.words ≡ y → x ≡ y
one_task a b x y is js = sym is ∙ ap task_of (same_words a b) ∙ js

-- what is no flat form isn't one
one_form : {c : Call} (a b : Asks c) → form_of a.words ≡ form.Flat → form_of b.words ≢ form.Flat → ⊥
one_form a b is other = other (ap form_of (same_words b a) ∙ is)

-- the tasks for which a program's inputs are wanted
abbrev wants : Task → Bool
wants task.Run = true
wants task.Columns = true
wants task.Why = true
wants task.Check = true
wants t = false

certificate_wants : (t : Task) → is_certificate t ≡ true → wants t ≡ true
certificate_wants task.Why is = refl
certificate_wants task.Check is = refl
certificate_wants _ is = absurd (cc is)

wanted : {c : Call} (p : HasProgram c) → WantsInputs p → wants (task_of (asks_for p).words) ≡ true
wanted (by_tree n) (inl is) = ap wants is
wanted (by_tree n) (inr is) = certificate_wants (task_of n.program.source.asks.words) is
wanted (by_columns h) (inl is) = ap wants is
wanted (by_columns h) (inr is) = absurd is
wanted (by_table f) (inl is) = ap wants is
wanted (by_table f) (inr is) = absurd is

pub other_task : {c : Call} (p : HasProgram c) (a : Asks c) (t : Task) → WantsInputs p → task_of a.words ≡ t → wants t ≡ false → ⊥
other_task p a t asked is none =
    let some : wants (task_of a.words) ≡ true = subst (λ (w : PlainWords). wants (task_of w) ≡ true) (same_words (asks_for p) a) (wanted p asked) in
    let there : wants (task_of a.words) ≡ wants t = ap wants is in absurd (cc (some, there, none))

-- a run is neither a text nor a certificate, and a certificate is no text
pub wanted_or_text : {c : Call} (p : HasProgram c) → WantsInputs p → IsWriting c → ⊥
wanted_or_text p w (prints t is) = other_task p t.source.asks task.Print w is refl
wanted_or_text p w (judges n is judged) = other_task p n.program.source.asks task.Cycles w is refl
wanted_or_text p w (flattens n is) = other_task p n.program.source.asks task.Flat w is refl

pub run_or_text : {c : Call} → IsRun c → IsWriting c → ⊥
run_or_text r x = wanted_or_text r.program (inl r.task) x

-- the words of a certificate
abbrev pub asks_in : {c : Call} {t : Task} → HasFiles c t → Asks c
asks_in m = m.names.program.source.asks

-- they ask for nothing that isn't one
other_certificate : {c : Call} {t : Task} (m : HasFiles c t) → is_certificate t ≡ true → (a : Asks c) (u : Task) → task_of a.words ≡ u
    → is_certificate u ≡ false → ⊥
other_certificate {t = t} m is a u asked not =
    let same : t ≡ u = one_task (asks_in m) a t u m.task asked in
    let there : is_certificate u ≡ true = subst (λ x. is_certificate x ≡ true) same is in absurd (cc (there, not))

-- what they ask for is one
is_one : {c : Call} {t : Task} (m : HasFiles c t) → is_certificate t ≡ true → is_certificate (task_of (asks_in m).words) ≡ true
is_one m one = ap is_certificate m.task ∙ one

pub run_or_certificate : {c : Call} {t : Task} → IsRun c → HasFiles c t → is_certificate t ≡ true → ⊥
run_or_certificate {c = c} r m is = other_certificate m is (asks_for r.program) (task_for r.program) r.task (by r.program)
  where
    by : (p : HasProgram c) → is_certificate (task_for p) ≡ false
    by (by_tree n) = refl
    by (by_columns h) = refl
    by (by_table f) = refl

pub certificate_or_text : {c : Call} {t : Task} → HasFiles c t → is_certificate t ≡ true → IsWriting c → ⊥
certificate_or_text m is (prints t asked) = other_certificate m is t.source.asks task.Print asked refl
certificate_or_text m is (judges n asked judged) = other_certificate m is n.program.source.asks task.Cycles asked refl
certificate_or_text m is (flattens n asked) = other_certificate m is n.program.source.asks task.Flat asked refl

-- nor is a certificate that is made checked
pub made_or_checked : {c : Call} → IsMaking c → MayCheck c → ⊥
made_or_checked m k = absurd (cc (one_task (asks_in m) (asks_in k) task.Why task.Check m.task k.task))

-- a run of these words, of this program, with inputs of these names
abbrev run_with : PlainWords → Program → List (List ℕ) → Run
run_with w p f = record { words = w; program = p; inputs = f }

one_run : {v w : PlainWords} {p q : Program} {f g : List (List ℕ)} → v ≡ w → p ≡ q → f ≡ g → run_with v p f ≡ run_with w q g
one_run a b e = cc (a, b, e)

module _ (l : OneVerdict) (c : Call) (told : TellsFiles c) where
  -- the source of a call is one, and so are its tree and the free names of that
  same_bytes : (s t : HasSource c) → s.bytes ≡ t.bytes
  same_bytes s t =
      let there : IsSource s.asks.words.source c.before t.bytes =
      subst (λ (w : PlainWords). IsSource w.source c.before t.bytes) (same_words t.asks s.asks) t.is in
      source_once s.asks.words.source c.before s.bytes t.bytes (told s.asks).0 s.is there

  pub same_tree : (t u : HasTree c) → t.tree ≡ u.tree
  same_tree t u = l.one_tree t.source.bytes t.tree u.tree t.spelt (subst (λ b. Spelt b u.tree) (same_bytes u.source t.source) u.spelt)

  pub same_free : (t : HasTree c) → IsWellMade t.tree → (n m : HasNames c) → n.free ≡ m.free
  same_free t well n m =
      let here : HasInputs t.tree n.free = subst (λ p. HasInputs p n.free) (same_tree n.program t) n.are_free in
      let there : HasInputs t.tree m.free = subst (λ p. HasInputs p m.free) (same_tree m.program t) m.are_free in
      l.one_list t.tree n.free m.free well here there

  same_table : (f g : HasFlat c) → f.table ≡ g.table
  same_table f g = l.one_flat_table f.source.bytes f.table g.table f.spelt (subst (λ b. SpellsTable b g.table) (same_bytes g.source f.source) g.spelt)

  -- its columns, and the tree with them as the subject
  same_columns : (n m : HasNames c) → columns_named n ≡ columns_named m
  same_columns n m = ap (λ (w : PlainWords). w.columns) (same_words n.program.source.asks m.program.source.asks)

  same_beside : (n m : HasNames c) → beside n.program.tree (columns_named n) ≡ beside m.program.tree (columns_named m)
  same_beside n m = ap (λ p. beside p (columns_named n)) (same_tree n.program m.program) ∙ ap (beside m.program.tree) (same_columns n m)

  same_free_beside : (h k : HasColumns c) → IsWellMade (beside h.names.program.tree (columns_named h.names)) → h.free ≡ k.free
  same_free_beside h k well =
      l.one_list (beside h.names.program.tree (columns_named h.names)) h.free k.free well h.are_free
      (subst (λ p. HasInputs p k.free) (same_beside k.names h.names) k.are_free)

  -- The program that is asked for is one, and so are the names of its inputs.
  tree_or_columns : (n m : HasNames c) → WantsInputs {c = c} (by_tree n) → task_of m.program.source.asks.words ≡ task.Columns → ⊥
  tree_or_columns n m (inl is) js = absurd (cc (one_task n.program.source.asks m.program.source.asks task.Run task.Columns is js))
  tree_or_columns n m (inr is) js =
      let there : is_certificate (task_of m.program.source.asks.words) ≡ true =
      subst (λ (w : PlainWords). is_certificate (task_of w) ≡ true) (same_words n.program.source.asks m.program.source.asks) is in
      let not : is_certificate (task_of m.program.source.asks.words) ≡ false = ap is_certificate js in absurd (cc (there, not))

  asks_columns : (h : HasColumns c) → WantsInputs {c = c} (by_columns h) → task_of h.names.program.source.asks.words ≡ task.Columns
  asks_columns h (inl is) = is
  asks_columns h (inr is) = absurd is

  pub same_inputs : (p q : HasProgram c) → WantsInputs p → WantsInputs q → IsMade p → inputs_in p ≡ inputs_in q
  same_inputs (by_tree n) (by_tree m) is js well = same_free n.program well n m
  same_inputs (by_tree n) (by_columns h) is js well = absurd (tree_or_columns n h.names is (asks_columns h js))
  same_inputs (by_tree n) (by_table g) is js well = absurd (one_form g.source.asks n.program.source.asks g.form n.program.form)
  same_inputs (by_columns h) (by_tree m) is js well = absurd (tree_or_columns m h.names js (asks_columns h is))
  same_inputs (by_columns h) (by_columns k) is js well = same_free_beside h k well
  same_inputs (by_columns h) (by_table g) is js well = absurd (one_form g.source.asks h.names.program.source.asks g.form h.names.program.form)
  same_inputs (by_table f) (by_tree m) is js well = absurd (one_form f.source.asks m.program.source.asks f.form m.program.form)
  same_inputs (by_table f) (by_columns k) is js well = absurd (one_form f.source.asks k.names.program.source.asks f.form k.names.program.form)
  same_inputs (by_table f) (by_table g) is js well = ap (λ (t : Table). t.inputs) (same_table f g)

  same_program : (p q : HasProgram c) → IsAskedFor p → IsAskedFor q → program_in p ≡ program_in q
  same_program (by_tree n) (by_tree m) is js = ap of_tree (same_tree n.program m.program)
  same_program (by_tree n) (by_columns h) is js = absurd (tree_or_columns n h.names (inl is) js)
  same_program (by_tree n) (by_table g) is js = absurd (one_form g.source.asks n.program.source.asks g.form n.program.form)
  same_program (by_columns h) (by_tree m) is js = absurd (tree_or_columns m h.names (inl js) is)
  same_program (by_columns h) (by_columns k) is js =
      ap (λ p. of_columns p (columns_named h.names)) (same_tree h.names.program k.names.program)
      ∙ ap (of_columns k.names.program.tree) (same_columns h.names k.names)
  same_program (by_columns h) (by_table g) is js = absurd (one_form g.source.asks h.names.program.source.asks g.form h.names.program.form)
  same_program (by_table f) (by_tree m) is js = absurd (one_form f.source.asks m.program.source.asks f.form m.program.form)
  same_program (by_table f) (by_columns k) is js = absurd (one_form f.source.asks k.names.program.source.asks f.form k.names.program.form)
  same_program (by_table f) (by_table g) is js = ap of_table (same_table f g)

  -- the run of a program is one
  pub same_run : (r q : IsRun c) → IsMade q.program → run_of q ≡ run_of r
  same_run r q well =
      one_run (same_words (asks_for q.program) (asks_for r.program)) (same_program q.program r.program q.task r.task)
      (same_inputs q.program r.program (inl q.task) (inl r.task) well)

  -- what is asked for of a certificate is one, and so is the one that is checked
  pub same_certificate : {t u : Task} (m : HasFiles c t) (k : HasFiles c u) → IsWellMade k.names.program.tree → certificate_of k ≡ certificate_of m
  same_certificate m k well =
      one_run (same_words (asks_in k) (asks_in m)) (ap of_tree (same_tree k.names.program m.names.program)) (same_free k.names.program well k.names m.names)

  same_file : (m k : MayCheck c) (a b : List ℕ) → IsSource (file (certificate_file m)) c.before a → IsSource (file (certificate_file k)) c.before b → a ≡ b
  same_file m k a b x y =
      source_once (file (certificate_file m)) c.before a b ((told (asks_in m)).1 m.task) x
      (subst (λ (w : PlainWords). IsSource (file w.check) c.before b) (same_words (asks_in k) (asks_in m)) y)

  pub same_why : (k j : IsCheck c) → j.why ≡ k.why
  same_why k j =
      l.one_certificate k.held.bytes j.why k.why
      (subst (λ b. HoldsCertificate b j.why) (same_file j.may k.may j.held.bytes k.held.bytes j.held.is k.held.is) j.held.holds) k.held.holds

  -- a tree isn't refused, nor is a table, nor are names without a fault
  text_not : (s : HasSource c) (v : Refusal) → RefusesText s.bytes v → HasTree c → ⊥
  text_not s v refused t = l.not_refused s.bytes t.tree v (subst (λ b. Spelt b t.tree) (same_bytes t.source s) t.spelt) refused

  names_not : (t : HasTree c) (v : Refusal) → RefusesNames t.tree v → HasNames c → ⊥
  names_not t v refused n = l.names_not_refused t.tree v (subst HasNoFault (same_tree n.program t) n.no_fault) refused

  flat_not : (s : HasSource c) (v : Refusal) → RefusesFlat s.bytes v → HasFlat c → ⊥
  flat_not s v refused f = l.table_not_refused s.bytes f.table v (subst (λ b. SpellsTable b f.table) (same_bytes f.source s) f.spelt) refused

  -- nor is a program refused, at any stage before
  text_program : (s : HasSource c) (v : Refusal) → form_of s.asks.words ≢ form.Flat → RefusesText s.bytes v → HasProgram c → ⊥
  text_program s v other refused (by_tree n) = text_not s v refused n.program
  text_program s v other refused (by_columns h) = text_not s v refused h.names.program
  text_program s v other refused (by_table f) = one_form f.source.asks s.asks f.form other

  flat_program : (s : HasSource c) (v : Refusal) → form_of s.asks.words ≡ form.Flat → RefusesFlat s.bytes v → HasProgram c → ⊥
  flat_program s v is refused (by_tree n) = one_form s.asks n.program.source.asks is n.program.form
  flat_program s v is refused (by_columns h) = one_form s.asks h.names.program.source.asks is h.names.program.form
  flat_program s v is refused (by_table f) = flat_not s v refused f

  names_program : (t : HasTree c) (v : Refusal) → RefusesNames t.tree v → HasProgram c → ⊥
  names_program t v refused (by_tree n) = names_not t v refused n
  names_program t v refused (by_columns h) = names_not t v refused h.names
  names_program t v refused (by_table f) = one_form f.source.asks t.source.asks f.form t.form

  -- the words NAME=FILE, by one list of names
  given_there : (p q : HasProgram c) (w : Refusal) → inputs_in p ≡ inputs_in q → RefusesGiven (inputs_in q) (asks_for q).words.given w
      → RefusesGiven (inputs_in p) (asks_for p).words.given w
  given_there p q w same refused =
      let words : (asks_for q).words ≡ (asks_for p).words = same_words (asks_for q) (asks_for p) in
      subst (λ f. RefusesGiven f (asks_for p).words.given w) (sym same) (subst (λ (u : PlainWords). RefusesGiven (inputs_in q) u.given w) words refused)

  -- nor is a judged tree
  judging_not : (n : HasNames c) (v : Refusal) → IsJudged n.program.tree → (m : HasNames c) → RefusesJudging m.program.tree v → ⊥
  judging_not n v judged m refused = judged_not_refused n.program.tree v judged (subst (λ p. RefusesJudging p v) (same_tree m.program n.program) refused)

  -- who judges runs nothing
  judging_or_run : (n : HasNames c) (p : HasProgram c) → task_of n.program.source.asks.words ≡ task.Cycles → WantsInputs p → ⊥
  judging_or_run n p is js = other_task p n.program.source.asks task.Cycles js is refl

  -- columns that are there aren't refused, and whoever asks for columns runs nothing else
  missing_there : (n m : HasNames c) (v : Refusal) → RefusesColumns m.program.tree (columns_named m) v → RefusesColumns n.program.tree (columns_named n) v
  missing_there n m v refused =
      subst (λ p. RefusesColumns p (columns_named n) v) (same_tree m.program n.program)
      (subst (λ ns. RefusesColumns m.program.tree ns v) (same_columns m n) refused)

  missing_program : (n : HasNames c) (v : Refusal) → task_of n.program.source.asks.words ≡ task.Columns → RefusesColumns n.program.tree (columns_named n) v
      → (p : HasProgram c) → WantsInputs p → ⊥
  missing_program n v is refused (by_tree m) js = tree_or_columns m n js is
  missing_program n v is refused (by_columns h) js = none_missing h.names.program.tree (columns_named h.names) v h.are (missing_there h.names n v refused)
  missing_program n v is refused (by_table f) js = one_form f.source.asks n.program.source.asks f.form n.program.form

  columns_or : (n : HasNames c) (a : Asks c) (t : Task) → task_of n.program.source.asks.words ≡ task.Columns → task_of a.words ≡ t → task.Columns ≡ t
  columns_or n a t is js = one_task n.program.source.asks a task.Columns t is js

  -- nor are words that give a certificate its files
  given_certificate : {t : Task} (m : HasFiles c t) (p : HasProgram c) (v : Refusal) → WantsInputs p → RefusesGiven (inputs_in p) (asks_for p).words.given v
      → m.names.free ≡ inputs_in p → ⊥
  given_certificate m p v is r same = given_fits m.names.free (asks_in m).words.given v (given_there (by_tree m.names) p v same r) m.fits

  -- A call has one first refusal.
  pub one_refusal : (v w : Refusal) (a : Refuses c v) → IsOfMade a → Refuses c w → v ≡ w
  one_refusal v w (by_words none) is_made (by_words none') = refl
  one_refusal v w (by_words none) is_made (by_text s' other' r') = absurd (not_asked s'.asks none)
  one_refusal v w (by_words none) is_made (by_flat s' is' r') = absurd (not_asked s'.asks none)
  one_refusal v w (by_words none) is_made (by_names t' other' r') = absurd (not_asked t'.source.asks none)
  one_refusal v w (by_words none) is_made (by_missing n' is' r') = absurd (not_asked n'.program.source.asks none)
  one_refusal v w (by_words none) is_made (by_judging n' is' r') = absurd (not_asked n'.program.source.asks none)
  one_refusal v w (by_words none) is_made (by_given p' is' r') = absurd (not_asked (asks_for p') none)
  one_refusal v w (by_words none) is_made (by_certificate m' b' js' r') = absurd (not_asked (asks_in m') none)
  one_refusal v w (by_text s other r) is_made (by_words none') = absurd (not_asked s.asks none')
  one_refusal v w (by_text s other r) is_made (by_text s' other' r') = l.one_text_refusal s.bytes v w r (subst (λ b. RefusesText b w) (same_bytes s' s) r')
  one_refusal v w (by_text s other r) is_made (by_flat s' is' r') = absurd (one_form s'.asks s.asks is' other)
  one_refusal v w (by_text s other r) is_made (by_names t' other' r') = absurd (text_not s v r t')
  one_refusal v w (by_text s other r) is_made (by_missing n' is' r') = absurd (text_not s v r n'.program)
  one_refusal v w (by_text s other r) is_made (by_judging n' is' r') = absurd (text_not s v r n'.program)
  one_refusal v w (by_text s other r) is_made (by_given p' is' r') = absurd (text_program s v other r p')
  one_refusal v w (by_text s other r) is_made (by_certificate m' b' js' r') = absurd (text_not s v r m'.names.program)
  one_refusal v w (by_flat s is r) is_made (by_words none') = absurd (not_asked s.asks none')
  one_refusal v w (by_flat s is r) is_made (by_text s' other' r') = absurd (one_form s.asks s'.asks is other')
  one_refusal v w (by_flat s is r) is_made (by_flat s' is' r') = l.one_flat_refusal s.bytes v w r (subst (λ b. RefusesFlat b w) (same_bytes s' s) r')
  one_refusal v w (by_flat s is r) is_made (by_names t' other' r') = absurd (one_form s.asks t'.source.asks is t'.form)
  one_refusal v w (by_flat s is r) is_made (by_missing n' is' r') = absurd (one_form s.asks n'.program.source.asks is n'.program.form)
  one_refusal v w (by_flat s is r) is_made (by_judging n' is' r') = absurd (one_form s.asks n'.program.source.asks is n'.program.form)
  one_refusal v w (by_flat s is r) is_made (by_given p' is' r') = absurd (flat_program s v is r p')
  one_refusal v w (by_flat s is r) is_made (by_certificate m' b' js' r') = absurd (one_form s.asks (asks_in m') is m'.names.program.form)
  one_refusal v w (by_names t other r) is_made (by_words none') = absurd (not_asked t.source.asks none')
  one_refusal v w (by_names t other r) is_made (by_text s' other' r') = absurd (text_not s' w r' t)
  one_refusal v w (by_names t other r) is_made (by_flat s' is' r') = absurd (one_form s'.asks t.source.asks is' t.form)
  one_refusal v w (by_names t other r) is_made (by_names t' other' r') =
      l.one_name_refusal t.tree v w is_made r (subst (λ p. RefusesNames p w) (same_tree t' t) r')
  one_refusal v w (by_names t other r) is_made (by_missing n' is' r') = absurd (names_not t v r n')
  one_refusal v w (by_names t other r) is_made (by_judging n' is' r') = absurd (names_not t v r n')
  one_refusal v w (by_names t other r) is_made (by_given p' is' r') = absurd (names_program t v r p')
  one_refusal v w (by_names t other r) is_made (by_certificate m' b' js' r') = absurd (names_not t v r m'.names)
  one_refusal v w (by_missing n is r) is_made (by_words none') = absurd (not_asked n.program.source.asks none')
  one_refusal v w (by_missing n is r) is_made (by_text s' other' r') = absurd (text_not s' w r' n.program)
  one_refusal v w (by_missing n is r) is_made (by_flat s' is' r') = absurd (one_form s'.asks n.program.source.asks is' n.program.form)
  one_refusal v w (by_missing n is r) is_made (by_names t' other' r') = absurd (names_not t' w r' n)
  one_refusal v w (by_missing n is r) is_made (by_missing n' is' r') = one_missing n.program.tree (columns_named n) v w r (missing_there n n' w r')
  one_refusal v w (by_missing n is r) is_made (by_judging n' is' r') = absurd (cc (columns_or n n'.program.source.asks task.Cycles is is'))
  one_refusal v w (by_missing n is r) is_made (by_given p' is' r') = absurd (missing_program n v is r p' is')
  one_refusal v w (by_missing n is r) is_made (by_certificate m' b' js' r') = absurd (cc (columns_or n (asks_in m') task.Check is m'.task))
  one_refusal v w (by_judging n is r) is_made (by_words none') = absurd (not_asked n.program.source.asks none')
  one_refusal v w (by_judging n is r) is_made (by_text s' other' r') = absurd (text_not s' w r' n.program)
  one_refusal v w (by_judging n is r) is_made (by_flat s' is' r') = absurd (one_form s'.asks n.program.source.asks is' n.program.form)
  one_refusal v w (by_judging n is r) is_made (by_names t' other' r') = absurd (names_not t' w r' n)
  one_refusal v w (by_judging n is r) is_made (by_missing n' is' r') = absurd (cc (columns_or n' n.program.source.asks task.Cycles is' is))
  one_refusal v w (by_judging n is r) is_made (by_judging n' is' r') =
      one_judging_refusal n.program.tree v w r (subst (λ p. RefusesJudging p w) (same_tree n'.program n.program) r')
  one_refusal v w (by_judging n is r) is_made (by_given p' is' r') = absurd (judging_or_run n p' is is')
  one_refusal v w (by_judging n is r) is_made (by_certificate m' b' js' r') =
      absurd (cc (one_task n.program.source.asks (asks_in m') task.Cycles task.Check is m'.task))
  one_refusal v w (by_given p is r) is_made (by_words none') = absurd (not_asked (asks_for p) none')
  one_refusal v w (by_given p is r) is_made (by_text s' other' r') = absurd (text_program s' w other' r' p)
  one_refusal v w (by_given p is r) is_made (by_flat s' is' r') = absurd (flat_program s' w is' r' p)
  one_refusal v w (by_given p is r) is_made (by_names t' other' r') = absurd (names_program t' w r' p)
  one_refusal v w (by_given p is r) is_made (by_missing n' is' r') = absurd (missing_program n' w is' r' p is)
  one_refusal v w (by_given p is r) is_made (by_judging n' is' r') = absurd (judging_or_run n' p is' is)
  one_refusal v w (by_given p is r) is_made (by_given p' is' r') =
      given_once (inputs_in p) (asks_for p).words.given v w r (given_there p p' w (same_inputs p p' is is' is_made) r')
  one_refusal v w (by_given p is r) is_made (by_certificate m' b' js' r') =
      absurd (given_certificate m' p v is r (sym (same_inputs p (by_tree m'.names) is (inr (ap is_certificate m'.task)) is_made)))
  one_refusal v w (by_certificate m b js r) is_made (by_words none') = absurd (not_asked (asks_in m) none')
  one_refusal v w (by_certificate m b js r) is_made (by_text s' other' r') = absurd (text_not s' w r' m.names.program)
  one_refusal v w (by_certificate m b js r) is_made (by_flat s' is' r') = absurd (one_form s'.asks (asks_in m) is' m.names.program.form)
  one_refusal v w (by_certificate m b js r) is_made (by_names t' other' r') = absurd (names_not t' w r' m.names)
  one_refusal v w (by_certificate m b js r) is_made (by_missing n' is' r') = absurd (cc (columns_or n' (asks_in m) task.Check is' m.task))
  one_refusal v w (by_certificate m b js r) is_made (by_judging n' is' r') =
      absurd (cc (one_task n'.program.source.asks (asks_in m) task.Cycles task.Check is' m.task))
  one_refusal v w (by_certificate m b js r) is_made (by_given p' is' r') =
      absurd (given_certificate m p' w is' r' (same_inputs (by_tree m.names) p' (inr (ap is_certificate m.task)) is' is_made))
  one_refusal v w (by_certificate m b js r) is_made (by_certificate m' b' js' r') =
      l.one_certificate_refusal b v w r (subst (λ x. RefusesCertificate x w) (same_file m' m b' b js' js) r')

  -- a program that is run isn't refused, nor is one of which a text is written
  pub run_not_refused : (x : IsRun c) (v : Refusal) → Refuses c v → ((q : HasProgram c) → WantsInputs q → inputs_in x.program ≡ inputs_in q) → ⊥
  run_not_refused x v (by_words none) lists = not_asked (asks_for x.program) none
  run_not_refused x v (by_text s other r) lists = text_program s v other r x.program
  run_not_refused x v (by_flat s is r) lists = flat_program s v is r x.program
  run_not_refused x v (by_names t other r) lists = names_program t v r x.program
  run_not_refused x v (by_missing n is r) lists = missing_program n v is r x.program (inl x.task)
  run_not_refused x v (by_judging n is r) lists = judging_or_run n x.program is (inl x.task)
  run_not_refused x v (by_given p is r) lists = given_fits (inputs_in x.program) (asks_for x.program).words.given v (given_there x.program p v (lists p is) r)
      x.fits
  run_not_refused x v (by_certificate m b js r) lists = run_or_certificate x m refl

  pub text_not_refused : (x : IsWriting c) (v : Refusal) → Refuses c v → ⊥
  text_not_refused (prints q js) v (by_words none) = absurd (not_asked q.source.asks none)
  text_not_refused (prints q js) v (by_text s other r) = absurd (text_not s v r q)
  text_not_refused (prints q js) v (by_flat s is r) = absurd (one_form s.asks q.source.asks is q.form)
  text_not_refused (prints q js) v (by_names t other r) = absurd (other (ap task_of (same_words t.source.asks q.source.asks) ∙ js))
  text_not_refused (prints q js) v (by_missing n is r) = absurd (cc (columns_or n q.source.asks task.Print is js))
  text_not_refused (prints q js) v (by_judging n is r) = absurd (cc (one_task n.program.source.asks q.source.asks task.Cycles task.Print is js))
  text_not_refused (prints q js) v (by_given p is r) = other_task p q.source.asks task.Print is js refl
  text_not_refused (prints q js) v (by_certificate m' b js' r) = certificate_or_text m' refl (prints q js)
  text_not_refused (judges m js judged) v (by_words none) = absurd (not_asked m.program.source.asks none)
  text_not_refused (judges m js judged) v (by_text s other r) = absurd (text_not s v r m.program)
  text_not_refused (judges m js judged) v (by_flat s is r) = absurd (one_form s.asks m.program.source.asks is m.program.form)
  text_not_refused (judges m js judged) v (by_names t other r) = absurd (names_not t v r m)
  text_not_refused (judges m js judged) v (by_missing n is r) = absurd (cc (columns_or n m.program.source.asks task.Cycles is js))
  text_not_refused (judges m js judged) v (by_judging n is r) = absurd (judging_not m v judged n r)
  text_not_refused (judges m js judged) v (by_given p is r) = other_task p m.program.source.asks task.Cycles is js refl
  text_not_refused (judges m js judged) v (by_certificate m' b js' r) = certificate_or_text m' refl (judges m js judged)
  text_not_refused (flattens m js) v (by_words none) = absurd (not_asked m.program.source.asks none)
  text_not_refused (flattens m js) v (by_text s other r) = absurd (text_not s v r m.program)
  text_not_refused (flattens m js) v (by_flat s is r) = absurd (one_form s.asks m.program.source.asks is m.program.form)
  text_not_refused (flattens m js) v (by_names t other r) = absurd (names_not t v r m)
  text_not_refused (flattens m js) v (by_missing n is r) = absurd (cc (columns_or n m.program.source.asks task.Flat is js))
  text_not_refused (flattens m js) v (by_judging n is r) = absurd (cc (one_task n.program.source.asks m.program.source.asks task.Cycles task.Flat is js))
  text_not_refused (flattens m js) v (by_given p is r) = other_task p m.program.source.asks task.Flat is js refl
  text_not_refused (flattens m js) v (by_certificate m' b js' r) = certificate_or_text m' refl (flattens m js)

  -- a call writes texts of one kind, of one tree
  pub same_text : (x y : IsWriting c) (text : List ℕ) → IsTextFor x text → IsTextFor y text
  same_text (prints t is) (prints t' is') text h = h ∙ ap canonical (same_tree t t')
  same_text (prints t is) (judges n' is' judged') text h = absurd (cc (one_task t.source.asks n'.program.source.asks task.Print task.Cycles is is'))
  same_text (prints t is) (flattens n' is') text h = absurd (cc (one_task t.source.asks n'.program.source.asks task.Print task.Flat is is'))
  same_text (judges n is judged) (prints t' is') text h = absurd (cc (one_task n.program.source.asks t'.source.asks task.Cycles task.Print is is'))
  same_text (judges n is judged) (judges n' is' judged') text h = subst (λ p. IsJudgmentLine p text) (same_tree n.program n'.program) h
  same_text (judges n is judged) (flattens n' is') text h = absurd (cc (one_task n.program.source.asks n'.program.source.asks task.Cycles task.Flat is is'))
  same_text (flattens n is) (prints t' is') text h = absurd (cc (one_task n.program.source.asks t'.source.asks task.Flat task.Print is is'))
  same_text (flattens n is) (judges n' is' judged') text h = absurd (cc (one_task n.program.source.asks n'.program.source.asks task.Flat task.Cycles is is'))
  same_text (flattens n is) (flattens n' is') text h = subst (λ p. IsFlatForm p text) (same_tree n.program n'.program) h

  -- nor is one that is run stopped by the refusal of a well-made tree
  pub run_not_stopped : (x : IsRun c) (v : Refusal) (a : Refuses c v) → IsOfMade a → ⊥
  run_not_stopped x v (by_words none) is_made = not_asked (asks_for x.program) none
  run_not_stopped x v (by_text s other r) is_made = text_program s v other r x.program
  run_not_stopped x v (by_flat s is r) is_made = flat_program s v is r x.program
  run_not_stopped x v (by_names t other r) is_made = names_program t v r x.program
  run_not_stopped x v (by_missing n is r) is_made = missing_program n v is r x.program (inl x.task)
  run_not_stopped x v (by_judging n is r) is_made = judging_or_run n x.program is (inl x.task)
  run_not_stopped x v (by_given p is r) is_made =
      run_not_refused x v (by_given p is r) (λ q js. sym (same_inputs p x.program is (inl x.task) is_made) ∙ same_inputs p q is js is_made)
  run_not_stopped x v (by_certificate m b js r) is_made = run_or_certificate x m refl

  -- Where a certificate is made or may be checked, nothing else than the file of one is refused; and in a check neither is that.
  abbrev pub OfCertificate : {v : Refusal} → Refuses c v → Type 0
  OfCertificate (by_certificate m b js r) = Unit {0}
  OfCertificate r = ⊥

  pub may_refused : {t : Task} (m : HasFiles c t) → is_certificate t ≡ true → (v : Refusal) (a : Refuses c v) → IsWellMade m.names.program.tree ⊎ IsOfMade a
      → OfCertificate a
  may_refused m one v (by_words none) well = absurd (not_asked (asks_in m) none)
  may_refused m one v (by_text s other r) well = absurd (text_not s v r m.names.program)
  may_refused m one v (by_flat s is r) well = absurd (one_form s.asks (asks_in m) is m.names.program.form)
  may_refused m one v (by_names t other r) well = absurd (names_not t v r m.names)
  may_refused m one v (by_missing n is r) well = absurd (other_certificate m one n.program.source.asks task.Columns is refl)
  may_refused m one v (by_judging n is r) well = absurd (other_certificate m one n.program.source.asks task.Cycles is refl)
  may_refused m one v (by_given p is r) (inl well) = absurd (given_certificate m p v is r (same_inputs (by_tree m.names) p (inr (is_one m one)) is well))
  may_refused m one v (by_given p is r) (inr well) = absurd (given_certificate m p v is r (sym (same_inputs p (by_tree m.names) is (inr (is_one m one)) well)))
  may_refused m one v (by_certificate m' b js r) well = tt

  pub check_not_refused : (k : IsCheck c) (v : Refusal) (a : Refuses c v) → IsWellMade k.may.names.program.tree ⊎ IsOfMade a → ⊥
  check_not_refused k v (by_certificate m b js r) well =
      l.certificate_not_refused k.held.bytes k.why v k.held.holds (subst (λ x. RefusesCertificate x v) (same_file m k.may b k.held.bytes js k.held.is) r)
  check_not_refused k v (by_words none) well = may_refused k.may refl v (by_words none) well
  check_not_refused k v (by_text s other r) well = may_refused k.may refl v (by_text s other r) well
  check_not_refused k v (by_flat s is r) well = may_refused k.may refl v (by_flat s is r) well
  check_not_refused k v (by_names t other r) well = may_refused k.may refl v (by_names t other r) well
  check_not_refused k v (by_missing n is r) well = may_refused k.may refl v (by_missing n is r) well
  check_not_refused k v (by_judging n is r) well = may_refused k.may refl v (by_judging n is r) well
  check_not_refused k v (by_given p is r) well = may_refused k.may refl v (by_given p is r) well

  -- Where a certificate is made, nothing is refused.
  pub making_not_refused : (m : IsMaking c) (v : Refusal) (a : Refuses c v) → IsWellMade m.names.program.tree ⊎ IsOfMade a → ⊥
  making_not_refused m v (by_certificate m' b js r) well = made_or_checked m m'
  making_not_refused m v (by_words none) well = may_refused m refl v (by_words none) well
  making_not_refused m v (by_text s other r) well = may_refused m refl v (by_text s other r) well
  making_not_refused m v (by_flat s is r) well = may_refused m refl v (by_flat s is r) well
  making_not_refused m v (by_names t other r) well = may_refused m refl v (by_names t other r) well
  making_not_refused m v (by_missing n is r) well = may_refused m refl v (by_missing n is r) well
  making_not_refused m v (by_judging n is r) well = may_refused m refl v (by_judging n is r) well
  making_not_refused m v (by_given p is r) well = may_refused m refl v (by_given p is r) well
