-- How a call comes to its outcome that runs its program.
use Rattle.lucid_top.proofs.Common.{◌≡◌, ◌≢◌, ℕ, zero, suc, ◌⊎◌, ◌+◌, ◌-◌, ◌<◌, ◌≤◌, Bool, true, List, [], length, map, get_or, nat_lt, Some, Ok, Err, inl, inr, sym, ap, subst, ◌∙◌, arith, IfSome, slice_get, unwrap_or, option_map, AllPairs, codes, lt-ltb, range_with_len, length-map, length-range_with_len, get_or-range_with_len, slice_get-get_or, slice_get_within, World, IsFresh, In, Table, most_source_bytes, rises_from, PlainSource, file, made, plain_given, PlainWords, Outcome, Call, Program, Given, FitsGiven, file_given, files_for, asks_for, program_in, IsRun, KeepsNames, ReadsSource, AreFresh, AreUnread, Run, first_place, run_of, unread_place, viewed, view_of, table_program, RanSo, RunComesOnly, ComesOnly, RunsTable, Comes, Rests, WritesNothing, IsReadStop, Stop, all_bytes, reaches_inputs, get_or_from_slice_get, unwrap_or-slice_get, AreKept, first_input, le_refl}
use Rattle.std.proofs.Common.{cond}
use denote.Ref.{Bor}
use Rattle.lucid_ports.specs.World.{Place, unread}
use Rattle.lucid_words.specs.declared.Given.{Given as Word}
use Rattle.lucid_report.specs.declared.stop.Done.TheVariants as done
use Rattle.lucid_report.specs.declared.stop.Stop.TheVariants as stop
use Rattle.lucid_top.specs.Runs.{input_places, under, world_before, world_after, GivesBytes}
use Rattle.lucid_top.specs.Coming.{AreJustReached}
use Rattle.lucid_top.proofs.Ending.{words_of, first_place_le, first_of_run, run_of_table, places_of_table, inputs_unread, place_stops}
use Rattle.lucid_top.proofs.Views.{TellAlike, ran_alike}

-- a number of a range
pub in_range : (a n k q : ℕ) → slice_get (range_with_len a n) k ≡ Some q → (q ≡ a + k) × (k < n)
in_range a n k q at =
    let long : length (range_with_len a n) ≡ n = length-range_with_len a n in
    let lt : k < n = omega (arith, slice_get_within (range_with_len a n) k q at, long) in
    (sym (get_or_from_slice_get (range_with_len a n) k q q at) ∙ get_or-range_with_len a n k q lt, lt)

-- the numbers of a range differ
pub range_differs : (a n : ℕ) → AllPairs (λ x y. x ≢ y) (range_with_len a n)
range_differs a n i j d lt below same =
    let long : length (range_with_len a n) ≡ n = length-range_with_len a n in
    let first : get_or (range_with_len a n) i d ≡ a + i = get_or-range_with_len a n i d (omega (arith, lt, below, long)) in
    let later : get_or (range_with_len a n) j d ≡ a + j = get_or-range_with_len a n j d (omega (arith, below, long)) in
    absurd (omega (arith, first, later, same, lt))

-- no number below a range stands in it
not_in_range : (a n k : ℕ) → k < a → In k (range_with_len a n) → ⊥
not_in_range a zero k below is = is
not_in_range a (suc n) k below (inl is) = absurd (omega (arith, is, below))
not_in_range a (suc n) k below (inr is) = not_in_range (a + 1) n k (omega (arith, below)) is

-- the source's place is read no more once the inputs are reached
pub source_stays : (most : ℕ) (s : PlainSource) (v u : World) → ReadsSource most s v → v.reached ≡ first_place s → AreKept v u → ReadsSource most s u
source_stays most (file name) v u within first stays = λ some.
    let was : 0 < v.reached = omega (arith, first) in
    subst (λ (p : Place). IfSome p.contents (λ x. length x.consumed ≤ most)) (sym (stays 0 was)) (within was)
source_stays most (made n) v u within first stays = tt

-- places that were reached before those with these numbers stay as they were
pub earlier_stay : (v u w : World) (n : ℕ) (numbers : List ℕ) → AreKept v u → (a : ℕ) → v.reached ≤ a → numbers ≡ range_with_len a n
    → ((k : ℕ) → In k numbers ⊎ (w.place k ≡ u.place k)) → AreKept v w
earlier_stay v u w n numbers stays a le are others q lt = kept (others q)
  where
    kept : In q numbers ⊎ (w.place q ≡ u.place q) → w.place q ≡ v.place q
    kept (inl is) = absurd (not_in_range a n q (omega (arith, lt, le)) (subst (In q) are is))
    kept (inr same) = same ∙ stays q lt

pub source_run : (most : ℕ) (s : PlainSource) (v u w : World) (n : ℕ) (numbers : List ℕ) → ReadsSource most s v → v.reached ≡ first_place s → AreKept v u
    → numbers ≡ range_with_len v.reached n → ((k : ℕ) → In k numbers ⊎ (w.place k ≡ u.place k)) → ReadsSource most s w
source_run most s v u w n numbers within first stays are others =
    source_stays most s v w within first (earlier_stay v u w n numbers stays v.reached (le_refl v.reached) are others)

-- nothing is read of the places just reached
pub all_unread : (files : List (List ℕ)) (old new : World) (numbers : List ℕ) → AreFresh files old new → new.reached ≡ old.reached + length files
    → numbers ≡ range_with_len old.reached (length files) → AreUnread numbers new
all_unread files old new numbers fresh reached are k q at =
    let here = in_range old.reached (length files) k q (subst (λ l. slice_get l k ≡ Some q) are at) in
    let lt : q < new.reached = omega (arith, here.0, here.1, reached) in
    let lt' : old.reached + k < new.reached = omega (arith, here.1, reached) in
    let file : List ℕ = get_or files k [] in
    let place : IsFresh (old.holds file) (new.place (old.reached + k)) = fresh k file (slice_get-get_or files k [] here.1) lt' in
    (lt, (old.holds file, subst (λ n. IsFresh (old.holds file) (new.place n)) (sym here.0) place))

-- what a test lets through
let_through : (b : Bool) (x y : Place) → b ≡ true → (cond b x y).contents ≡ x.contents
let_through b x y is = ap (λ t. (cond t x y).contents) is

-- the same by names that are the same and by the same words
pub carried : (P : List (List ℕ) → Given → Type 0) (a b : List (List ℕ)) (ws vs : List Word) → a ≡ b → ws ≡ vs → P a (map plain_given ws)
    → P b (map plain_given vs)
carried P a b ws vs names words h = subst (λ x. P x (map plain_given vs)) names (subst (λ (y : List Word). P a (map plain_given y)) words h)

-- the files as they are reached
pub refs_are : (refs refs' : List (Bor (List ℕ))) (files : List (List ℕ)) → refs ≡ refs' → map (λ file. file.now) refs' ≡ files
    → map (λ file. file.now) refs ≡ files
refs_are refs refs' files same is = ap (map (λ (file : Bor (List ℕ)). file.now)) same ∙ is

pub refs_long : (refs : List (Bor (List ℕ))) (files : List (List ℕ)) → map (λ file. file.now) refs ≡ files → length refs ≡ length files
refs_long refs files is = sym (length-map refs (λ (file : Bor (List ℕ)). file.now)) ∙ ap length is

-- as many files as names
pub files_long : (free : List (List ℕ)) (given : Given) → length (files_for free given) ≡ length free
files_long free given = length-map free (λ n. unwrap_or (file_given given n) (codes "-"))

-- the files that are reached are those of the free names
pub record Reached (free : List (List ℕ)) (given : Given) (v u : World) (numbers : List ℕ) : Type 0 where
  pub fresh : AreFresh (files_for free given) v u
  pub reached : u.reached ≡ v.reached + length (files_for free given)
  pub numbers_are : numbers ≡ range_with_len v.reached (length (files_for free given))

pub reached_of : (free : List (List ℕ)) (given : Given) (refs refs' : List (Bor (List ℕ))) (v u : World) (numbers : List ℕ) → refs ≡ refs'
    → map (λ file. file.now) refs' ≡ files_for free given
    → AreFresh (map (λ file. file.now) refs) v u → u.reached ≡ v.reached + length refs → numbers ≡ range_with_len v.reached (length refs)
    → Reached free given v u numbers
reached_of free given refs refs' v u numbers same are fresh reached numbers_are =
    let files : map (λ file. file.now) refs ≡ files_for free given = refs_are refs refs' (files_for free given) same are in
    let long : length refs ≡ length (files_for free given) = refs_long refs (files_for free given) files in
    record {
      fresh = subst (λ fs. AreFresh fs v u) files fresh;
      reached = omega (arith, reached, long);
      numbers_are = numbers_are ∙ ap (range_with_len v.reached) long;
    }

-- what the place of an input tells that was just reached, told from its file
told_there : (c : Call) (w : PlainWords) (p : Program) (free : List (List ℕ)) (v u : World) → v.reached ≡ first_input w → KeepsNames c.before v
    → AreFresh (files_for free w.given) v u → (k q : ℕ) → q ≡ first_input w + k → k < length (files_for free w.given) → q < u.reached
    → (unread_place c (record { words = w; program = p; inputs = free }) q).contents ≡ (u.place q).contents
told_there c w p free v u first kept fresh k q is below lt =
    let files : List (List ℕ) = files_for free w.given in
    let file : List ℕ = get_or files k [] in
    let at_place : q ≡ v.reached + k = omega (arith, is, first) in
    let back : q - first_input w ≡ k = omega (arith, is) in
    let place : IsFresh (v.holds file) (u.place (v.reached + k)) = fresh k file (slice_get-get_or files k [] below) (omega (arith, at_place, lt)) in
    let name : unwrap_or (slice_get files (q - first_input w)) [] ≡ file = ap (λ j. unwrap_or (slice_get files j) []) back ∙ unwrap_or-slice_get files k [] in
    ap (λ n. option_map unread (c.before.holds n)) name ∙ ap (option_map unread) (sym (kept.names file)) ∙ sym place.contents
    ∙ ap (λ n. (u.place n).contents) (sym at_place)

-- so it is of all of them before the run
told_before : (c : Call) (w : PlainWords) (p : Program) (free : List (List ℕ)) (v u : World) → v.reached ≡ first_input w → KeepsNames c.before v
    → AreFresh (files_for free w.given) v u → u.reached ≡ v.reached + length (files_for free w.given)
    → (k q : ℕ) → slice_get (range_with_len (first_input w) (length free)) k ≡ Some q
    → (unread_place c (record { words = w; program = p; inputs = free }) q).contents ≡ (u.place q).contents
told_before c w p free v u first kept fresh reached k q at =
    let long : length (files_for free w.given) ≡ length free = files_long free w.given in
    let here = in_range (first_input w) (length free) k q at in
    told_there c w p free v u first kept fresh k q here.0 (omega (arith, here.1, long)) (omega (arith, here.0, here.1, long, first, reached))

-- the command's own view of its inputs tells the same as their places
pub tells_alike : (c : Call) (w : PlainWords) (p : Program) (free : List (List ℕ)) (v u : World) → v.reached ≡ first_input w → KeepsNames c.before v
    → KeepsNames v u
    → AreFresh (files_for free w.given) v u → u.reached ≡ v.reached + length (files_for free w.given) → c.after.reached ≡ u.reached → u.faults ≤ c.after.faults
    → TellAlike (input_places (record { words = w; program = p; inputs = free })) u c.after
    (world_before c (record { words = w; program = p; inputs = free })) (world_after c (record { words = w; program = p; inputs = free }))
tells_alike c w p free v u first kept kept' fresh reached same mono = record {
  before = told_before c w p free v u first kept fresh reached;
  after = λ k q at.
      let here = in_range (first_input w) (length free) k q at in
      let long : length (files_for free w.given) ≡ length free = files_long free w.given in
      let lt : q < c.after.reached = omega (arith, here.0, here.1, long, first, reached, same) in
      let_through (nat_lt q c.after.reached) (c.after.place q) (unread_place c (record { words = w; program = p; inputs = free }) q)
      (lt-ltb q c.after.reached lt);
  faults = λ rises. rises_from c.before.faults u.faults c.after.faults (omega (arith, kept.faults, kept'.faults)) mono rises;
}

-- what a run has for its outcome, the call has
run_only : (c : Call) (r : IsRun c) (u : World) (o : Outcome) → c.before.faults ≤ u.faults → u.faults ≤ c.after.faults
    → RunComesOnly c.policy (run_of r).words (run_of r).inputs u.faults c.after.faults c.out_before.faults c.out_after.faults o → ComesOnly c o
run_only c r u (Ok (done.Ran summary stats)) le mono h = (r, h.0, h.1)
run_only c r u (Ok done.Written) le mono h = absurd h
run_only c r u (Err (stop.Refused why)) le mono h = absurd h
run_only c r u (Err stop.ReadFault) le mono h = rises_from c.before.faults u.faults c.after.faults le mono h
run_only c r u (Err stop.WriteFault) le mono h = h
run_only c r u (Err (stop.TooDeep time lost cleared stats)) le mono h = inl (r, h)
run_only c r u (Err (stop.TooLarge stream name)) le mono h = inl (r, h)
run_only c r u (Err (stop.Wrong judgment)) le mono h = absurd h
run_only c r u (Err stop.NoMemory) le mono h = tt

-- what is known of a run once it has ended, over the places as they were after the source was read, and once the inputs were reached
pub record Ended (c : Call) (w : PlainWords) (t : Table) (v u : World) (numbers : List ℕ) (o : Outcome) : Type 0 where
  pub kept_on : KeepsNames v u
  pub inputs : Reached t.inputs w.given v u numbers
  pub few : length t.inputs ≤ most_source_bytes
  pub same_reached : c.after.reached ≡ u.reached
  pub faults : u.faults ≤ c.after.faults
  pub bytes : (k : ℕ) → option_map all_bytes (c.after.place k).contents ≡ option_map all_bytes (u.place k).contents
  pub ran : RanSo (table_program w t) (under c.policy (viewed w t.inputs numbers u c.after c.out_before c.out_after)) o
  pub only : RunComesOnly c.policy w t.inputs u.faults c.after.faults c.out_before.faults c.out_after.faults o

-- a run of these words, of this program, with inputs of these names
abbrev pub run_with : PlainWords → Program → List (List ℕ) → Run
run_with w p names = record { words = w; program = p; inputs = names }

pub one_run : {v w : PlainWords} (p : Program) {f g : List (List ℕ)} → v ≡ w → f ≡ g → run_with v p f ≡ run_with w p g
one_run p a b = cc (a, b)

-- the places of the inputs stop the call
just_reached : (c : Call) (w : PlainWords) (p : Program) (free : List (List ℕ)) (v : World) → v.reached ≡ first_input w → KeepsNames c.before v
    → AreFresh (files_for free w.given) v c.after → c.after.reached ≤ v.reached + length (files_for free w.given) → AreJustReached c (run_with w p free)
just_reached c w p free v first kept fresh few q le lt =
    sym (told_there c w p free v c.after first kept fresh (q - first_input w) q (omega (arith, le)) (omega (arith, le, lt, few, first)) lt)

pub reaching_stops : (c : Call) (w : PlainWords) (t : Table) (v : World) (s : Stop) → RunsTable c w t v → FitsGiven t.inputs w.given
    → KeepsNames v c.after → AreFresh (files_for t.inputs w.given) v c.after → c.after.reached ≤ v.reached + length (files_for t.inputs w.given)
    → length (files_for t.inputs w.given) ≤ most_source_bytes → IsReadStop v c.after s → WritesNothing c → Comes c (Err s)
reaching_stops c w t v s b fits kept fresh few short why silent =
    let one = first_place_le w.source in
    let first = b.first in
    let as_many = files_long t.inputs w.given in
    let places = places_of_table c w t v b fits in
    let p : Program = program_in b.program in
    let r : IsRun c = run_of_table c w t v b fits in
    let same : run_with w p t.inputs ≡ run_of r = one_run p (sym (words_of c w t v b)) (sym b.inputs) in
    let first_here : v.reached ≡ first_input w = b.first ∙ sym (first_of_run c w t v b) in
    let rests : Rests c = record {
      reaches = reaches_inputs r b.made (omega (arith, few, first, as_many, places))
          (subst (AreJustReached c) same (just_reached c w p t.inputs v first_here b.kept fresh few));
      silent = silent;
      unread = inputs_unread c w (files_for t.inputs w.given) v b.read first_here fresh few;
    } in
    place_stops c (asks_for b.program) v s b.kept kept why rests (omega (arith, few, short, first, one))

-- what is consumed of the inputs and what is left of them are the bytes of their files
gives_bytes : (c : Call) (p : Run) (u : World) → TellAlike (input_places p) u c.after (world_before c p) (world_after c p)
    → ((k : ℕ) → option_map all_bytes (c.after.place k).contents ≡ option_map all_bytes (u.place k).contents) → GivesBytes (view_of c p)
gives_bytes c p u alike same k n q is =
    ap (option_map all_bytes) (alike.after k q is.1) ∙ same q ∙ sym (ap (option_map all_bytes) (alike.before k q is.1))

pub runs : (c : Call) (w : PlainWords) (t : Table) (v u : World) (numbers : List ℕ) (o : Outcome) → RunsTable c w t v → FitsGiven t.inputs w.given
    → Ended c w t v u numbers o → Comes c o
runs c w t v u numbers o b fits e =
    let p : Program = program_in b.program in
    let words : (asks_for b.program).words ≡ w = words_of c w t v b in
    let r : IsRun c = run_of_table c w t v b fits in
    let same : run_with w p t.inputs ≡ run_of r = one_run p (sym words) (sym b.inputs) in
    let long : length (files_for t.inputs w.given) ≡ length t.inputs = files_long t.inputs w.given in
    let first_here : v.reached ≡ first_input w = b.first ∙ sym (first_of_run c w t v b) in
    let places : numbers ≡ range_with_len (first_input w) (length t.inputs) =
    e.inputs.numbers_are ∙ ap (λ n. range_with_len n (length (files_for t.inputs w.given))) first_here ∙ ap (range_with_len (first_input w)) long in
    let seen : RanSo p (under c.policy (viewed w t.inputs (range_with_len (first_input w) (length t.inputs)) u c.after c.out_before c.out_after)) o =
    subst (λ qs. RanSo p (under c.policy (viewed w t.inputs qs u c.after c.out_before c.out_after)) o) places (b.runs _ o e.ran) in
    let alike = tells_alike c w p t.inputs v u first_here b.kept e.kept_on e.inputs.fresh e.inputs.reached e.same_reached e.faults in
    let one = first_place_le w.source in
    let first = b.first in
    let few = e.few in
    let reached = places_of_table c w t v b fits in
    let ran : RanSo p (under c.policy (view_of c (run_with w p t.inputs))) o =
    ran_alike c.policy w t.inputs (range_with_len (first_input w) (length t.inputs)) u c.after (world_before c (run_with w p t.inputs))
    (world_after c (run_with w p t.inputs)) c.out_before c.out_after alike p o seen in
    let only : RunComesOnly c.policy (run_of r).words (run_of r).inputs u.faults c.after.faults c.out_before.faults c.out_after.faults o =
    subst (λ (x : Run). RunComesOnly c.policy x.words x.inputs u.faults c.after.faults c.out_before.faults c.out_after.faults o) same e.only in
    record {
      only = run_only c r u o (omega (arith, b.kept.faults, e.kept_on.faults)) e.faults only;
      how =
          inr
          (inl (
            r,
            b.made,
            subst (λ (x : Run). RanSo x.program (under c.policy (view_of c x)) o) same ran,
            omega (arith, e.same_reached, e.inputs.reached, long, first, reached),
            subst (λ (x : Run). GivesBytes (view_of c x)) same (gives_bytes c (run_with w p t.inputs) u alike e.bytes),
          ));
      few_places = omega (arith, e.same_reached, e.inputs.reached, long, few, first, one);
    }
