-- The counting program is a witness of the headline.
use Rattle.lucid_top.proofs.Common.{◌≡◌, ℕ, zero, suc, ◌+◌, ◌<◌, ◌≤◌, ◌⊎◌, List, [], ◌++◌, length, Option, Some, None, false, inl, inr, refl, sym, subst, ◌∙◌, ap, arith, is_some, take-append-le, cases_lt, codes, digits, eod, TextIsRead, number, counting, line, TextsAreLongest, file, PlainWords, words_asked, Status, Call, RunsProgram, elements, Lines, one_line_more, Headline, counting_source, ReadFails}
use Rattle.std.proofs.Common.{take}
use Rattle.std.proofs.lemmas.List.{append-nil}
use Rattle.std.proofs.Math.Seq.{take-append-add}
use Rattle.clap.proofs.OnLiterals.{clap_on_literals}
use Rattle.lucid_words.specs.declared.PolicyWord.TheVariants as policy
use Rattle.lucid_report.specs.declared.status.Status.TheVariants as status
use Rattle.lucid_top.specs.Clauses.{WriteFails}
use Rattle.lucid_top.specs.Headline.{no_lines, at_limit, ConsultsOverlong}
use Rattle.lucid_top.specs.Witness.{three_lines, three_lines_deep, three_numbers, Counts, CountingIsAWitness, DepthIsAWitness}
use Rattle.lucid_top.proofs.CountingSource.{counting-spelt, counting-no-fault, counting-inputs, counting-value}

-- what the words ask for
abbrev words_to : (depth : ℕ) → PlainWords
words_to depth = record {
  source = file (codes "p");
  given = [];
  count = 3;
  depth = depth;
  policy = policy.Keep;
  age = 10;
  room = 10000;
  stats = false;
  print = false;
  columns = [];
  cycles = false;
  why = None;
  check = [];
  flat = false;
  from_flat = false;
}

words_are : words_asked three_lines ≡ Some (words_to 100000)
unfolding words_asked clap_on_literals
words_are = refl

deep_words_are : words_asked three_lines_deep ≡ Some (words_to 1)
unfolding words_asked clap_on_literals
deep_words_are = refl

no_input : {A : Type 0} (n : List ℕ) → ◌≡◌ {A = Option (List ℕ)} None (Some n) → A
no_input n e = absurd (cc e)

-- the first lines of the program are those of 0, 1, 2; and those behind a line
abbrev first_lines : ℕ → List ℕ
first_lines zero = []
first_lines (suc k) = first_lines k ++ line (number k)

abbrev last_lines : ℕ → List ℕ
last_lines zero = codes "1\n2\n"
last_lines (suc zero) = codes "2\n"
last_lines _ = []

all_lines : (k : ℕ) → k < 3 → three_numbers ≡ first_lines k ++ (line (number k) ++ last_lines k)
unfolding digits
all_lines zero lt = refl
all_lines (suc zero) lt = refl
all_lines (suc (suc zero)) lt = refl
all_lines (suc (suc (suc k))) lt = absurd (omega (arith, lt))

three_are_all : first_lines 3 ≡ three_numbers
unfolding digits
three_are_all = refl

-- so many bytes behind the first lines
front_of : (k n : ℕ) → k < 3 → take (length (first_lines k) + n) three_numbers ≡ first_lines k ++ take n (line (number k) ++ last_lines k)
front_of k n lt = ap (take (length (first_lines k) + n)) (all_lines k lt) ∙ take-append-add (first_lines k) (line (number k) ++ last_lines k) n

module _ (longest : TextsAreLongest) (read : TextIsRead) (c : Call) (words : List (List ℕ)) (is : Counts c words) (depth : ℕ)
    (are : words_asked words ≡ Some (words_to depth)) where
  abbrev runs : RunsProgram c
  runs = record {
    words = words_to depth;
    name = codes "p";
    source = counting_source;
    program = counting;
    inputs = [];
    bytes_of = λ n. [];
    already = [];
    asked = is.asked ∙ are;
    run = (refl, refl, refl);
    held = is.held;
    spelt = counting-spelt longest read;
    no_fault = counting-no-fault;
    has_inputs = counting-inputs;
    given = record { right = λ k lt. absurd (omega (arith, lt)); one_left = omega arith };
    inputs_held = λ k n e. no_input n e;
    told = is.nothing_written;
  }

  lines_are : (k : ℕ) (bytes : List ℕ) → Lines runs k bytes → k ≤ 3 → bytes ≡ first_lines k
  lines_are _ _ no_lines le = refl
  lines_are _ _ (one_line_more {k = k} {bytes = bytes} before v d goes_on) le =
      ap (λ x. x ++ line v) (lines_are k bytes before (omega (arith, le)))
      ∙ ap (λ w. first_lines k ++ line w) (counting-value (elements runs) k v (omega (arith, le)) d)

  -- what is written, by the lines and the front
  written : (s : Status) (h : Headline runs s) (front : List ℕ) → h.lines.front ≡ front → c.out_after.bytes ≡ Some (first_lines h.lines.whole ++ front)
  written s h front f =
      h.lines.written
      ∙ ap (λ y. Some (h.lines.lines ++ y)) f
      ∙ ap (λ l. Some (l ++ front)) (lines_are h.lines.whole h.lines.lines h.lines.are_lines h.lines.within)

  three : (s : Status) (h : Headline runs s) → s ≡ status.Done → h.lines.whole ≡ 3
  three s h e = elim (h.stops.done e) [
    | inl all ↦ all
    | inr ends ↦ let never : eod ≡ number h.lines.whole = counting-value (elements runs) h.lines.whole eod ends.0 ends.1 in absurd (cc never)
  ]

  -- where no write failed and there was memory, no line is begun
  none_begun : (s : Status) (h : Headline runs s) → ((s ≡ status.WriteFault) ⊎ (s ≡ status.NoMemory) → ⊥) → h.lines.front ≡ []
  none_begun s h other = elim h.lines.begun [
    | inl none ↦ none
    | inr cut ↦ absurd (other cut.0)
  ]

  writes : (s : Status) → Headline runs s → s ≡ status.Done → c.out_after.bytes ≡ Some three_numbers
  writes s h e =
      written s h [] (none_begun s h (λ other. elim other [ inl f ↦ absurd (cc (e, f)) | inr f ↦ absurd (cc (e, f)) ]))
      ∙ ap (λ k. Some (first_lines k ++ [])) (three s h e)
      ∙ ap Some (append-nil (first_lines 3) ∙ three_are_all)

  -- the whole lines alone
  whole_front : (k : ℕ) → k ≤ 3 → (n : ℕ) × (first_lines k ++ [] ≡ take n three_numbers)
  whole_front k le = by (cases_lt k 3)
    where
      by : (k < 3) ⊎ (3 ≤ k) → (n : ℕ) × (first_lines k ++ [] ≡ take n three_numbers)
      by (inl lt) = (length (first_lines k) + 0, sym (front_of k 0 lt))
      by (inr ge) =
          let last : k ≡ 3 = omega (arith, le, ge) in
          (6, ap (λ j. first_lines j ++ []) last ∙ append-nil (first_lines 3) ∙ three_are_all)

  -- and a front of the next
  begun_front : (k n : ℕ) → k < 3 → n < length (line (number k)) → first_lines k ++ take n (line (number k)) ≡ take (length (first_lines k) + n) three_numbers
  begun_front k n lt short =
      ap (λ y. first_lines k ++ y) (sym (take-append-le n (line (number k)) (last_lines k) (omega (arith, short)))) ∙ sym (front_of k n lt)

  front : (s : Status) → Headline runs s → (n : ℕ) × (c.out_after.bytes ≡ Some (take n three_numbers))
  front s h = elim h.lines.begun [
    | inl none ↦ let all = whole_front h.lines.whole h.lines.within in (all.0, written s h [] none ∙ ap Some all.1)
    | inr cut ↦
        let v = cut.2.0 in
        let n = cut.2.1 in
        let is_number : v ≡ number h.lines.whole = counting-value (elements runs) h.lines.whole v cut.1 cut.2.2 in
        let short : n < length (line (number h.lines.whole)) = subst (λ x. n < length (line x)) is_number cut.2.4 in (
          length (first_lines h.lines.whole) + n,
          written s h (take n (line (number h.lines.whole))) (cut.2.5 ∙ ap (λ x. take n (line x)) is_number)
              ∙ ap Some (begun_front h.lines.whole n cut.1 short),
        )
  ]

  -- nothing is consulted
  nothing_overlong : (whole : ℕ) → ConsultsOverlong runs whole → ⊥
  nothing_overlong whole x = no_input x.1 x.3

module _ (longest : TextsAreLongest) (read : TextIsRead) (c : Call) (is : Counts c three_lines) where
  abbrev here : RunsProgram c
  here = runs longest read c three_lines is 100000 words_are

  -- the limit that is enough for each time
  enough : (t : ℕ) → t < 3 → (m : ℕ) × (m ≤ 100000) × (at_limit here m t ≡ Some (number t))
  enough zero lt = (1, omega arith, refl)
  enough (suc zero) lt = (2, omega arith, refl)
  enough (suc (suc zero)) lt = (3, omega arith, refl)
  enough (suc (suc (suc t))) lt = absurd (omega (arith, lt))

  -- at the last time it stops by its count alone
  at_count : (s : Status) (h : Headline here s) → (ReadFails c → ⊥) → (WriteFails c → ⊥) → 3 ≤ h.lines.whole → (s ≡ status.Done) ⊎ (s ≡ status.NoMemory)
  at_count status.Done h reads writes ge = inl refl
  at_count status.NoMemory h reads writes ge = inr refl
  at_count status.Refused h reads writes ge = absurd (h.stops.accepted (inl refl))
  at_count status.Usage h reads writes ge = absurd (h.stops.accepted (inr refl))
  at_count status.ReadFault h reads writes ge = absurd (reads (h.stops.read_fault refl))
  at_count status.WriteFault h reads writes ge = absurd (writes (h.stops.write_fault refl))
  at_count status.TooDeep h reads writes ge = let lt = (h.stops.too_deep refl).0 in absurd (omega (arith, lt, ge))
  at_count status.TooLarge h reads writes ge =
      absurd (nothing_overlong longest read c three_lines is 100000 words_are h.lines.whole (h.stops.too_large refl))

  done_by : (s : Status) (h : Headline here s) → (ReadFails c → ⊥) → (WriteFails c → ⊥) → (h.lines.whole < 3) ⊎ (3 ≤ h.lines.whole)
      → (s ≡ status.Done) ⊎ (s ≡ status.NoMemory)
  done_by s h reads writes (inl lt) =
      let m = enough h.lines.whole lt in
      h.stops.complete lt m.0 m.1 (ap is_some m.2) reads writes (nothing_overlong longest read c three_lines is 100000 words_are h.lines.whole)
  done_by s h reads writes (inr ge) = at_count s h reads writes ge

pub counting-witness : TextsAreLongest → TextIsRead → CountingIsAWitness
counting-witness longest read c is = record {
  runs = here longest read c is;
  writes = writes longest read c three_lines is 100000 words_are;
  front = front longest read c three_lines is 100000 words_are;
  is_done = λ s h reads writes. done_by longest read c is s h reads writes (cases_lt h.lines.whole 3);
}

module _ (longest : TextsAreLongest) (read : TextIsRead) (c : Call) (is : Counts c three_lines_deep) where
  abbrev deep : RunsProgram c
  deep = runs longest read c three_lines_deep is 1 deep_words_are

  none_here : (s : Status) (h : Headline deep s) → s ≡ status.TooDeep → h.lines.front ≡ []
  none_here s h e =
      none_begun longest read c three_lines_deep is 1 deep_words_are s h (λ other. elim other [ inl f ↦ absurd (cc (e, f)) | inr f ↦ absurd (cc (e, f)) ])

  not_at_first : at_limit deep 1 0 ≡ None → ⊥
  not_at_first e = let some : at_limit deep 1 0 ≡ Some (number 0) = refl in absurd (cc (e, some))

  begins_so : (s : Status) (h : Headline deep s) → s ≡ status.TooDeep → (k : ℕ) → h.lines.whole ≡ k
      → (more : List ℕ) × (c.out_after.bytes ≡ Some (codes "0\n" ++ more))
  unfolding digits
  begins_so s h e zero first = absurd (not_at_first (subst (λ k. at_limit deep 1 k ≡ None) first (h.stops.too_deep e).1))
  begins_so s h e (suc zero) one =
      ([], written longest read c three_lines_deep is 1 deep_words_are s h [] (none_here s h e) ∙ ap (λ k. Some (first_lines k ++ [])) one)
  begins_so s h e (suc (suc zero)) two =
      (codes "1\n", written longest read c three_lines_deep is 1 deep_words_are s h [] (none_here s h e) ∙ ap (λ k. Some (first_lines k ++ [])) two)
  begins_so s h e (suc (suc (suc k))) three = let lt = (h.stops.too_deep e).0 in absurd (omega (arith, lt, three))

pub depth-witness : TextsAreLongest → TextIsRead → DepthIsAWitness
depth-witness longest read c is = record { runs = deep longest read c is; writes = λ s h e. begins_so longest read c is s h e h.lines.whole refl }
