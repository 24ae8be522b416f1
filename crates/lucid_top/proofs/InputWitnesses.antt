-- The program that is an input is a witness of what is consumed.
use Rattle.lucid_top.proofs.Common.{◌≡◌, ℕ, zero, suc, ◌<◌, ◌≤◌, List, [], ◌∷◌, ◌++◌, length, Some, None, false, inl, inr, refl, subst, ◌∙◌, ap, arith, le_refl, codes, digits, pos, eod, PlainValue, line, TextsAreLongest, In, empty, file, PlainWords, words_asked, Contents, Status, Call, RunsProgram, elements, Lines, one_line_more, Headline}
use Rattle.clap.proofs.OnLiterals.{clap_on_literals}
use Rattle.lucid_value.specs.Plain.{int}
use Rattle.lucid_value.specs.Lines.{end_of_line}
use Rattle.lucid_tree.specs.Demand.{consults}
use Rattle.lucid_words.specs.declared.PolicyWord.TheVariants as policy
use Rattle.lucid_report.specs.declared.status.Status.TheVariants as status
use Rattle.lucid_top.specs.Headline.{Has, no_lines}
use Rattle.lucid_top.specs.Witness.{one_line, input_source, two_lines, Reads, InputIsAWitness}
use Rattle.lucid_top.proofs.InputSource.{first_is, input_program, input-spelt, input-no-fault, input-inputs, input-value, input-consulted}

-- what the words ask for
abbrev one_words : PlainWords
one_words = record {
  source = file (codes "p");
  given = [];
  count = 1;
  depth = 100000;
  policy = policy.Keep;
  age = 10;
  room = 10000;
  stats = false;
  print = false;
  columns = [];
  cycles = false;
  why = None;
  check = [];
  flat = false;
  from_flat = false;
}

words_are : words_asked one_line ≡ Some one_words
unfolding words_asked clap_on_literals
words_are = refl

-- the lines of that many values
abbrev sevens : ℕ → List ℕ
sevens zero = []
sevens (suc k) = sevens k ++ line (int (pos 7))

one_seven : sevens 1 ++ [] ≡ codes "7\n"
unfolding digits
one_seven = refl

module _ (longest : TextsAreLongest) (c : Call) (is : Reads c) where
  abbrev runs : RunsProgram c
  runs = record {
    words = one_words;
    name = codes "p";
    source = input_source;
    program = input_program;
    inputs = codes "a" ∷ [];
    bytes_of = λ n. two_lines;
    already = [];
    asked = is.asked ∙ words_are;
    run = (refl, refl, refl);
    held = is.held;
    spelt = input-spelt longest;
    no_fault = input-no-fault;
    has_inputs = input-inputs;
    given = record { right = λ k lt. absurd (omega (arith, lt)); one_left = le_refl 1 };
    inputs_held = λ k n e. is.input;
    told = is.nothing_written;
  }

  value_is : (k : ℕ) (v : PlainValue) → k < 1 → Has runs k v → v ≡ int (pos 7)
  value_is zero v lt d = input-value (elements runs) v (int (pos 7)) (ap Some first_is) d
  value_is (suc k) v lt d = absurd (omega (arith, lt))

  lines_are : (k : ℕ) (bytes : List ℕ) → Lines runs k bytes → k ≤ 1 → bytes ≡ sevens k
  lines_are _ _ no_lines le = refl
  lines_are _ _ (one_line_more {k = k} {bytes = bytes} before v d goes_on) le =
      ap (λ x. x ++ line v) (lines_are k bytes before (omega (arith, le))) ∙ ap (λ w. sevens k ++ line w) (value_is k v (omega (arith, le)) d)

  one : (s : Status) (h : Headline runs s) → s ≡ status.Done → h.lines.whole ≡ 1
  one s h e = elim (h.stops.done e) [
    | inl all ↦ all
    | inr ends ↦ let never : eod ≡ int (pos 7) = value_is h.lines.whole eod ends.0 ends.1 in absurd (cc never)
  ]

  none_begun : (s : Status) (h : Headline runs s) → s ≡ status.Done → h.lines.front ≡ []
  none_begun s h e = elim h.lines.begun [
    | inl none ↦ none
    | inr cut ↦ elim cut.0 [ inl f ↦ absurd (cc (e, f)) | inr f ↦ absurd (cc (e, f)) ]
  ]

  writes : (s : Status) → Headline runs s → s ≡ status.Done → c.out_after.bytes ≡ Some (codes "7\n")
  writes s h e =
      h.lines.written
      ∙ ap (λ f. Some (h.lines.lines ++ f)) (none_begun s h e)
      ∙ ap (λ l. Some (l ++ [])) (lines_are h.lines.whole h.lines.lines h.lines.are_lines h.lines.within ∙ ap sevens (one s h e))
      ∙ ap Some one_seven

  -- only the first element is consulted
  first_alone : (t d j : ℕ) → t < 1 → In (codes "a", j) (consults (elements runs) 100000 d input_program empty t 0) → j ≡ 0
  first_alone zero d j lt i = input-consulted (elements runs) 99999 d j i
  first_alone (suc t) d j lt i = absurd (omega (arith, lt))

  within : (j n : ℕ) → j ≡ 0 → n ≤ end_of_line two_lines j → n ≤ 2
  within j n same le = subst (λ i. n ≤ end_of_line two_lines i) same le

  consumes : (s : Status) → Headline runs s → 1 < c.after.reached → (new : Contents) → (c.after.place 1).contents ≡ Some new
      → (new.consumed ++ new.left ≡ two_lines) × (length new.consumed ≤ 2)
  consumes s h reached new told =
      let x = h.consumed.1 h.consumed.0 (le_refl h.consumed.0) 0 (codes "a") new refl reached told in (
        x.0,
        elim x.1 [
          | inl none ↦ let zero : length new.consumed ≡ 0 = ap length none in omega (arith, zero)
          | inr some ↦ within some.0 (length new.consumed) (first_alone some.1.0 h.consumed.0 some.0 some.1.1 some.1.3) some.2
        ],
      )

pub input-witness : TextsAreLongest → InputIsAWitness
input-witness longest c is = record { runs = runs longest c is; writes = writes longest c is; consumes = consumes longest c is }
