-- A check and the making of a certificate, of the program that is an input, are witnesses of the clauses of the command.
use Rattle.lucid_top.proofs.Common.{◌≡◌, ◌≢◌, ℕ, zero, suc, ◌⊎◌, List, [], ◌∷◌, ◌++◌, length, Option, Some, None, Ok, Err, false, inl, inr, refl, sym, subst, ◌∙◌, ap, arith, le_refl, IfSome, IsSome, option_map, slice_get, codes, digits, pos, TextsAreLongest, IsOverlong, Elements, empty, file, PlainWords, words_asked, all_bytes, with_all, Told, RunView, HasElements, tree_stream, Table, Status, Outcome, Call, task_of, view_of, certificate_of, IsTold, Asks, HasNames, HasFiles, IsCheck, IsMaking, ReadFails, TellsFiles, ComesOnly, MeetsClauses, EndsCheck, EndsMaking, by_checking, before_checking, by_making, before_making, IsLast, IsLastLine, LiesPast, HeldCertificate, Why, IsRight}
use Rattle.std.proofs.lemmas.Option.{same_Some}
use Rattle.clap.proofs.OnLiterals.{clap_on_literals}
use Rattle.lucid_value.specs.Plain.{int}
use Rattle.lucid_value.specs.ValueText.{value_text}
use Rattle.lucid_value.specs.Elements.{element}
use Rattle.lucid_tree.proofs.Growth.{meant-once, val-up}
use Rattle.lucid_words.specs.declared.PolicyWord.TheVariants as policy
use Rattle.lucid_ports.specs.World.{unread}
use Rattle.lucid_tags.specs.Contexts.{root}
use Rattle.lucid_compile.specs.Settled.{table_of as tree_table}
use Rattle.lucid_cert_rules.specs.Certificates.{PlainJudgment}
use Rattle.lucid_cert_rules.specs.WhyText.{why_text}
use Rattle.lucid_cert_rules.specs.WhyTexts.{IsTextOf}
unfoldable use Rattle.lucid_cert_rules.specs.Follows.{contexts}
use Rattle.lucid_cert_rules.specs.Follows.{FollowsIn, used}
use Rattle.lucid_cert_rules.proofs.GivenBy.{input_gives}
use Rattle.lucid_cert.proofs.RightOnes.{right_is_not_wrong}
use Rattle.lucid_session.specs.Runs.{IsInput}
use Rattle.lucid_report.specs.Lines.{line_at}
use Rattle.lucid_report.specs.Status.{status_of}
use Rattle.lucid_report.specs.declared.status.Status.TheVariants as status
use Rattle.lucid_report.specs.declared.stop.Done.TheVariants as done
use Rattle.lucid_report.specs.declared.stop.Stop.TheVariants as stop
use Rattle.lucid_top.specs.declared.task.Task.TheVariants as task
use Rattle.lucid_top.specs.Clauses.{WriteFails}
use Rattle.lucid_top.specs.Witness.{input_source, two_lines, check_words, seven_certificate, AsksCheck, CheckIsAWitness, why_words, AsksWhy, EndsWithSeven, MakingIsAWitness}
use Rattle.lucid_top.proofs.OneCall.{same_words, one_task}
use Rattle.lucid_top.proofs.RunEnds.{in_range}
use Rattle.lucid_top.proofs.InputSource.{first_is, input_program, input-spelt, input-no-fault, input-inputs}

-- what the words ask for
abbrev words_for : (why : Option ℕ) → (check : List ℕ) → PlainWords
words_for why check = record {
  source = file (codes "p");
  given = [];
  count = 20;
  depth = 100000;
  policy = policy.Keep;
  age = 10;
  room = 10000;
  stats = false;
  print = false;
  columns = [];
  cycles = false;
  why = why;
  check = check;
  flat = false;
  from_flat = false;
}

check_words_are : words_asked check_words ≡ Some (words_for None (codes "w"))
unfolding words_asked clap_on_literals
check_words_are = refl

why_words_are : words_asked why_words ≡ Some (words_for (Some 0) [])
unfolding words_asked clap_on_literals
why_words_are = refl

-- the elements of the input
abbrev b : Elements
b = λ n j. Some (element two_lines j)

-- no line of so few bytes lies past what may be read
not_long : (bytes : List ℕ) (j : ℕ) → bytes ≡ two_lines → IsOverlong bytes j 268435456 → ⊥
not_long bytes j is long = let few : length bytes ≡ 4 = ap length is in omega (arith, few, long.0)

-- a status that is done or has found no memory
abbrev pub IsDoneOr : Status → Type 0
IsDoneOr s = (s ≡ status.Done) ⊎ (s ≡ status.NoMemory)

-- How a call ends, by what is told of its outcome: where it is done, and where no call fails.
module _ (c : Call) (p q : Told) (s : Status) (m : MeetsClauses c p q s) where
  pub by_done : (P : Type 0) → ((o : Outcome) → o ≡ m.outcome → status.Done ≡ status_of o → P) → s ≡ status.Done → P
  by_done P f is = elim m.report [
    | inl whole ↦ f m.outcome refl (sym is ∙ whole.0)
    | inr other ↦ elim other [ inl front ↦ f m.outcome refl (sym is ∙ front.0) | inr none ↦ absurd (cc (is, none.0)) ]
  ]

  pub by_status : ((o : Outcome) → o ≡ m.outcome → IsDoneOr (status_of o)) → IsDoneOr s
  by_status f = elim m.report [
    | inl whole ↦ subst IsDoneOr (sym whole.0) (f m.outcome refl)
    | inr other ↦ elim other [ inl front ↦ subst IsDoneOr (sym front.0) (f m.outcome refl) | inr none ↦ inr none.0 ]
  ]

-- The stages of a call over the program, whose source is told.
module _ (longest : TextsAreLongest) (c : Call) (why : Option ℕ) (check : List ℕ) (asked : c.asked ≡ Some (words_for why check))
    (held : c.before.holds (codes "p") ≡ Some input_source) where
  abbrev asks : Asks c
  asks = record { words = words_for why check; read = asked }

  abbrev names : task_of (words_for why check) ≢ task.Print → HasNames c
  names other = record {
    program = record {
      source = record {
        asks = asks;
        bytes = input_source;
        is = subst (λ o. IfSome o (λ bytes. input_source ≡ bytes)) (sym held) refl;
      };
      form = λ e. absurd (cc e);
      tree = input_program;
      spelt = input-spelt longest;
    };
    task = other;
    no_fault = input-no-fault;
    free = codes "a" ∷ [];
    are_free = input-inputs;
  }

  source_told : (a : Asks c) → IsTold a.words.source c.before
  source_told a = subst (λ (w : PlainWords). IsTold w.source c.before) (same_words asks a) (subst (λ o. IsSome o) (sym held) refl)

-- The check.
module _ (longest : TextsAreLongest) (c : Call) (is : AsksCheck c) where
  abbrev check_is : PlainWords
  check_is = words_for None (codes "w")

  asked_check : c.asked ≡ Some check_is
  asked_check = is.asked ∙ check_words_are

  abbrev seven : PlainJudgment
  seven = record { node = 0; context = 0; time = 0; space = 0; uses = []; value = int (pos 7) }

  abbrev w : Why
  w = record { contexts = []; judgments = seven ∷ [] }

  its_text : seven_certificate ≡ why_text w
  unfolding digits
  its_text = refl

  text_of_w : IsTextOf seven_certificate w
  text_of_w = record {
    has = record {
      rows = (record { node = omega arith; context = omega arith; shown = record { time = omega arith; space = omega arith; few = omega arith; uses = tt }; value = refl }, tt);
      some = omega arith;
    };
    text = its_text;
  }

  abbrev may : HasFiles c task.Check
  may = record {
    names = names longest c None (codes "w") asked_check is.held (λ e. absurd (cc e));
    task = refl;
    fits = record { right = λ k lt. absurd (omega (arith, lt)); one_left = le_refl 1 };
  }

  held_certificate : HeldCertificate (codes "w") c.before w
  held_certificate =
      let short : length seven_certificate ≡ 14 = refl in
      record {
        bytes = seven_certificate;
        is = subst (λ o. IfSome o (λ bytes. seven_certificate ≡ bytes)) (sym is.certificate) refl;
        holds = record { short = omega (arith, short); text = text_of_w };
      }

  abbrev is_check : IsCheck c
  is_check = record { may = may; why = w; held = held_certificate }

  tells : TellsFiles c
  tells a = (
    source_told longest c None (codes "w") asked_check is.held a,
    λ t.
        subst (λ (v : PlainWords). IsTold (file v.check) c.before) (same_words (asks longest c None (codes "w") asked_check is.held) a)
        (subst (λ o. IsSome o) (sym is.certificate) refl),
  )

  abbrev view : RunView
  view = view_of c (certificate_of may)

  -- the place of the input holds the lines
  holds : (k : ℕ) (n : List ℕ) (q : ℕ) → IsInput view k n q → (view.before.place q).contents ≡ Some (unread two_lines)
  holds zero n q at =
      let place : q ≡ 2 = omega (arith, (in_range 2 1 0 q at.1).0) in
      subst (λ x. (view.before.place x).contents ≡ Some (unread two_lines)) (sym place) (ap (option_map unread) is.input)
  holds (suc k) n q at = let none : ◌≡◌ {A = Option (List ℕ)} None (Some n) = at.0 in absurd (cc none)

  has_elements : HasElements view b
  has_elements k n q at = (unread two_lines, holds k n q at, λ j. refl)

  abbrev T : Table
  T = tree_table input_program (codes "a" ∷ [])

  one_node : length T.nodes ≡ 1
  one_node = refl

  -- the certificate is right
  follows : FollowsIn T b (contexts T w) w.judgments 0
  unfolding contexts
  follows = record {
    judgment = seven;
    there = refl;
    context = root;
    form = record { time = omega arith; space = omega arith; node = omega (arith, one_node); context = refl };
    gives = input_gives T b (used (contexts T w) w.judgments 0) 0 0 root 0 0 [] refl refl ∙ ap Some first_is;
  }

  right : IsRight T b w
  unfolding contexts
  right = record {
    all = λ i lt. let first : i ≡ 0 = omega (arith, lt) in subst (FollowsIn T b (contexts T w) w.judgments) (sym first) follows;
    before = 0;
    last_number = refl;
    of_root = record { judgment = seven; there = refl; node = refl; context = refl; space = refl };
  }

  not_past : (k j : ℕ) → LiesPast view k j → ⊥
  not_past k j y =
      let same : y.2 ≡ unread two_lines = same_Some y.2 (unread two_lines) (sym y.4 ∙ holds k y.0 y.1 y.3) in
      not_long (all_bytes y.2) j (ap all_bytes same) y.5

  -- the line of its last judgment
  line_is : (line : List ℕ) → IsLastLine w line → line ≡ codes "7 at 0\n"
  unfolding digits
  line_is line y =
      let first : y.1.0 ≡ 0 = omega (arith, y.1.1) in
      let one : seven ≡ y.0 = same_Some seven y.0 (subst (λ i. slice_get w.judgments i ≡ Some y.0) first y.1.2) in
      y.2 ∙ ap (λ (j : PlainJudgment). value_text j.value ++ line_at (codes " at ") j.time) (sym one)

  written : (o : Outcome) → EndsCheck is_check o → status.Done ≡ status_of o → c.out_after.bytes ≡ Some (codes "7 at 0\n")
  written (Ok (done.Ran summary stats)) (by_checking x) e = absurd (x.1.ends b has_elements)
  written (Ok (done.Ran summary stats)) (before_checking which silent none) e = elim which [ inl f ↦ absurd (cc f) | inr f ↦ absurd (cc f) ]
  written (Ok done.Written) (by_checking x) e =
      let y = x.1.ends b has_elements in
      y.0.2 ∙ (ap (with_all y.0.0) is.nothing_written ∙ ap Some (line_is y.0.0 y.0.1.1))
  written (Ok done.Written) (before_checking which silent none) e = elim which [ inl f ↦ absurd (cc f) | inr f ↦ absurd (cc f) ]
  written (Err (stop.Refused why)) (by_checking x) e = absurd (x.1.ends b has_elements)
  written (Err (stop.Refused why)) (before_checking which silent none) e = elim which [ inl f ↦ absurd (cc f) | inr f ↦ absurd (cc f) ]
  written (Err stop.ReadFault) x e = absurd (cc e)
  written (Err stop.WriteFault) x e = absurd (cc e)
  written (Err (stop.TooDeep time lost cleared stats)) x e = absurd (cc e)
  written (Err (stop.TooLarge stream name)) x e = absurd (cc e)
  written (Err (stop.Wrong judgment)) x e = absurd (cc e)
  written (Err stop.NoMemory) x e = absurd (cc e)

  ended : (o : Outcome) → EndsCheck is_check o → ComesOnly c o → (ReadFails c → ⊥) → (WriteFails c → ⊥) → IsDoneOr (status_of o)
  ended (Ok x) ends only reads writes = inl refl
  ended (Err (stop.Refused why)) (by_checking x) only reads writes = absurd (x.1.ends b has_elements)
  ended (Err (stop.Refused why)) (before_checking which silent none) only reads writes = elim which [ inl f ↦ absurd (cc f) | inr f ↦ absurd (cc f) ]
  ended (Err stop.ReadFault) ends only reads writes = absurd (reads only)
  ended (Err stop.WriteFault) ends only reads writes = absurd (writes only)
  ended (Err (stop.TooDeep time lost cleared stats)) (by_checking x) only reads writes = absurd (x.1.ends b has_elements)
  ended (Err (stop.TooDeep time lost cleared stats)) (before_checking which silent none) only reads writes =
      elim which [ inl f ↦ absurd (cc f) | inr f ↦ absurd (cc f) ]
  ended (Err (stop.TooLarge stream name)) (by_checking x) only reads writes =
      let y = x.1.ends b has_elements in absurd (not_past stream y.index y.past)
  ended (Err (stop.TooLarge stream name)) (before_checking which silent none) only reads writes =
      elim which [ inl f ↦ absurd (cc f) | inr f ↦ absurd (cc f) ]
  ended (Err (stop.Wrong judgment)) (by_checking x) only reads writes = absurd (right_is_not_wrong T b w judgment right (x.1.ends b has_elements).0)
  ended (Err (stop.Wrong judgment)) (before_checking which silent none) only reads writes =
      elim which [ inl f ↦ absurd (cc f) | inr f ↦ absurd (cc f) ]
  ended (Err stop.NoMemory) ends only reads writes = inr refl

pub check-witness : TextsAreLongest → CheckIsAWitness
check-witness longest c is = record {
  checks = is_check longest c is;
  writes = λ p q s m e.
      by_done c p q s m (c.out_after.bytes ≡ Some (codes "7 at 0\n"))
      (λ o same. written longest c is o (subst (EndsCheck (is_check longest c is)) (sym same) (m.met.checked (is_check longest c is) (tells longest c is)))) e;
  is_done = λ p q s m reads writes.
      by_status c p q s m
      (λ o same. ended longest c is o (subst (EndsCheck (is_check longest c is)) (sym same) (m.met.checked (is_check longest c is) (tells longest c is)))
      (subst (ComesOnly c) (sym same) m.met.comes_only) reads writes);
}

-- The making.
module _ (longest : TextsAreLongest) (c : Call) (is : AsksWhy c) where
  abbrev why_is : PlainWords
  why_is = words_for (Some 0) []

  asked_why : c.asked ≡ Some why_is
  asked_why = is.asked ∙ why_words_are

  abbrev is_making : IsMaking c
  is_making = record {
    names = names longest c (Some 0) [] asked_why is.held (λ e. absurd (cc e));
    task = refl;
    fits = record { right = λ k lt. absurd (omega (arith, lt)); one_left = le_refl 1 };
  }

  tells_files : TellsFiles c
  tells_files a = (
    source_told longest c (Some 0) [] asked_why is.held a,
    λ t. absurd (cc (one_task a (asks longest c (Some 0) [] asked_why is.held) task.Check task.Why t refl)),
  )

  abbrev seen : RunView
  seen = view_of c (certificate_of is_making)

  holds_lines : (k : ℕ) (n : List ℕ) (q : ℕ) → IsInput seen k n q → (seen.before.place q).contents ≡ Some (unread two_lines)
  holds_lines zero n q at =
      let place : q ≡ 1 = omega (arith, (in_range 1 1 0 q at.1).0) in
      subst (λ x. (seen.before.place x).contents ≡ Some (unread two_lines)) (sym place) (ap (option_map unread) is.input)
  holds_lines (suc k) n q at = let none : ◌≡◌ {A = Option (List ℕ)} None (Some n) = at.0 in absurd (cc none)

  has_lines : HasElements seen b
  has_lines k n q at = (unread two_lines, holds_lines k n q at, λ j. refl)

  none_past : (k j : ℕ) → LiesPast seen k j → ⊥
  none_past k j y =
      let same : y.2 ≡ unread two_lines = same_Some y.2 (unread two_lines) (sym y.4 ∙ holds_lines k y.0 y.1 y.3) in
      not_long (all_bytes y.2) j (ap all_bytes same) y.5

  -- at time 0 the value is the first element, at each limit but 0
  not_deep : (tree_stream input_program).value b 100000 0 ≡ None → ⊥
  not_deep e = let some = val-up b 1 100000 (omega arith) input_program empty 0 0 (element two_lines 0) refl in absurd (cc (e, some))

  ends_with_seven : (v : Why) → ((j : PlainJudgment) → IsLast v j → (n : ℕ) × ((tree_stream input_program).value b n j.time ≡ Some j.value))
      → ((j : PlainJudgment) → IsLast v j → j.time ≡ 0) → EndsWithSeven v
  ends_with_seven v means at j last =
      let time = at j last in
      let m = means j last in
      let there : (tree_stream input_program).value b m.0 0 ≡ Some j.value =
      subst (λ t. (tree_stream input_program).value b m.0 t ≡ Some j.value) time m.1 in
      (meant-once b input_program empty 0 0 j.value (int (pos 7)) (m.0, there) (1, ap Some first_is), time)

  -- what is written
  abbrev IsWritten : Type 0
  IsWritten = (text : List ℕ) × (v : Why) × EndsWithSeven v × IsTextOf text v × (c.out_after.bytes ≡ Some text)

  text_written : (o : Outcome) → EndsMaking is_making o → status.Done ≡ status_of o → IsWritten
  text_written (Ok (done.Ran summary stats)) (by_making x) e = absurd (x.1.ends b has_lines)
  text_written (Ok (done.Ran summary stats)) (before_making which silent none) e = elim which [ inl f ↦ absurd (cc f) | inr f ↦ absurd (cc f) ]
  text_written (Ok done.Written) (by_making x) e =
      let y = x.1.ends b has_lines in
      let v = y.1.0 in
      (y.0, v, ends_with_seven v (λ j last. y.1.1.proves.means j last) y.1.1.at_time, y.1.2, y.2 ∙ ap (with_all y.0) is.nothing_written)
  text_written (Ok done.Written) (before_making which silent none) e = elim which [ inl f ↦ absurd (cc f) | inr f ↦ absurd (cc f) ]
  text_written (Err (stop.Refused why)) (by_making x) e = absurd (x.1.ends b has_lines)
  text_written (Err (stop.Refused why)) (before_making which silent none) e = elim which [ inl f ↦ absurd (cc f) | inr f ↦ absurd (cc f) ]
  text_written (Err stop.ReadFault) x e = absurd (cc e)
  text_written (Err stop.WriteFault) x e = absurd (cc e)
  text_written (Err (stop.TooDeep time lost cleared stats)) x e = absurd (cc e)
  text_written (Err (stop.TooLarge stream name)) x e = absurd (cc e)
  text_written (Err (stop.Wrong judgment)) x e = absurd (cc e)
  text_written (Err stop.NoMemory) x e = absurd (cc e)

  ended_so : (o : Outcome) → EndsMaking is_making o → ComesOnly c o → (ReadFails c → ⊥) → (WriteFails c → ⊥) → IsDoneOr (status_of o)
  ended_so (Ok x) ends only reads writes = inl refl
  ended_so (Err (stop.Refused why)) (by_making x) only reads writes = absurd (x.1.ends b has_lines)
  ended_so (Err (stop.Refused why)) (before_making which silent none) only reads writes = elim which [ inl f ↦ absurd (cc f) | inr f ↦ absurd (cc f) ]
  ended_so (Err stop.ReadFault) ends only reads writes = absurd (reads only)
  ended_so (Err stop.WriteFault) ends only reads writes = absurd (writes only)
  ended_so (Err (stop.TooDeep time lost cleared stats)) (by_making x) only reads writes = absurd (not_deep (x.1.ends b has_lines))
  ended_so (Err (stop.TooDeep time lost cleared stats)) (before_making which silent none) only reads writes =
      elim which [ inl f ↦ absurd (cc f) | inr f ↦ absurd (cc f) ]
  ended_so (Err (stop.TooLarge stream name)) (by_making x) only reads writes =
      let y = x.1.ends b has_lines in absurd (none_past stream y.index y.past)
  ended_so (Err (stop.TooLarge stream name)) (before_making which silent none) only reads writes =
      elim which [ inl f ↦ absurd (cc f) | inr f ↦ absurd (cc f) ]
  ended_so (Err (stop.Wrong judgment)) (by_making x) only reads writes = absurd (x.1.ends b has_lines)
  ended_so (Err (stop.Wrong judgment)) (before_making which silent none) only reads writes =
      elim which [ inl f ↦ absurd (cc f) | inr f ↦ absurd (cc f) ]
  ended_so (Err stop.NoMemory) ends only reads writes = inr refl

pub making-witness : TextsAreLongest → MakingIsAWitness
making-witness longest c is = record {
  makes = is_making longest c is;
  writes = λ p q s m e.
      by_done c p q s m (IsWritten longest c is)
      (λ o same. text_written longest c is o (subst (EndsMaking (is_making longest c is)) (sym same) (m.met.made (is_making longest c is) (tells_files longest c is))))
      e;
  is_done = λ p q s m reads writes.
      by_status c p q s m
      (λ o same. ended_so longest c is o (subst (EndsMaking (is_making longest c is)) (sym same) (m.met.made (is_making longest c is) (tells_files longest c is)))
      (subst (ComesOnly c) (sym same) m.met.comes_only) reads writes);
}
