-- Columns of the counting program are a witness of the clauses of the command.
use Rattle.lucid_top.proofs.Common.{◌≡◌, ℕ, zero, suc, ◌<◌, ◌≤◌, List, [], ◌∷◌, ◌++◌, length, Option, Some, None, Ok, Err, Bool, true, false, inl, inr, refl, sym, subst, ◌∙◌, ap, arith, IfSome, IsSome, IsSomeAnd, IsTrue, codes, digits, eod, PlainValue, TextIsRead, TextsAreLongest, number, counting, Elements, empty, file, PlainWords, words_asked, all_sites, HasInputs, IsNonDecreasingBy, with_all, counting_source, RunView, HasElements, Ran, tree_stream, Outcome, Call, AreColumns, of_columns, beside, program_counted, IsTold, Asks, HasNames, by_columns, IsRun, run_of, view_of, run_result, ReadFails, TellsFiles, ComesOnly, PlainTree, Figures}
use Rattle.std.proofs.lemmas.Option.{same_Some}
use Rattle.std.proofs.lemmas.List.{append-nil}
use Rattle.std.specs.Prelude.{swap}
use Rattle.clap.proofs.OnLiterals.{clap_on_literals}
use Rattle.lucid_value.specs.Names.{reserved_words}
use Rattle.lucid_value.specs.ValueText.{value_text}
use Rattle.lucid_tree.proofs.Growth.{meant-once, val-up}
use Rattle.lucid_words.specs.declared.PolicyWord.TheVariants as policy
use Rattle.lucid_scope.specs.Sites.{Site, site_at}
use Rattle.lucid_columns.specs.Columns.{is_column}
use Rattle.lucid_session.specs.Subject.{OneStream, Output, StreamMeans, HasEnded, IsCell, AreCells, parted, columns_subject}
use Rattle.lucid_session.specs.Subject as stream
use Rattle.lucid_session.specs.Runs.{EndsAt}
use Rattle.lucid_report.specs.Status.{status_of}
use Rattle.lucid_report.specs.declared.status.Status.TheVariants as status
use Rattle.lucid_report.specs.declared.stop.Done.TheVariants as done
use Rattle.lucid_report.specs.declared.stop.Stop.TheVariants as stop
use Rattle.lucid_top.specs.declared.task.Task.TheVariants as task
use Rattle.lucid_top.specs.Clauses.{WriteFails}
use Rattle.lucid_top.specs.Runs.{under}
use Rattle.lucid_top.specs.Witness.{column_words, numbers_twice, Counts, ColumnsAreAWitness}
use Rattle.lucid_top.proofs.CertificateWitnesses.{IsDoneOr, by_done, by_status}
use Rattle.lucid_top.proofs.CountingSource.{counting-spelt, counting-no-fault, counting-inputs}
use Rattle.lucid_top.proofs.OneCall.{same_words, one_task}

-- the columns; and what the words ask for
abbrev both : List (List ℕ)
both = codes "x" ∷ codes "x" ∷ []

abbrev twice_words : PlainWords
twice_words = record {
  source = file (codes "p");
  given = [];
  count = 3;
  depth = 100000;
  policy = policy.Keep;
  age = 10;
  room = 10000;
  stats = false;
  print = false;
  columns = both;
  cycles = false;
  why = None;
  check = [];
  flat = false;
  from_flat = false;
}

words_are : words_asked column_words ≡ Some twice_words
unfolding words_asked clap_on_literals reserved_words
words_are = refl

-- Both are columns, and side by side they have no free name.
are_columns : AreColumns counting both
are_columns zero n lt e = subst (λ x. IsTrue (is_column counting x)) (same_Some (codes "x") n e) refl
are_columns (suc zero) n lt e = subst (λ x. IsTrue (is_column counting x)) (same_Some (codes "x") n e) refl
are_columns (suc (suc j)) n lt e = absurd (omega (arith, lt))

abbrev twice : PlainTree
twice = beside counting both

-- the sites of the names in the order of their places: the columns stand behind the source
abbrev ordered : List Site
ordered = swap (swap (all_sites twice) 0 2) 1 2

three_sites : length (all_sites twice) ≡ 3
three_sites = refl

sites_rise : IsNonDecreasingBy site_at ordered
sites_rise zero zero d le lt = omega arith
sites_rise zero (suc zero) d le lt = omega arith
sites_rise zero (suc (suc zero)) d le lt = omega arith
sites_rise (suc zero) zero d le lt = absurd (omega (arith, le))
sites_rise (suc zero) (suc zero) d le lt = omega arith
sites_rise (suc zero) (suc (suc zero)) d le lt = omega arith
sites_rise (suc (suc zero)) zero d le lt = absurd (omega (arith, le))
sites_rise (suc (suc zero)) (suc zero) d le lt = absurd (omega (arith, le))
sites_rise (suc (suc zero)) (suc (suc zero)) d le lt = omega arith
sites_rise (suc (suc (suc i))) j d le lt = absurd (omega (arith, le, lt))
sites_rise i (suc (suc (suc j))) d le lt = absurd (omega (arith, lt))

no_inputs : HasInputs twice []
no_inputs = ∣ record {
  order = ordered;
  permutes = record {
    moves = (1, 2) ∷ (0, 2) ∷ [];
    below = (omega (arith, three_sites), omega (arith, three_sites), (omega (arith, three_sites), omega (arith, three_sites), tt));
    is = refl;
  };
  rises = sites_rise;
  names = refl;
} ∣₁

-- each column's stream; and the line of a time
abbrev one : OneStream
one = tree_stream counting

abbrev streams : List OneStream
streams = one ∷ one ∷ []

abbrev twice_line : ℕ → List ℕ
twice_line t = parted (value_text (number t) ∷ value_text (number t) ∷ []) ++ 10 ∷ []

abbrev first_twice : ℕ → List ℕ
first_twice zero = []
first_twice (suc k) = first_twice k ++ twice_line k

three_are_all : first_twice 3 ≡ numbers_twice
unfolding digits
three_are_all = refl

module _ (b : Elements) where
  -- at each of the first times the words' limit defines the number
  enough : (t : ℕ) → t < 3 → (m : ℕ) × (m ≤ 100000) × (one.value b m t ≡ Some (number t))
  enough zero lt = (1, omega arith, refl)
  enough (suc zero) lt = (2, omega arith, refl)
  enough (suc (suc zero)) lt = (3, omega arith, refl)
  enough (suc (suc (suc t))) lt = absurd (omega (arith, lt))

  defined : (t : ℕ) → t < 3 → one.value b 100000 t ≡ Some (number t)
  defined t lt = let m = enough t lt in val-up b m.0 100000 m.1 counting empty t 0 (number t) m.2

  means_number : (t : ℕ) (v : PlainValue) → t < 3 → StreamMeans one b t v → v ≡ number t
  means_number t v lt m = meant-once b counting empty t 0 v (number t) m (100000, defined t lt)

  not_ended : (t : ℕ) → t < 3 → HasEnded one b t → ⊥
  not_ended t lt h = let never : eod ≡ number h.0 = means_number h.0 eod (omega (arith, lt, h.1)) h.2 in absurd (cc never)

  cell_is : (t : ℕ) → t < 3 → (cell : List ℕ) → IsCell one b t cell → cell ≡ value_text (number t)
  cell_is t lt cell (inl h) = absurd (not_ended t lt h.0)
  cell_is t lt cell (inr h) = h.1.2 ∙ ap value_text (means_number t h.1.0 lt h.1.1)

  cells_are : (t : ℕ) → t < 3 → (cells : List (List ℕ)) → AreCells streams b t cells → cells ≡ value_text (number t) ∷ value_text (number t) ∷ []
  cells_are t lt [] h = absurd h
  cells_are t lt (x ∷ []) h = absurd h.1
  cells_are t lt (x ∷ y ∷ zs) h =
      ap (λ z. z ∷ y ∷ zs) (cell_is t lt x h.0)
      ∙ (ap (λ z. value_text (number t) ∷ z ∷ zs) (cell_is t lt y h.1.0) ∙ ap (λ zs. value_text (number t) ∷ value_text (number t) ∷ zs) h.1.1)

  line_is : (t : ℕ) → t < 3 → (next : List ℕ) → (columns_subject streams).line b t next → next ≡ twice_line t
  line_is t lt next h = h.3 ∙ ap (λ cells. parted cells ++ 10 ∷ []) (cells_are t lt h.0 h.1)

  lines_are : (k : ℕ) (bytes : List ℕ) → Output (columns_subject streams) b k bytes → k ≤ 3 → bytes ≡ first_twice k
  lines_are _ _ stream.no_lines le = refl
  lines_are _ _ (stream.one_line_more {k = k} {bytes = bytes} before next stands) le =
      ap (λ x. x ++ next) (lines_are k bytes before (omega (arith, le))) ∙ ap (λ x. first_twice k ++ x) (line_is k (omega (arith, le)) next stands)

module _ (longest : TextsAreLongest) (read : TextIsRead) (c : Call) (is : Counts c column_words) where
  asked : c.asked ≡ Some twice_words
  asked = is.asked ∙ words_are

  abbrev asks : Asks c
  asks = record { words = twice_words; read = asked }

  abbrev names : HasNames c
  names = record {
    program = record {
      source = record {
        asks = asks;
        bytes = counting_source;
        is = subst (λ o. IfSome o (λ bytes. counting_source ≡ bytes)) (sym is.held) refl;
      };
      form = λ e. absurd (cc e);
      tree = counting;
      spelt = counting-spelt longest read;
    };
    task = λ e. absurd (cc e);
    no_fault = counting-no-fault;
    free = [];
    are_free = counting-inputs;
  }

  abbrev runs : IsRun c
  runs = record {
    program = by_columns (record { names = names; are = are_columns; free = []; are_free = no_inputs });
    task = refl;
    fits = record { right = λ k lt. absurd (omega (arith, lt)); one_left = omega arith };
  }

  tells : TellsFiles c
  tells a = (
    subst (λ (w : PlainWords). IsTold w.source c.before) (same_words asks a) (subst (λ o. IsSome o) (sym is.held) refl),
    λ t. absurd (cc (one_task a asks task.Check task.Columns t refl)),
  )

  abbrev view : RunView
  view = under c.policy (view_of c (run_of runs))

  abbrev b : Elements
  b = λ n j. None

  no_input : {A : Type 0} (n : List ℕ) → ◌≡◌ {A = Option (List ℕ)} None (Some n) → A
  no_input n e = absurd (cc e)

  has_elements : HasElements view b
  has_elements k n q at = no_input n at.0

  abbrev Runs : Outcome → Type 0
  Runs o = IsSomeAnd (run_result o) (λ result. Ran (columns_subject streams) b view result
      × Figures (program_counted (of_columns counting both)) b view result)

  -- it ends by its count
  three : (ended : Bool) (whole : ℕ) → EndsAt (columns_subject streams) b view ended whole → whole ≡ 3
  three true whole h = absurd (not_ended b whole h.0 (h.1 one (inl refl)))
  three false whole h = h

  written : (o : Outcome) → Runs o → status.Done ≡ status_of o → c.out_after.bytes ≡ Some numbers_twice
  written (Ok (done.Ran summary stats)) x e =
      let ran = x.0 in
      let none : ran.out.front ≡ [] = elim ran.cut_off [ inl f ↦ f | inr f ↦ absurd f ] in
      let whole : ran.out.whole ≡ 3 = three summary.ended ran.out.whole ran.done.ends in
      let lines : ran.out.bytes ≡ numbers_twice = lines_are b ran.out.whole ran.out.bytes ran.out.output ran.out.within ∙ (ap first_twice whole ∙ three_are_all) in
      ran.out.written
      ∙ (ap (with_all (ran.out.bytes ++ ran.out.front)) is.nothing_written
      ∙ (ap (λ f. Some (ran.out.bytes ++ f)) none ∙ ap Some (append-nil ran.out.bytes ∙ lines)))
  written (Ok done.Written) x e = absurd x
  written (Err (stop.Refused why)) x e = absurd x
  written (Err stop.ReadFault) x e = absurd (cc e)
  written (Err stop.WriteFault) x e = absurd (cc e)
  written (Err (stop.TooDeep time lost cleared stats)) x e = absurd (cc e)
  written (Err (stop.TooLarge k name)) x e = absurd (cc e)
  written (Err (stop.Wrong judgment)) x e = absurd (cc e)
  written (Err stop.NoMemory) x e = absurd (cc e)

  -- no column is too deep at the first times
  not_deep : (t : ℕ) → t < 3 → (x : OneStream) → x ≡ one → x.value b 100000 t ≡ None → ⊥
  not_deep t lt x same none =
      let deep : one.value b 100000 t ≡ None = subst (λ (y : OneStream). y.value b 100000 t ≡ None) same none in
      absurd (cc (deep, defined b t lt))

  ended : (o : Outcome) → Runs o → ComesOnly c o → (ReadFails c → ⊥) → (WriteFails c → ⊥) → IsDoneOr (status_of o)
  ended (Ok x) ran only reads writes = inl refl
  ended (Err (stop.Refused why)) ran only reads writes = absurd ran
  ended (Err stop.ReadFault) ran only reads writes = absurd (reads only)
  ended (Err stop.WriteFault) ran only reads writes = absurd (writes only)
  ended (Err (stop.TooDeep time lost cleared stats)) ran only reads writes =
      let deep = ran.0.deep in
      let column = deep.undefined in
      absurd (not_deep time deep.within column.0 (elim column.1 [ inl e ↦ e | inr f ↦ elim f [ inl e ↦ e | inr g ↦ absurd g ] ]) column.2.1)
  ended (Err (stop.TooLarge k name)) ran only reads writes = no_input ran.0.too_large.name ran.0.too_large.is.0
  ended (Err (stop.Wrong judgment)) ran only reads writes = absurd ran
  ended (Err stop.NoMemory) ran only reads writes = inr refl

pub columns-witness : TextsAreLongest → TextIsRead → ColumnsAreAWitness
columns-witness longest read c is = record {
  runs = runs longest read c is;
  writes = λ p q s m e.
      by_done c p q s m (c.out_after.bytes ≡ Some numbers_twice)
      (λ o same. written longest read c is o (subst (Runs longest read c is) (sym same)
      (m.met.headline (runs longest read c is) (tells longest read c is) (b longest read c is) (has_elements longest read c is)))) e;
  is_done = λ p q s m reads writes.
      by_status c p q s m
      (λ o same. ended longest read c is o (subst (Runs longest read c is) (sym same)
      (m.met.headline (runs longest read c is) (tells longest read c is) (b longest read c is) (has_elements longest read c is)))
      (subst (ComesOnly c) (sym same) m.met.comes_only) reads writes);
}
