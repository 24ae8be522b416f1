-- What a check of a certificate promises, as it is seen from outside.
use Rattle.lucid_cert.proofs.FoundRight.{input_there}
use Rattle.lucid_cert.proofs.MeantSoFar.{most_of, within_most}
use Rattle.lucid_top.proofs.Common.{◌≡◌, ℕ, ◌+◌, ◌<◌, ◌≤◌, List, [], length, map, get_or, Some, Ok, Err, ◌⊎◌, inl, inr, sym, ap, subst, ◌∙◌, arith, IfSome, slice_get, slice_get_within, slice_get-get_or, World, all_bytes, Elements, Table, equations_of, IsOverlong, KeepsTree, PlainTree, tree_stream, PlainWords, Told, HasElements, RunView, Stop, Outcome, viewed, most_input_bytes, WritesOnly, Why, IsRight, contexts, Checks, ConsumesFor, ConsumesNothing, EndsSo, IsCheckStop, IsLast, IsLastLine, IsProvedLine, LiesPast, NoneTellsPast, IsStopped, Proves, TellsPast, looked_at}
use Rattle.std.proofs.Common.{Result}
use Rattle.lucid_value.specs.Lines.{end_of_line}
use Rattle.lucid_inputs.specs.Inputs.{streams, stream_at, most_bytes}
use Rattle.lucid_inputs.specs.Laws.{KeepsWithin}
use Rattle.lucid_inputs.specs.Streams.{Stream, fresh_stream}
use Rattle.lucid_inputs.specs.declared.on_demand.Inputs.{Inputs}
use Rattle.lucid_equations.specs.Ranges.{IsInRange}
use Rattle.lucid_equations.specs.Rows.{node_at}
use Rattle.lucid_equations.specs.Values.{node_val}
use Rattle.lucid_demand_steps.specs.Elements.{elements_read}
use Rattle.lucid_cert_rules.specs.Certificates.{PlainJudgment}
use Rattle.lucid_cert_rules.specs.Meant.{WhatFollowsIsMeant}
use Rattle.lucid_cert.specs.Checked.{Checked, MayBe}
use Rattle.lucid_cert.specs.Checked as check
use Rattle.lucid_cert.specs.CheckReads.{TellsElement, DrawsFor, OnTooLarge}
use Rattle.lucid_cert.specs.CheckReads as check_reads
use Rattle.lucid_cert.specs.declared.fault.CheckFault.{CheckFault}
use Rattle.lucid_cert.specs.declared.fault.CheckFault.TheVariants as fault
use Rattle.lucid_session.specs.Runs.{IsInput, ReadsWithin}
use Rattle.lucid_session.specs.Subject.{OneStream, StreamMeans, table_stream}
use Rattle.lucid_session.proofs.Told.{tells_too}
use Rattle.lucid_report.specs.declared.stop.Done.TheVariants as done
use Rattle.lucid_report.specs.declared.stop.Stop.TheVariants as stop
use Rattle.lucid_top.proofs.Ending.{as_text}
use Rattle.lucid_top.proofs.Unread.{ReadOn, of_told, reads, was_there, was_at, is_at, fits_at, may_be as may_read, stays_within}
use Rattle.lucid_top.proofs.Views.{TellAlike}

-- A certificate that is right proves its value.
module _ (meant : WhatFollowsIsMeant) (T : Table) (range : IsInRange T) (b : Elements) (w : Why) (right : IsRight T b w) where
  -- its last judgment is the root's
  is_last : (j : PlainJudgment) → IsLast w j → right.of_root.judgment ≡ j
  is_last j last =
      let at : slice_get w.judgments right.before ≡ Some right.of_root.judgment = right.of_root.there in
      let long = right.last_number in
      let long' = last.1 in
      let same : last.0 ≡ right.before = omega (arith, long, long') in
      let there : slice_get w.judgments right.before ≡ Some j = subst (λ i. slice_get w.judgments i ≡ Some j) same last.2 in cc (at, there)

  root_means : StreamMeans (table_stream T) b right.of_root.judgment.time right.of_root.judgment.value
  root_means =
      let j : PlainJudgment = right.of_root.judgment in
      let n : ℕ = right.before + 1 + most_of w.judgments in
      let long = right.last_number in
      let lt : right.before < length w.judgments = omega (arith, long) in
      let is = meant T range b w (length w.judgments) (most_of w.judgments) right.all (λ i x l at. within_most w.judgments i x at) right.before j _ lt
      right.of_root.there right.of_root.context in (
        n,
        subst (λ s. node_val (equations_of T) b n (node_at T T.root) _ j.time s ≡ Some j.value) right.of_root.space
            (subst (λ id. node_val (equations_of T) b n (node_at T id) _ j.time j.space ≡ Some j.value) right.of_root.node is),
      )

  pub proves : Proves T (table_stream T) b w
  proves = record {
    right = right;
    means = λ j last. subst (λ (x : PlainJudgment). StreamMeans (table_stream T) b x.time x.value) (is_last j last) root_means;
  }

-- A check of a table over inputs of which nothing was read, at these places.
module _ (T : Table) (range : IsInRange T) (w : Why) (names : List (List ℕ)) (qs : List ℕ) (old new : Inputs) (before after : World) (o p : Told)
    (named : names ≡ T.inputs)
    (count : length qs ≡ length names) (fresh : streams old ≡ map fresh_stream qs) (most : most_bytes old ≡ most_input_bytes)
    (result : Result (Unit {0}) CheckFault)
    (x : Checked T w old new before after result) (words : PlainWords) where
  abbrev r : RunView
  r = viewed words names qs before after o p

  abbrev on : ReadOn qs old new before after
  on = record { fresh = fresh; bound = most; places = x.looked.places; most = x.looked.most; askable = x.looked.askable; reads_only = x.looked.reads_only }

  may_be : (b : Elements) → HasElements r b → MayBe T new b
  may_be = may_read on T names o p words named

  -- what lies past what may be read did so for the check, and the other way round
  lies_past : (b : Elements) → HasElements r b → (k j n : ℕ) → TellsElement T (contexts T w) w.judgments n k j → check_reads.LiesPast old before k j
      → LiesPast r k j
  lies_past b has k j n tells lies =
      let lt : k < length names = subst (λ ns. k < length ns) (sym named) (input_there T range tells.judgment.node k tells.row) in
      let name : List ℕ = get_or names k [] in
      let q : ℕ = get_or qs k 0 in
      let is : IsInput r k name q = (slice_get-get_or names k [] lt, slice_get-get_or qs k 0 (omega (arith, lt, count))) in
      let told = has k name q is in
      let place : (stream_at old k).place ≡ q = ap (λ (s : Stream). s.place) (was_at on k q is.1) in
      let over : IsOverlong (all_bytes told.0) j (most_bytes old) =
      of_told _ (before.place q).contents told.0 (subst (λ y. IfSome (before.place y).contents (λ c. IsOverlong (all_bytes c) j (most_bytes old))) place lies)
      told.1 in
      (name, q, told.0, is, told.1, subst (IsOverlong (all_bytes told.0) j) most over)

  lies_within : (k j : ℕ) → check_reads.LiesWithin old before k j → LiesPast r k j → ⊥
  lies_within k j lies y =
      let q : ℕ = y.1 in
      let place : (stream_at old k).place ≡ q = ap (λ (s : Stream). s.place) (was_at on k q y.3.1) in
      of_told _ (before.place q).contents y.2 (subst (λ z. IfSome (before.place z).contents (λ c. IsOverlong (all_bytes c) j (most_bytes old) → ⊥)) place lies)
      y.4
      (subst (IsOverlong (all_bytes y.2) j) (sym most) y.5)

  none_past : (n : ℕ) → check.NoneTellsPast T w old before n → NoneTellsPast T w r n
  none_past n none i k j l tells y = lies_within k j (none i k j l tells) y

  -- what is consumed
  consumes : (n : ℕ) → DrawsFor T (contexts T w) w.judgments n old new after → ConsumesFor T w r n
  consumes n draws k name q is was now first last =
      let s = is_at on k q is.1 in
      let lt : k < length (streams old) = slice_get_within (streams old) k (fresh_stream q) (was_there on k q is.1) in
      let here : (after.place s.0.place).contents ≡ Some now = ap (λ y. (after.place y).contents) s.2 ∙ last in
      let fits = fits_at on k q is.1 now last in
      let read = fits.consumed in
      let none : (stream_at old k).consumed ≡ 0 = ap (λ (y : Stream). y.consumed) (was_at on k q is.1) in
      let later = tells_too (before.place q).contents (after.place q).contents was ((reads on).bytes q) first in
      let one : later.0 ≡ now = let a = later.1 in cc (a, last) in
      let bytes : all_bytes now ≡ all_bytes was = ap all_bytes (sym one) ∙ later.2 in
      let drawn = of_told _ (after.place s.0.place).contents now
      (subst (λ (y : Stream). IfSome (after.place y.place).contents (λ c. (y.consumed ≤ (stream_at old k).consumed)
      ⊎ ((i : ℕ) × (j : ℕ) × (i < n) × TellsElement T (contexts T w) w.judgments i k j × (y.consumed ≤ end_of_line (all_bytes c) j)))) s.3 (draws k lt)) here in
      elim drawn [
        | inl few ↦ inl (omega (arith, few, none, read))
        | inr some ↦ inr (
          some.0,
          some.1,
          some.2,
          some.3,
          subst (λ bs. length now.consumed ≤ end_of_line bs some.1) bytes
              (let far = some.4 in omega (arith, far, read)),
        )
      ]

  within : KeepsWithin → ReadsWithin r
  within = stays_within on T names o p words

-- the certificate is right, and its line is written
module _ (meant : WhatFollowsIsMeant) (keeps : KeepsWithin) (T : Table) (range : IsInRange T) (w : Why) (names : List (List ℕ)) (qs : List ℕ) (old new : Inputs)
    (before after : World) (o p : Told)
    (named : names ≡ T.inputs) (count : length qs ≡ length names) (fresh : streams old ≡ map fresh_stream qs) (most : most_bytes old ≡ most_input_bytes)
    (words : PlainWords) where
  abbrev seen : RunView
  seen = viewed words names qs before after o p

  pub right_ends : Checked T w old new before after (Ok tt) → (out : Outcome) → WritesOnly (IsLastLine w) o p out → Checks T (table_stream T) w seen out
  right_ends x out h = record {
    ends = λ b has. ends b has out h;
    silent = not_stopped out h;
    consumed = drawn out h;
    within = within T range w names qs old new before after o p named count fresh most (Ok tt) x words keeps;
  }
    where
      proved : (b : Elements) → HasElements seen b → Proves T (table_stream T) b w
      proved b has = proves meant T range b w (x.right b (may_be T range w names qs old new before after o p named count fresh most (Ok tt) x words b has))

      line : (b : Elements) → HasElements seen b → (out : Outcome) → WritesOnly (IsLastLine w) o p out
          → WritesOnly (IsProvedLine T (table_stream T) b w) o p out
      line b has out h = as_text (IsLastLine w) (IsProvedLine T (table_stream T) b w) o p out (λ text is. (proved b has, is)) h

      ends : (b : Elements) → HasElements seen b → (out : Outcome) → WritesOnly (IsLastLine w) o p out → EndsSo T (table_stream T) b w seen out
      ends b has (Ok done.Written) h = (
        line b has (Ok done.Written) h,
        none_past T range w names qs old new before after o p named count fresh most (Ok tt) x
            words (length w.judgments) x.within.0,
      )
      ends b has (Err stop.WriteFault) h = line b has (Err stop.WriteFault) h
      ends b has (Err stop.NoMemory) h = line b has (Err stop.NoMemory) h
      ends b has _ h = absurd h

      all : ConsumesFor T w seen (length w.judgments)
      all = consumes T range w names qs old new before after o p named count fresh most (Ok tt) x words (length w.judgments) x.looked.drawn

      not_stopped : (out : Outcome) → WritesOnly (IsLastLine w) o p out → IsStopped out → p.bytes ≡ o.bytes
      not_stopped (Ok done.Written) h is = absurd is
      not_stopped (Err stop.WriteFault) h is = absurd is
      not_stopped (Err stop.NoMemory) h is = absurd is
      not_stopped _ h is = absurd h

      drawn : (out : Outcome) → WritesOnly (IsLastLine w) o p out → ConsumesFor T w seen (looked_at w out)
      drawn (Ok done.Written) h = all
      drawn (Err stop.WriteFault) h = all
      drawn (Err stop.NoMemory) h = all
      drawn _ h = absurd h

  -- or it is refused
  pub fault_ends : p.bytes ≡ o.bytes → (f : CheckFault) → Checked T w old new before after (Err f) → (s : Stop) → IsCheckStop names f s
      → Checks T (table_stream T) w seen (Err s)
  fault_ends silent f x s is = by f x s is
    where
      may : (f : CheckFault) (x : Checked T w old new before after (Err f)) (b : Elements) → HasElements seen b → MayBe T new b
      may f x b has = may_be T range w names qs old new before after o p named count fresh most (Err f) x words b has

      all : (f : CheckFault) (x : Checked T w old new before after (Err f)) → ConsumesFor T w seen (length w.judgments)
      all f x = consumes T range w names qs old new before after o p named count fresh most (Err f) x words (length w.judgments) x.looked.drawn

      reads_within : (f : CheckFault) (x : Checked T w old new before after (Err f)) → ReadsWithin seen
      reads_within f x = within T range w names qs old new before after o p named count fresh most (Err f) x words keeps

      tells_past : (k : ℕ) (x : Checked T w old new before after (Err (fault.TooLarge k))) (b : Elements) → HasElements seen b → TellsPast T b w seen k
      tells_past k x b has =
          let y = x.too_large b (may (fault.TooLarge k) x b has) in
          record {
            number = y.number;
            index = y.index;
            follow = y.follow;
            tells = y.tells;
            past = lies_past T range w names qs old new before after o p named count fresh most (Err (fault.TooLarge k)) x words b has k y.index y.number
                y.tells y.past;
          }

      large : (k : ℕ) (x : Checked T w old new before after (Err (fault.TooLarge k))) (s : Stop) → IsCheckStop names (fault.TooLarge k) s
          → Checks T (table_stream T) w seen (Err s)
      large k x (stop.TooLarge stream name) is = record {
        ends = λ b has. subst (TellsPast T b w seen) (sym is.0) (tells_past k x b has);
        silent = λ _. silent;
        consumed = all (fault.TooLarge k) x;
        within = reads_within (fault.TooLarge k) x;
      }
      large k x stop.NoMemory is = record {
        ends = λ b has. inl silent;
        silent = λ _. silent;
        consumed = all (fault.TooLarge k) x;
        within = reads_within (fault.TooLarge k) x;
      }
      large k x _ is = absurd is

      by : (f : CheckFault) (x : Checked T w old new before after (Err f)) (s : Stop) → IsCheckStop names f s → Checks T (table_stream T) w seen (Err s)
      by (fault.Wrong n) x s is =
          let here : Checks T (table_stream T) w seen (Err (stop.Wrong n)) = record {
            ends = λ b has. (
              x.wrong b (may (fault.Wrong n) x b has),
              none_past T range w names qs old new before after o p named count fresh most (Err (fault.Wrong n)) x words (n + 1) x.within.1,
            );
            silent = λ _. silent;
            consumed = consumes T range w names qs old new before after o p named count fresh most (Err (fault.Wrong n)) x words (n + 1) x.drawn;
            within = reads_within (fault.Wrong n) x;
          } in subst (λ (y : Stop). Checks T (table_stream T) w seen (Err y)) (sym is) here
      by fault.ReadFault x s is =
          let here : Checks T (table_stream T) w seen (Err stop.ReadFault) =
          record { ends = λ b has. tt; silent = λ _. silent; consumed = all fault.ReadFault x; within = reads_within fault.ReadFault x } in
          subst (λ (y : Stop). Checks T (table_stream T) w seen (Err y)) (sym is) here
      by (fault.TooLarge k) x s is = large k x s is
      by fault.NoMemory x s is =
          let here : Checks T (table_stream T) w seen (Err stop.NoMemory) =
          record { ends = λ b has. inl silent; silent = λ _. silent; consumed = all fault.NoMemory x; within = reads_within fault.NoMemory x } in
          subst (λ (y : Stop). Checks T (table_stream T) w seen (Err y)) (sym is) here

-- there was no memory before the check
pub unmade : (T : Table) (x : OneStream) (w : Why) (r : RunView) (o : Outcome) (s : Stop) → o ≡ Err s → s ≡ stop.NoMemory
    → r.out_after.bytes ≡ r.out_before.bytes → ConsumesNothing r
    → Checks T x w r o
unmade T x w r o s is memory silent nothing =
    let here : Checks T x w r (Err stop.NoMemory) = record {
      ends = λ b has. inl silent;
      silent = λ _. silent;
      consumed = λ k n q is old new first last. inl (nothing k n q is old new first last);
      within = λ k n q is old new first last. inl (nothing k n q is old new first last);
    } in
    subst (Checks T x w r) (sym (is ∙ ap (λ (y : Stop). Err y) memory)) here

-- the stream that is told too large is one of the inputs
pub large_there : (T : Table) → IsInRange T → (w : Why) (names : List (List ℕ)) (old new : Inputs) (before after : World) (f : CheckFault) → names ≡ T.inputs
    → Checked T w old new before after (Err f)
    → OnTooLarge f (λ number. number < length names)
large_there T range w names old new before after (fault.TooLarge k) named x =
    let y = x.too_large (elements_read T.inputs (streams new)) (λ n j v h. h) in
    subst (λ ns. k < length ns) (sym named) (input_there T range y.tells.judgment.node k y.tells.row)
large_there T range w names old new before after _ named x = tt

-- A check by a table that keeps a tree is one by the tree.
pub by_the_tree : (T : Table) (e : PlainTree) (w : Why) (r : RunView) (o : Outcome) → KeepsTree (equations_of T) e → Checks T (table_stream T) w r o
    → Checks T (tree_stream e) w r o
by_the_tree T e w r o keeps x = record { ends = λ b has. ends b o (x.ends b has); silent = x.silent; consumed = x.consumed; within = x.within }
  where
    proved : (b : Elements) → Proves T (table_stream T) b w → Proves T (tree_stream e) b w
    proved b y = record { right = y.right; means = λ j last. let m = y.means j last in (m.0, sym (keeps.values b m.0 j.time 0) ∙ m.1) }

    line : (b : Elements) (o : Outcome) → WritesOnly (IsProvedLine T (table_stream T) b w) r.out_before r.out_after o
        → WritesOnly (IsProvedLine T (tree_stream e) b w) r.out_before r.out_after o
    line b o h = as_text (IsProvedLine T (table_stream T) b w) (IsProvedLine T (tree_stream e) b w) r.out_before r.out_after o
        (λ text is. (proved b is.0, is.1)) h

    ends : (b : Elements) (o : Outcome) → EndsSo T (table_stream T) b w r o → EndsSo T (tree_stream e) b w r o
    ends b (Ok done.Written) h = (line b (Ok done.Written) h.0, h.1)
    ends b (Err (stop.Wrong n)) h = h
    ends b (Err (stop.TooLarge k name)) h = h
    ends b (Err stop.ReadFault) h = h
    ends b (Err stop.WriteFault) h = line b (Err stop.WriteFault) h
    ends b (Err stop.NoMemory) h = line b (Err stop.NoMemory) h
    ends b _ h = absurd h

-- A check is as good over places that tell the same of its inputs.
module _ (T : Table) (x : OneStream) (w : Why) (words : PlainWords) (names : List (List ℕ)) (qs : List ℕ) (u v u' v' : World) (o p : Told)
    (a : TellAlike qs u v u' v') where
  abbrev one : RunView
  one = viewed words names qs u v o p

  abbrev other : RunView
  other = viewed words names qs u' v' o p

  past_too : (k j : ℕ) → LiesPast one k j → LiesPast other k j
  past_too k j y = (y.0, y.1, y.2, y.3, a.before k y.1 y.3.1 ∙ y.4, y.5)

  past_back : (k j : ℕ) → LiesPast other k j → LiesPast one k j
  past_back k j y = (y.0, y.1, y.2, y.3, sym (a.before k y.1 y.3.1) ∙ y.4, y.5)

  none_too : (n : ℕ) → NoneTellsPast T w one n → NoneTellsPast T w other n
  none_too n none i k j l tells y = none i k j l tells (past_back k j y)

  ends_too : (b : Elements) (out : Outcome) → EndsSo T x b w one out → EndsSo T x b w other out
  ends_too b (Ok done.Written) h = (h.0, none_too (length w.judgments) h.1)
  ends_too b (Err (stop.Wrong n)) h = (h.0, none_too (n + 1) h.1)
  ends_too b (Err (stop.TooLarge k name)) h =
      record { number = h.number; index = h.index; follow = h.follow; tells = h.tells; past = past_too k h.index h.past }
  ends_too b (Err stop.ReadFault) h = h
  ends_too b (Err stop.WriteFault) h = h
  ends_too b (Err stop.NoMemory) h = h
  ends_too b _ h = absurd h

  pub checks_alike : (out : Outcome) → Checks T x w one out → Checks T x w other out
  checks_alike out h = record {
    ends = λ b has. ends_too b out (h.ends b (λ k n q is. let y = has k n q is in (y.0, sym (a.before k q is.1) ∙ y.1, y.2)));
    silent = h.silent;
    consumed = λ k n q is old new first last. h.consumed k n q is old new (sym (a.before k q is.1) ∙ first) (sym (a.after k q is.1) ∙ last);
    within = λ k n q is old new first last. h.within k n q is old new (sym (a.before k q is.1) ∙ first) (sym (a.after k q is.1) ∙ last);
  }
