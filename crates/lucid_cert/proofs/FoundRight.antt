-- What is made is found right.
use Rattle.lucid_cert.proofs.Common.{◌≡◌, ℕ, suc, ◌<◌, ◌⊎◌, true, false, cond, List, [], ◌∷◌, length, length-map, Option, Some, None, refl, sym, ap, ◌∙◌, inl, inr, subst, arith, Result, Ok, Err, IfErr, IfSome, slice_get, option_map, none-some, same_Some, slice_get-get_or, slice_get_within, PlainValue, Elements, AllDiffer, World, stream_at, streams, Inputs, Context, row-node, row_at, IsInRange, Input, Table, extends_then, PlainJudgment, Why, FollowsIn, used, MayBe, stream_there, Made, view_of}
use Rattle.std.proofs.Common.{get_or}
use Rattle.std.proofs.lemmas.Option.{get_or_from_slice_get, slice_get-map}
use Rattle.std.specs.Prelude.{unwrap_or}
use Rattle.lucid_value.specs.Plain.{eod}
use Rattle.lucid_value.specs.Elements.{element}
use Rattle.lucid_value.specs.Lines.{IsOverlong}
use Rattle.lucid_tree.specs.Env.{same_name}
use Rattle.lucid_tree.specs.Levels.{element_of}
use Rattle.lucid_ports.specs.World.{Contents}
use Rattle.lucid_inputs.specs.Inputs.{most_bytes}
use Rattle.lucid_inputs.specs.Laws.{KeepsWithin}
use Rattle.lucid_inputs.specs.Reading.{IsWithin}
use Rattle.lucid_inputs.specs.Streams.{Stream, Fits, all_bytes, fresh_stream}
use Rattle.lucid_inputs.proofs.OverlongLemmas.{not_overlong}
use Rattle.lucid_equations.specs.MoreElements.{Extends}
use Rattle.lucid_equations.specs.Ranges.{NodeNames, sizes}
use Rattle.lucid_equations.specs.declared.rows.NodeRow.{NodeRow}
use Rattle.lucid_equations.proofs.Rising.{node-in_range}
use Rattle.lucid_demand_steps.specs.Elements.{elements_read, elements_told, or_end, read_in, told_in}
use Rattle.lucid_demand_steps.proofs.Places.{elements_at, told_extends}
use Rattle.lucid_cert_rules.specs.Follows.{IsRight, by_onward, contexts}
use Rattle.lucid_cert_rules.proofs.GivenBy.{input_gives}
use Rattle.lucid_cert.specs.Checked.{Checked, HasLooked, IsWrong, TellsPast}
use Rattle.lucid_cert.specs.CheckReads.{LiesPast, TellsElement}
use Rattle.lucid_cert.specs.declared.fault.CheckFault.{CheckFault}
use Rattle.lucid_cert.specs.declared.fault.CheckFault.TheVariants as check
use Rattle.lucid_cert.proofs.RightOnes.{right_is_not_wrong}
use Rattle.lucid_cert.specs.Laws.{HoldTheSame, MadeIsFoundRight, TellSame}

-- the input of a row is there
pub input_there : (T : Table) → IsInRange T → (id k : ℕ) → row_at T id ≡ Some (Input k) → k < length T.inputs
input_there T range id k row = by (slice_get T.nodes id) refl row
  where
    by : (o : Option NodeRow) → slice_get T.nodes id ≡ o → option_map (λ r. r.node) o ≡ Some (Input k) → k < length T.inputs
    by None at is = absurd (cc is)
    by (Some r) at is =
        let names = (node-in_range (sizes T) T.nodes id r range.2 (slice_get_within T.nodes id r at)).1 in
        let node : (get_or T.nodes id r).node ≡ Input k = ap (λ (x : NodeRow). x.node) (get_or_from_slice_get T.nodes id r r at) ∙ cc is in
        subst (NodeNames (sizes T)) node names

-- What a judgment tells, and follows by what is read, is read.
module _ (T : Table) (range : IsInRange T) (differ : AllDiffer T.inputs) (made : Inputs) (count : length (streams made) ≡ length T.inputs)
    (cs : List (Option Context)) (js : List PlainJudgment) (i k j : ℕ) (t : TellsElement T cs js i k j)
    (f : FollowsIn T (elements_read T.inputs (streams made)) cs js i) where
  abbrev read : Elements
  read = elements_read T.inputs (streams made)

  abbrev its_name : List ℕ
  its_name = get_or T.inputs k []

  same : f.judgment ≡ t.judgment
  same = same_Some f.judgment t.judgment (sym f.there ∙ t.there)

  its_row : row_at T f.judgment.node ≡ Some (Input k)
  its_row = ap (λ (x : PlainJudgment). row_at T x.node) same ∙ t.row

  value_is : by_onward read (used cs js i) (element_of its_name f.judgment.time) f.judgment.space f.judgment.uses ≡ Some f.judgment.value
  value_is =
      sym (input_gives T read (used cs js i) f.judgment.node k f.context f.judgment.time f.judgment.space f.judgment.uses its_row
      (row-node T range f.judgment.node (Input k) its_row)) ∙ f.gives

  element_is : read its_name j ≡ Some f.judgment.value
  element_is =
      sym (ap (read its_name) (ap (λ (x : PlainJudgment). x.time) same ∙ t.is_time))
      ∙ (sym (ap (λ (us : List ℕ). by_onward read (used cs js i) (element_of its_name f.judgment.time) f.judgment.space us)
      (ap (λ (x : PlainJudgment). x.uses) same ∙ t.no_uses)) ∙ value_is)

  pub told_is_read : read_in (stream_at made k) j ≡ Some f.judgment.value
  told_is_read =
      let lt : k < length T.inputs = input_there T range f.judgment.node k its_row in
      sym (elements_at T.inputs (streams made) k its_name (stream_at made k) differ (slice_get-get_or T.inputs k [] lt)
      (stream_there made k (omega (arith, lt, count))) j) ∙ element_is

-- what is read stands among the elements, unless the end was met
stands : (s : Stream) (j : ℕ) (v : PlainValue) → read_in s j ≡ Some v → s.ended ≡ false → j < length s.elements
stands s j v e going = by (slice_get s.elements j) refl e
  where
    by : (o : Option PlainValue) → slice_get s.elements j ≡ o → or_end o s ≡ Some v → j < length s.elements
    by None at is = absurd (none-some _ (ap (λ b. cond {A = Option PlainValue} b (Some eod) None) (sym going) ∙ is))
    by (Some x) at is = slice_get_within s.elements j x at

-- the same bytes, once more of them are consumed
still_same : (o p q : Option Contents) → option_map all_bytes q ≡ option_map all_bytes p → TellSame o p → TellSame o q
still_same (Some a) (Some b) (Some c) e h = h ∙ sym (same_Some (all_bytes c) (all_bytes b) e)
still_same (Some a) (Some b) None e h = absurd (cc)
still_same (Some a) None q e h = absurd h
still_same None p q e h = absurd h

-- So they tell the same elements.
told_one : (s t : Stream) (j : ℕ) (v : PlainValue) (o p : Option Contents) → TellSame o p → told_in t p j ≡ Some v → told_in s o j ≡ Some v
told_one s t j v (Some a) (Some b) h e = ap (λ (bs : List ℕ). Some (element bs j)) h ∙ e
told_one s t j v (Some a) None h e = absurd h
told_one s t j v None p h e = absurd h

told_alike : (names : List (List ℕ)) (ss ts : List Stream) (v w : World) → length ts ≡ length ss
    → ((k : ℕ) (s t : Stream) → slice_get ss k ≡ Some s → slice_get ts k ≡ Some t → TellSame (v.place s.place).contents (w.place t.place).contents)
    → Extends (elements_told names ts w) (elements_told names ss v)
told_alike [] ss ts v w same each n j x e = absurd (none-some _ e)
told_alike (m ∷ names) ss [] v w same each n j x e = absurd (none-some _ e)
told_alike (m ∷ names) [] (t ∷ ts) v w same each n j x e = absurd (omega (arith, same))
told_alike (m ∷ names) (s ∷ ss) (t ∷ ts) v w same each n j x e =
    (elim (same_name m n) as (λ b. cond b (told_in t (w.place t.place).contents j) (elements_told names ts w n j) ≡ Some x
    → cond b (told_in s (v.place s.place).contents j) (elements_told names ss v n j) ≡ Some x) [
      | true ↦ λ q. told_one s t j x (v.place s.place).contents (w.place t.place).contents (each 0 s t refl refl) q
      | false ↦ λ q. told_alike names ss ts v w (omega (arith, same)) (λ k. each (suc k)) n j x q
    ]) e

module _ (T : Table) (range : IsInRange T) (differ : AllDiffer T.inputs) (keeps : KeepsWithin) (first made : Inputs)
    (count : length (streams made) ≡ length T.inputs)
    (start mid : World) (time : ℕ) (w : Why) (m : Made T first made start mid time (Ok w)) (old new : Inputs) (before after : World)
    (h : HoldTheSame made mid old before) where
  -- what the places told where it was made
  abbrev told : Elements
  told = elements_told T.inputs (streams made) mid

  is_right : IsRight T told w
  is_right = (m.made told (told_extends (view_of T made) mid m.askable)).right

  -- no judgment of it tells an element past what may be read
  not_past : (k i j : ℕ) → TellsElement T (contexts T w) w.judgments i k j → LiesPast old before k j → ⊥
  not_past k i j t past =
      let lt : k < length (streams made) = omega (arith, input_there T range t.judgment.node k t.row, count) in
      let follows = (m.made (elements_read T.inputs (streams made)) (λ n x v e. e)).right.all i (slice_get_within w.judgments i t.judgment t.there) in
      over k j follows.judgment.value (told_is_read T range differ made count (contexts T w) w.judgments i k j t follows)
      (mid.place (stream_at made k).place).contents (before.place (stream_at old k).place).contents (h.bytes k lt)
      (m.askable k (stream_at made k) (stream_there made k lt)).1 past
    where
      over : (k j : ℕ) (v : PlainValue) → read_in (stream_at made k) j ≡ Some v → (o p : Option Contents) → TellSame o p
          → IfSome o (λ c. Fits (stream_at made k) c) → IfSome p (λ c. IsOverlong (all_bytes c) j (most_bytes old)) → ⊥
      over k j v read (Some c) (Some d) same fits long =
          let within : IsWithin (stream_at made k) (most_bytes made) = record { consumed = (keeps made k).0; ended = (keeps made k).2 } in
          not_overlong (stream_at made k) c j (most_bytes made) fits within (stands (stream_at made k) j v read)
          (subst (λ bs. IsOverlong bs j (most_bytes made)) (sym same) (subst (IsOverlong (all_bytes d) j) h.most long))
      over k j v read (Some c) None same fits long = absurd same
      over k j v read None p same fits long = absurd same

  module _ (looked : HasLooked T w old new before after) where
    count_new : length (streams new) ≡ length (streams made)
    count_new = omega (
      arith,
      h.count,
      ap length looked.places,
      length-map (streams new) (λ (s : Stream). s.place),
      length-map (streams old) (λ (s : Stream). s.place),
    )

    place_is : (k : ℕ) (t : Stream) → slice_get (streams new) k ≡ Some t → t.place ≡ (stream_at old k).place
    place_is k t e =
        let lt : k < length (streams old) = omega (arith, slice_get_within (streams new) k t e, count_new, h.count) in
        same_Some t.place (stream_at old k).place
        (sym (slice_get-map (λ (s : Stream). s.place) (streams new) k ∙ ap (option_map (λ (s : Stream). s.place)) e)
        ∙ (ap (λ (ps : List ℕ). slice_get ps k) looked.places
        ∙ (slice_get-map (λ (s : Stream). s.place) (streams old) k ∙ ap (option_map (λ (s : Stream). s.place)) (stream_there old k lt))))

    each_same : (k : ℕ) (s t : Stream) → slice_get (streams made) k ≡ Some s → slice_get (streams new) k ≡ Some t
        → TellSame (mid.place s.place).contents (after.place t.place).contents
    each_same k s t e f =
        let q = (stream_at old k).place in
        let same = still_same (mid.place (stream_at made k).place).contents (before.place q).contents (after.place q).contents (looked.reads_only.bytes q)
        (h.bytes k (slice_get_within (streams made) k s e)) in
        let there : stream_at made k ≡ s = ap (λ o. unwrap_or o (fresh_stream 0)) e in
        let P : ℕ → Type 0 = λ p. TellSame (mid.place (stream_at made k).place).contents (after.place p).contents in
        let Q : Stream → Type 0 = λ x. TellSame (mid.place x.place).contents (after.place t.place).contents in
        subst Q there (subst P (sym (place_is k t f)) same)

    may_be : MayBe T new told
    may_be = extends_then (elements_read T.inputs (streams new)) (elements_told T.inputs (streams new) after) told
        (told_extends (view_of T new) after looked.askable) (told_alike T.inputs (streams made) (streams new) mid after count_new each_same)

    never_wrong : (i : ℕ) → ((b : Elements) → MayBe T new b → IsWrong T b w i) → ⊥
    never_wrong i wrong = right_is_not_wrong T told w i is_right (wrong told may_be)

    never_large : (k : ℕ) → ((b : Elements) → MayBe T new b → TellsPast T b w old before k) → ⊥
    never_large k large = let x = large told may_be in not_past k x.number x.index x.tells x.past

  found_right : (result : Result (Unit {0}) CheckFault) → Checked T w old new before after result
      → IfErr result (λ e. (e ≡ check.ReadFault) ⊎ (e ≡ check.NoMemory))
  found_right (Ok x) c = tt
  found_right (Err (check.Wrong i)) c = absurd (never_wrong c.looked i c.wrong)
  found_right (Err check.ReadFault) c = inl refl
  found_right (Err (check.TooLarge k)) c = absurd (never_large c.looked k c.too_large)
  found_right (Err check.NoMemory) c = inr refl

pub made_is_found_right : KeepsWithin → MadeIsFoundRight
made_is_found_right keeps T range differ first made count start mid time w m old new before after h result c =
    found_right T range differ keeps first made count start mid time w m old new before after h result c
