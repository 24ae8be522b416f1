-- A ready row settles: its value is that of a part of another row, or answers the root.
use Rattle.lucid_demand_steps.proofs.Common.{◌≡◌, inl, inr, ℕ, zero, suc, ◌<◌, List, [], ◌∷◌, Option, Some, None, refl, sym, ap, ◌∙◌, arith, IsTrue, IsSome, PlainValue, Elements, In, Part, Extends, PlainRow, PlainRows, DatonAt, PartState, asked, got, state_at, key_list, waits_for_none, Holding, Demand, Answers, RowFacts, Serves, Work, with_part, SettlesRow}
use Rattle.std.proofs.Common.{length}
use Rattle.std.specs.Prelude.{true}
use Rattle.lucid_demand_steps.proofs.Slots.{at_it, at_another}
use Rattle.lucid_demand_steps.proofs.Steps.{with_row, settles_in_two}
use Rattle.lucid_demand_steps.proofs.Standing.{standing-answers}
use Rattle.lucid_demand_steps.proofs.PartFacts.{part-got}
use Rattle.lucid_demand_steps.proofs.Working.{one_row, ready_is_no_parent, work_sets}
use Rattle.lucid_demand_steps.proofs.Setting.{work_part}

-- a part below three, where a task was asked for it
asked_below : (ps : List PartState) (i n slot : ℕ) → length ps ≡ n → state_at ps i ≡ asked slot → i < n
asked_below [] i n slot l e = absurd (cc)
asked_below (p ∷ ps) zero n slot l e = omega (arith, l)
asked_below (p ∷ ps) (suc i) n slot l e = let h = asked_below ps i (length ps) slot refl e in omega (arith, l, h)

asked_is_unset : (ps : List PartState) (i slot : ℕ) → state_at ps i ≡ asked slot → (w : PlainValue) → state_at ps i ≡ got w → ⊥
asked_is_unset ps i slot e w g = let x : asked slot ≡ got w = sym e ∙ g in absurd (cc)

one_asked : (a b : ℕ) (x : PartState) → x ≡ asked a → x ≡ asked b → a ≡ b
one_asked a b x e f = let g : asked a ≡ asked b = sym e ∙ f in cc

in_keys : (o : Option DatonAt) (k : DatonAt) → In k (key_list o) → o ≡ Some k
in_keys None k i = absurd i
in_keys (Some m) k (inl e) = ap Some (sym e)
in_keys (Some m) k (inr i) = absurd i

-- A ready row settles for a part of another. What it remembered is held by then, or was lost.
pub work_settles : (d : Demand) (now : Elements) (h : Holding) (lost : ℕ) (old new : PlainRows) (slot : ℕ) (r : PlainRow) (part : Part) (v : PlainValue)
    → Work d now h lost old → old slot ≡ Some r
    → waits_for_none r ≡ true → r.parent ≡ Some part → ((b : Elements) → Extends now b → Answers d b h lost r.task v)
    → (IsTrue d.first.keeps → lost ≡ 0 → (k : DatonAt) → r.key ≡ Some k → IsSome (h k.0 k.1)) → SettlesRow old new slot r v → Work d now h lost new
work_settles d now h lost old new slot r part v w at ready up answers kept settles =
    work_part d now h lost mid new part.slot part.index serves.parent (got v) gone parent_there unset alone facts
    (settles_in_two old new slot r serves.parent part v up apart serves.there settles)
  where
    serves : Serves d old slot r part
    serves = (w.links slot r at).serves part up

    mid : PlainRows
    mid = with_row old slot None

    apart : part.slot ≡ slot → ⊥
    apart e = let o = serves.older in absurd (omega (arith, e, o))

    parent_there : mid part.slot ≡ Some serves.parent
    parent_there = at_another part.slot slot None (old part.slot) apart ∙ serves.there

    gone : Work d now h lost mid
    gone =
        work_sets d now h lost old w mid slot None (ready_is_no_parent d now h lost old w slot r at ready) (λ s e. absurd (cc)) (λ s e. absurd (cc))
        (part.slot, serves.parent, parent_there) (λ q. refl)

    unset : (u : PlainValue) → state_at serves.parent.parts part.index ≡ got u → ⊥
    unset = asked_is_unset serves.parent.parts part.index slot serves.asked_it

    alone : (q : ℕ) (c : PlainRow) → mid q ≡ Some c → c.parent ≡ Some (record { slot = part.slot; index = part.index }) → ⊥
    alone q c e o =
        let s = (gone.links q c e).serves part o in
        let same : s.parent ≡ serves.parent = one_row (mid part.slot) s.parent serves.parent s.there parent_there in
        let here : q ≡ slot = one_asked q slot (state_at serves.parent.parts part.index) (ap (λ z. state_at z.parts part.index) (sym same) ∙ s.asked_it)
        serves.asked_it in
        let both : None ≡ Some c = sym (at_it q slot None (old q) here) ∙ e in
        absurd (cc)

    facts : (b : Elements) → Extends now b → RowFacts d b h lost (with_part part.index (got v) serves.parent)
    facts b x =
        let f = w.each part.slot serves.parent serves.there b x in
        part-got d b h lost serves.parent part.index v f (asked_below serves.parent.parts part.index 3 slot f.three serves.asked_it) unset (record {
          task = serves.task;
          is = serves.is_part;
          answers = standing-answers d b h lost (key_list r.key) r.task serves.task v serves.stands (λ k z i m. kept k z i (in_keys r.key i m)) (answers b x);
        })

-- A row without a parent settles: its value answers the root.
pub root_settles : (d : Demand) (now : Elements) (h : Holding) (lost : ℕ) (rows : PlainRows) (slot : ℕ) (r : PlainRow) (v : PlainValue) → Work d now h lost rows
    → rows slot ≡ Some r
    → r.parent ≡ None → (b : Elements) → Extends now b → Answers d b h lost r.task v
    → (IsTrue d.first.keeps → lost ≡ 0 → (k : DatonAt) → r.key ≡ Some k → IsSome (h k.0 k.1))
    → Answers d b h lost d.root v
root_settles d now h lost rows slot r v w at up b x answers kept =
    standing-answers d b h lost (key_list r.key) r.task d.root v ((w.links slot r at).root up) (λ k z i m. kept k z i (in_keys r.key i m)) answers
