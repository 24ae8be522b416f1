-- The facts of all rows where other elements, holdings or rows are seen, and where one slot's row is set.
use Rattle.lucid_demand_steps.proofs.Common.{◌≡◌, ◌⊎◌, inl, inr, ℕ, zero, suc, List, [], ◌∷◌, Option, Some, None, refl, sym, ap, ◌∙◌, subst, arith, IsTrue, IsSome, list_all, cases_eq, PlainValue, Elements, Part, Cursor, Extends, PlainTask, PlainRow, PlainRows, PartState, DatonAt, idle, asked, got, is_free, state_at, waits_for_none, Holding, Demand, Answers, RowFacts, PartAnswers, Serves, Links, Work, at_cursor, SetsRow}
use Rattle.std.proofs.Common.{true}
use Rattle.lucid_demand_steps.proofs.Slots.{at_it, at_another}

-- ---- the same rows

-- Facts of rows stay where more elements are read: they are of all elements that extend those read.
pub work_later : (d : Demand) (now later : Elements) (h : Holding) (lost : ℕ) (rows : PlainRows) → Extends now later → Work d now h lost rows
    → Work d later h lost rows
work_later d now later h lost rows more w = record {
  each = λ slot r e b x. w.each slot r e b (λ n j v k. x n j v (more n j v k));
  links = w.links;
  some = w.some;
}

-- the row that waits for a row is there still, where its slot has the row that it had
pub serves_there : (d : Demand) (old new : PlainRows) (q : ℕ) (c : PlainRow) (part : Part) → new part.slot ≡ old part.slot → Serves d old q c part
    → Serves d new q c part
serves_there d old new q c part same s = record {
  parent = s.parent;
  there = same ∙ s.there;
  asked_it = s.asked_it;
  older = s.older;
  task = s.task;
  is_part = s.is_part;
  stands = s.stands;
}

-- Facts of rows are of each slot's row, however the rows are given: as a row is seen the same where more contexts become known.
pub work_same : (d : Demand) (now : Elements) (h : Holding) (lost : ℕ) (old new : PlainRows) → ((q : ℕ) → new q ≡ old q) → Work d now h lost old
    → Work d now h lost new
work_same d now h lost old new same w = record {
  each = λ q c e. w.each q c (sym (same q) ∙ e);
  links = λ q c e. let l = w.links q c (sym (same q) ∙ e) in
      record { root = l.root; serves = λ part o. serves_there d old new q c part (same part.slot) (l.serves part o) };
  some = (w.some.0, w.some.1, same w.some.0 ∙ w.some.2);
}

-- what is said of what is held stays where that grows, or where nothing that is said of it counts any more
module _ (d : Demand) (h g : Holding) (lost more : ℕ)
    (over : IsTrue d.first.keeps → more ≡ 0 → (lost ≡ 0) × ((k : DatonAt) → IsSome (h k.0 k.1) → IsSome (g k.0 k.1))) where
  pub answers_over : (b : Elements) (x : PlainTask) (v : PlainValue) → Answers d b h lost x v → Answers d b g more x v
  answers_over b x v a = record { means = a.means; exact = a.exact; kept = λ e z k n. let o = over e z in o.1 k (a.kept e o.0 k n) }

  part_answers_over : (b : Elements) (r : PlainRow) (i : ℕ) (v : PlainValue) → PartAnswers d b h lost r i v → PartAnswers d b g more r i v
  part_answers_over b r i v a = record { task = a.task; is = a.is; answers = answers_over b a.task v a.answers }

  pub facts_over : (b : Elements) (r : PlainRow) → RowFacts d b h lost r → RowFacts d b g more r
  facts_over b r f = record {
    there = f.there;
    three = f.three;
    limit = f.limit;
    still = f.still;
    needed = f.needed;
    seen = f.seen;
    search = λ form es stream e q s. let x = f.search form es stream e q s in record {
      counted = x.counted;
      exact = x.exact;
      kept = λ t z u l k n. let o = over t z in o.1 k (x.kept t o.0 u l k n);
      within = x.within;
    };
    got_parts = λ i v e. part_answers_over b r i v (f.got_parts i v e);
    remembers = f.remembers;
  }

-- Facts of rows stay where what is held grows, or where nothing that they say of it counts any more.
pub work_over : (d : Demand) (now : Elements) (h g : Holding) (lost more : ℕ) (rows : PlainRows)
    → (IsTrue d.first.keeps → more ≡ 0 → (lost ≡ 0) × ((k : DatonAt) → IsSome (h k.0 k.1) → IsSome (g k.0 k.1))) → Work d now h lost rows
    → Work d now g more rows
work_over d now h g lost more rows over w = record {
  each = λ q r e b x. facts_over d h g lost more over b r (w.each q r e b x);
  links = w.links;
  some = w.some;
}

-- ---- one slot's row is set

-- none of the parts of a row that waits for none is asked
not_asked : (ps : List PartState) (i slot : ℕ) → list_all is_free ps ≡ true → state_at ps i ≡ asked slot → ⊥
not_asked [] i slot f e = absurd (cc)
not_asked (idle ∷ ps) zero slot f e = absurd (cc)
not_asked (asked s ∷ ps) zero slot f e = absurd (cc)
not_asked (got v ∷ ps) zero slot f e = absurd (cc)
not_asked (idle ∷ ps) (suc i) slot f e = not_asked ps i slot f e
not_asked (asked s ∷ ps) (suc i) slot f e = absurd (cc)
not_asked (got v ∷ ps) (suc i) slot f e = not_asked ps i slot f e

pub one_row : (o : Option PlainRow) (a b : PlainRow) → o ≡ Some a → o ≡ Some b → a ≡ b
one_row o a b e f = let g : Some a ≡ Some b = sym e ∙ f in cc

-- the row in a slot is no row's parent
abbrev pub IsNoParent : PlainRows → (slot : ℕ) → Type 0
IsNoParent rows slot = (q : ℕ) (c : PlainRow) (i : ℕ) → rows q ≡ Some c → c.parent ≡ Some (record { slot = slot; index = i }) → ⊥

module _ (d : Demand) (now : Elements) (h : Holding) (lost : ℕ) (old : PlainRows) (w : Work d now h lost old) where
  -- a row's parent is there, and asked it
  pub serves_of : (q : ℕ) (c : PlainRow) (slot i : ℕ) → old q ≡ Some c → c.parent ≡ Some (record { slot = slot; index = i })
      → Serves d old q c (record { slot = slot; index = i })
  serves_of q c slot i at up = (w.links q c at).serves (record { slot = slot; index = i }) up

  -- a row that waits for none of its parts is no row's parent
  pub ready_is_no_parent : (slot : ℕ) (r : PlainRow) → old slot ≡ Some r → waits_for_none r ≡ true → IsNoParent old slot
  ready_is_no_parent slot r at ready q c i e up =
      let s = serves_of q c slot i e up in
      let same : s.parent ≡ r = one_row (old slot) s.parent r s.there at in
      not_asked r.parts i q ready (ap (λ y. state_at y.parts i) (sym same) ∙ s.asked_it)

  -- nor is a slot without a row
  pub none_is_no_parent : (slot : ℕ) → old slot ≡ None → IsNoParent old slot
  none_is_no_parent slot none q c i e up = let s = serves_of q c slot i e up in let both : None ≡ Some s.parent = sym none ∙ s.there in absurd (cc)

  -- A slot that is no row's parent is set: the facts of the other rows stay.
  module _ (new : PlainRows) (slot : ℕ) (o : Option PlainRow) (alone : IsNoParent old slot)
      (facts : (s : PlainRow) → o ≡ Some s → (b : Elements) → Extends now b → RowFacts d b h lost s)
      (linked : (s : PlainRow) → o ≡ Some s → Links d new slot s) (some : (q : ℕ) × (c : PlainRow) × (new q ≡ Some c)) (sets : SetsRow old new slot o) where
    here : (q : ℕ) (c : PlainRow) → q ≡ slot → new q ≡ Some c → o ≡ Some c
    here q c e at = sym (at_it q slot o (old q) e) ∙ sym (sets q) ∙ at

    elsewhere : (q : ℕ) → (q ≡ slot → ⊥) → new q ≡ old q
    elsewhere q n = sets q ∙ at_another q slot o (old q) n

    each_set : (q : ℕ) (c : PlainRow) → new q ≡ Some c → (q ≡ slot) ⊎ (q ≡ slot → ⊥) → (b : Elements) → Extends now b → RowFacts d b h lost c
    each_set q c at (inl e) = facts c (here q c e at)
    each_set q c at (inr n) = w.each q c (sym (elsewhere q n) ∙ at)

    links_set : (q : ℕ) (c : PlainRow) → new q ≡ Some c → (q ≡ slot) ⊎ (q ≡ slot → ⊥) → Links d new q c
    links_set q c at (inl e) = subst (λ z. Links d new z c) (sym e) (linked c (here q c e at))
    links_set q c at (inr n) =
        let was : old q ≡ Some c = sym (elsewhere q n) ∙ at in
        let l = w.links q c was in
        record {
          root = l.root;
          serves = λ part up. serves_there d old new q c part
              (elsewhere part.slot (λ e. alone q c part.index was (up ∙ ap (λ z. Some (record { slot = z; index = part.index })) e))) (l.serves part up);
        }

    pub work_sets : Work d now h lost new
    work_sets = record { each = λ q c at. each_set q c at (cases_eq q slot); links = λ q c at. links_set q c at (cases_eq q slot); some = some }

-- A row that waits for nothing has its cursor elsewhere. No other row is a part of it.
pub work_moves : (d : Demand) (now : Elements) (h : Holding) (lost : ℕ) (old new : PlainRows) (slot : ℕ) (r : PlainRow) (c : Cursor) → Work d now h lost old
    → old slot ≡ Some r
    → ((q : ℕ) (p : PlainRow) (i : ℕ) → old q ≡ Some p → p.parent ≡ Some (record { slot = slot; index = i }) → ⊥)
    → ((b : Elements) → Extends now b → RowFacts d b h lost (at_cursor c r)) → SetsRow old new slot (Some (at_cursor c r)) → Work d now h lost new
work_moves d now h lost old new slot r c w at alone facts sets =
    work_sets d now h lost old w new slot (Some s) alone (λ p e. subst (λ z. (b : Elements) → Extends now b → RowFacts d b h lost z) (same p e) facts)
    (λ p e. subst (λ z. Links d new slot z) (same p e) links) (slot, s, sets slot ∙ at_it slot slot (Some s) (old slot) refl) sets
  where
    s : PlainRow
    s = at_cursor c r

    same : (p : PlainRow) → Some s ≡ Some p → s ≡ p
    same p e = cc

    serves : (part : Part) → Serves d old slot r part → Serves d new slot s part
    serves part k = record {
      parent = k.parent;
      there = sets part.slot ∙ at_another part.slot slot (Some s) (old part.slot) (λ e. let o = k.older in absurd (omega (arith, o, e))) ∙ k.there;
      asked_it = k.asked_it;
      older = k.older;
      task = k.task;
      is_part = k.is_part;
      stands = k.stands;
    }

    links : Links d new slot s
    links = let was = w.links slot r at in record { root = was.root; serves = λ part e. serves part (was.serves part e) }
