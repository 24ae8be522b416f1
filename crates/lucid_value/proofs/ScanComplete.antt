-- What bytes denote as a list, the scan reads.
use Rattle.lucid_value.proofs.Common.{◌≡◌, ℕ, ◌≤◌, List, [], ◌∷◌, ◌++◌, Bool, true, false, Option, Some, refl, sym, ap, ◌∙◌, subst, append_assoc, arith, ◌||◌, nat_eq, list_all, both_true, and_parts, eqb-true, le-leb, lt-ltb, PlainValue, text, list, Items, no_items, item, may_be_held, is_text, is_text_byte, is_light, weight, weights, nesting, nestings, fits, joined, is_blank, all_blank, stands_apart, Denotes, denotes_number, denotes_minus, denotes_true, denotes_false, denotes_word, denotes_text, denotes_list, denotes_eod, denotes_fault, DenotesItems, denotes_none, denotes_item, State, state, start, step, step_from, runs, turned, put, put_some, go_on, is_atom_byte, text_value, Ready, Full, Atom, Quoted, Closing, Done}
use Rattle.std.proofs.Common.{◌+◌, ◌<◌, length}
use Rattle.lucid_value.specs.ListScan.{begin, open_list}
use Rattle.lucid_value.proofs.AtomValues.{is_atomic, atom_read, atom_bytes}

pub runs_append : (o : Option State) (xs ys : List ℕ) → runs o (xs ++ ys) ≡ runs (runs o xs) ys
runs_append o [] ys = refl
runs_append o (x ∷ xs) ys = runs_append (step_from x o) xs ys

-- items turned round twice
turned_twice : (vs us ws : Items) → turned (turned vs us) ws ≡ turned us (joined vs ws)
turned_twice no_items us ws = refl
turned_twice (item v vs) us ws = turned_twice vs (item v us) ws

joined_nil : (vs : Items) → joined vs no_items ≡ vs
joined_nil no_items = refl
joined_nil (item v vs) = ap (item v) (joined_nil vs)

turned_back : (vs : Items) → turned (turned vs no_items) no_items ≡ vs
turned_back vs = turned_twice vs no_items no_items ∙ joined_nil vs

-- a byte that is an atom's is none of the others
pub not_equal : (b c : ℕ) (m : Bool) → nat_eq b c ≡ m → is_atom_byte c ≡ false → is_atom_byte b ≡ true → nat_eq b c ≡ false
not_equal b c true e h k = let q : b ≡ c = eqb-true b c e in cc (ap is_atom_byte q)
not_equal b c false e h k = e

blank_is : (b : ℕ) (P : ℕ → Type 0) → P 9 → P 10 → P 13 → P 32 → is_blank b ≡ true → P b
blank_is b P p q r s h = at (nat_eq b 9) (nat_eq b 10) (nat_eq b 13) (nat_eq b 32) refl refl refl refl h
  where
    at : (i j k l : Bool) → nat_eq b 9 ≡ i → nat_eq b 10 ≡ j → nat_eq b 13 ≡ k → nat_eq b 32 ≡ l → (i || j || k || l) ≡ true → P b
    at true j k l e f g m h = subst P (sym (eqb-true b 9 e)) p
    at false true k l e f g m h = subst P (sym (eqb-true b 10 f)) q
    at false false true l e f g m h = subst P (sym (eqb-true b 13 g)) r
    at false false false true e f g m h = subst P (sym (eqb-true b 32 m)) s
    at false false false false e f g m h = cc

blank_begins : (b : ℕ) (p : List ℕ) (us : Items) (outer : List Items) → is_blank b ≡ true → begin b p us outer ≡ Some (state Ready p us outer)
blank_begins b p us outer h = blank_is b (λ x. begin x p us outer ≡ Some (state Ready p us outer)) refl refl refl refl h

pub blank_no_atom : (b : ℕ) → is_blank b ≡ true → is_atom_byte b ≡ false
blank_no_atom b h = blank_is b (λ x. is_atom_byte x ≡ false) refl refl refl refl h

gap_runs : (gap : List ℕ) (p : List ℕ) (us : Items) (outer : List Items) → all_blank gap ≡ true
    → runs (Some (state Ready p us outer)) gap ≡ Some (state Ready p us outer)
gap_runs [] p us outer h = refl
gap_runs (b ∷ gap) p us outer h =
    let k = and_parts (is_blank b) (all_blank gap) h in
    ap (λ o. runs o gap) (blank_begins b p us outer k.0) ∙ gap_runs gap p us outer k.1

-- the scan read a value, and goes on as behind an item; only an atom's byte may still belong to it
record Read (from : State) (bs : List ℕ) (us : Items) (outer : List Items) : Type 0 where
  after : State
  pending : List ℕ
  reads : runs (Some from) bs ≡ Some after
  next : (b : ℕ) → is_atom_byte b ≡ false → step b after ≡ go_on b pending us outer

-- there is room for the items behind those that were read
record Room (us vs : Items) (outer : List Items) : Type 0 where
  light : weights us + weights vs + 1 ≤ 65536
  flat : nestings us + 1 ≤ 64
  deep : length outer + 1 + nestings vs ≤ 64

put_fits : (v : PlainValue) (p : List ℕ) (us : Items) (outer : List Items) → may_be_held v ≡ true → weight v + weights us + 1 ≤ 65536 → nesting v + 1 ≤ 64
    → nestings us + 1 ≤ 64
    → put v p us outer ≡ Some (state Full p (item v us) outer)
unfolding put
put_fits v p us outer m w n k =
    let f : fits (item v us) ≡ true = both_true (le-leb _ _ w) (le-leb _ _ (omega arith)) in rw (m, f) refl

atoms_run : (cs bs : List ℕ) (us : Items) (outer : List Items) → list_all is_atom_byte cs ≡ true
    → runs (Some (state Atom bs us outer)) cs ≡ Some (state Atom (bs ++ cs) us outer)
atoms_run [] bs us outer h = ap (λ x. Some (state Atom x us outer)) (sym (nil bs))
  where
    nil : (xs : List ℕ) → xs ++ [] ≡ xs
    nil [] = refl
    nil (x ∷ xs) = ap (λ ys. x ∷ ys) (nil xs)
atoms_run (c ∷ cs) bs us outer h =
    let k = and_parts (is_atom_byte c) (list_all is_atom_byte cs) h in
    let e = k.0 in
    rw e (atoms_run cs (bs ++ c ∷ []) us outer k.1 ∙ ap (λ x. Some (state Atom x us outer)) (append_assoc bs (c ∷ []) cs))

atom_runs : (bs : List ℕ) (p : List ℕ) (us : Items) (outer : List Items) → list_all is_atom_byte bs ≡ true → 0 < length bs
    → runs (Some (state Ready p us outer)) bs ≡ Some (state Atom bs us outer)
atom_runs [] p us outer h some = absurd (omega arith)
atom_runs (b ∷ bs) p us outer h some =
    let k = and_parts (is_atom_byte b) (list_all is_atom_byte bs) h in
    let a = k.0 in
    let e = not_equal b 91 (nat_eq b 91) refl refl a in
    let f = not_equal b 96 (nat_eq b 96) refl refl a in
    rw (e, f, a) (atoms_run bs (b ∷ []) us outer k.1)

pub denotes_some : (bs : List ℕ) (v : PlainValue) → Denotes bs v → 0 < length bs
denotes_some bs v (denotes_number [] h lt) = cc
denotes_some bs v (denotes_word [] h) = cc
denotes_some bs v _ = omega arith

atom_item : (bs : List ℕ) (v : PlainValue) → Denotes bs v → is_atomic v ≡ true → may_be_held v ≡ true → (p : List ℕ) (us : Items) (outer : List Items)
    → weight v + weights us + 1 ≤ 65536 → nesting v + 1 ≤ 64 → nestings us + 1 ≤ 64 → Read (state Ready p us outer) bs (item v us) outer
atom_item bs v d a m p us outer w n k = record {
  after = state Atom bs us outer;
  pending = bs;
  reads = atom_runs bs p us outer (atom_bytes bs v d a) (denotes_some bs v d);
  next = λ b h. let e = atom_read bs v d a (omega arith) in let f = put_fits v bs us outer m w n k in rw (h, e) (rw f refl);
}

text_runs : (cs bs : List ℕ) (us : Items) (outer : List Items) → is_text cs ≡ true
    → runs (Some (state Quoted bs us outer)) cs ≡ Some (state Quoted (bs ++ cs) us outer)
text_runs [] bs us outer h = ap (λ x. Some (state Quoted x us outer)) (sym (nil bs))
  where
    nil : (xs : List ℕ) → xs ++ [] ≡ xs
    nil [] = refl
    nil (x ∷ xs) = ap (λ ys. x ∷ ys) (nil xs)
text_runs (c ∷ cs) bs us outer h =
    let k = and_parts (is_text_byte c) (is_text cs) h in
    let e = no_quote c (nat_eq c 39) refl k.0 in
    rw e (text_runs cs (bs ++ c ∷ []) us outer k.1 ∙ ap (λ x. Some (state Quoted x us outer)) (append_assoc bs (c ∷ []) cs))
  where
    no_quote : (b : ℕ) (m : Bool) → nat_eq b 39 ≡ m → is_text_byte b ≡ true → nat_eq b 39 ≡ false
    no_quote b true e k = let q : b ≡ 39 = eqb-true b 39 e in cc (ap is_text_byte q)
    no_quote b false e k = e

pub text_reads : (bs : List ℕ) → is_text bs ≡ true → length bs < 65536 → text_value bs ≡ Some (text bs)
unfolding text_value
text_reads bs h l = let k : is_light bs ≡ true = lt-ltb _ _ l in rw (h, k) refl

text_item : (bs : List ℕ) → is_text bs ≡ true → (p : List ℕ) (us : Items) (outer : List Items)
    → weight (text bs) + weights us + 1 ≤ 65536 → nestings us + 1 ≤ 64 → Read (state Ready p us outer) (96 ∷ (bs ++ 39 ∷ [])) (item (text bs) us) outer
text_item bs h p us outer w k = record {
  after = state Full bs (item (text bs) us) outer;
  pending = bs;
  reads = runs_append (Some (state Quoted [] us outer)) bs (39 ∷ []) ∙ ap (λ o. runs o (39 ∷ [])) (text_runs bs [] us outer h)
      ∙ ap (λ o. put_some o bs us outer) (text_reads bs h (omega arith)) ∙ put_fits (text bs) bs us outer refl w (omega arith) k;
  next = λ b a. refl;
}

-- the scan of items, to the first byte of `%]`
record ReadAll (from : State) (bs : List ℕ) (us : Items) (outer : List Items) : Type 0 where
  pending : List ℕ
  reads : runs (Some from) (bs ++ 37 ∷ []) ≡ Some (state Closing pending us outer)

close_item : (bs : List ℕ) (ws : Items) (p : List ℕ) (us : Items) (outer : List Items) → length outer < 63 → weight (list ws) + weights us + 1 ≤ 65536
    → nesting (list ws) + 1 ≤ 64 → nestings us + 1 ≤ 64
    → ReadAll (state Ready p no_items (us ∷ outer)) bs (turned ws no_items) (us ∷ outer)
    → Read (state Ready p us outer) (91 ∷ 37 ∷ (bs ++ 37 ∷ 93 ∷ [])) (item (list ws) us) outer
close_item bs ws p us outer o w n k r =
    let e = lt-ltb _ _ o in
    let opened : open_list 37 p us outer ≡ Some (state Ready p no_items (us ∷ outer)) = rw e refl in
    record {
      after = state Full r.pending (item (list ws) us) outer;
      pending = r.pending;
      reads = ap (λ o. runs o (bs ++ 37 ∷ 93 ∷ [])) opened
          ∙ ap (λ x. runs (Some (state Ready p no_items (us ∷ outer))) x) (sym (append_assoc bs (37 ∷ []) (93 ∷ [])))
          ∙ runs_append (Some (state Ready p no_items (us ∷ outer))) (bs ++ 37 ∷ []) (93 ∷ []) ∙ ap (λ x. runs x (93 ∷ [])) r.reads
          ∙ ap (λ x. put (list x) r.pending us outer) (turned_back ws) ∙ put_fits (list ws) r.pending us outer refl w n k;
      next = λ b a. refl;
    }

-- behind an item: what stands apart is read as where an item may begin
resume : (from : State) (bs : List ℕ) (us : Items) (outer : List Items) (r : Read from bs us outer) (rest : List ℕ) → stands_apart rest ≡ true
    → runs (Some r.after) (rest ++ 37 ∷ []) ≡ runs (Some (state Ready r.pending us outer)) (rest ++ 37 ∷ [])
resume from bs us outer r [] h = r.next 37 refl
resume from bs us outer r (b ∷ rest) h =
    let e : step b r.after ≡ Some (state Ready r.pending us outer) = r.next b (blank_no_atom b h) ∙ blank_goes b h in
    ap (λ o. runs o (rest ++ 37 ∷ [])) (e ∙ sym (blank_begins b r.pending us outer h))
  where
    blank_goes : (b : ℕ) → is_blank b ≡ true → go_on b r.pending us outer ≡ Some (state Ready r.pending us outer)
    blank_goes b h = rw h refl

item_then : (gap bs rest : List ℕ) (p : List ℕ) (us : Items) (v : PlainValue) (ws : Items) (outer : List Items) → all_blank gap ≡ true
    → stands_apart rest ≡ true
    → (r : Read (state Ready p us outer) bs (item v us) outer) → ReadAll (state Ready r.pending (item v us) outer) rest ws outer
    → ReadAll (state Ready p us outer) (gap ++ (bs ++ rest)) ws outer
item_then gap bs rest p us v ws outer g a r m = record {
  pending = m.pending;
  reads = ap (λ x. runs (Some (state Ready p us outer)) x) (append_assoc gap (bs ++ rest) (37 ∷ []) ∙ ap (λ x. gap ++ x) (append_assoc bs rest (37 ∷ [])))
      ∙ runs_append (Some (state Ready p us outer)) gap (bs ++ (rest ++ 37 ∷ []))
      ∙ ap (λ o. runs o (bs ++ (rest ++ 37 ∷ []))) (gap_runs gap p us outer g)
      ∙ runs_append (Some (state Ready p us outer)) bs (rest ++ 37 ∷ [])
      ∙ ap (λ o. runs o (rest ++ 37 ∷ [])) r.reads
      ∙ resume (state Ready p us outer) bs (item v us) outer r rest a
      ∙ m.reads;
}

mutual
  item_reads : (bs : List ℕ) (v : PlainValue) → Denotes bs v → may_be_held v ≡ true → (p : List ℕ) (us : Items) (outer : List Items)
      → weight v + weights us + 1 ≤ 65536 → nestings us + 1 ≤ 64 → length outer + 1 + nesting v ≤ 64 → Read (state Ready p us outer) bs (item v us) outer
  item_reads bs v (denotes_number ds h lt) m p us outer w k n = atom_item bs v (denotes_number ds h lt) refl m p us outer w (omega arith) k
  item_reads bs v (denotes_minus ds h le) m p us outer w k n = atom_item bs v (denotes_minus ds h le) refl m p us outer w (omega arith) k
  item_reads bs v denotes_true m p us outer w k n = atom_item bs v denotes_true refl m p us outer w (omega arith) k
  item_reads bs v denotes_false m p us outer w k n = atom_item bs v denotes_false refl m p us outer w (omega arith) k
  item_reads bs v (denotes_word cs h) m p us outer w k n = atom_item bs v (denotes_word cs h) refl m p us outer w (omega arith) k
  item_reads bs v (denotes_text cs h) m p us outer w k n = text_item cs h p us outer w k
  item_reads bs v (denotes_list cs ws d) m p us outer w k n =
      close_item cs ws p us outer (omega arith) w (omega arith) k
      (items_read cs ws d p no_items (us ∷ outer) record { light = omega arith; flat = omega arith; deep = omega arith })
  item_reads bs v denotes_eod m p us outer w k n = cc
  item_reads bs v denotes_fault m p us outer w k n = cc

  items_read : (bs : List ℕ) (vs : Items) → DenotesItems bs vs → (p : List ℕ) (us : Items) (outer : List Items) → Room us vs outer
      → ReadAll (state Ready p us outer) bs (turned vs us) outer
  items_read bs vs (denotes_none gap g) p us outer r = record {
    pending = p;
    reads = runs_append (Some (state Ready p us outer)) gap (37 ∷ []) ∙ ap (λ o. runs o (37 ∷ [])) (gap_runs gap p us outer g);
  }
  items_read bs vs (denotes_item gap cs rest v ws g m d a more) p us outer r =
      let k : nestings (item v us) + 1 ≤ 64 = omega (arith, r.flat, r.deep) in
      let i = item_reads cs v d m p us outer (omega (arith, r.light)) r.flat (omega (arith, r.deep)) in
      item_then gap cs rest p us v (turned ws (item v us)) outer g a i
      (items_read rest ws more i.pending (item v us) outer record { light = omega (arith, r.light); flat = k; deep = omega (arith, r.deep) })

-- The scan of `inner` and `%]` behind `[%`.
pub record ScansTo (inner : List ℕ) (vs : Items) : Type 0 where
  pub pending : List ℕ
  pub reads : runs (Some start) (inner ++ 37 ∷ 93 ∷ []) ≡ Some (state Done pending vs [])

pub scan_complete : (inner : List ℕ) (vs : Items) → DenotesItems inner vs → weights vs + 1 ≤ 65536 → nestings vs + 1 ≤ 64 → ScansTo inner vs
scan_complete inner vs d w n =
    let r = items_read inner vs d [] no_items [] record { light = omega arith; flat = omega arith; deep = omega arith } in
    record {
      pending = r.pending;
      reads = ap (λ x. runs (Some start) x) (sym (append_assoc inner (37 ∷ []) (93 ∷ []))) ∙ runs_append (Some start) (inner ++ 37 ∷ []) (93 ∷ [])
          ∙ ap (λ x. runs x (93 ∷ [])) r.reads ∙ ap (λ x. Some (state Done r.pending x [])) (turned_back vs);
    }
