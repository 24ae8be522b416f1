-- What the scan of a list reads, the bytes denote.
use Rattle.lucid_value.proofs.Common.{◌≡◌, ℕ, List, [], ◌∷◌, ◌++◌, Bool, true, false, Option, Some, None, refl, sym, ap, ◌∙◌, subst, append_assoc, IsTrue, ◌&&◌, nat_eq, if◌then◌else◌, both_true, and_parts, eqb-true, PlainValue, text, list, Items, no_items, item, may_be_held, is_text, is_light, fits, is_blank, stands_apart, Denotes, denotes_text, denotes_list, DenotesItems, denotes_none, denotes_item, State, state, start, step, runs, turned, put, put_some, go_on, is_atom_byte, atom_value, text_value, Focus, Ready, Full, Atom, Quoted, Closing, Done}
use Rattle.lucid_value.specs.ListScan.{go_on_from, close_list}
use Rattle.lucid_value.specs.declared.list_scan.Focus.TheVariants.{Opening}
use Rattle.lucid_value.proofs.AtomValues.{atom_denotes}

-- what was read of the innermost open list, whatever items follow; and what was read where the next byte must stand apart
abbrev HasReady : List ℕ → Items → Type 0
HasReady pre us = (rest : List ℕ) (vs : Items) → DenotesItems rest vs → DenotesItems (pre ++ rest) (turned us vs)

abbrev HasFull : List ℕ → Items → Type 0
HasFull pre us = (rest : List ℕ) (vs : Items) → IsTrue (stands_apart rest) → DenotesItems rest vs → DenotesItems (pre ++ rest) (turned us vs)

-- what was read of the lists around it, through the innermost `[%`
data Context : List Items → List ℕ → Type 0 where
  outermost : Context [] []
  inside : (us : Items) (outer : List Items) (above pre : List ℕ) → Context outer above → HasReady pre us
      → Context (us ∷ outer) (above ++ (pre ++ 91 ∷ 37 ∷ []))

-- what a state says of the bytes that were read
data Means : State → List ℕ → Type 0 where
  means_ready : (bs : List ℕ) (us : Items) (outer : List Items) (above pre read : List ℕ) → Context outer above → HasReady pre us
      → read ≡ above ++ pre → Means (state Ready bs us outer) read
  means_full : (bs : List ℕ) (us : Items) (outer : List Items) (above pre read : List ℕ) → Context outer above → HasFull pre us
      → read ≡ above ++ pre → Means (state Full bs us outer) read
  means_atom : (bs : List ℕ) (us : Items) (outer : List Items) (above pre read : List ℕ) → Context outer above → HasReady pre us
      → read ≡ above ++ (pre ++ bs) → Means (state Atom bs us outer) read
  means_quoted : (bs : List ℕ) (us : Items) (outer : List Items) (above pre read : List ℕ) → Context outer above → HasReady pre us
      → read ≡ above ++ (pre ++ 96 ∷ bs) → Means (state Quoted bs us outer) read
  means_opening : (bs : List ℕ) (us : Items) (outer : List Items) (above pre read : List ℕ) → Context outer above → HasReady pre us
      → read ≡ above ++ (pre ++ 91 ∷ []) → Means (state Opening bs us outer) read
  means_closing : (bs : List ℕ) (us : Items) (outer : List Items) (above pre read : List ℕ) → Context outer above → DenotesItems pre (turned us no_items)
      → read ≡ above ++ (pre ++ 37 ∷ []) → Means (state Closing bs us outer) read
  means_done : (bs : List ℕ) (vs : Items) (outer : List Items) (inner read : List ℕ) → DenotesItems inner vs
      → read ≡ inner ++ 37 ∷ 93 ∷ [] → Means (state Done bs vs outer) read

along : (s t : State) (read : List ℕ) → Some s ≡ Some t → Means s read → Means t read
along s t read e m = let k : s ≡ t = cc in subst (λ x. Means x read) k m

blank_more : (b : ℕ) → is_blank b ≡ true → (rest : List ℕ) (vs : Items) → DenotesItems rest vs → DenotesItems (b ∷ rest) vs
blank_more b h rest vs (denotes_none gap g) = denotes_none (b ∷ rest) (both_true h g)
blank_more b h rest vs (denotes_item gap bs more v ws g m d a r) = denotes_item (b ∷ gap) bs more v ws (both_true h g) m d a r

full_from : (pre : List ℕ) (us : Items) → HasReady pre us → HasFull pre us
full_from pre us h = λ rest vs a d. h rest vs d

full_blank : (b : ℕ) (pre : List ℕ) (us : Items) → is_blank b ≡ true → HasFull pre us → HasReady (pre ++ b ∷ []) us
full_blank b pre us h f = λ rest vs d.
    subst (λ x. DenotesItems x (turned us vs)) (sym (append_assoc pre (b ∷ []) rest)) (f (b ∷ rest) vs h (blank_more b h rest vs d))

ready_item : (pre bs : List ℕ) (us : Items) (v : PlainValue) → HasReady pre us → may_be_held v ≡ true → Denotes bs v → HasFull (pre ++ bs) (item v us)
ready_item pre bs us v f m dv = λ rest vs a d.
    subst (λ x. DenotesItems x (turned us (item v vs))) (sym (append_assoc pre bs rest))
    (f (bs ++ rest) (item v vs) (denotes_item [] bs rest v vs refl m dv a d))

append_nil : (xs : List ℕ) → xs ++ [] ≡ xs
append_nil [] = refl
append_nil (x ∷ xs) = ap (λ ys. x ∷ ys) (append_nil xs)

full_end : (pre : List ℕ) (us : Items) → HasFull pre us → DenotesItems pre (turned us no_items)
full_end pre us f = subst (λ x. DenotesItems x (turned us no_items)) (append_nil pre) (f [] no_items refl (denotes_none [] refl))

-- an equation with one byte more
more : (b : ℕ) (read above pre : List ℕ) → read ≡ above ++ pre → read ++ b ∷ [] ≡ above ++ (pre ++ b ∷ [])
more b read above pre e = ap (λ r. r ++ b ∷ []) e ∙ append_assoc above pre (b ∷ [])

more2 : (b : ℕ) (read above pre bs : List ℕ) → read ≡ above ++ (pre ++ bs) → read ++ b ∷ [] ≡ above ++ (pre ++ (bs ++ b ∷ []))
more2 b read above pre bs e = more b read above (pre ++ bs) e ∙ ap (λ r. above ++ r) (append_assoc pre bs (b ∷ []))

put_means_at : (t : Bool) (s u : State) (read : List ℕ) → (if t then Some s else None) ≡ Some u → (t ≡ true → Means s read) → Means u read
put_means_at true s u read e f = along s u read e (f refl)
put_means_at false s u read e f = cc

put_means : (v : PlainValue) (p bs : List ℕ) (us : Items) (outer : List Items) (above pre read : List ℕ) (t : State) → Context outer above → HasReady pre us
    → Denotes bs v → read ≡ above ++ (pre ++ bs) → put v p us outer ≡ Some t → Means t read
unfolding put
put_means v p bs us outer above pre read t c f d e h =
    put_means_at (may_be_held v && fits (item v us)) (state Full p (item v us) outer) t read h
    (λ k. means_full p (item v us) outer above (pre ++ bs) read c (ready_item pre bs us v f (and_parts (may_be_held v) (fits (item v us)) k).0 d) e)

go_on_means : (b : ℕ) (m n : Bool) → is_blank b ≡ m → nat_eq b 37 ≡ n → (p : List ℕ) (us : Items) (outer : List Items) (above pre read : List ℕ) (t : State)
    → Context outer above → HasFull pre us → read ≡ above ++ pre
    → (if m then Some (state Ready p us outer) else (if n then Some (state Closing p us outer) else None)) ≡ Some t → Means t (read ++ b ∷ [])
go_on_means b true n hm hn p us outer above pre read t c f e h =
    along _ t _ h (means_ready p us outer above (pre ++ b ∷ []) (read ++ b ∷ []) c (full_blank b pre us hm f) (more b read above pre e))
go_on_means b false true hm hn p us outer above pre read t c f e h =
    along _ t _ h (means_closing p us outer above pre (read ++ b ∷ []) c (full_end pre us f)
    (more b read above pre e ∙ ap (λ x. above ++ (pre ++ x ∷ [])) (eqb-true b 37 hn)))
go_on_means b false false hm hn p us outer above pre read t c f e h = cc

begin_means : (b : ℕ) (k l m : Bool) → nat_eq b 91 ≡ k → nat_eq b 96 ≡ l → is_atom_byte b ≡ m
    → (p : List ℕ) (us : Items) (outer : List Items) (above pre read : List ℕ) (t : State)
    → Context outer above → HasReady pre us → read ≡ above ++ pre
    → (if k then Some (state Opening p us outer) else (if l then Some
    (state Quoted [] us outer) else (if m then Some (state Atom (b ∷ []) us outer) else go_on b p us outer))) ≡ Some t
    → Means t (read ++ b ∷ [])
begin_means b true l m hk hl hm p us outer above pre read t c f e h =
    along _ t _ h (means_opening p us outer above pre (read ++ b ∷ []) c f (more b read above pre e ∙ ap (λ x. above ++ (pre ++ x ∷ [])) (eqb-true b 91 hk)))
begin_means b false true m hk hl hm p us outer above pre read t c f e h =
    along _ t _ h (means_quoted [] us outer above pre (read ++ b ∷ []) c f (more b read above pre e ∙ ap (λ x. above ++ (pre ++ x ∷ [])) (eqb-true b 96 hl)))
begin_means b false false true hk hl hm p us outer above pre read t c f e h =
    along _ t _ h (means_atom (b ∷ []) us outer above pre (read ++ b ∷ []) c f (more b read above pre e))
begin_means b false false false hk hl hm p us outer above pre read t c f e h =
    go_on_means b (is_blank b) (nat_eq b 37) refl refl p us outer above pre read t c (full_from pre us f) e h

-- behind an item that was put
behind : (b : ℕ) (o : Option State) (read : List ℕ) (t : State) → ((s : State) → o ≡ Some s → Means s read)
    → ((f : Focus) (bs : List ℕ) (us : Items) (outer : List Items) → o ≡ Some (state f bs us outer) → f ≡ Full)
    → go_on_from b o ≡ Some t → Means t (read ++ b ∷ [])
behind b None read t m f h = cc
behind b (Some (state g bs us outer)) read t m f h =
    full_on b bs us outer read t (subst (λ x. Means (state x bs us outer) read) (f g bs us outer refl) (m (state g bs us outer) refl)) h
  where
    full_on : (b : ℕ) (bs : List ℕ) (us : Items) (outer : List Items) (read : List ℕ) (t : State) → Means (state Full bs us outer) read
        → go_on b bs us outer ≡ Some t → Means t (read ++ b ∷ [])
    full_on b bs us outer read t (means_full bs' us' outer' above pre read' c f e) h =
        go_on_means b (is_blank b) (nat_eq b 37) refl refl bs us outer above pre read t c f e h

put_full : (v : PlainValue) (p : List ℕ) (us : Items) (outer : List Items) (f : Focus) (bs : List ℕ) (ws : Items) (out : List Items)
    → put v p us outer ≡ Some (state f bs ws out) → f ≡ Full
unfolding put
put_full v p us outer f bs ws out h = at (may_be_held v && fits (item v us)) h
  where
    at : (t : Bool) → (if t then Some (state Full p (item v us) outer) else None) ≡ Some (state f bs ws out) → f ≡ Full
    at true h = cc
    at false h = cc

put_some_full : (o : Option PlainValue) (p : List ℕ) (us : Items) (outer : List Items) (f : Focus) (bs : List ℕ) (ws : Items) (out : List Items)
    → put_some o p us outer ≡ Some (state f bs ws out) → f ≡ Full
put_some_full None p us outer f bs ws out h = cc
put_some_full (Some v) p us outer f bs ws out h = put_full v p us outer f bs ws out h

put_some_means : (o : Option PlainValue) (p bs : List ℕ) (us : Items) (outer : List Items) (above pre read : List ℕ) (t : State) → Context outer above
    → HasReady pre us
    → ((v : PlainValue) → o ≡ Some v → Denotes bs v) → read ≡ above ++ (pre ++ bs) → put_some o p us outer ≡ Some t → Means t read
put_some_means None p bs us outer above pre read t c f d e h = cc
put_some_means (Some v) p bs us outer above pre read t c f d e h = put_means v p bs us outer above pre read t c f (d v refl) e h

atom_means : (b : ℕ) (m : Bool) → is_atom_byte b ≡ m → (bs : List ℕ) (us : Items) (outer : List Items) (above pre read : List ℕ) (t : State)
    → Context outer above → HasReady pre us → read ≡ above ++ (pre ++ bs)
    → (if m then Some (state Atom (bs ++ b ∷ []) us outer) else go_on_from b (put_some (atom_value bs) bs us outer)) ≡ Some t → Means t (read ++ b ∷ [])
atom_means b true hm bs us outer above pre read t c f e h =
    along _ t _ h (means_atom (bs ++ b ∷ []) us outer above pre (read ++ b ∷ []) c f (more2 b read above pre bs e))
atom_means b false hm bs us outer above pre read t c f e h =
    behind b (put_some (atom_value bs) bs us outer) read t
    (λ s k. put_some_means (atom_value bs) bs bs us outer above pre read s c f (atom_denotes bs) e k)
    (put_some_full (atom_value bs) bs us outer) h

pub text_denotes : (bs : List ℕ) (v : PlainValue) → text_value bs ≡ Some v → Denotes (96 ∷ (bs ++ 39 ∷ [])) v
unfolding text_value
text_denotes bs v h = at (is_text bs) (is_light bs) refl h
  where
    at : (m n : Bool) → is_text bs ≡ m → (if m && n then Some (text bs) else None) ≡ Some v → Denotes (96 ∷ (bs ++ 39 ∷ [])) v
    at true true k h = let e : text bs ≡ v = cc in subst (λ x. Denotes (96 ∷ (bs ++ 39 ∷ [])) x) e (denotes_text bs k)
    at true false k h = cc
    at false n k h = cc

quoted_means : (b : ℕ) (m : Bool) → nat_eq b 39 ≡ m → (bs : List ℕ) (us : Items) (outer : List Items) (above pre read : List ℕ) (t : State)
    → Context outer above → HasReady pre us → read ≡ above ++ (pre ++ 96 ∷ bs)
    → (if m then put_some (text_value bs) bs us outer else Some (state Quoted (bs ++ b ∷ []) us outer)) ≡ Some t → Means t (read ++ b ∷ [])
quoted_means b true hm bs us outer above pre read t c f e h =
    put_some_means (text_value bs) bs (96 ∷ (bs ++ 39 ∷ [])) us outer above pre (read ++ b ∷ []) t c f (text_denotes bs)
    (more2 b read above pre (96 ∷ bs) e ∙ ap (λ x. above ++ (pre ++ 96 ∷ (bs ++ x ∷ []))) (eqb-true b 39 hm)) h
quoted_means b false hm bs us outer above pre read t c f e h =
    along _ t _ h (means_quoted (bs ++ b ∷ []) us outer above pre (read ++ b ∷ []) c f (more2 b read above pre (96 ∷ bs) e))

opening_means : (b : ℕ) (m n : Bool) → nat_eq b 37 ≡ m → (bs : List ℕ) (us : Items) (outer : List Items) (above pre read : List ℕ) (t : State)
    → Context outer above → HasReady pre us → read ≡ above ++ (pre ++ 91 ∷ [])
    → (if m && n then Some (state Ready bs no_items (us ∷ outer)) else None) ≡ Some t → Means t (read ++ b ∷ [])
opening_means b true true hm bs us outer above pre read t c f e h =
    along _ t _ h (means_ready bs no_items (us ∷ outer) (above ++ (pre ++ 91 ∷ 37 ∷ [])) [] (read ++ b ∷ []) (inside us outer above pre c f) (λ rest vs d. d)
    (more2 b read above pre (91 ∷ []) e ∙ ap (λ x. above ++ (pre ++ 91 ∷ x ∷ [])) (eqb-true b 37 hm) ∙ sym (append_nil (above ++ (pre ++ 91 ∷ 37 ∷ [])))))
opening_means b true false hm bs us outer above pre read t c f e h = cc
opening_means b false n hm bs us outer above pre read t c f e h = cc

regroup : (above pre inner : List ℕ) → (above ++ (pre ++ 91 ∷ 37 ∷ [])) ++ (inner ++ 37 ∷ 93 ∷ []) ≡ above ++ (pre ++ 91 ∷ 37 ∷ (inner ++ 37 ∷ 93 ∷ []))
regroup above pre inner = simp append_assoc

close_means : (bs : List ℕ) (us : Items) (outer : List Items) (above pre read : List ℕ) (t : State)
    → Context outer above → DenotesItems pre (turned us no_items) → read ≡ above ++ (pre ++ 37 ∷ 93 ∷ []) → close_list bs us outer ≡ Some t → Means t read
close_means bs us outer above pre read t outermost d e h = along _ t _ h (means_done bs (turned us no_items) [] pre read d e)
close_means bs us outer above pre read t (inside ws out above' pre' c f) d e h =
    put_means (list (turned us no_items)) bs (91 ∷ 37 ∷ (pre ++ 37 ∷ 93 ∷ [])) ws out above' pre' read t c f (denotes_list pre (turned us no_items) d)
    (e ∙ regroup above' pre' pre) h

closing_means : (b : ℕ) (m : Bool) → nat_eq b 93 ≡ m → (bs : List ℕ) (us : Items) (outer : List Items) (above pre read : List ℕ) (t : State)
    → Context outer above → DenotesItems pre (turned us no_items) → read ≡ above ++ (pre ++ 37 ∷ [])
    → (if m then close_list bs us outer else None) ≡ Some t → Means t (read ++ b ∷ [])
closing_means b true hm bs us outer above pre read t c d e h =
    close_means bs us outer above pre (read ++ b ∷ []) t c d (more2 b read above pre (37 ∷ []) e ∙ ap (λ x. above ++ (pre ++ 37 ∷ x ∷ [])) (eqb-true b 93 hm)) h
closing_means b false hm bs us outer above pre read t c d e h = cc

step_means : (b : ℕ) (s t : State) (read : List ℕ) → Means s read → step b s ≡ Some t → Means t (read ++ b ∷ [])
step_means b s t read (means_ready bs us outer above pre read' c f e) h =
    begin_means b (nat_eq b 91) (nat_eq b 96) (is_atom_byte b) refl refl refl bs us outer above pre read t c f e h
step_means b s t read (means_full bs us outer above pre read' c f e) h = go_on_means b (is_blank b) (nat_eq b 37) refl refl bs us outer above pre read t c f e h
step_means b s t read (means_atom bs us outer above pre read' c f e) h = atom_means b (is_atom_byte b) refl bs us outer above pre read t c f e h
step_means b s t read (means_quoted bs us outer above pre read' c f e) h = quoted_means b (nat_eq b 39) refl bs us outer above pre read t c f e h
step_means b s t read (means_opening bs us outer above pre read' c f e) h = opening_means b (nat_eq b 37) _ refl bs us outer above pre read t c f e h
step_means b s t read (means_closing bs us outer above pre read' c d e) h = closing_means b (nat_eq b 93) refl bs us outer above pre read t c d e h
step_means b s t read (means_done bs vs outer inner read' d e) h = cc

pub runs_none : (bs : List ℕ) → runs None bs ≡ None
runs_none [] = refl
runs_none (b ∷ bs) = runs_none bs

runs_means : (bs : List ℕ) (s t : State) (read : List ℕ) → Means s read → runs (Some s) bs ≡ Some t → Means t (read ++ bs)
runs_means [] s t read m h = along s t (read ++ []) h (subst (λ x. Means s x) (sym (append_nil read)) m)
runs_means (b ∷ bs) s t read m h =
    next (λ u k g. subst (λ x. Means t x) (append_assoc read (b ∷ []) bs) (runs_means bs u t (read ++ b ∷ []) (step_means b s u read m k) g)) (step b s) refl h
  where
    next : ((u : State) → step b s ≡ Some u → runs (Some u) bs ≡ Some t → Means t (read ++ b ∷ bs)) → (o : Option State) → step b s ≡ o → runs o bs ≡ Some t
        → Means t (read ++ b ∷ bs)
    next f None k h = cc (runs_none bs)
    next f (Some u) k h = f u k h

-- The bytes that make the list whole are a way to write its items, and `%]`.
pub record IsWhole (tail : List ℕ) (vs : Items) : Type 0 where
  pub inner : List ℕ
  pub ends : tail ≡ inner ++ 37 ∷ 93 ∷ []
  pub denotes : DenotesItems inner vs

whole : (bs : List ℕ) (vs : Items) (outer : List Items) (read : List ℕ) → Means (state Done bs vs outer) read → IsWhole read vs
whole bs vs outer read (means_done bs' vs' outer' inner read' d e) = record { inner = inner; ends = e; denotes = d }

pub scan_sound : (tail bs : List ℕ) (vs : Items) (outer : List Items) → runs (Some start) tail ≡ Some (state Done bs vs outer) → IsWhole tail vs
scan_sound tail bs vs outer h =
    whole bs vs outer tail (runs_means tail start (state Done bs vs outer) [] (means_ready [] no_items [] [] [] [] outermost (λ rest vs d. d) refl) h)
