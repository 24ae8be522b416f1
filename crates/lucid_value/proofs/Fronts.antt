-- Lists in front of bytes: none where the scan finds none, and at most one.
use Rattle.lucid_value.proofs.Common.{◌≡◌, ℕ, zero, suc, ◌≤◌, List, [], ◌∷◌, ◌++◌, Bool, true, false, Option, Some, None, refl, sym, ap, ◌∙◌, subst, arith, ◌&&◌, take, drop, nat_eq, if◌then◌else◌, take-append-drop, eqb-true, list, Items, weights, nestings, Denotes, denotes_list, DenotesItems, IsListFront, State, state, start, step, step_from, runs, is_done, opened, IsScanned, Focus, Done, Front, get_or, take_more, drop-cons}
use Rattle.std.proofs.Common.{◌+◌, ◌<◌, length}
use Rattle.lucid_value.specs.Reading.{IsFront}
use Rattle.lucid_value.specs.ListScan.{Went}
use Rattle.lucid_value.proofs.ScanSound.{scan_sound, runs_none}
use Rattle.lucid_value.proofs.ScanComplete.{runs_append, scan_complete}

-- one byte more
pub runs_more : (tail : List ℕ) (i d : ℕ) → i < length tail
    → runs (Some start) (take (i + 1) tail) ≡ step_from (get_or tail i d) (runs (Some start) (take i tail))
runs_more tail i d h = ap (runs (Some start)) (take_more tail i d h) ∙ runs_append (Some start) (take i tail) (get_or tail i d ∷ [])

-- from a state the outermost list is never whole
abbrev Never : State → List ℕ → Type 0
Never s bs = (n : ℕ) (p : List ℕ) (vs : Items) (outer : List Items) → n ≤ length bs → runs (Some s) (take n bs) ≡ Some (state Done p vs outer) → ⊥

undone : (s : State) (p : List ℕ) (vs : Items) (outer : List Items) → is_done s ≡ false → Some s ≡ Some (state Done p vs outer) → ⊥
undone s p vs outer h e = let k : s ≡ state Done p vs outer = cc in cc (ap is_done k)

never_nil : (s : State) → is_done s ≡ false → Never s []
never_nil s h zero p vs outer le e = undone s p vs outer h e
never_nil s h (suc n) p vs outer le e = undone s p vs outer h e

never_stuck : (b : ℕ) (bs : List ℕ) (s : State) → is_done s ≡ false → step b s ≡ None → Never s (b ∷ bs)
never_stuck b bs s h k zero p vs outer le e = undone s p vs outer h e
never_stuck b bs s h k (suc n) p vs outer le e = cc (ap (λ o. runs o (take n bs)) k, runs_none (take n bs))

never_back : (b : ℕ) (bs : List ℕ) (s t : State) → is_done s ≡ false → step b s ≡ Some t → Never t bs → Never s (b ∷ bs)
never_back b bs s t h k f zero p vs outer le e = undone s p vs outer h e
never_back b bs s t h k f (suc n) p vs outer le e = f n p vs outer (omega arith) (sym (ap (λ o. runs o (take n bs)) k) ∙ e)

-- what goes on is not whole
goes_undone : (b : ℕ) (s t : State) → step b s ≡ Some t → is_done s ≡ false
goes_undone b (state Done bs vs outer) t h = cc
goes_undone b _ t h = refl

never_from : (xs ys : List ℕ) (s t : State) → runs (Some s) xs ≡ Some t → Never t ys → Never s (xs ++ ys)
never_from [] ys s t h f = let k : s ≡ t = cc in subst (λ x. Never x ys) (sym k) f
never_from (x ∷ xs) ys s t h f = at (λ u k e. never_back x (xs ++ ys) s u (goes_undone x s u k) k (never_from xs ys u t e f)) (step x s) refl h
  where
    at : ((u : State) → step x s ≡ Some u → runs (Some u) xs ≡ Some t → Never s (x ∷ (xs ++ ys))) → (o : Option State) → step x s ≡ o → runs o xs ≡ Some t
        → Never s (x ∷ (xs ++ ys))
    at g None k e = cc (runs_none xs)
    at g (Some u) k e = g u k e

never_at : (tail : List ℕ) (i : ℕ) (s : State) → runs (Some start) (take i tail) ≡ Some s → Never s (drop i tail) → Never start tail
never_at tail i s h f = subst (λ x. Never start x) (take-append-drop i tail) (never_from (take i tail) (drop i tail) start s h f)

-- the bytes end, or one is refused, before the list is whole
pub never_end : (tail : List ℕ) (i : ℕ) (s : State) → runs (Some start) (take i tail) ≡ Some s → is_done s ≡ false → length tail ≤ i → IsScanned None tail
never_end tail i s h d le = never_at tail i s h (subst (λ x. Never s x) (sym (drop_past i tail le)) (never_nil s d))
  where
    drop_past : (i : ℕ) (xs : List ℕ) → length xs ≤ i → drop i xs ≡ []
    drop_past zero [] le = refl
    drop_past zero (x ∷ xs) le = absurd (omega arith)
    drop_past (suc i) [] le = refl
    drop_past (suc i) (x ∷ xs) le = drop_past i xs (omega arith)

pub never_refused : (tail : List ℕ) (i d : ℕ) (s : State) → runs (Some start) (take i tail) ≡ Some s → is_done s ≡ false → i < length tail
    → step (get_or tail i d) s ≡ None → IsScanned None tail
never_refused tail i d s h f lt k =
    never_at tail i s h (subst (λ x. Never s x) (sym (drop-cons tail i d lt)) (never_stuck (get_or tail i d) (drop (suc i) tail) s f k))

-- what is denoted as a list stands between `[%` and `%]`
pub record HasMarks (bytes : List ℕ) (vs : Items) : Type 0 where
  pub inner : List ℕ
  pub parts : bytes ≡ 91 ∷ 37 ∷ (inner ++ 37 ∷ 93 ∷ [])
  pub denotes : DenotesItems inner vs

pub list_marks : (bytes : List ℕ) (vs : Items) → Denotes bytes (list vs) → HasMarks bytes vs
list_marks bytes vs (denotes_list inner ws d) = record { inner = inner; parts = refl; denotes = d }

opened_at : (a b : ℕ) (tail rest : List ℕ) (m n : Bool) → nat_eq a 91 ≡ m → nat_eq b 37 ≡ n → (if m && n then Some tail else None) ≡ Some rest
    → a ∷ b ∷ tail ≡ 91 ∷ 37 ∷ rest
opened_at a b tail rest true true e f h =
    let p = eqb-true a 91 e in let q = eqb-true b 37 f in let r : tail ≡ rest = cc in cc
opened_at a b tail rest true false e f h = cc
opened_at a b tail rest false n e f h = cc

pub opened_is : (bytes tail : List ℕ) → opened bytes ≡ Some tail → bytes ≡ 91 ∷ 37 ∷ tail
opened_is [] tail h = cc
opened_is (a ∷ []) tail h = cc
opened_is (a ∷ b ∷ bs) tail h = opened_at a b bs tail (nat_eq a 91) (nat_eq b 37) refl refl h

pub unopened : (bytes tail : List ℕ) → opened bytes ≡ None → bytes ≡ 91 ∷ 37 ∷ tail → ⊥
unopened bytes tail h e = cc (ap opened e)

front_at : (bytes tail : List ℕ) (front : Front) → bytes ≡ 91 ∷ 37 ∷ tail → IsScanned (Some front) tail → weights front.list + 1 ≤ 65536
    → nestings front.list + 1 ≤ 64
    → IsListFront (91 ∷ 37 ∷ tail) (suc (suc front.len))
front_at bytes tail front e s w n =
    let p = scan_sound (take front.len tail) s.1.0 front.list s.1.1 s.1.2 in
    record {
      within = omega (arith, s.0);
      items = front.list;
      reads = record {
        denotes = subst (λ x. Denotes (91 ∷ 37 ∷ x) (list front.list)) (sym p.ends) (denotes_list p.inner front.list p.denotes);
        light = w;
        flat = n;
      };
    }

pub front_found : (bytes tail : List ℕ) (front : Front) → opened bytes ≡ Some tail → IsScanned (Some front) tail → weights front.list + 1 ≤ 65536
    → nestings front.list + 1 ≤ 64
    → IsListFront bytes (front.len + 2)
front_found bytes tail front e s w n =
    let k = opened_is bytes tail e in
    let two : suc (suc front.len) ≡ front.len + 2 = omega arith in
    subst (λ x. IsListFront x (front.len + 2)) (sym k) (subst (λ x. IsListFront (91 ∷ 37 ∷ tail) x) two (front_at bytes tail front k s w n))

no_front : (tail : List ℕ) → IsScanned None tail → (n : ℕ) → IsListFront (91 ∷ 37 ∷ tail) n → ⊥
no_front tail s zero f = let m = list_marks _ f.items f.reads.denotes in cc (m.parts)
no_front tail s (suc zero) f = let m = list_marks _ f.items f.reads.denotes in cc (m.parts)
no_front tail s (suc (suc n)) f =
    let m = list_marks _ f.items f.reads.denotes in
    let t : take n tail ≡ m.inner ++ 37 ∷ 93 ∷ [] = cc (m.parts) in
    let c = scan_complete m.inner f.items m.denotes f.reads.light f.reads.flat in
    s n c.pending f.items [] (omega (arith, f.within)) (ap (runs (Some start)) t ∙ c.reads)

pub front_none : (bytes tail : List ℕ) → opened bytes ≡ Some tail → IsScanned None tail → IsFront None bytes
front_none bytes tail e s = λ n f. no_front tail s n (subst (λ x. IsListFront x n) (opened_is bytes tail e) f)

pub front_unopened : (bytes : List ℕ) → opened bytes ≡ None → IsFront None bytes
front_unopened bytes e = λ n f. at n f (list_marks _ f.items f.reads.denotes)
  where
    at : (n : ℕ) (f : IsListFront bytes n) → HasMarks (take n bytes) f.items → ⊥
    at n f m = unopened bytes ((m.inner ++ 37 ∷ 93 ∷ []) ++ drop n bytes) e
        (sym (take-append-drop n bytes) ∙ ap (λ x. x ++ drop n bytes) m.parts)

-- what a step of the code tells
refused : (m : Bool) (s : State) (o : Option State) → Went m s o → m ≡ false → o ≡ None
refused true s o w h = cc
refused false s o w h = w

went : (m : Bool) (s : State) (o : Option State) → Went m s o → m ≡ true → o ≡ Some s
went true s o w h = w
went false s o w h = cc

pub scan_refused : (tail : List ℕ) (i : ℕ) (s t : State) (m : Bool) → runs (Some start) (take i tail) ≡ Some s → is_done s ≡ false → i < length tail
    → Went m t (step (get_or tail i 0) s) → m ≡ false → IsScanned None tail
scan_refused tail i s t m h d lt w e = never_refused tail i 0 s h d lt (refused m t _ w e)

pub scan_more : (tail : List ℕ) (i : ℕ) (s t : State) (m : Bool) → runs (Some start) (take i tail) ≡ Some s → i < length tail
    → Went m t (step (get_or tail i 0) s) → m ≡ true → runs (Some start) (take (i + 1) tail) ≡ Some t
scan_more tail i s t m h lt w e = runs_more tail i 0 lt ∙ ap (step_from (get_or tail i 0)) h ∙ went m t _ w e

done_focus : (f : Focus) (bs : List ℕ) (vs : Items) (outer : List Items) → is_done (state f bs vs outer) ≡ true → f ≡ Done
done_focus Done bs vs outer h = refl
done_focus _ bs vs outer h = cc

pub scan_whole : (tail : List ℕ) (i : ℕ) (s : State) (f : Focus) (bs : List ℕ) (vs : Items) (outer : List Items) (m : Bool)
    → runs (Some start) (take i tail) ≡ Some s → i < length tail
    → Went m (state f bs vs outer) (step (get_or tail i 0) s) → m ≡ true → is_done (state f bs vs outer) ≡ true
    → (i + 1 ≤ length tail) × ((p : List ℕ) × (out : List Items) × (runs (Some start) (take (i + 1) tail) ≡ Some (state Done p vs out)))
scan_whole tail i s f bs vs outer m h lt w e d =
    let k = done_focus f bs vs outer d in
    (omega arith, (bs, outer, scan_more tail i s (state f bs vs outer) m h lt w e ∙ ap (λ x. Some (state x bs vs outer)) k))
