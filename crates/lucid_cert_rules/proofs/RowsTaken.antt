-- What was read from words has these words.
use Rattle.lucid_cert_rules.proofs.Common.{◌≡◌, ℕ, zero, suc, ◌-◌, ◌<◌, ◌≤◌, ◌^◌, Bool, true, false, List, [], ◌∷◌, ◌++◌, map, length, Option, Some, None, refl, sym, ap, ◌∙◌, subst, arith, append_assoc, length-append, decimal, codes, join_with_byte, bytes_eq, append-nil, join_with_byte-slice_split, same_Some, bytes_eq-Decides, words_of, is_end, AreBelow, context_row, row_head, row_rest, row_line, ContextFits, RowFits, call_of, frozen_of, context_of, front_of, take_uses, ContextRow, Call, Frozen, Front, cond, ◌⊎◌, inl, inr, option_and_then, option_and_then_some, cond_some}
use Rattle.lucid_texts.proofs.WordLemmas.{taken, no_word}
use Rattle.lucid_cert_rules.specs.WhyTexts.{Is32, Is63}
use Rattle.lucid_cert_rules.specs.WordsRead.{take_32, take_63}
use Rattle.lucid_cert_rules.proofs.RowsGiven.{line_parts}

-- a context's row has this first word, and these words behind it
abbrev Has : (w : List ℕ) → List (List ℕ) → ContextRow → Type 0
Has w ws c = ContextFits c × (w ≡ row_head (context_row c)) × (ws ≡ row_rest (context_row c))

call_read : (ws : List (List ℕ)) (c : ContextRow) → call_of ws ≡ Some c → Has (codes "c") ws c
unfolding call_of
call_read ws c e =
    option_and_then_some _ (take_32 ws) c e (λ b t k.
    option_and_then_some _ (take_32 b.1) c k (λ p u l.
    option_and_then_some _ (take_32 p.1) c l (λ f v m.
    let q = cond_some (is_end f.1) (Call b.0 p.0 f.0) c m in
    let d = taken (2 ^ 32) ws b t in
    let g = taken (2 ^ 32) b.1 p u in
    let h = taken (2 ^ 32) p.1 f v in
    let words = d.0 ∙ ap (λ (us : List (List ℕ)). decimal b.0 ∷ us)
    (g.0 ∙ ap (λ (us : List (List ℕ)). decimal p.0 ∷ us) (h.0 ∙ ap (λ (us : List (List ℕ)). decimal f.0 ∷ us) (no_word f.1 q.0))) in
    let P : ContextRow → Type 0 = λ x. Has (codes "c") ws x in subst P q.1 ((d.1, (g.1, h.1)), refl, words))))

frozen_read : (ws : List (List ℕ)) (c : ContextRow) → frozen_of ws ≡ Some c → Has (codes "z") ws c
unfolding frozen_of
frozen_read ws c e =
    option_and_then_some _ (take_32 ws) c e (λ b t k.
    option_and_then_some _ (take_63 b.1) c k (λ f u m.
    let q = cond_some (is_end f.1) (Frozen b.0 f.0) c m in
    let d = taken (2 ^ 32) ws b t in
    let g = taken (2 ^ 63) b.1 f u in
    let words = d.0 ∙ ap (λ (us : List (List ℕ)). decimal b.0 ∷ us) (g.0 ∙ ap (λ (us : List (List ℕ)). decimal f.0 ∷ us) (no_word f.1 q.0)) in
    let P : ContextRow → Type 0 = λ x. Has (codes "z") ws x in subst P q.1 ((d.1, g.1), refl, words)))

-- the line of the first word and what is behind it
has_line : (w t : List ℕ) (c : ContextRow) → Has w (words_of t) c → RowFits (context_row c) × (w ++ 32 ∷ t ≡ row_line (context_row c))
has_line w t c h =
    let tail = sym (join_with_byte-slice_split 32 t) ∙ ap (join_with_byte 32) h.2 in
    (h.0, (ap (λ (x : List ℕ). x ++ 32 ∷ t) h.1 ∙ ap (λ (x : List ℕ). row_head (context_row c) ++ 32 ∷ x) tail) ∙ sym (line_parts (context_row c)))

by_test : (b : Bool) (x y : Option ContextRow) (c : ContextRow) → cond b x y ≡ Some c → ((b ≡ true) × (x ≡ Some c)) ⊎ ((b ≡ false) × (y ≡ Some c))
by_test true x y c e = inl (refl, e)
by_test false x y c e = inr (refl, e)

with_word : (w k : List ℕ) (ws : List (List ℕ)) (c : ContextRow) → bytes_eq w k ≡ true → Has k ws c → Has w ws c
with_word w k ws c h d = (d.0, (bytes_eq-Decides w k).0 h ∙ d.1, d.2)

frozen_by : (w t : List ℕ) (c : ContextRow) → ((bytes_eq w (codes "z") ≡ true) × (frozen_of (words_of t) ≡ Some c)) ⊎ ((bytes_eq w (codes "z") ≡ false) × (None ≡ Some c)) → Has w (words_of t) c
frozen_by w t c (inl h) = with_word w (codes "z") (words_of t) c h.0 (frozen_read (words_of t) c h.1)
frozen_by w t c (inr h) = let e = h.1 in absurd (cc)

context_by : (w t : List ℕ) (c : ContextRow) (y : Option ContextRow) → ((bytes_eq w (codes "c") ≡ true) × (call_of (words_of t) ≡ Some c)) ⊎ ((bytes_eq w (codes "c") ≡ false) × (y ≡ Some c))
    → (y ≡ Some c → Has w (words_of t) c) → Has w (words_of t) c
context_by w t c y (inl h) k = with_word w (codes "c") (words_of t) c h.0 (call_read (words_of t) c h.1)
context_by w t c y (inr h) k = k h.1

-- A context's row that was read has the line that it was read from.
pub context_read : (w t : List ℕ) (c : ContextRow) → context_of w t ≡ Some c → RowFits (context_row c) × (w ++ 32 ∷ t ≡ row_line (context_row c))
unfolding context_of
context_read w t c e =
    has_line w t c (context_by w t c _ (by_test (bytes_eq w (codes "c")) (call_of (words_of t)) _ c e) (λ k.
    frozen_by w t c (by_test (bytes_eq w (codes "z")) (frozen_of (words_of t)) None c k)))

-- the numbers in front of a judgment's uses, and that they are in range
abbrev pub front_numbers : Front → List ℕ
front_numbers f = f.node ∷ f.context ∷ f.time ∷ f.space ∷ f.count ∷ []

pub record FrontFits (f : Front) : Type 0 where
  pub node : Is32 f.node
  pub context : Is32 f.context
  pub time : Is63 f.time
  pub space : Is63 f.space
  pub count : Is32 f.count

abbrev HasFront : List (List ℕ) → Front × List (List ℕ) → Type 0
HasFront ws p = FrontFits p.0 × (ws ≡ map decimal (front_numbers p.0) ++ p.1)

pub front_read : (ws : List (List ℕ)) (p : Front × List (List ℕ)) → front_of ws ≡ Some p → HasFront ws p
unfolding front_of
front_read ws p e =
    option_and_then_some _ (take_32 ws) p e (λ n e0 k0.
    option_and_then_some _ (take_32 n.1) p k0 (λ c e1 k1.
    option_and_then_some _ (take_63 c.1) p k1 (λ t e2 k2.
    option_and_then_some _ (take_63 t.1) p k2 (λ s e3 k3.
    option_and_then_some _ (take_32 s.1) p k3 (λ k e4 k4.
    let d0 = taken (2 ^ 32) ws n e0 in
    let d1 = taken (2 ^ 32) n.1 c e1 in
    let d2 = taken (2 ^ 63) c.1 t e2 in
    let d3 = taken (2 ^ 63) t.1 s e3 in
    let d4 = taken (2 ^ 32) s.1 k e4 in
    let words = d0.0 ∙ ap (λ (us : List (List ℕ)). decimal n.0 ∷ us)
    (d1.0 ∙ ap (λ (us : List (List ℕ)). decimal c.0 ∷ us) (d2.0 ∙ ap (λ (us : List (List ℕ)). decimal t.0 ∷ us)
    (d3.0 ∙ ap (λ (us : List (List ℕ)). decimal s.0 ∷ us) d4.0))) in
    let f : Front = record { node = n.0; context = c.0; time = t.0; space = s.0; count = k.0 } in
    let fits : FrontFits f = record { node = d0.1; context = d1.1; time = d2.1; space = d3.1; count = d4.1 } in
    let P : Front × List (List ℕ) → Type 0 = λ x. HasFront ws x in subst P (same_Some (f, k.1) p k4) (fits, words))))))

-- numbers that were taken stand in front of the words behind them
abbrev HasUses : ℕ → List (List ℕ) → List ℕ × List (List ℕ) → Type 0
HasUses n ws p = AreBelow (2 ^ 32) p.0 × (length p.0 ≡ n) × (ws ≡ map decimal p.0 ++ p.1)

pub uses_read : (n : ℕ) (ws : List (List ℕ)) (p : List ℕ × List (List ℕ)) → take_uses n ws ≡ Some p → HasUses n ws p
uses_read zero ws p e =
    let P : List ℕ × List (List ℕ) → Type 0 = λ x. HasUses zero ws x in subst P (same_Some ([], ws) p e) (tt, refl, refl)
uses_read (suc n) ws p e =
    option_and_then_some _ (take_32 ws) p e (λ u t k.
    option_and_then_some _ (take_uses n u.1) p k (λ us v l.
    let d = taken (2 ^ 32) ws u t in
    let g = uses_read n u.1 us v in
    let P : List ℕ × List (List ℕ) → Type 0 = λ x. HasUses (suc n) ws x in
    subst P (same_Some (u.0 ∷ us.0, us.1) p l) ((d.1, g.0), ap suc g.1, d.0 ∙ ap (λ (vs : List (List ℕ)). decimal u.0 ∷ vs) g.2)))

-- numbers in front of those that are taken
abbrev pub with_front : List ℕ → Option (List ℕ × List (List ℕ)) → Option (List ℕ × List (List ℕ))
with_front ns None = None
with_front ns (Some p) = Some (ns ++ p.0, p.1)

one_more_by : (ns : List ℕ) (n : ℕ) (o : Option (List ℕ × List (List ℕ)))
    → with_front ns (option_and_then (λ (us : List ℕ × List (List ℕ)). Some (n ∷ us.0, us.1)) o) ≡ with_front (ns ++ n ∷ []) o
one_more_by ns n None = refl
one_more_by ns n (Some p) = ap (λ (x : List ℕ). Some (x, p.1)) (sym (append_assoc ns (n ∷ []) p.0))

-- one more number
pub one_more : (k : ℕ) (ns : List ℕ) (n : ℕ) (ws vs : List (List ℕ)) → take_32 ws ≡ Some (n, vs)
    → with_front ns (take_uses (suc k) ws) ≡ with_front (ns ++ n ∷ []) (take_uses k vs)
one_more k ns n ws vs e = rw e (one_more_by ns n (take_uses k vs))

-- where the next word is no number, none are taken
pub no_more : (k : ℕ) (ns : List ℕ) (ws : List (List ℕ)) → take_32 ws ≡ None → with_front ns (take_uses (suc k) ws) ≡ None
no_more k ns ws e = rw e refl

-- The same of the numbers that are left to take.
pub none_taken : (count : ℕ) (ns : List ℕ) (all ws : List (List ℕ)) → take_uses count all ≡ with_front ns (take_uses (count - length ns) ws) → length ns < count
    → None ≡ take_32 ws
    → take_uses count all ≡ None
none_taken count ns all ws h l n =
    let e : count - length ns ≡ suc (count - suc (length ns)) = omega (arith, l) in
    h ∙ (ap (λ (k : ℕ). with_front ns (take_uses k ws)) e ∙ no_more (count - suc (length ns)) ns ws (sym n))

pub one_taken : (count : ℕ) (ns ms : List ℕ) (n : ℕ) (all ws vs : List (List ℕ)) → take_uses count all ≡ with_front ns (take_uses (count - length ns) ws)
    → length ns < count → Some (n, vs) ≡ take_32 ws
    → ms ≡ ns ++ n ∷ [] → take_uses count all ≡ with_front ms (take_uses (count - length ms) vs)
one_taken count ns ms n all ws vs h l t m =
    let e : count - length ns ≡ suc (count - suc (length ns)) = omega (arith, l) in
    let longer = ap length m ∙ length-append ns (n ∷ []) in
    let f : count - suc (length ns) ≡ count - length ms = omega (arith, longer) in
    h ∙ (ap (λ (k : ℕ). with_front ns (take_uses k ws)) e ∙ (one_more (count - suc (length ns)) ns n ws vs (sym t)
    ∙ (ap (λ (x : List ℕ). with_front x (take_uses (count - suc (length ns)) vs)) (sym m) ∙ ap (λ (k : ℕ). with_front ms (take_uses k vs)) f)))

pub few_more : (count : ℕ) (ns ms : List ℕ) (n : ℕ) → length ns < count → ms ≡ ns ++ n ∷ [] → length ms ≤ count
few_more count ns ms n l m =
    let longer = ap length m ∙ length-append ns (n ∷ []) in omega (arith, l, longer)

pub all_taken : (count : ℕ) (ns : List ℕ) (all ws : List (List ℕ)) → take_uses count all ≡ with_front ns (take_uses (count - length ns) ws) → count ≤ length ns
    → take_uses count all ≡ Some (ns, ws)
all_taken count ns all ws h l =
    let e : count - length ns ≡ 0 = omega (arith, l) in
    h ∙ (ap (λ (k : ℕ). with_front ns (take_uses k ws)) e ∙ ap (λ (x : List ℕ). Some (x, ws)) (append-nil ns))
