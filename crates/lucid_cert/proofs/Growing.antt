-- What is used and what follows stays where judgments and contexts are added, and where judgments are cut off behind it.
use Rattle.lucid_cert.proofs.Common.{◌≡◌, ℕ, zero, suc, ◌<◌, ◌≤◌, Bool, true, false, ◌==◌, ◌&&◌, List, [], ◌∷◌, ◌++◌, map, length, Option, Some, None, refl, sym, ap, ◌∙◌, inl, inr, subst, arith, length-append, slice_get, nat_lt, option_and_then, AllByRecursion, cases_lt, ltb-true, lt-ltb, option_and_then_some, cond_some, same_Some, slice_get_within, slice_get-append_left, PlainValue, Elements, Context, context_at, KeepsKnown, tag_of, part_number, Table, PlainJudgment, FollowsIn, Judged, context_in, given, is_context, of_part, used, told, FollowAmong}
use Rattle.lucid_tree.specs.Rows.{Look}
use Rattle.lucid_cert_rules.specs.Follows.{is_of, value_if}
use Rattle.std.proofs.lemmas.Bool.{and_parts}
use Rattle.lucid_cert.proofs.Using.{earlier_by, told_there, used_by, used_late}

-- the items of a list, in one that goes on behind it
pub left_of : {X : Type 0} (xs ys : List X) (i : ℕ) → i < length xs → slice_get (xs ++ ys) i ≡ slice_get xs i
left_of [] ys i h = absurd (omega (arith, h))
left_of (x ∷ xs) ys zero h = refl
left_of (x ∷ xs) ys (suc i) h = left_of xs ys i (omega (arith, h))

-- contexts by number, where all are good
pub in_known : (known : List Context) (n : ℕ) → n < length known → context_in (map Some known) n ≡ Some (context_at known n)
in_known [] n h = absurd (omega (arith, h))
in_known (c ∷ cs) zero h = refl
in_known (c ∷ cs) (suc n) h = in_known cs n (omega (arith, h))

pub known_in : (known : List Context) (n : ℕ) (c : Context) → context_in (map Some known) n ≡ Some c → (n < length known) × (context_at known n ≡ c)
known_in [] n c e = absurd (cc)
known_in (d ∷ ds) zero c e = (omega arith, same_Some d c e)
known_in (d ∷ ds) (suc n) c e = let p = known_in ds n c e in (omega (arith, p.0), p.1)

pub stays_known : (old new : List Context) → KeepsKnown old new → (n : ℕ) (c : Context) → context_in (map Some old) n ≡ Some c
    → context_in (map Some new) n ≡ Some c
stays_known old new k n c e =
    let p = known_in old n c e in in_known new n (k.known (tag_of n) p.0) ∙ ap Some (k.same (tag_of n) p.0 ∙ p.1)

pub both_hold : (a b : Bool) → a ≡ true → b ≡ true → a && b ≡ true
both_hold true b e f = f
both_hold false b e f = absurd (cc)

-- A use of a node in a context at a point that has a value: that of an earlier judgment of it.
pub record IsUse (cs : List (Option Context)) (js : List PlainJudgment) (before node : ℕ) (c : Context) (time space number : ℕ) (v : PlainValue) : Type 0 where
  pub earlier : number < before
  pub judgment : PlainJudgment
  pub there : slice_get js number ≡ Some judgment
  pub is : is_of cs judgment node c time space ≡ true
  pub value : judgment.value ≡ v

pub is_use : (cs : List (Option Context)) (js : List PlainJudgment) (i n : ℕ) (c : Context) (t s u : ℕ) (v : PlainValue) → used cs js i n c t s u ≡ Some v
    → IsUse cs js i n c t s u v
unfolding used
is_use cs js i n c t s u v e =
    let p = earlier_by (nat_lt u i) (option_and_then (λ (j : PlainJudgment). value_if (is_of cs j n c t s) j.value) (slice_get js u)) v e in
    option_and_then_some _ (slice_get js u) v p.1 (λ j there k.
    let q = cond_some (is_of cs j n c t s) j.value v k in record { earlier = ltb-true u i p.0; judgment = j; there = there; is = q.0; value = q.1 })

pub use_has : (cs : List (Option Context)) (js : List PlainJudgment) (i n : ℕ) (c : Context) (t s u : ℕ) (v : PlainValue) → IsUse cs js i n c t s u v
    → used cs js i n c t s u ≡ Some v
use_has cs js i n c t s u v h =
    used_by cs js i n c t s u h.judgment h.earlier h.there ∙ (ap (λ (b : Bool). value_if b h.judgment.value) h.is ∙ ap Some h.value)

-- a context that is there is this one among more contexts too
same_there : (o p : Option Context) (c : Context) → ((d : Context) → o ≡ Some d → p ≡ Some d) → is_context o c ≡ true → is_context p c ≡ true
same_there None p c f e = absurd (cc)
same_there (Some d) p c f e = ap (λ (x : Option Context). is_context x c) (f d refl) ∙ e

still_of : (cs ds : List (Option Context)) (j : PlainJudgment) (n : ℕ) (c : Context) (t s : ℕ)
    → ((m : ℕ) (d : Context) → context_in cs m ≡ Some d → context_in ds m ≡ Some d)
    → is_of cs j n c t s ≡ true → is_of ds j n c t s ≡ true
still_of cs ds j n c t s f e =
    let p = and_parts (j.node == n) (is_context (context_in cs j.context) c && ((j.time == t) && (j.space == s))) e in
    let q = and_parts (is_context (context_in cs j.context) c) ((j.time == t) && (j.space == s)) p.1 in
    let r = same_there (context_in cs j.context) (context_in ds j.context) c (f j.context) q.0 in both_hold _ _ p.0 (both_hold _ _ r q.1)

-- So a use has its value among more judgments and contexts.
pub used_still : (cs ds : List (Option Context)) (js more : List PlainJudgment) (i k n : ℕ) (c : Context) (t s u : ℕ) (v : PlainValue)
    → ((m : ℕ) (d : Context) → context_in cs m ≡ Some d → context_in ds m ≡ Some d) → i ≤ k → used cs js i n c t s u ≡ Some v
    → used ds (js ++ more) k n c t s u ≡ Some v
used_still cs ds js more i k n c t s u v f l e =
    let h = is_use cs js i n c t s u v e in
    use_has ds (js ++ more) k n c t s u v (record {
      earlier = omega (arith, h.earlier, l);
      judgment = h.judgment;
      there = slice_get-append_left js more u h.judgment h.there;
      is = still_of cs ds h.judgment n c t s f h.is;
      value = h.value;
    })

-- the same for a look of a row
pub look_still : (T : Table) (cs ds : List (Option Context)) (js more : List PlainJudgment) (i k id : ℕ) (c : Context) (l : Look) (u : ℕ) (v : PlainValue)
    → ((m : ℕ) (d : Context) → context_in cs m ≡ Some d → context_in ds m ≡ Some d) → i ≤ k → of_part T (used cs js i) id c l u ≡ Some v
    → of_part T (used ds (js ++ more) k) id c l u ≡ Some v
look_still T cs ds js more i k id c l u v f h e =
    option_and_then_some (λ n. used cs js i n c l.time l.space u) (part_number T id l.part) v e (λ n there has.
    ap (option_and_then (λ m. used ds (js ++ more) k m c l.time l.space u)) there ∙ used_still cs ds js more i k n c l.time l.space u v f h has)

-- What uses have is one where the judgments through some number, and their contexts, are.
module _ (cs ds : List (Option Context)) (js ks : List PlainJudgment) (i : ℕ) (same : (u : ℕ) → u < i → slice_get ks u ≡ slice_get js u)
    (contexts : (u : ℕ) (j : PlainJudgment) → u < i → slice_get js u ≡ Some j → context_in ds j.context ≡ context_in cs j.context) where
  by_slice_of : (n : ℕ) (c : Context) (t s u : ℕ) → u < i → (o : Option PlainJudgment) → slice_get js u ≡ o
      → option_and_then (λ j. value_if (is_of ds j n c t s) j.value) o ≡ option_and_then (λ j. value_if (is_of cs j n c t s) j.value) o
  by_slice_of n c t s u l None e = refl
  by_slice_of n c t s u l (Some j) e = ap (λ (x : Option Context). value_if ((j.node == n) && (is_context x c && ((j.time == t) && (j.space == s)))) j.value)
      (contexts u j l e)

  used_alike : (n : ℕ) (c : Context) (t s u : ℕ) → used ds ks i n c t s u ≡ used cs js i n c t s u
  unfolding used
  used_alike n c t s u = elim (cases_lt u i) [
    | inl l ↦ rw (lt-ltb u i l) (ap (option_and_then (λ (j : PlainJudgment). value_if (is_of ds j n c t s) j.value)) (same u l)
        ∙ by_slice_of n c t s u l (slice_get js u) refl)
    | inr l ↦ sym (used_late ds ks i n c t s u l) ∙ used_late cs js i n c t s u l
  ]

  pub judged_alike : ◌≡◌ {A = Judged} (used ds ks i) (used cs js i)
  judged_alike = λ k n c t s u. used_alike n c t s u k

  pub follows_alike : (T : Table) (b : Elements) → slice_get ks i ≡ slice_get js i
      → ((j : PlainJudgment) → slice_get js i ≡ Some j → context_in ds j.context ≡ context_in cs j.context)
      → FollowsIn T b cs js i → FollowsIn T b ds ks i
  follows_alike T b at context f =
      record {
        judgment = f.judgment;
        there = at ∙ f.there;
        context = f.context;
        form = record { time = f.form.time; space = f.form.space; node = f.form.node; context = context f.judgment f.there ∙ f.form.context };
        gives = subst (λ (value : Judged). given T b value f.judgment.node f.context f.judgment.time f.judgment.space f.judgment.uses ≡ Some f.judgment.value)
            (sym judged_alike) f.gives;
      }

-- What follows does so among more judgments and contexts,
module _ (T : Table) (b : Elements) (old new : List Context) (keeps : KeepsKnown old new) (js : List PlainJudgment) (follow : FollowAmong T b old js) where
  its_context : (u : ℕ) (j : PlainJudgment) → slice_get js u ≡ Some j → context_in (map Some new) j.context ≡ context_in (map Some old) j.context
  its_context u j e =
      let f = follow u (slice_get_within js u j e) in
      let same : f.judgment ≡ j = same_Some f.judgment j (sym f.there ∙ e) in
      let at : context_in (map Some old) j.context ≡ Some f.context = ap (λ (x : PlainJudgment). context_in (map Some old) x.context) (sym same)
      ∙ f.form.context in
      stays_known old new keeps j.context f.context at ∙ sym at

  pub follow_still : (more : List PlainJudgment) (i : ℕ) → i < length js → FollowsIn T b (map Some new) (js ++ more) i
  follow_still more i l =
      follows_alike (map Some old) (map Some new) js (js ++ more) i (λ u h. left_of js more u (omega (arith, h, l))) (λ u j h. its_context u j) T b
      (left_of js more i l) (its_context i) (follow i l)

-- and in the front of them.
pub follow_in_front : (T : Table) (b : Elements) (cs : List (Option Context)) (js more : List PlainJudgment) (i : ℕ) → i < length js
    → FollowsIn T b cs (js ++ more) i → FollowsIn T b cs js i
follow_in_front T b cs js more i l f =
    follows_alike cs cs (js ++ more) js i (λ u h. sym (left_of js more u (omega (arith, h, l)))) (λ u j h e. refl) T b (sym (left_of js more i l)) (λ j e. refl)
    f

-- an item by its number
pub there_is : {X : Type 0} (xs : List X) (i : ℕ) → i < length xs → (x : X) × (slice_get xs i ≡ Some x)
there_is [] i h = absurd (omega (arith, h))
there_is (x ∷ xs) zero h = (x, refl)
there_is (x ∷ xs) (suc i) h = there_is xs i (omega (arith, h))

-- what earlier judgments tell stays
pub told_still : (js more : List PlainJudgment) (us : List ℕ) → AllByRecursion (λ u. u < length js) us → map (told (js ++ more)) us ≡ map (told js) us
told_still js more [] h = refl
told_still js more (u ∷ us) h =
    let j = there_is js u h.0 in
    let one : told (js ++ more) u ≡ told js u = told_there (js ++ more) u j.0 (slice_get-append_left js more u j.0 j.1) ∙ sym (told_there js u j.0 j.1) in
    let rest : map (told (js ++ more)) us ≡ map (told js) us = told_still js more us h.1 in cc

pub earlier_still : (js more : List PlainJudgment) (us : List ℕ) → AllByRecursion (λ u. u < length js) us → AllByRecursion (λ u. u < length (js ++ more)) us
earlier_still js more [] h = tt
earlier_still js more (u ∷ us) h = (omega (arith, h.0, length-append js more), earlier_still js more us h.1)
