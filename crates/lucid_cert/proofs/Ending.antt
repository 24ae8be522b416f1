-- The certificate that ends with the root's judgment.
use Rattle.lucid_cert.proofs.Common.{◌≡◌, ℕ, suc, ◌+◌, ◌<◌, List, [], ◌∷◌, ◌++◌, map, take, length, Option, Some, refl, sym, ap, ◌∙◌, subst, arith, slice_get, AllByRecursion, length-take, same_Some, slice_get_within, Elements, Context, context_at, root, number_of, Key, Tag, Table, PlainJudgment, context_row, MayShow, MayShowJudgment, ContextRow, Why, FollowsIn, context_in, contexts_behind, Position, IsCertificate, Each, FollowAmong, IsJudgmentAt, IsRoot, IsSoundBy, Spot, spot_at, Making}
use Rattle.lucid_cert_rules.specs.WhyText.{judgment_row}
use Rattle.lucid_cert_rules.specs.WhyTexts.{MayBeShown}
use Rattle.lucid_cert_rules.specs.Follows.{IsOfRoot, contexts, row_context}
use Rattle.lucid_cert.specs.Certified.{AreApart}
use Rattle.std.proofs.Common.{drop}
use Rattle.std.proofs.lemmas.List.{take-append-drop}
use Rattle.lucid_lists.proofs.Lists.{slice_get-append_left}
use Rattle.lucid_cert.proofs.Growing.{follow_in_front, in_known, left_of}

-- the first context is the empty one
first_stays : (places : ℕ) (c : Option Context) (cs : List (Option Context)) (rs : List ContextRow)
    → context_in (contexts_behind places (c ∷ cs) rs) 0 ≡ c
first_stays places c cs [] = refl
first_stays places c cs (r ∷ rs) = first_stays places c (cs ++ row_context places (c ∷ cs) r ∷ []) rs

-- the length of a front
front_length : {X : Type 0} (xs : List X) (n : ℕ) → n < length xs → length (take (n + 1) xs) ≡ n + 1
front_length xs n h = omega (arith, length-take (n + 1) xs, h)

-- what each item has, all have
all_have : {X : Type 0} (P : X → Type 0) (xs : List X) → Each P xs → AllByRecursion P xs
all_have P [] h = tt
all_have P (x ∷ xs) h = (h 0 x refl, all_have P xs (λ i y e. h (suc i) y e))

rows_shown : (cs : List ContextRow) (js : List PlainJudgment) → AllByRecursion (λ r. MayShow (context_row r)) cs → AllByRecursion MayShowJudgment js
    → AllByRecursion MayShow (map context_row cs ++ map judgment_row js)
rows_shown [] [] h k = tt
rows_shown [] (j ∷ js) h k = (k.0, rows_shown [] js h k.1)
rows_shown (c ∷ cs) js h k = (h.0, rows_shown cs js h.1 k)

module _ (T : Table) (known : List Context) (keys : List Key) (js : List PlainJudgment) (waiting : List Making) (s : IsSoundBy T known keys js waiting)
    (at : Position) (is_root : IsRoot T at) (n : ℕ)
    (it : IsJudgmentAt js (spot_at at 0) n) (w : Why) (rows : contexts_behind (length T.places) (Some root ∷ []) w.contexts ≡ map Some known)
    (front : w.judgments ≡ take (n + 1) js) where
  its_contexts : contexts T w ≡ map Some known
  unfolding contexts
  its_contexts = rows

  below : n < length js
  below = slice_get_within js n it.judgment it.there

  count : length w.judgments ≡ n + 1
  count = ap length front ∙ front_length js n below

  -- what is cut off behind it
  abbrev behind : List PlainJudgment
  behind = drop (n + 1) js

  whole : w.judgments ++ behind ≡ js
  whole = ap (λ (xs : List PlainJudgment). xs ++ behind) front ∙ take-append-drop (n + 1) js

  from_front : (i : ℕ) (j : PlainJudgment) → slice_get w.judgments i ≡ Some j → slice_get js i ≡ Some j
  from_front i j e = ap (λ (xs : List PlainJudgment). slice_get xs i) (sym whole) ∙ slice_get-append_left w.judgments behind i j e

  -- the last judgment is the root's
  last_there : slice_get w.judgments n ≡ Some it.judgment
  last_there = sym (left_of w.judgments behind n (omega (arith, count))) ∙ (ap (λ (xs : List PlainJudgment). slice_get xs n) whole ∙ it.there)

  empty_context : context_in (contexts T w) it.judgment.context ≡ Some root
  empty_context =
      ap (context_in (contexts T w)) (ap (λ (x : Spot). x.context) it.its_spot ∙ ap (λ (t : Tag). number_of t) is_root.context)
      ∙ (ap (λ (cs : List (Option Context)). context_in cs 0) (its_contexts ∙ sym rows) ∙ first_stays (length T.places) (Some root) [] w.contexts)

  of_root : IsOfRoot T (contexts T w) w.judgments n
  of_root = record {
    judgment = it.judgment;
    there = last_there;
    node = ap (λ (x : Spot). x.node) it.its_spot ∙ is_root.node;
    context = empty_context;
    space = ap (λ (x : Spot). x.space) it.its_spot;
  }

  all_follow : (b : Elements) → FollowAmong T b known js → (i : ℕ) → i < length w.judgments → FollowsIn T b (contexts T w) w.judgments i
  all_follow b follow i l =
      subst (λ (cs : List (Option Context)). FollowsIn T b cs w.judgments i) (sym its_contexts)
      (follow_in_front T b (map Some known) w.judgments behind i l
      (subst (λ (xs : List PlainJudgment). FollowsIn T b (map Some known) xs i) (sym whole) (follow i (omega (arith, l, count, below)))))

  -- no two judgments are of one node in one context at one point
  one_number : (i k : ℕ) (j l : PlainJudgment) → slice_get js i ≡ Some j → slice_get js k ≡ Some l
      → context_in (contexts T w) j.context ≡ context_in (contexts T w) l.context → j.context ≡ l.context
  one_number i k j l e f same =
      s.once.places j.context l.context (s.contexts i j e) (s.contexts k l f)
      (same_Some (context_at known j.context) (context_at known l.context)
      (sym (in_known known j.context (s.contexts i j e)) ∙ (ap (λ (cs : List (Option Context)). context_in cs j.context) (sym its_contexts)
      ∙ (same ∙ (ap (λ (cs : List (Option Context)). context_in cs l.context) its_contexts ∙ in_known known l.context (s.contexts k l f))))))

  is_apart : AreApart T w
  is_apart i k j l e f node context time space =
      let a = from_front i j e in
      let b = from_front k l f in
      let number = one_number i k j l a b context in s.apart i k j l a b (λ x. record { node = node x; context = number x; time = time x; space = space x })

  -- its time is the root's
  its_time : (i : ℕ) (j : PlainJudgment) → length w.judgments ≡ i + 1 → slice_get w.judgments i ≡ Some j → j.time ≡ at.time
  its_time i j e f =
      let same : n ≡ i = omega (arith, count, e) in
      let one : it.judgment ≡ j = same_Some it.judgment j (sym last_there ∙ (ap (slice_get w.judgments) same ∙ f)) in
      ap (λ (x : PlainJudgment). x.time) (sym one) ∙ ap (λ (x : Spot). x.time) it.its_spot

  may_be_shown : AllByRecursion (λ r. MayShow (context_row r)) w.contexts → MayBeShown w
  may_be_shown shown = rows_shown w.contexts w.judgments shown (all_have MayShowJudgment w.judgments (λ i j e. s.shown i j (from_front i j e)))

  -- So it is the root's certificate.
  pub is_certificate : AllByRecursion (λ r. MayShow (context_row r)) w.contexts → (b : Elements) → FollowAmong T b known js → IsCertificate T b w at.time
  is_certificate shown b follow = record {
    right = record { all = all_follow b follow; before = n; last_number = count; of_root = of_root };
    at_time = its_time;
    apart = is_apart;
    shown = may_be_shown shown;
  }
