-- The values of uses, and plans that are fed by them one by one.
use Rattle.lucid_cert.proofs.CheckCommon.{◌≡◌, ◌↔◌, ℕ, ◌<◌, ◌≤◌, true, false, List, [], ◌∷◌, map, length, Option, Some, None, get_or, refl, sym, ap, ◌∙◌, subst, arith, ◌==◌, slice_get, option_map, IfSome, Bor, same_Some, PlainValue, plain, Value, Elements, Context, root, context_of, same_tag_is_equality, Tag, Table, PlainJudgment, plain_judgment, JudgmentRow, Uses, fed, IsOfRoot, used, by_onward, contexts_of, IsSoundCheck, IsSameCheck, told, Check, context_there, zero, suc, ◌&&◌, cond, nat_lt, Decides, ltb-true, lt-ltb, le-ltb, Decides-eqb, Decides-and, option_and_then_some, cond_some, none-some}
use Rattle.std.proofs.Common.{Bool}
use Rattle.lucid_tree.specs.Rows.{Plan, look}
use Rattle.lucid_tags.specs.Contexts.{same_context}
use Rattle.lucid_tags.specs.Known.{IsKnown, IsOneForOne, KeepsKnown, space_of, same_tag, root_tag}
use Rattle.lucid_tags.specs.EqualityDecides.{same_context_is_equality}
use Rattle.lucid_cert_rules.specs.Follows.{context_in, is_context, is_of, value_if, Onward}
use Rattle.lucid_cert_rules.specs.Checking.{IsOfContext}
use Rattle.lucid_cert_rules.proofs.ContextTags.{context_lacks, keeps_tags, keeps_contexts}

-- tests that decide the same are the same
same_tests : {P Q : Type 0} (a b : Bool) → Decides a P → Decides b Q → (P → Q) → (Q → P) → a ≡ b
same_tests true true d e f g = refl
same_tests true false d e f g = absurd (let q = e.1 (f (d.0 refl)) in cc)
same_tests false true d e f g = absurd (let q = d.1 (g (e.0 refl)) in cc)
same_tests false false d e f g = refl

-- contexts are the same exactly where their tags are
pub same_contexts : (known : List Context) (a b : Tag) → IsOneForOne known → IsOfContext known a → IsOfContext known b
    → same_context (context_of known a) (context_of known b) ≡ same_tag a b
same_contexts known a b one p q =
    let tags = one.tags a b p.known_tag q.known_tag in
    same_tests (same_context (context_of known a) (context_of known b)) (same_tag a b) (same_context_is_equality (context_of known a) (context_of known b))
    (same_tag_is_equality a b)
    (λ e. tags.1 (e, p.space ∙ sym q.space)) (λ e. (tags.0 e).0)

-- a judgment by its number
pub item_at : (xs : List JudgmentRow) (i : ℕ) (d : JudgmentRow) → i < length (map plain_judgment xs)
    → slice_get (map plain_judgment xs) i ≡ Some (plain_judgment (get_or xs i d))
item_at [] i d h = absurd (omega (arith, h))
item_at (y ∷ ys) zero d h = refl
item_at (y ∷ ys) (suc i) d h = item_at ys i d (omega (arith, h))

-- a context that was looked up in a slice
pub by_slice : (slice tags : List (Option Tag)) (n : ℕ) (r o : Option Tag) → slice ≡ tags → r ≡ get_or slice n None → r ≡ o → o ≡ get_or tags n None
by_slice slice tags n r o same e is = sym is ∙ (e ∙ ap (λ (z : List (Option Tag)). get_or z n None) same)

-- what an earlier judgment has for a use
pub used_by : (cs : List (Option Context)) (js : List PlainJudgment) (i n : ℕ) (c : Context) (t s u : ℕ) (j : PlainJudgment) → u < i → slice_get js u ≡ Some j
    → used cs js i n c t s u ≡ value_if (is_of cs j n c t s) j.value
unfolding used
used_by cs js i n c t s u j l e = rw (lt-ltb u i l, e) refl

pub used_late : (cs : List (Option Context)) (js : List PlainJudgment) (i n : ℕ) (c : Context) (t s u : ℕ) → i ≤ u → None ≡ used cs js i n c t s u
unfolding used
used_late cs js i n c t s u l = rw (le-ltb u i l) refl

-- of a judgment whose context has a tag
used_tag : (known : List Context) (tags : List (Option Tag)) (js : List PlainJudgment) (i n : ℕ) (at : Tag) (t s u : ℕ) (j : PlainJudgment) (tag : Tag)
    → IsOneForOne known → IsOfContext known at
    → IsOfContext known tag → u < i → slice_get js u ≡ Some j → Some tag ≡ get_or tags j.context None
    → used (contexts_of known tags) js i n (context_of known at) t s u ≡ value_if ((j.node == n) && (same_tag tag at && ((j.time == t) && (j.space == s))))
    j.value
used_tag known tags js i n at t s u j tag one p q l e there =
    used_by (contexts_of known tags) js i n (context_of known at) t s u j l e
    ∙ ap (λ (b : Bool). value_if ((j.node == n) && (b && ((j.time == t) && (j.space == s)))) j.value)
    (ap (λ (x : Option Context). is_context x (context_of known at)) (context_there known tags j.context tag there) ∙ same_contexts known tag at one q p)

-- It is of the node of a number in a context at a point,
abbrev IsOf : (j : PlainJudgment) → (tag : Tag) → (node : ℕ) → (at : Tag) → (time space : ℕ) → Type 0
IsOf j tag n at t s = (j.node ≡ n) × ((tag ≡ at) × ((j.time ≡ t) × (j.space ≡ s)))

of_decides : (j : PlainJudgment) (tag : Tag) (n : ℕ) (at : Tag) (t s : ℕ)
    → Decides ((j.node == n) && (same_tag tag at && ((j.time == t) && (j.space == s)))) (IsOf j tag n at t s)
of_decides j tag n at t s =
    Decides-and (j.node == n) (same_tag tag at && ((j.time == t) && (j.space == s))) (Decides-eqb j.node n)
    (Decides-and (same_tag tag at) ((j.time == t) && (j.space == s)) (same_tag_is_equality tag at)
    (Decides-and (j.time == t) (j.space == s) (Decides-eqb j.time t) (Decides-eqb j.space s)))

module _ (known : List Context) (tags : List (Option Tag)) (js : List PlainJudgment) (i n : ℕ) (at : Tag) (t s u : ℕ) (j : PlainJudgment) (tag : Tag)
    (one : IsOneForOne known) (here : IsOfContext known at)
    (its : IsOfContext known tag) (earlier : u < i) (there : slice_get js u ≡ Some j) (is : Some tag ≡ get_or tags j.context None) where
  pub used_here : IsOf j tag n at t s → Some j.value ≡ used (contexts_of known tags) js i n (context_of known at) t s u
  used_here h = sym (used_tag known tags js i n at t s u j tag one here its earlier there is
      ∙ ap (λ (b : Bool). value_if b j.value) ((of_decides j tag n at t s).1 h))

  -- or it isn't.
  pub used_elsewhere : (IsOf j tag n at t s → ⊥) → None ≡ used (contexts_of known tags) js i n (context_of known at) t s u
  used_elsewhere h = sym (used_tag known tags js i n at t s u j tag one here its earlier there is ∙ ap (λ (b : Bool). value_if b j.value) (no_test _ refl))
    where
      no_test : (b : Bool) → ((j.node == n) && (same_tag tag at && ((j.time == t) && (j.space == s)))) ≡ b
          → ((j.node == n) && (same_tag tag at && ((j.time == t) && (j.space == s)))) ≡ false
      no_test true e = absurd (h ((of_decides j tag n at t s).0 e))
      no_test false e = e

and_none : (a b : Bool) → a && (false && b) ≡ false
and_none true b = refl
and_none false b = refl

pub used_without : (known : List Context) (tags : List (Option Tag)) (js : List PlainJudgment) (i n : ℕ) (c : Context) (t s u : ℕ) (j : PlainJudgment) → u < i
    → slice_get js u ≡ Some j
    → None ≡ get_or tags j.context None → None ≡ used (contexts_of known tags) js i n c t s u
used_without known tags js i n c t s u j l e none =
    sym (used_by (contexts_of known tags) js i n c t s u j l e
    ∙ (ap (λ (x : Option Context). value_if ((j.node == n) && (is_context x c && ((j.time == t) && (j.space == s)))) j.value)
    (context_lacks known tags j.context none)
    ∙ ap (λ (b : Bool). value_if b j.value) (and_none (j.node == n) ((j.time == t) && (j.space == s)))))

-- what a use has is told by its judgment
pub told_there : (js : List PlainJudgment) (u : ℕ) (j : PlainJudgment) → slice_get js u ≡ Some j → told js u ≡ j.value
told_there [] u j e = absurd (cc)
told_there (x ∷ xs) zero j e = ap (λ (y : PlainJudgment). y.value) (same_Some x j e)
told_there (x ∷ xs) (suc u) j e = told_there xs u j e

pub earlier_by : (b : Bool) (o : Option PlainValue) (v : PlainValue) → cond b o None ≡ Some v → (b ≡ true) × (o ≡ Some v)
earlier_by true o v h = (refl, h)
earlier_by false o v h = absurd (cc)

pub used_told : (cs : List (Option Context)) (js : List PlainJudgment) (i n : ℕ) (c : Context) (t s u : ℕ) (v : PlainValue) → used cs js i n c t s u ≡ Some v
    → (u < i) × (told js u ≡ v)
unfolding used
used_told cs js i n c t s u v e =
    let p = earlier_by (nat_lt u i) _ v e in
    option_and_then_some _ (slice_get js u) v p.1 (λ j there k.
    let q = cond_some (is_of cs j n c t s) j.value v k in (ltb-true u i p.0, told_there js u j there ∙ q.1))

-- so the value of a use is that of an earlier judgment
pub earlier_used : (cs : List (Option Context)) (js : List PlainJudgment) (i n : ℕ) (c : Context) (t s u : ℕ) (o : Option (Bor Value))
    → option_map (λ v. plain v.now) o ≡ used cs js i n c t s u
    → IfSome o (λ v. u < i)
earlier_used cs js i n c t s u None e = tt
earlier_used cs js i n c t s u (Some v) e = (used_told cs js i n c t s u (plain v.now) (sym e)).0

pub told_used : (cs : List (Option Context)) (js : List PlainJudgment) (i n : ℕ) (c : Context) (t s u : ℕ) (o : Option (Bor Value))
    → option_map (λ v. plain v.now) o ≡ used cs js i n c t s u
    → IfSome o (λ v. plain v.now ≡ told js u)
told_used cs js i n c t s u None e = tt
told_used cs js i n c t s u (Some v) e = sym (used_told cs js i n c t s u (plain v.now) (sym e)).1

-- a look that a use feeds, and one that it doesn't
pub fed_on : (value : Uses) (i t s l : ℕ) (k : PlainValue → Plan) (u : ℕ) (us : List ℕ) (v : PlainValue)
    → value (record { part = i; time = t; space = s; least = l }) u ≡ Some v
    → fed value (look i t s l k) (u ∷ us) ≡ fed value (k v) us
fed_on value i t s l k u us v e = rw e refl

-- The judgment of a number is of the root where it is of its node in the empty context at space 0.
module _ (T : Table) (known : List Context) (tags : List (Option Tag)) (js : List PlainJudgment) (i : ℕ) (j : PlainJudgment) (there : slice_get js i ≡ Some j)
  where
    same_root : (r : IsOfRoot T (contexts_of known tags) js i) → r.judgment ≡ j
    same_root r = same_Some r.judgment j (sym r.there ∙ there)

    its_context : (r : IsOfRoot T (contexts_of known tags) js i) → context_in (contexts_of known tags) j.context ≡ Some root
    its_context r = ap (λ (x : PlainJudgment). context_in (contexts_of known tags) x.context) (sym (same_root r)) ∙ r.context

    pub root_there : (tag at : Tag) (it : Bool) → IsOneForOne known → IsOfContext known tag → Some tag ≡ get_or tags j.context None → IsKnown known at
        → at ≡ root_tag → context_of known at ≡ root → j.node ≡ T.root → j.space ≡ 0
        → it ≡ same_tag tag at → (it ≡ true) ↔ IsOfRoot T (contexts_of known tags) js i
    root_there tag at it one its is known_at at_root stands node space e = (
      λ h. record {
        judgment = j;
        there = there;
        node = node;
        context = context_there known tags j.context tag is ∙ ap Some (ap (context_of known) ((same_tag_is_equality tag at).0 (sym e ∙ h)) ∙ stands);
        space = space;
      },
      λ r. e ∙ (same_tag_is_equality tag at).1 ((one.tags tag at its.known_tag known_at).1
          (same_Some _ _ (sym (context_there known tags j.context tag is) ∙ its_context r) ∙ sym stands, its.space ∙ sym (ap space_of at_root))),
    )

    pub root_nowhere : None ≡ get_or tags j.context None → (false ≡ true) ↔ IsOfRoot T (contexts_of known tags) js i
    root_nowhere none = (λ e. absurd (cc), λ r. absurd (none-some root (sym (context_lacks known tags j.context none) ∙ its_context r)))

-- More contexts are known: the check is the same, and sound.
pub still_sound : (c : Check) (new : List Context) → IsSoundCheck c → KeepsKnown c.tags new → (IsOneForOne c.tags → IsOneForOne new)
    → IsSoundCheck (record c { tags = new })
still_sound c new s k one = record { contexts = keeps_tags c.tags new c.contexts.items k s.contexts; once = one s.once; names = s.names }

pub still_same : (c : Check) (new : List Context) → IsSoundCheck c → KeepsKnown c.tags new → IsSameCheck c (record c { tags = new })
still_same c new s k = record { program = refl; judgments = refl; contexts = keeps_contexts c.tags new c.contexts.items k s.contexts }

-- what passes on is told by more known contexts as by fewer
pub passed_by : (b : Elements) (it : Bool) (js : List PlainJudgment) (i : ℕ) (cs ds : List (Option Context)) (o p : Onward) (s : ℕ) (us : List ℕ)
    (v : PlainValue) → ds ≡ cs → o ≡ p
    → (it ≡ true) ↔ (by_onward b (used ds js i) o s us ≡ Some v) → (it ≡ true) ↔ (by_onward b (used cs js i) p s us ≡ Some v)
passed_by b it js i cs ds o p s us v e f h =
    let P : List (Option Context) → Type 0 = λ x. (it ≡ true) ↔ (by_onward b (used x js i) p s us ≡ Some v) in
    let Q : Onward → Type 0 = λ x. (it ≡ true) ↔ (by_onward b (used ds js i) x s us ≡ Some v) in subst P e (subst Q f h)
