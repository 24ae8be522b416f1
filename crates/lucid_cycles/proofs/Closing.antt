-- The way back through the levels, to a name that comes again.
use Rattle.lucid_cycles.proofs.Common.{◌≡◌, ◌≢◌, ℕ, zero, suc, ◌+◌, ◌-◌, ◌<◌, ◌≤◌, Bool, true, false, List, [], ◌∷◌, ◌++◌, length, get_or, take, drop, ◌⊎◌, inl, inr, Vec, refl, sym, ap, subst, ◌∙◌, arith, add-one, length-append, ℤ, pos, ◌+ℤ◌, Global, All, get_or_past, take-append-drop, length-replicate, All-nil, All-head, All-tail, nat_tests, cases_lt, some_left, In, AllDiffer, Edge, factor_of, edge, first_or, total, Closed, potential, IsDue, AreLevels, levels_of, eqb, ◌||◌, list_any, get_or-map, length-map, All-push, IsDistinct-from_apart, length-le_from_distinct_below}
use Rattle.std.proofs.lemmas.Bool.{eqb-true}
use Rattle.std.proofs.lemmas.List.{get_or_default}
use Rattle.lucid_tree.proofs.Members.{differ_right, differ_both}
use Rattle.lucid_cycles.specs.Cycles.{Leads}
use Rattle.lucid_cycles.specs.Rounds.{IsDueEdge}
use Rattle.lucid_cycles.proofs.Sums.{by, not-positive}
use Rattle.lucid_cycles.proofs.Levels.{next-rises}
use Rattle.lucid_cycles.proofs.Lists.{in-at}
use Rattle.lucid_cycles.proofs.Raising.{edge-is}
use Rattle.lucid_cycles.proofs.Trails.{Down, Trail, trail-more, trail-drop, trail-length, trail-leads, closed-sum}

-- the potentials of a level
abbrev pub at_level : List (List ℕ) → ℕ → List ℕ
at_level hs k = get_or hs k []

-- the way back so far: its names, all different, and where it is, at a name that rose there
pub record Back (g : List Edge) (a n : ℕ) (hs : List (List ℕ)) (names : List ℕ) (delays : List ℤ) (level name : ℕ) : Type 0 where
  pub trail : Trail g a (at_level hs) (n + 1) names delays level name
  pub rises : (k : ℕ) → level ≡ k + 1 → potential (at_level hs k) name < potential (at_level hs level) name
  pub once : AllDiffer names
  pub below : All (λ x. x < n) names

pub level-is : (vs : List (Vec ℕ Global)) (k : ℕ) (v : Vec ℕ Global) → k < length vs → v ≡ get_or vs k v → at_level (levels_of vs) k ≡ v.items
level-is vs k v h is = get_or-map (λ (x : Vec ℕ Global). x.items) vs k v [] h ∙ ap (λ (x : Vec ℕ Global). x.items) (sym is)

length-of : (g : List Edge) (a n : ℕ) (hs : List (List ℕ)) → AreLevels g a n hs → (k : ℕ) → k < length hs → length (at_level hs k) ≡ n
length-of g a n hs l zero h = ap length l.starts ∙ length-replicate n 0
length-of g a n hs l (suc k) h =
    let s = l.steps k (omega (arith, h)) in
    ap (λ j. length (at_level hs j)) (sym (add-one k)) ∙ s.round.same ∙ length-of g a n hs l k (omega (arith, h))

rises-on : (g : List Edge) (a n : ℕ) (hs : List (List ℕ)) → AreLevels g a n hs → (i d x : ℕ) → i + d < length hs
    → potential (at_level hs i) x ≤ potential (at_level hs (i + d)) x
rises-on g a n hs l i zero x h = let e : i + 0 ≡ i = omega arith in omega (arith, ap (λ j. potential (at_level hs j) x) e)
rises-on g a n hs l i (suc d) x h =
    let s = l.steps (i + d) (omega (arith, h)) in
    let e : i + suc d ≡ i + d + 1 = omega arith in
    omega (arith, rises-on g a n hs l i d x (omega (arith, h)), s.round.rises x, ap (λ j. potential (at_level hs j) x) e)

rise-to : (g : List Edge) (a n : ℕ) (hs : List (List ℕ)) → AreLevels g a n hs → (i j x : ℕ) → i ≤ j → j < length hs
    → potential (at_level hs i) x ≤ potential (at_level hs j) x
rise-to g a n hs l i j x h m =
    let e : i + (j - i) ≡ j = omega (arith, h) in
    omega (arith, rises-on g a n hs l i (j - i) x (omega (arith, e, m)), ap (λ k. potential (at_level hs k) x) e)

above : (p : List ℕ) (n x y : ℕ) → length p ≡ n → y < potential p x → (x < n) ⊎ (n ≤ x) → x < n
above p n x y e h (inl l) = l
above p n x y e h (inr l) = absurd (omega (arith, h, get_or_past p x 0 (omega (arith, e, l))))

pub back-start : (g : List Edge) (a n : ℕ) (hs : List (List ℕ)) (level name : ℕ) → level ≡ n + 1
    → potential (at_level hs n) name < potential (at_level hs level) name → Back g a n hs [] [] level name
back-start g a n hs level name e h = record {
  trail = sym e;
  rises = λ k q. let s : k ≡ n = omega (arith, e, q) in subst (λ j. potential (at_level hs j) name < potential (at_level hs level) name) (sym s) h;
  once = tt;
  below = All-nil (λ x. x < n);
}

pub back-more : (g : List Edge) (a n : ℕ) (hs : List (List ℕ)) (names : List ℕ) (delays : List ℤ) (level k name : ℕ) (e : Edge) → AreLevels g a n hs
    → length hs ≡ n + 2 → level ≡ k + 1
    → Back g a n hs names delays level name → (In name names → ⊥) → IsDueEdge g a (at_level hs k) name (potential (at_level hs level) name) e
    → Back g a n hs (names ++ name ∷ []) (delays ++ e.delay ∷ []) k e.to
back-more g a n hs names delays level k name e l m q b new d =
    let top = (trail-length g a (at_level hs) (n + 1) names delays level name b.trail).0 in
    let rose : potential (at_level hs k) name < potential (at_level hs level) name = b.rises k q in
    let q' : level ≡ suc k = q ∙ add-one k in
    let here : In (edge name e.to e.delay) g = subst (λ y. In y g) (edge-is e name d.makes.from_name) d.stands in
    let down : Down g a (at_level hs) k name e.to e.delay = record {
      stands = here;
      is = subst (λ j. pos (potential (at_level hs k) e.to + 1) ≡ pos (potential (at_level hs j) name) +ℤ by a e.delay) q' d.makes.is;
      rose = subst (λ j. potential (at_level hs k) name < potential (at_level hs j) name) q' rose;
    } in
    record {
      trail = trail-more g a (at_level hs) (n + 1) names delays k name e.to e.delay
          (subst (λ j. Trail g a (at_level hs) (n + 1) names delays j name) q' b.trail) down;
      rises = λ j s.
          let step = l.steps j (omega (arith, m, q, s, top)) in
          let r : potential (at_level hs j) e.to < potential (at_level hs (j + 1)) e.to =
          next-rises g a (at_level hs j) (at_level hs (j + 1)) name e.to e.delay (potential (at_level hs level) name) step.round here
          (subst (λ i. pos (potential (at_level hs i) e.to + 1) ≡ pos (potential (at_level hs level) name) +ℤ by a e.delay) s d.makes.is)
          (subst (λ i. potential (at_level hs i) name < potential (at_level hs level) name) s rose) in
          subst (λ i. potential (at_level hs j) e.to < potential (at_level hs i) e.to) (sym s) r;
      once = differ_both names (name ∷ []) b.once ((λ i. i), tt) (λ x i j. elim j [ inl s ↦ new (subst (λ y. In y names) s i) | inr s ↦ s ]);
      below = All-push (λ x. x < n) names name b.below
          (above (at_level hs level) n name (potential (at_level hs k) name) (length-of g a n hs l level (omega (arith, m, q, top))) rose (cases_lt name n));
    }

-- names that all differ and are below n are at most n
not-eqb : (x y : ℕ) → x ≢ y → eqb x y ≡ false
not-eqb x y h = grind (arith, nat_tests)

differ-apart : (xs : List ℕ) → AllDiffer xs → (i j d : ℕ) → i < j → j < length xs → get_or xs i d ≢ get_or xs j d
differ-apart [] h i j d l m e = absurd (omega (arith, m))
differ-apart (x ∷ xs) h zero zero d l m e = absurd (omega (arith, l))
differ-apart (x ∷ xs) h zero (suc j) d l m e = h.0
    (subst (λ y. In y xs) (sym e) (in-at xs j (get_or xs j d) (omega (arith, m)) (get_or_default xs j d (get_or xs j d) (omega (arith, m)))))
differ-apart (x ∷ xs) h (suc i) zero d l m e = absurd (omega (arith, l))
differ-apart (x ∷ xs) h (suc i) (suc j) d l m e = differ-apart xs h.1 i j d (omega (arith, l)) (omega (arith, m)) e

any-below-by : (n q x : ℕ) (xs : List ℕ) (b : Bool) → eqb q x ≡ b → x < n → (list_any (eqb q) xs ≡ true → q < n) → (b || list_any (eqb q) xs) ≡ true → q < n
any-below-by n q x xs true e l f h = let s = eqb-true q x e in omega (arith, s, l)
any-below-by n q x xs false e l f h = f h

any-below : (n : ℕ) (xs : List ℕ) → All (λ x. x < n) xs → (q : ℕ) → list_any (eqb q) xs ≡ true → q < n
any-below n [] h q e = cc
any-below n (x ∷ xs) h q e = any-below-by n q x xs (eqb q x) refl (All-head (λ x. x < n) x xs h) (any-below n xs (All-tail (λ x. x < n) x xs h) q) e

few-names : (n : ℕ) (xs : List ℕ) → AllDiffer xs → All (λ x. x < n) xs → length xs ≤ n
few-names n xs d b =
    length-le_from_distinct_below xs n (IsDistinct-from_apart eqb xs (λ i j e l m. not-eqb (get_or xs i e) (get_or xs j e) (differ-apart xs d i j e l m)))
    (any-below n xs b)

-- a way back comes to a name again before the levels end
pub back-ends : (g : List Edge) (a n : ℕ) (hs : List (List ℕ)) (names : List ℕ) (delays : List ℤ) (level name : ℕ) → Back g a n hs names delays level name
    → 0 < level
back-ends g a n hs names delays level name b =
    let t = (trail-length g a (at_level hs) (n + 1) names delays level name b.trail).0 in
    let f = few-names n names b.once b.below in
    omega (arith, t, f)

first-drop : (xs : List ℕ) (i z d : ℕ) → i < length xs → first_or z (drop i xs) ≡ get_or xs i d
first-drop [] i z d h = absurd (omega (arith, h))
first-drop (x ∷ xs) zero z d h = refl
first-drop (x ∷ xs) (suc i) z d h = first-drop xs i z d (omega (arith, h))

pub closed : (g : List Edge) (a n : ℕ) (hs : List (List ℕ)) (names : List ℕ) (delays : List ℤ) (level name i : ℕ) → a ≡ factor_of n → AreLevels g a n hs
    → length hs ≡ n + 2
    → Back g a n hs names delays level name → i < length names → get_or names i 0 ≡ name → Closed g (drop i names) (drop i delays)
closed g a n hs names delays level name i e l m b h is =
    let t = trail-drop g a (at_level hs) i (n + 1) names delays level name (omega (arith, h)) b.trail in
    let xs : List ℕ = drop i names in
    let ws : List ℤ = drop i delays in
    let some : xs ≢ [] = some_left names i h in
    let back : first_or name xs ≡ name = first-drop names i name 0 h ∙ is in
    let start : first_or 0 xs ≡ name = first-drop names i 0 0 h ∙ is in
    let all : length names ≤ n = few-names n names b.once b.below in
    let part : length xs ≤ length names = omega (arith, ap length (take-append-drop i names), length-append (take i names) xs) in
    let under : n ≤ a = omega (arith, e) in
    record {
      cycle = record {
        some = some;
        leads = subst (Leads g xs ws) (sym start) (trail-leads g a (at_level hs) t.0 xs ws level name t.2);
        once = differ_right (take i names) xs (subst AllDiffer (sym (take-append-drop i names)) b.once);
      };
      sum = not-positive a (length xs) (total ws)
          (closed-sum g a (at_level hs) t.0 xs ws level name t.2 some back (λ j k x q r. rise-to g a n hs l j k x q (omega (arith, m, r, t.1))))
          (omega (arith, all, part, under));
    }

many-levels : (vs : List (Vec ℕ Global)) (n : ℕ) → length vs ≡ n + 2 → length (levels_of vs) ≡ n + 2
many-levels vs n h = length-map vs (λ (x : Vec ℕ Global). x.items) ∙ h

-- what the levels of the code say
module _ (g : List Edge) (a n : ℕ) (vs : List (Vec ℕ Global)) (l : AreLevels g a n (levels_of vs)) (h : length vs ≡ n + 2) where
  many : length (levels_of vs) ≡ n + 2
  many = many-levels vs n h

  pub length-level : (p : List ℕ) (k : ℕ) → k < n + 2 → p ≡ at_level (levels_of vs) k → length p ≡ n
  length-level p k m e = ap length e ∙ length-of g a n (levels_of vs) l k (omega (arith, m, many))

  pub some-rises : (p q : List ℕ) → p ≡ at_level (levels_of vs) n → q ≡ at_level (levels_of vs) (n + 1) → ((k : ℕ) → potential q k ≤ potential p k) → ⊥
  some-rises p q e f r =
      let s = l.steps n (omega (arith, many)) in
      omega (arith, r s.name, s.rises, ap (λ x. potential x s.name) e, ap (λ x. potential x s.name) f)

  pub back-begins : (p q names : List ℕ) (delays : List ℤ) (name : ℕ) → p ≡ at_level (levels_of vs) n → q ≡ at_level (levels_of vs) (n + 1)
      → potential p name < potential q name → names ≡ [] → delays ≡ []
      → Back g a n (levels_of vs) names delays (n + 1) name
  back-begins p q names delays name e f r u v =
      let rose : potential (at_level (levels_of vs) n) name < potential (at_level (levels_of vs) (n + 1)) name =
      omega (arith, r, ap (λ x. potential x name) e, ap (λ x. potential x name) f) in
      subst (λ x. Back g a n (levels_of vs) x delays (n + 1) name) (sym u)
      (subst (λ x. Back g a n (levels_of vs) [] x (n + 1) name) (sym v) (back-start g a n (levels_of vs) (n + 1) name refl rose))

  pub back-goes : (names names' : List ℕ) (delays delays' : List ℤ) (level name value : ℕ) (before : List ℕ) (e : Edge) → 0 < level
      → Back g a n (levels_of vs) names delays level name → (In name names → ⊥)
      → before ≡ at_level (levels_of vs) (level - 1) → value ≡ potential (at_level (levels_of vs) level) name → IsDueEdge g a before name value e
      → names' ≡ names ++ name ∷ [] → delays' ≡ delays ++ e.delay ∷ []
      → Back g a n (levels_of vs) names' delays' (level - 1) e.to
  back-goes names names' delays delays' level name value before e p b fresh q r d u v =
      subst (λ x. Back g a n (levels_of vs) x delays' (level - 1) e.to) (sym u)
      (subst (λ x. Back g a n (levels_of vs) (names ++ name ∷ []) x (level - 1) e.to) (sym v)
      (back-more g a n (levels_of vs) names delays level (level - 1) name e l many (omega (arith, p)) b fresh
      (subst (λ x. IsDueEdge g a x name (potential (at_level (levels_of vs) level) name) e) q (subst (λ x. IsDueEdge g a before name x e) r d))))

  due-there : (k name : ℕ) → potential (at_level (levels_of vs) k) name < potential (at_level (levels_of vs) (k + 1)) name
      → (potential (at_level (levels_of vs) (k + 1)) name ≡ potential (at_level (levels_of vs) k) name)
      ⊎ IsDue g a (at_level (levels_of vs) k) name (potential (at_level (levels_of vs) (k + 1)) name)
      → IsDue g a (at_level (levels_of vs) k) name (potential (at_level (levels_of vs) (k + 1)) name)
  due-there k name r (inl e) = absurd (omega (arith, r, e))
  due-there k name r (inr d) = d

  pub is-due : (names : List ℕ) (delays : List ℤ) (level name value : ℕ) (before : List ℕ) → 0 < level → Back g a n (levels_of vs) names delays level name
      → before ≡ at_level (levels_of vs) (level - 1) → value ≡ potential (at_level (levels_of vs) level) name → IsDue g a before name value
  is-due names delays level name value before p b q r =
      let k : ℕ = level - 1 in
      let up : level ≡ k + 1 = omega (arith, p) in
      let top = (trail-length g a (at_level (levels_of vs)) (n + 1) names delays level name b.trail).0 in
      let s = l.steps k (omega (arith, many, up, top)) in
      let rose : potential (at_level (levels_of vs) k) name < potential (at_level (levels_of vs) (k + 1)) name =
      subst (λ j. potential (at_level (levels_of vs) k) name < potential (at_level (levels_of vs) j) name) up (b.rises k up) in
      subst (λ x. IsDue g a x name value) (sym q) (subst (IsDue g a (at_level (levels_of vs) k) name)
      (sym (r ∙ ap (λ j. potential (at_level (levels_of vs) j) name) up)) (due-there k name rose (s.round.due name)))

  pub delays-many : (names : List ℕ) (delays : List ℤ) (level name : ℕ) → Back g a n (levels_of vs) names delays level name → length delays ≡ length names
  delays-many names delays level name b = (trail-length g a (at_level (levels_of vs)) (n + 1) names delays level name b.trail).1

  pub closes : (names names' : List ℕ) (delays delays' : List ℤ) (level name number i : ℕ) → a ≡ factor_of n → Back g a n (levels_of vs) names delays level name
      → names' ≡ names → delays' ≡ delays → number ≡ name
      → i < length names' → get_or names' i 0 ≡ number → Closed g (drop i names') (drop i delays')
  closes names names' delays delays' level name number i e b u v w m q =
      subst (λ x. Closed g (drop i x) (drop i delays')) (sym u) (subst (λ x. Closed g (drop i names) (drop i x)) (sym v)
      (closed g a n (levels_of vs) names delays level name i e l many b (omega (arith, m, ap length u)) (ap (λ x. get_or x i 0) (sym u) ∙ q ∙ w)))

  pub back-low : (names : List ℕ) (delays : List ℤ) (level name : ℕ) → Back g a n (levels_of vs) names delays level name → level < n + 2
  back-low names delays level name b =
      let top = (trail-length g a (at_level (levels_of vs)) (n + 1) names delays level name b.trail).0 in
      omega (arith, top)
