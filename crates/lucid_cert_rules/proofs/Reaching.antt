-- What a walk finds is reached, and it finds all that is.
use Rattle.lucid_cert_rules.proofs.NeedCommon.{◌≡◌, ℕ, Bool, true, false, List, [], ◌∷◌, ◌++◌, ◌||◌, Some, None, ◌⊎◌, inl, inr, refl, sym, ap, subst, ◌∙◌}
use Rattle.std.proofs.Common.{nat_eq, ◌==◌}
use Rattle.std.proofs.lemmas.Bool.{eqb-true, and_parts, or_cases}
use Rattle.lucid_tree.specs.Members.{In}
use Rattle.lucid_tree.proofs.Members.{in_left, in_right, in_either}
use Rattle.lucid_equations.specs.declared.table.Table.{Table}
use Rattle.lucid_cert_rules.specs.Certificates.{PlainJudgment}
use Rattle.lucid_cert_rules.specs.declared.cell.Cell.{Cell}
use Rattle.lucid_cert_rules.specs.declared.cell.Cell.TheVariants.{Named, Element}
use Rattle.lucid_cert_rules.specs.Cells.{asked_at, is_among, same_cell}
use Rattle.lucid_cert_rules.specs.Needs.{Finds, Needs, asked, asked_before, looked_into, no_more, seen_before, is_one_of, uses_at}
use Rattle.lucid_cert_rules.specs.NeedLaws.{IsAskedBy, Leads, itself, through}

-- the one of a list of one
the_one : {A : Type 0} (x y : A) → In x (y ∷ []) → x ≡ y
the_one x y (inl e) = e
the_one x y (inr none) = absurd none

module _ (T : Table) (js : List PlainJudgment) (P : ℕ → Type 0) where
  -- what holds of those found so far, and of all that those which wait lead to, holds of all that are found
  sound : {w s : List ℕ} {cs : List Cell} {f all : List ℕ} → Finds T js w s cs f all → ((k : ℕ) → In k f → P k)
      → ((m k : ℕ) → In m w → Leads T js m k → P k) → (k : ℕ) → In k all → P k
  sound no_more found waits = λ k there. found k there
  sound (seen_before was more) found waits = sound more found (λ m k there. waits m k (inr there))
  sound (looked_into {i = i} {more = rest} unseen nothing more) found waits = sound more found
      (λ m k there leads. elim (in_either m (uses_at js i) rest there) [
        | inl h ↦ waits i k (inl refl) (through nothing m h leads)
        | inr h ↦ waits m k (inr h) leads
      ])
  sound (asked {i = i} {found = f} unseen c asks absent more) found waits = sound more
      (λ k there. elim (in_either k f (i ∷ []) there) [
        | inl h ↦ found k h
        | inr h ↦ subst P (sym (the_one k i h)) (waits i i (inl refl) (itself c asks))
      ])
      (λ m k there. waits m k (inr there))
  sound (asked_before unseen c asks was more) found waits = sound more found (λ m k there. waits m k (inr there))

pub reached : (T : Table) (js : List PlainJudgment) (i : ℕ) (found : List ℕ) → Needs T js i found → (k : ℕ) → In k found → Leads T js i k
reached T js i found needs =
    sound T js (Leads T js i) needs (λ k none. absurd none)
    (λ m k there leads. subst (λ n. Leads T js n k) (the_one m i there) leads)

-- what is found among numbers stands there
one_of_there : (ns : List ℕ) (i : ℕ) → is_one_of ns i ≡ true → In i ns
one_of_there [] i h = absurd (cc)
one_of_there (n ∷ ns) i h = elim (or_cases (nat_eq i n) (is_one_of ns i) h) [ inl e ↦ inl (eqb-true i n e) | inr e ↦ inr (one_of_there ns i e) ]

-- cells that the test calls one are one
pub same_is_one : (c d : Cell) → same_cell c d ≡ true → c ≡ d
same_is_one (Named i) (Named j) h = ap Named (eqb-true i j h)
same_is_one (Named i) (Element l u) h = absurd (cc)
same_is_one (Element k t) (Named j) h = absurd (cc)
same_is_one (Element k t) (Element l u) h =
    let parts = and_parts (k == l) (t == u) h in
    let p = eqb-true k l parts.0 in
    let q = eqb-true t u parts.1 in cc

-- a cell among more is among those, or the last
among_more : (cs : List Cell) (c d : Cell) → is_among (cs ++ c ∷ []) d ≡ true → (is_among cs d ≡ true) ⊎ (d ≡ c)
among_more [] c d h = elim (or_cases (same_cell d c) false h) [ inl e ↦ inr (same_is_one d c e) | inr e ↦ absurd (cc) ]
among_more (x ∷ cs) c d h =
    elim (or_cases (same_cell d x) (is_among (cs ++ c ∷ []) d) h) [
      | inl e ↦ inl (ap (λ b. b || is_among cs d) e)
      | inr e ↦ elim (among_more cs c d e) [ inl g ↦ inl (ap (λ b. same_cell d x || b) g ∙ or_true (same_cell d x)) | inr g ↦ inr g ]
    ]
  where
    or_true : (b : Bool) → (b || true) ≡ true
    or_true true = refl
    or_true false = refl

module _ (T : Table) (js : List PlainJudgment) where
  -- What a walk keeps: the uses of what was seen were seen or wait, and what was seen to be asked for is asked for by what was found.
  record Keeps (w s : List ℕ) (cs : List Cell) (f : List ℕ) : Type 0 where
    closed : (m u : ℕ) → In m s → asked_at T js m ≡ None → In u (uses_at js m) → In u s ⊎ In u w
    asks : (m : ℕ) (c : Cell) → In m s → asked_at T js m ≡ Some c → IsAskedBy T js f c
    cells : (c : Cell) → is_among cs c ≡ true → IsAskedBy T js f c

  more_found : (f : List ℕ) (i : ℕ) (c : Cell) → IsAskedBy T js f c → IsAskedBy T js (f ++ i ∷ []) c
  more_found f i c h = (h.0, in_left h.0 f (i ∷ []) h.1, h.2)

  last_found : (f : List ℕ) (i : ℕ) (c : Cell) → asked_at T js i ≡ Some c → IsAskedBy T js (f ++ i ∷ []) c
  last_found f i c e = (i, in_right i f (i ∷ []) (inl refl), e)

  -- where nothing waits, what was seen leads to what was found alone
  leads_in : {s f : List ℕ} {cs : List Cell} → Keeps [] s cs f → {m k : ℕ} (c : Cell) → In m s → Leads T js m k → asked_at T js k ≡ Some c → IsAskedBy T js f c
  leads_in keeps {m = m} c there (itself d asks) is = keeps.asks m c there is
  leads_in keeps {m = m} c there (through none u used leads) is =
      elim (keeps.closed m u there none used) [ inl seen ↦ leads_in keeps c seen leads is | inr waits ↦ absurd waits ]

  -- one that was seen waits no more
  passed : (s more : List ℕ) (i : ℕ) → In i s → (u : ℕ) → In u s ⊎ In u (i ∷ more) → In u s ⊎ In u more
  passed s more i seen u (inl h) = inl h
  passed s more i seen u (inr (inl e)) = inl (subst (λ n. In n s) (sym e) seen)
  passed s more i seen u (inr (inr h)) = inr h

  -- one that waited is seen
  visited : (s more : List ℕ) (i u : ℕ) → In u s ⊎ In u (i ∷ more) → In u (s ++ i ∷ []) ⊎ In u more
  visited s more i u (inl h) = inl (in_left u s (i ∷ []) h)
  visited s more i u (inr (inl e)) = inl (in_right u s (i ∷ []) (inl e))
  visited s more i u (inr (inr h)) = inr h

  -- others wait before
  wait_before : (s us more : List ℕ) (u : ℕ) → In u s ⊎ In u more → In u s ⊎ In u (us ++ more)
  wait_before s us more u (inl h) = inl h
  wait_before s us more u (inr h) = inr (in_right u us more h)

  complete : {w s : List ℕ} {cs : List Cell} {f all : List ℕ} → Finds T js w s cs f all → Keeps w s cs f → (r k : ℕ) (c : Cell) → In r s ⊎ In r w
      → Leads T js r k → asked_at T js k ≡ Some c → IsAskedBy T js all c
  complete no_more keeps r k c there leads is =
      elim there [ inl seen ↦ leads_in keeps c seen leads is | inr waits ↦ absurd waits ]
  complete (seen_before {i = i} {more = more} {seen = s} was rest) keeps r k c there leads is =
      let seen = one_of_there s i was in
      complete rest (record {
        closed = λ m u h none used. passed s more i seen u (keeps.closed m u h none used);
        asks = keeps.asks;
        cells = keeps.cells;
      }) r k c (passed s more i seen r there) leads is
  complete (looked_into {i = i} {more = more} {seen = s} unseen nothing rest) keeps r k c there leads is =
      complete rest (record {
        closed = λ m u h none used. elim (in_either m s (i ∷ []) h) [
          | inl g ↦ wait_before (s ++ i ∷ []) (uses_at js i) more u (visited s more i u (keeps.closed m u g none used))
          | inr g ↦ inr (in_left u (uses_at js i) more (subst (λ n. In u (uses_at js n)) (the_one m i g) used))
        ];
        asks = λ m d h asks. elim (in_either m s (i ∷ []) h) [
          | inl g ↦ keeps.asks m d g asks
          | inr g ↦ let e = the_one m i g in let no : None ≡ Some d = sym nothing ∙ sym (ap (asked_at T js) e) ∙ asks in absurd (cc)
        ];
        cells = keeps.cells;
      }) r k c (wait_before (s ++ i ∷ []) (uses_at js i) more r (visited s more i r there)) leads is
  complete (asked {i = i} {more = more} {seen = s} {found = f} {cells = cs} unseen d asks absent rest) keeps r k c there leads is =
      complete rest (record {
        closed = λ m u h none used. elim (in_either m s (i ∷ []) h) [
          | inl g ↦ visited s more i u (keeps.closed m u g none used)
          | inr g ↦ let e = the_one m i g in let no : None ≡ Some d = sym none ∙ ap (asked_at T js) e ∙ asks in absurd (cc)
        ];
        asks = λ m x h is_x. elim (in_either m s (i ∷ []) h) [
          | inl g ↦ more_found f i x (keeps.asks m x g is_x)
          | inr g ↦ last_found f i x (sym (ap (asked_at T js) (the_one m i g)) ∙ is_x)
        ];
        cells = λ x h. elim (among_more cs d x h) [
          | inl g ↦ more_found f i x (keeps.cells x g)
          | inr g ↦ last_found f i x (asks ∙ ap Some (sym g))
        ];
      }) r k c (visited s more i r there) leads is
  complete (asked_before {i = i} {more = more} {seen = s} {found = f} {cells = cs} unseen d asks was rest) keeps r k c there leads is =
      complete rest (record {
        closed = λ m u h none used. elim (in_either m s (i ∷ []) h) [
          | inl g ↦ visited s more i u (keeps.closed m u g none used)
          | inr g ↦ let e = the_one m i g in let no : None ≡ Some d = sym none ∙ ap (asked_at T js) e ∙ asks in absurd (cc)
        ];
        asks = λ m x h is_x. elim (in_either m s (i ∷ []) h) [
          | inl g ↦ keeps.asks m x g is_x
          | inr g ↦
              let e = the_one m i g in
              let same : Some x ≡ Some d = sym is_x ∙ ap (asked_at T js) e ∙ asks in
              let one : x ≡ d = cc in subst (λ y. IsAskedBy T js f y) (sym one) (keeps.cells d was)
        ];
        cells = keeps.cells;
      }) r k c (visited s more i r there) leads is

pub found_reached : (T : Table) (js : List PlainJudgment) (i : ℕ) (found : List ℕ) → Needs T js i found → (k : ℕ) (c : Cell) → Leads T js i k
    → asked_at T js k ≡ Some c → IsAskedBy T js found c
found_reached T js i found needs k c leads is =
    complete T js needs (record { closed = λ m u none. absurd none; asks = λ m c none. absurd none; cells = λ c none. absurd (cc) }) i k c (inr (inl refl)) leads is
