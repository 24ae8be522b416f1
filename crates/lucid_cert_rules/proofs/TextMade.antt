-- The text of a certificate as it is put together.
use Rattle.lucid_cert_rules.proofs.Common.{◌≡◌, ℕ, zero, suc, ◌<◌, List, [], ◌∷◌, ◌++◌, map, take, length, refl, sym, ap, ◌∙◌, subst, arith, append_assoc, codes, decimal, AllByRecursion, flat_map, join_with_byte, append-nil, value_text, spaced, text_of, PlainJudgment, plain_judgment, WhyRow, context_row, judgment_row, why_rows, row_line, MayShow, RowFits, line_of, ContextRow, JudgmentRow, Why, ◌+◌, get_or}
use Rattle.lucid_texts.specs.TextLines.{ended}
use Rattle.lucid_texts.proofs.Spaced.{line_three, more}
use Rattle.lucid_cert_rules.specs.WhyText.{why_text}
use Rattle.lucid_cert_rules.specs.WhyTexts.{MayBeShown}

-- the lines of rows, each ended
pub lines-ended : (rs : List WhyRow) → text_of (map row_line rs) ≡ flat_map line_of rs
lines-ended [] = refl
lines-ended (r ∷ rs) = ap (λ (x : List ℕ). line_of r ++ x) (lines-ended rs)

pub lines-append : (rs ss : List WhyRow) → flat_map line_of (rs ++ ss) ≡ flat_map line_of rs ++ flat_map line_of ss
lines-append [] ss = refl
lines-append (r ∷ rs) ss = ap (λ (x : List ℕ). line_of r ++ x) (lines-append rs ss) ∙ sym (append_assoc (line_of r) (flat_map line_of rs) (flat_map line_of ss))

-- a blank and a last word are that word behind a blank
last_word : (x v : List ℕ) → (x ++ 32 ∷ []) ++ v ≡ x ++ spaced (v ∷ [])
last_word x v = append_assoc x (32 ∷ []) v ∙ ap (λ (y : List ℕ). x ++ 32 ∷ y) (sym (append-nil v))

-- A judgment's line, as it is put together.
pub judgment_line : (to h : List ℕ) (a b u : List (List ℕ)) (v : List ℕ)
    → ((((((to ++ h) ++ spaced a) ++ spaced b) ++ spaced u) ++ 32 ∷ []) ++ v) ++ 10 ∷ [] ≡ to ++ ended (join_with_byte 32 (h ∷ ((a ++ b) ++ (u ++ v ∷ []))))
judgment_line to h a b u v =
    ap (λ (y : List ℕ). y ++ 10 ∷ []) (last_word ((((to ++ h) ++ spaced a) ++ spaced b) ++ spaced u) v ∙ more (((to ++ h) ++ spaced a) ++ spaced b) u (v ∷ []))
    ∙ line_three to h a b (u ++ v ∷ [])

-- all rows fit that may be shown
pub all_fit : (rs : List WhyRow) → AllByRecursion MayShow rs → AllByRecursion (λ r. MayShow r → RowFits r) rs → AllByRecursion RowFits rs
all_fit [] h k = tt
all_fit (r ∷ rs) h k = (k.0 h.0, all_fit rs h.1 k.1)

-- the rows of judgments, as they are shown
pub judgments_rows : (js : List JudgmentRow) → map (λ r. judgment_row (plain_judgment r)) js ≡ map judgment_row (map plain_judgment js)
judgments_rows [] = refl
judgments_rows (j ∷ js) = ap (λ (x : List WhyRow). judgment_row (plain_judgment j) ∷ x) (judgments_rows js)

pub both-append : (P : WhyRow → Type 0) (rs ss : List WhyRow) → AllByRecursion P rs → AllByRecursion P ss → AllByRecursion P (rs ++ ss)
both-append P [] ss h k = k
both-append P (r ∷ rs) ss h k = (h.0, both-append P rs ss h.1 k)

-- The text of a certificate, as it is put together: contexts and judgments.
pub text_made : (w : Why) (cs : List ContextRow) (js : List JudgmentRow) (none one two : List ℕ) → none ≡ [] → cs ≡ w.contexts
    → map plain_judgment js ≡ w.judgments → one ≡ none ++ flat_map line_of (map context_row cs)
    → two ≡ one ++ flat_map line_of (map (λ r. judgment_row (plain_judgment r)) js) → two ≡ why_text w
text_made w cs js none one two n c j h f =
    let e = h ∙ ap (λ (x : List ℕ). x ++ flat_map line_of (map context_row cs)) n in
    let contexts = ap (λ (x : List ContextRow). flat_map line_of (map context_row x)) c in
    let judgments = ap (flat_map line_of) (judgments_rows js ∙ ap (map judgment_row) j) in
    f ∙ (ap (λ (x : List ℕ). x ++ flat_map line_of (map (λ r. judgment_row (plain_judgment r)) js)) (e ∙ contexts)
    ∙ (ap (λ (x : List ℕ). flat_map line_of (map context_row w.contexts) ++ x) judgments
    ∙ (sym (lines-append (map context_row w.contexts) (map judgment_row w.judgments)) ∙ sym (lines-ended (why_rows w)))))

pub rows_fit : (w : Why) (cs : List ContextRow) (js : List JudgmentRow) → MayBeShown w → cs ≡ w.contexts → map plain_judgment js ≡ w.judgments
    → AllByRecursion (λ r. MayShow r → RowFits r) (map context_row cs)
    → AllByRecursion (λ r. MayShow r → RowFits r) (map (λ r. judgment_row (plain_judgment r)) js)
    → AllByRecursion RowFits (why_rows w)
rows_fit w cs js h c j f g =
    let P : List WhyRow → Type 0 = AllByRecursion (λ r. MayShow r → RowFits r) in
    all_fit (why_rows w) h
    (both-append (λ r. MayShow r → RowFits r) (map context_row w.contexts) (map judgment_row w.judgments) (subst P (ap (map context_row) c) f)
    (subst P (judgments_rows js ∙ ap (map judgment_row) j) g))

-- a judgment's line, put together from its parts
pub judgment_put : (to t0 t1 t2 t3 t4 t5 : List ℕ) (j : PlainJudgment) (n c : ℕ) (us : List ℕ) → n ≡ j.node → c ≡ j.context → us ≡ j.uses → t0 ≡ to ++ codes "j"
    → t1 ≡ t0 ++ spaced (map decimal (n ∷ c ∷ [])) → t2 ≡ t1 ++ spaced (map decimal (j.time ∷ j.space ∷ length us ∷ [])) → t3 ≡ t2 ++ spaced (map decimal us)
    → t4 ≡ t3 ++ 32 ∷ []
    → t5 ≡ t4 ++ value_text j.value → t5 ++ 10 ∷ [] ≡ to ++ line_of (judgment_row j)
judgment_put to t0 t1 t2 t3 t4 t5 j n c us en ec eu e0 e1 e2 e3 e4 e5 =
    let h = judgment_line to (codes "j") (map decimal (j.node ∷ j.context ∷ [])) (map decimal (j.time ∷ j.space ∷ length j.uses ∷ [])) (map decimal j.uses) (value_text j.value) in
    rw (e5, e4, e3, e2, e1, e0, eu, en, ec) h

-- the items in front of one, with it
item_taken : {A : Type 0} (xs : List A) (i : ℕ) (x : A) → i < length xs → x ≡ get_or xs i x → take (i + 1) xs ≡ take i xs ++ x ∷ []
item_taken [] i x h e = absurd (omega (arith, h))
item_taken (y ∷ ys) zero x h e = ap (λ (z : _). z ∷ []) (sym e)
item_taken (y ∷ ys) (suc i) x h e =
    let more : suc i + 1 ≡ suc (i + 1) = omega arith in rw more (ap (λ (zs : List _). y ∷ zs) (item_taken ys i x (omega (arith, h)) e))

map-push : {A : Type 0} (f : A → WhyRow) (xs : List A) (x : A) → map f (xs ++ x ∷ []) ≡ map f xs ++ f x ∷ []
map-push f [] x = refl
map-push f (y ∷ ys) x = ap (λ (zs : List WhyRow). f y ∷ zs) (map-push f ys x)

rows_more : {A : Type 0} (f : A → WhyRow) (xs : List A) (i : ℕ) (x : A) → i < length xs → x ≡ get_or xs i x
    → map f (take (i + 1) xs) ≡ map f (take i xs) ++ f x ∷ []
rows_more f xs i x h e = ap (map f) (item_taken xs i x h e) ∙ map-push f (take i xs) x

-- One more row's line, and that it fits.
pub lines_more : {A : Type 0} (f : A → WhyRow) (xs : List A) (i : ℕ) (x : A) (to old new : List ℕ) → i < length xs → x ≡ get_or xs i x
    → old ≡ to ++ flat_map line_of (map f (take i xs))
    → new ≡ old ++ line_of (f x) → new ≡ to ++ flat_map line_of (map f (take (i + 1) xs))
lines_more f xs i x to old new h e was is =
    let rows = rows_more f xs i x h e in
    let lines = lines-append (map f (take i xs)) (f x ∷ []) in
    is ∙ (ap (λ (y : List ℕ). y ++ line_of (f x)) was ∙ (append_assoc to (flat_map line_of (map f (take i xs))) (line_of (f x))
    ∙ ap (λ (y : List ℕ). to ++ y) (ap (λ (y : List ℕ). flat_map line_of (map f (take i xs)) ++ y) (sym (append-nil (line_of (f x))))
    ∙ (sym lines ∙ ap (flat_map line_of) (sym rows)))))

pub fits_more : {A : Type 0} (f : A → WhyRow) (xs : List A) (i : ℕ) (x : A) → i < length xs → x ≡ get_or xs i x
    → AllByRecursion (λ r. MayShow r → RowFits r) (map f (take i xs))
    → (MayShow (f x) → RowFits (f x)) → AllByRecursion (λ r. MayShow r → RowFits r) (map f (take (i + 1) xs))
fits_more f xs i x h e was is =
    let P : List WhyRow → Type 0 = AllByRecursion (λ r. MayShow r → RowFits r) in
    subst P (sym (rows_more f xs i x h e)) (both-append (λ r. MayShow r → RowFits r) (map f (take i xs)) (f x ∷ []) was (is, tt))
