-- A row that was read from a line has that line.
use Rattle.lucid_flat.proofs.Common.{◌≡◌, ◌≢◌, ℕ, ◌<◌, ◌^◌, cond, List, [], ◌∷◌, ◌++◌, map, take, Option, Some, None, ◌⊎◌, inl, inr, refl, sym, ap, ◌∙◌, subst, decimal, codes, join_with_byte, option_map, bytes_eq, option_and_then_some, cond_some, same_Some, ScopeKind, Root, ScopeRow, Entry, Plain, NodeRow, NameRow, PlaceRow, FlatRow, scope_row, input_row, node_row, name_row, place_row, root_row, kind_word, entry_word, entry_number, row_line, Are32, RowFits, take_number, is_end, taken, no_word, few_numbers_of, exactly, listed, kind_of, scope_of, input_of, node_row_of, entry_of, name_of, place_of, tail_row, IsTrue, join_with_byte-slice_split}
use Rattle.lucid_value.specs.Names.{is_name}
use Rattle.lucid_equations.specs.declared.rows.ScopeKind.TheVariants.{Called as CalledScope, Frozen as FrozenScope}
use Rattle.lucid_equations.specs.declared.rows.Entry.TheVariants.{Parameter, Current, Called}
use Rattle.lucid_texts.specs.Words.{words_of, take_word}
use Rattle.lucid_flat.specs.RowTails.{root_of}
use Rattle.lucid_flat.proofs.Chosen.{by_word}
use Rattle.lucid_flat.proofs.NodesRead.{node_read}
use Rattle.lucid_flat.proofs.NumberLemmas.{few_read}
use Rattle.lucid_flat.proofs.RowsGiven.{row_head, row_rest, line_parts}
use Rattle.lucid_flat.proofs.Threes.{exactly_read}

-- a kind that was read has its word, and is no root's
kind_by : (w : List ℕ) (k : ScopeKind) → ((w ≡ codes "called") × (Some CalledScope ≡ Some k)) ⊎ (cond (bytes_eq w (codes "frozen")) (Some FrozenScope) None ≡ Some k)
    → (w ≡ kind_word k) × (k ≢ Root)
kind_by w k (inl h) =
    let s = same_Some _ _ h.1 in (h.0 ∙ ap kind_word s, λ r. cc)
kind_by w k (inr h) = frozen (by_word w (codes "frozen") (Some FrozenScope) None (Some k) h)
  where
    frozen : ((w ≡ codes "frozen") × (Some FrozenScope ≡ Some k)) ⊎ (None ≡ Some k) → (w ≡ kind_word k) × (k ≢ Root)
    frozen (inl g) =
        let s = same_Some _ _ g.1 in (g.0 ∙ ap kind_word s, λ r. cc)
    frozen (inr g) = absurd (cc)

kind_read : (w : List ℕ) (k : ScopeKind) → kind_of w ≡ Some k → (w ≡ kind_word k) × (k ≢ Root)
kind_read w k e = kind_by w k (by_word w (codes "called") (Some CalledScope) _ (Some k) e)

-- the first word and the rest of some words
word_taken : (ws : List (List ℕ)) (x : List ℕ × List (List ℕ)) → take_word ws ≡ Some x → ws ≡ x.0 ∷ x.1
word_taken [] x e = absurd (cc)
word_taken (w ∷ ws) x e =
    let q : (w, ws) ≡ x = cc in ap (λ (y : List ℕ × List (List ℕ)). y.0 ∷ y.1) q

-- the words behind the first word of the row, and that it fits
abbrev Reads : List (List ℕ) → FlatRow → Type 0
Reads ws r = (ws ≡ row_rest r) × RowFits r

scope_read : (ws : List (List ℕ)) (r : ScopeRow) → scope_of ws ≡ Some r → Reads ws (scope_row r)
unfolding scope_of
scope_read ws r e =
    option_and_then_some _ (take_number (2 ^ 32) ws) r e (λ p t k.
    option_and_then_some _ (take_word p.1) r k (λ x u l.
    option_and_then_some _ (kind_of x.0) r l (λ kind v m.
    let q = cond_some (is_end x.1) (record { parent = p.0; kind = kind }) r m in
    let d = taken (2 ^ 32) ws p t in
    let g = kind_read x.0 kind v in
    let words = d.0 ∙ ap (λ (us : List (List ℕ)). decimal p.0 ∷ us)
    (word_taken p.1 x u ∙ (ap (λ (us : List (List ℕ)). x.0 ∷ us) (no_word x.1 q.0) ∙ ap (λ (w : List ℕ). w ∷ []) g.0)) in
    let P : ScopeRow → Type 0 = λ s. Reads ws (scope_row s) in subst P q.1 (words, (d.1, g.1)))))

node_row_read : (ws : List (List ℕ)) (r : NodeRow) → node_row_of ws ≡ Some r → Reads ws (node_row r)
unfolding node_row_of
node_row_read ws r e =
    option_and_then_some _ (take_number (2 ^ 32) ws) r e (λ s t k.
    option_and_then_some _ _ r k (λ n u l.
    let d = taken (2 ^ 32) ws s t in
    let g = node_read s.1 n u in
    let P : NodeRow → Type 0 = λ x. Reads ws (node_row x) in
    subst P (same_Some (record { scope = s.0; node = n }) r l) (d.0 ∙ ap (λ (us : List (List ℕ)). decimal s.0 ∷ us) g.0, (d.1, g.1))))

-- two numbers

-- an entry with its word and its number
abbrev IsEntry : List ℕ → ℕ → Entry → Type 0
IsEntry w n e = (w ≡ entry_word e) × (n ≡ entry_number e)

entry_is : (w : List ℕ) (n : ℕ) (d e : Entry) → Some d ≡ Some e → IsEntry w n d → IsEntry w n e
entry_is w n d e h k =
    let P : Entry → Type 0 = λ x. IsEntry w n x in subst P (same_Some d e h) k

entry_by : (w : List ℕ) (n : ℕ) (e : Entry) (x y z : Option Entry) → ((w ≡ codes "plain") × (Some (Plain n) ≡ Some e)) ⊎ (x ≡ Some e)
    → (x ≡ Some e → ((w ≡ codes "parameter") × (Some (Parameter n) ≡ Some e)) ⊎ (y ≡ Some e))
    → (y ≡ Some e → ((w ≡ codes "current") × (Some (Current n) ≡ Some e)) ⊎ (z ≡ Some e))
    → (z ≡ Some e → ((w ≡ codes "called") × (Some (Called n) ≡ Some e)) ⊎ (None ≡ Some e)) → IsEntry w n e
entry_by w n e x y z (inl h) f g k = entry_is w n (Plain n) e h.1 (h.0, refl)
entry_by w n e x y z (inr h) f g k = second (f h)
  where
    fourth : ((w ≡ codes "called") × (Some (Called n) ≡ Some e)) ⊎ (None ≡ Some e) → IsEntry w n e
    fourth (inl a) = entry_is w n (Called n) e a.1 (a.0, refl)
    fourth (inr a) = absurd (cc)

    third : ((w ≡ codes "current") × (Some (Current n) ≡ Some e)) ⊎ (z ≡ Some e) → IsEntry w n e
    third (inl a) = entry_is w n (Current n) e a.1 (a.0, refl)
    third (inr a) = fourth (k a)

    second : ((w ≡ codes "parameter") × (Some (Parameter n) ≡ Some e)) ⊎ (y ≡ Some e) → IsEntry w n e
    second (inl a) = entry_is w n (Parameter n) e a.1 (a.0, refl)
    second (inr a) = third (g a)

entry_read : (w : List ℕ) (n : ℕ) (e : Entry) → entry_of w n ≡ Some e → IsEntry w n e
entry_read w n e h =
    entry_by w n e _ _ _ (by_word w (codes "plain") (Some (Plain n)) _ (Some e) h) (by_word w (codes "parameter") (Some (Parameter n)) _ (Some e))
    (by_word w (codes "current") (Some (Current n)) _ (Some e)) (by_word w (codes "called") (Some (Called n)) None (Some e))

name_read : (w : List ℕ) (ws : List (List ℕ)) (r : NameRow) → name_of w ws ≡ Some r → (w ≡ entry_word r.kind) × Reads ws (name_row r)
unfolding name_of
name_read w ws r e =
    option_and_then_some _ (exactly 2 ws) r e (λ ns t k.
    option_and_then_some _ (entry_of w ns.second) r k (λ x u l.
    let d = exactly_read 2 ws ns t in
    let g = entry_read w ns.second x u in
    let both : listed ns ≡ ns.first ∷ ns.second ∷ [] = ap (λ i. take i (ns.first ∷ ns.second ∷ ns.third ∷ [])) d.1 in
    let below = subst (Are32) both d.0.1 in
    let words = (d.0.0 ∙ ap (map decimal) both) ∙ ap (λ (n : ℕ). decimal ns.first ∷ decimal n ∷ []) g.1 in
    let P : NameRow → Type 0 = λ y. (w ≡ entry_word y.kind) × Reads ws (name_row y) in
    subst P (same_Some (record { scope = ns.first; kind = x }) r l) (g.0, (words, (below.0, subst (λ n. n < 2 ^ 32) g.1 below.1.0)))))

place_read : (ws : List (List ℕ)) (r : PlaceRow) → place_of ws ≡ Some r → Reads ws (place_row r)
unfolding place_of
place_read ws r e =
    option_and_then_some _ (take_number (2 ^ 32) ws) r e (λ s t k.
    option_and_then_some _ (take_number (2 ^ 32) s.1) r k (λ n u l.
    option_and_then_some _ (few_numbers_of n.1) r l (λ ns v m.
    let d = taken (2 ^ 32) ws s t in
    let g = taken (2 ^ 32) s.1 n u in
    let f = few_read n.1 ns v in
    let words = d.0 ∙ ap (λ (us : List (List ℕ)). decimal s.0 ∷ us) (g.0 ∙ ap (λ (us : List (List ℕ)). decimal n.0 ∷ us) f.0) in
    let P : PlaceRow → Type 0 = λ x. Reads ws (place_row x) in
    subst P (same_Some (record { scope = s.0; name = n.0; actuals = ns }) r m) (words, (d.1, g.1, f.1, f.2)))))

root_read : (ws : List (List ℕ)) (n : ℕ) → root_of ws ≡ Some n → Reads ws (root_row n)
unfolding root_of
root_read ws n e =
    option_and_then_some _ (exactly 1 ws) n e (λ ns t k.
    let d = exactly_read 1 ws ns t in
    let first : listed ns ≡ ns.first ∷ [] = ap (λ i. take i (ns.first ∷ ns.second ∷ ns.third ∷ [])) d.1 in
    let P : ℕ → Type 0 = λ x. Reads ws (root_row x) in
    subst P (same_Some ns.first n k) (d.0.0 ∙ ap (map decimal) first, (subst (Are32) first d.0.1).0))

-- the line of the first word and what is behind it
abbrev pub HasLine : (w t : List ℕ) → FlatRow → Type 0
HasLine w t r = RowFits r × (w ++ 32 ∷ t ≡ row_line r)

-- the words behind it are those of the row
by_words : (w t : List ℕ) (r : FlatRow) → w ≡ row_head r → Reads (words_of t) r → HasLine w t r
by_words w t r h d =
    let tail = sym (join_with_byte-slice_split 32 t) ∙ ap (join_with_byte 32) d.0 in
    (d.1, (ap (λ (x : List ℕ). x ++ 32 ∷ t) h ∙ ap (λ (x : List ℕ). row_head r ++ 32 ∷ x) tail) ∙ sym (line_parts r))

mapped : {A : Type 0} (f : A → FlatRow) (o : Option A) (r : FlatRow) (P : Type 0) → option_map f o ≡ Some r → ((x : A) → o ≡ Some x → f x ≡ r → P) → P
mapped f None r P e k = absurd (cc)
mapped f (Some x) r P e k = k x refl (cc)

scope_line : (w t : List ℕ) (r : FlatRow) → w ≡ codes "scope" → option_map scope_row (scope_of (words_of t)) ≡ Some r → HasLine w t r
scope_line w t r h e =
    mapped scope_row (scope_of (words_of t)) r (HasLine w t r) e (λ x u q.
    let P : FlatRow → Type 0 = HasLine w t in subst P q (by_words w t (scope_row x) h (scope_read (words_of t) x u)))

input_read : (t n : List ℕ) → input_of t ≡ Some n → (IsTrue (is_name t)) × (t ≡ n)
unfolding input_of
input_read t n e = cond_some (is_name t) t n e

input_line : (w t : List ℕ) (r : FlatRow) → w ≡ codes "input" → option_map input_row (input_of t) ≡ Some r → HasLine w t r
input_line w t r h e =
    mapped input_row (input_of t) r (HasLine w t r) e (λ n u q.
    let d = input_read t n u in
    let P : FlatRow → Type 0 = HasLine w t in
    subst P (ap input_row d.1 ∙ q) (d.0, ap (λ (x : List ℕ). x ++ 32 ∷ t) h))

node_line : (w t : List ℕ) (r : FlatRow) → w ≡ codes "node" → option_map node_row (node_row_of (words_of t)) ≡ Some r → HasLine w t r
node_line w t r h e =
    mapped node_row (node_row_of (words_of t)) r (HasLine w t r) e (λ x u q.
    let P : FlatRow → Type 0 = HasLine w t in subst P q (by_words w t (node_row x) h (node_row_read (words_of t) x u)))

place_line : (w t : List ℕ) (r : FlatRow) → w ≡ codes "place" → option_map place_row (place_of (words_of t)) ≡ Some r → HasLine w t r
place_line w t r h e =
    mapped place_row (place_of (words_of t)) r (HasLine w t r) e (λ x u q.
    let P : FlatRow → Type 0 = HasLine w t in subst P q (by_words w t (place_row x) h (place_read (words_of t) x u)))

root_line : (w t : List ℕ) (r : FlatRow) → w ≡ codes "root" → option_map root_row (root_of (words_of t)) ≡ Some r → HasLine w t r
root_line w t r h e =
    mapped root_row (root_of (words_of t)) r (HasLine w t r) e (λ x u q.
    let P : FlatRow → Type 0 = HasLine w t in subst P q (by_words w t (root_row x) h (root_read (words_of t) x u)))

name_line : (w t : List ℕ) (r : FlatRow) → option_map name_row (name_of w (words_of t)) ≡ Some r → HasLine w t r
name_line w t r e =
    mapped name_row (name_of w (words_of t)) r (HasLine w t r) e (λ x u q.
    let d = name_read w (words_of t) x u in
    let P : FlatRow → Type 0 = HasLine w t in subst P q (by_words w t (name_row x) d.0 d.1))

-- the choices of the first word, one after the other
module _ (w t : List ℕ) (r : FlatRow) where
  abbrev Or : List ℕ → Option FlatRow → Option FlatRow → Type 0
  Or c x y = ((w ≡ c) × (x ≡ Some r)) ⊎ (y ≡ Some r)

  by_root : Or (codes "root") (option_map root_row (root_of (words_of t))) (option_map name_row (name_of w (words_of t))) → HasLine w t r
  by_root (inl h) = root_line w t r h.0 h.1
  by_root (inr h) = name_line w t r h

  by_place : (z : Option FlatRow) → Or (codes "place") (option_map place_row (place_of (words_of t))) z → (z ≡ Some r → HasLine w t r) → HasLine w t r
  by_place z (inl h) k = place_line w t r h.0 h.1
  by_place z (inr h) k = k h

  by_node : (z : Option FlatRow) → Or (codes "node") (option_map node_row (node_row_of (words_of t))) z → (z ≡ Some r → HasLine w t r) → HasLine w t r
  by_node z (inl h) k = node_line w t r h.0 h.1
  by_node z (inr h) k = k h

  by_input : (z : Option FlatRow) → Or (codes "input") (option_map input_row (input_of t)) z → (z ≡ Some r → HasLine w t r) → HasLine w t r
  by_input z (inl h) k = input_line w t r h.0 h.1
  by_input z (inr h) k = k h

  by_scope : (z : Option FlatRow) → Or (codes "scope") (option_map scope_row (scope_of (words_of t))) z → (z ≡ Some r → HasLine w t r) → HasLine w t r
  by_scope z (inl h) k = scope_line w t r h.0 h.1
  by_scope z (inr h) k = k h

-- A row that was read has the line that it was read from.
pub tail_read : (w t : List ℕ) (r : FlatRow) → tail_row w t ≡ Some r → HasLine w t r
unfolding tail_row
tail_read w t r e =
    by_scope w t r _ (by_word w (codes "scope") _ _ (Some r) e) (λ f.
    by_input w t r _ (by_word w (codes "input") _ _ (Some r) f) (λ g.
    by_node w t r _ (by_word w (codes "node") _ _ (Some r) g) (λ h.
    by_place w t r _ (by_word w (codes "place") _ _ (Some r) h) (λ k. by_root w t r (by_word w (codes "root") _ _ (Some r) k)))))
