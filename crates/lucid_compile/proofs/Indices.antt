-- Where things stand in a list, and with which marks.
use Rattle.lucid_compile.proofs.Common.{◌≡◌, ℕ, zero, suc, ◌+◌, ◌<◌, length, List, [], ◌∷◌, map, Some, Option, get_or, slice_get, refl, sym, ap, ◌∙◌, subst, inl, inr, arith, length-map, none-some, In, Mark, Key, or_no_mark, name_mark, call_number, mark_by, AreMarked, stand_key, call_key, place_key, keys_of, IsNumberingOf, level, first_place, Note, Numbered, Log, noted_actuals}
use Rattle.std.proofs.lemmas.Option.{slice_get_within as index-below}
use Rattle.lucid_compile.specs.Numbered.{mark_of, call_of}

-- what is in a list stands at an index
pub index-of : {A : Type 0} (xs : List A) (x : A) → In x xs → (i : ℕ) × (slice_get xs i ≡ Some x)
index-of [] x i = absurd i
index-of (y ∷ xs) x (inl e) = (0, ap Some (sym e))
index-of (y ∷ xs) x (inr i) = let r = index-of xs x i in (suc r.0, r.1)

read-key : {A : Type 0} (key : A → Key) (xs : List A) (i : ℕ) (x : A) (d : Key) → slice_get xs i ≡ Some x → get_or (map key xs) i d ≡ key x
read-key key [] i x d e = absurd (none-some x e)
read-key key (y ∷ xs) zero x d e =
    let same : y ≡ x = cc in
    ap key same
read-key key (y ∷ xs) (suc i) x d e = read-key key xs i x d e

-- and has the mark of that index
pub marked-at : {A : Type 0} (key : A → Key) (f : ℕ → Option Mark) (start : ℕ) (xs : List A) (i : ℕ) (x : A) → AreMarked f start (map key xs)
    → slice_get xs i ≡ Some x → f (key x).at ≡ Some (mark_by (start + i) (key x))
marked-at key f start xs i x m e =
    let b : i < length (map key xs) = omega (arith, index-below xs i x e, length-map xs key) in
    subst (λ k. f k.at ≡ Some (mark_by (start + i) k)) (read-key key xs i x (key x) e) (m i (key x) b)

-- the numbers of a call and of its call place
pub record CallNumbers (w : Numbered) (z : Log) (i : ℕ) (c : Note) : Type 0 where
  pub name : (name_mark w.numbering c.at).number ≡ length z.names + i
  pub place : call_number w.numbering (first_place (noted_actuals c.kind)) ≡ i

pub call-numbers : (w : Numbered) (z : Log) (i : ℕ) (c : Note) → IsNumberingOf (keys_of z) w.numbering → slice_get z.calls i ≡ Some c → CallNumbers w z i c
call-numbers w z i c n e = record {
  name = ap (λ m. (or_no_mark m).number) (marked-at call_key (mark_of w.numbering) (length (map stand_key z.names)) z.calls i c n.calls e)
      ∙ ap (λ k. k + i) (length-map z.names stand_key);
  place = ap (λ m. (or_no_mark m).number) (marked-at place_key (call_of w.numbering) 0 z.calls i c n.places e) ∙ omega arith;
}

-- the number of a name, and its level
pub record NameNumbers (w : Numbered) (i : ℕ) (s : Note) : Type 0 where
  pub number : (name_mark w.numbering s.at).number ≡ i
  pub depth : (name_mark w.numbering s.at).level ≡ level s.home

pub name-numbers : (w : Numbered) (z : Log) (i : ℕ) (s : Note) → IsNumberingOf (keys_of z) w.numbering → slice_get z.names i ≡ Some s → NameNumbers w i s
name-numbers w z i s n e =
    let m = marked-at stand_key (mark_of w.numbering) 0 z.names i s n.names e in
    record { number = ap (λ m. (or_no_mark m).number) m ∙ omega arith; depth = ap (λ m. (or_no_mark m).level) m }
