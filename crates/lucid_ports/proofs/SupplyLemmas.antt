-- What is shown of a reader, and what is still to come of it with that.
use Rattle.std.proofs.Common.{◌≡◌, ℕ, ◌+◌, ◌-◌, ◌≤◌, List, [], ◌++◌, Option, None, Some, IfSome, length, take, drop, option_map, refl, sym, ap, subst, ◌∙◌, arith, length-drop, take-add, ◌↔◌, take_all, drop-drop, zero-le}
use lib.Seq.{drop-append-le, take-append-le}
use Rattle.std.proofs.lemmas.List.{drop_all}
use Rattle.std.specs.Io.{StartsWith}
use Rattle.lucid_ports.specs.Supply.{IsEnd, shown_taken, with_taken}
use Rattle.lucid_ports.specs.World.{Contents, advanced}

abbrev held : List ℕ → List ℕ → Contents
held consumed left = record { consumed = consumed; left = left }

pub same_contents : (a b x y : List ℕ) → a ≡ b → x ≡ y → held a x ≡ held b y
same_contents a b x y p q = ap (λ l. held l x) p ∙ ap (λ l. held b l) q

-- where nothing is shown, the reader has all that is to come
pub none_taken : (bytes : List ℕ) (o : Option Contents) → bytes ≡ [] → shown_taken bytes o ≡ bytes
none_taken bytes None none = refl
none_taken bytes (Some c) none = let zero = ap length none in drop_all _ c.consumed (omega arith) ∙ sym none

-- as many bytes as are shown were consumed
shown_fits : (bytes : List ℕ) (c : Contents) → shown_taken bytes (Some c) ≡ bytes → length bytes ≤ length c.consumed
shown_fits bytes c tied = omega (arith, length-drop (length c.consumed - length bytes) c.consumed, ap length tied)

-- the first n bytes are consumed of those that were taken
module _ (old new : List ℕ) (n : ℕ) (fewer : new ≡ drop n old) (within : n ≤ length old) where
  later : (c : Contents) → shown_taken old (Some c) ≡ old → length c.consumed - length new ≡ (length c.consumed - length old) + n
  later c tied = omega (arith, ap length fewer, length-drop n old, shown_fits old c tied)

  pub consumed_contents : (o : Option Contents) → shown_taken old o ≡ old → with_taken new o ≡ option_map (advanced n) (with_taken old o)
  consumed_contents None tied = refl
  consumed_contents (Some c) tied =
      let a = length c.consumed - length old in
      let back : n ≤ length (drop a c.consumed) = subst (λ l. n ≤ length l) (sym tied) within in
      ap Some (
      same_contents _ _ _ _
      (ap (λ k. take k c.consumed) (later c tied) ∙ take-add a n c.consumed
      ∙ ap (λ l. take a c.consumed ++ l) (sym (take-append-le n (drop a c.consumed) c.left back)))
      (ap (λ k. drop k c.consumed ++ c.left) (later c tied)
      ∙ ap (λ l. l ++ c.left) (sym (drop-drop n a c.consumed))
      ∙ sym (drop-append-le n (drop a c.consumed) c.left back))
      )

-- a piece of it is empty exactly at its end
pub empty_at_end : (o : Option Contents) (piece : List ℕ) → IfSome o (λ c. StartsWith c.left piece) → (piece ≡ [] → IsEnd o)
    → IfSome o (λ c. (piece ≡ []) ↔ (c.left ≡ []))
empty_at_end None piece front end = tt
empty_at_end (Some c) piece front end = (end, λ none. sym front ∙ ap (take (length piece)) none ∙ take_all (length piece) [] zero-le)
