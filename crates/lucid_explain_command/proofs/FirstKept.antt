-- What is kept of a place, as it is shown and consumed.
use Rattle.std.proofs.Common.{◌≡◌, ℕ, ◌+◌, ◌≤◌, Bool, true, false, List, ◌++◌, length, take, drop, Option, Some, None, Result, Ok, Err, is_ok, OnOk, sym, ap, subst, ◌∙◌, arith, inl, inr}
use Rattle.std.specs.Prelude.{IfSome, OnErr, option_map, min, if◌then◌else◌}
use Rattle.std.specs.Io.{StartsWith}
use Rattle.std.proofs.Math.Seq.{take-append_seam}
use Rattle.std.proofs.lemmas.Bool.{cases_lt}
use Rattle.std.proofs.lemmas.List.{drop-append-le, drop-take, length-drop, length-take, length-take-le, take-append-drop, take-append-le, take-take, take_all}
use Rattle.lucid_ports.specs.World.{Contents, Place, IsShown, IsConsumed, advanced}
use Rattle.lucid_explain_command.specs.Keeping.{Store, KeepsPlace, short_place}

-- What is consumed of what is shown is kept behind what was consumed before.
consumed_so : (o : Option Contents) (k m : Store) (n : ℕ) → n ≤ length k.shown → m.taken ≡ k.taken ++ take n k.shown → m.shown ≡ drop n k.shown
    → IfSome o (λ c. (c.consumed ≡ k.taken) × StartsWith c.left k.shown)
    → IfSome (option_map (advanced n) o) (λ c. (c.consumed ≡ m.taken) × StartsWith c.left m.shown)
consumed_so None k m n h t s keeps = tt
consumed_so (Some c) k m n h t s keeps =
    let rest = drop n k.shown in
    let front : take n c.left ≡ take n k.shown = sym (take-take n (length k.shown) c.left h) ∙ ap (λ (z : List ℕ). take n z) keeps.1 in
    let sum : n + length rest ≡ length k.shown = omega (arith, length-drop n k.shown) in
    let behind : take (length rest) (drop n c.left) ≡ rest =
    sym (drop-take n (length rest) c.left) ∙ ap (λ (j : ℕ). drop n (take j c.left)) sum ∙ ap (λ (z : List ℕ). drop n z) keeps.1 in (
      ap (λ (z : List ℕ). z ++ take n c.left) keeps.0 ∙ ap (λ (z : List ℕ). k.taken ++ z) front ∙ sym t,
      subst (λ (x : List ℕ). StartsWith (drop n c.left) x) (sym s) behind,
    )

pub consumed_kept : (p q : Place) (k m : Store) (n : ℕ) → KeepsPlace p k → n ≤ length k.shown → IsConsumed n p q → m.taken ≡ k.taken ++ take n k.shown
    → m.shown ≡ drop n k.shown → KeepsPlace q m
consumed_kept p q k m n keeps h c t s = record {
  contents = subst (λ (o : Option Contents). IfSome o (λ c. (c.consumed ≡ m.taken) × StartsWith c.left m.shown)) (sym c.contents)
      (consumed_so p.contents k m n h t s keeps.contents);
  within = omega (arith, ap length s, length-drop n k.shown, c.shown, keeps.within);
}

-- Bytes that are added behind others, where there is memory for them.
pub added_taken : (t : Bool) (a : ℕ) (old piece new : List ℕ) → a ≤ length old → new ≡ (if t then old ++ piece else old) → take a new ≡ take a old
added_taken true a old piece new h e = ap (λ (z : List ℕ). take a z) e ∙ take-append-le a old piece h
added_taken false a old piece new h e = ap (λ (z : List ℕ). take a z) e

pub added_shown : {T E : Type 0} (r : Result T E) (a : ℕ) (old piece new : List ℕ) → a ≤ length old → new ≡ (if is_ok r then old ++ piece else old)
    → OnOk r (drop a new ≡ drop a old ++ piece)
added_shown (Ok x) a old piece new h e = ap (λ (z : List ℕ). drop a z) e ∙ drop-append-le a old piece h
added_shown (Err x) a old piece new h e = tt

abbrev store_of : (taken shown : List ℕ) (used : ℕ) → Store
store_of t s u = record { taken = t; shown = s; used = u }

pub not_added : {T E : Type 0} (r : Result T E) (a u : ℕ) (old piece new : List ℕ) → new ≡ (if is_ok r then old ++ piece else old)
    → OnErr r (store_of (take a new) (drop a new) u ≡ store_of (take a old) (drop a old) u)
not_added (Ok x) a u old piece new e = tt
not_added (Err x) a u old piece new e = ap (λ (z : List ℕ). store_of (take a z) (drop a z) u) e

-- A front of a front.
pub front_copied : (n most : ℕ) (s t rest : List ℕ) → n ≡ min (length s) most → t ≡ take n s → take n (t ++ rest) ≡ take most s
front_copied n most s t rest e c =
    let count : length t ≡ n = ap length c ∙ length-take-le n s (omega (arith, e)) in
    let front : take n (t ++ rest) ≡ take n s =
    ap (λ (j : ℕ). take j (t ++ rest)) (sym count) ∙ take-append_seam t rest ∙ c in
    front ∙ elim (cases_lt most (length s)) [
      | inl more ↦ ap (λ (j : ℕ). take j s) (omega (arith, e))
      | inr less ↦ take_all n s (omega (arith, e)) ∙ sym (take_all most s less)
    ]

short_front : (most : ℕ) (left piece : List ℕ) → StartsWith left piece → StartsWith left (take most piece)
short_front most left piece h =
    let short = take most piece in
    let less : length short ≤ length piece = omega (arith, length-take most piece) in
    sym (take-take (length short) (length piece) left less) ∙ ap (λ (z : List ℕ). take (length short) z) h
    ∙ ap (λ (z : List ℕ). take (length short) z) (sym (take-append-drop most piece)) ∙ take-append_seam short (drop most piece)

pub front_cut : (o : Option Contents) (most : ℕ) (piece copy : List ℕ) → copy ≡ take most piece → IfSome o (λ c. StartsWith c.left piece)
    → IfSome o (λ c. StartsWith c.left copy)
front_cut None most piece copy e h = tt
front_cut (Some c) most piece copy e h = subst (λ (z : List ℕ). StartsWith c.left z) (sym e) (short_front most c.left piece h)

pub short_shown : (p q : Place) (piece copy : List ℕ) → copy ≡ take 256 piece → IsShown (length piece) p q
    → IsShown (length copy) (short_place p) (short_place q)
short_shown p q piece copy e x = record { contents = x.contents; shown = omega (arith, x.shown, x.used, ap length e, length-take 256 piece); used = x.used }

-- What is shown is a piece of its own.
pub renewed : (p : Place) (k m : Store) → KeepsPlace p k → m ≡ store_of k.taken k.shown 0 → KeepsPlace p m
renewed p k m keeps e =
    let again : KeepsPlace p (store_of k.taken k.shown 0) = record { contents = keeps.contents; within = keeps.within } in
    subst (λ (s : Store). KeepsPlace p s) (sym e) again
