-- Inputs with more bytes than may be read.
use Rattle.lucid_inputs.proofs.Common.{◌≡◌, ℕ, ◌<◌, ◌≤◌, true, false, length, take, cond, Option, None, Some, IfSome, MatchOption, option_map, refl, sym, ap, subst, ◌∙◌, arith, ◌==◌, length-append, take_at, take-take, PlainValue, eod, element, IsOverlong, Contents, World, advanced, IsWithin, ReadsOn, Stream, Fits, all_bytes, line_ends, sum_by-take-le}
use Rattle.std.proofs.Common.{Bool}
use Rattle.std.specs.List.{slice_get}
use Rattle.lucid_inputs.specs.Reading.{GivesElement}
use Rattle.lucid_inputs.proofs.StreamLemmas.{elements_are, elements_fit}
use Rattle.lucid_inputs.proofs.StepLemmas.{all_bytes-advanced}

-- as many bytes are consumed as may be, and the line isn't among them
pub is_overlong : (s : Stream) (c : Contents) (index most : ℕ) → Fits s c → s.ended ≡ false → length s.elements ≤ index → s.consumed ≡ most
    → IsOverlong (all_bytes c) index most
is_overlong s c index most f going few full =
    let front = ap line_ends (take_at c.consumed c.left most (sym f.consumed ∙ full)) in (
      omega (arith, f.consumed, length-append c.consumed c.left),
      omega (arith, front, elements_are s c going f),
    )

not_overlong_at : (s : Stream) (c : Contents) (index most : ℕ) (m : Bool) → s.ended ≡ m → Fits s c → IsWithin s most
    → (s.ended ≡ false → index < length s.elements) → IsOverlong (all_bytes c) index most → ⊥
not_overlong_at s c index most true e f within read over =
    omega (arith, within.ended e, f.consumed, over.0, length-append c.consumed c.left, ap length (f.ended e))
not_overlong_at s c index most false e f within read over =
    let short : length c.consumed ≤ most = omega (arith, f.consumed, within.consumed) in
    let front = ap line_ends (take-take (length c.consumed) most (all_bytes c) short ∙ take_at c.consumed c.left (length c.consumed) refl) in
    let some = sum_by-take-le (λ b. cond (b == 10) 1 0) (take most (all_bytes c)) (length c.consumed) in
    omega (arith, front, some, over.1, read e, elements_are s c e f)

-- the element is read, or the end is met
pub not_overlong : (s : Stream) (c : Contents) (index most : ℕ) → Fits s c → IsWithin s most → (s.ended ≡ false → index < length s.elements)
    → IsOverlong (all_bytes c) index most → ⊥
not_overlong s c index most = not_overlong_at s c index most s.ended refl

-- of a stream that was read on, by what was told before
pub overlong_told : (index most : ℕ) (old new : Stream) (w0 w1 : World) → ReadsOn index old new w0 w1 → new.ended ≡ false → length new.elements ≤ index
    → new.consumed ≡ most → IfSome (w0.place old.place).contents (λ c. IsOverlong (all_bytes c) index most)
overlong_told index most old new w0 w1 r going few full = at (w0.place old.place).contents (w1.place old.place).contents r.contents r.fits
  where
    at : (o p : Option Contents) → p ≡ option_map (advanced r.taken) o → IfSome p (λ c. Fits new c) → IfSome o (λ c. IsOverlong (all_bytes c) index most)
    at None p moved fits = tt
    at (Some c) p moved fits =
        let f = subst (λ q. IfSome q (λ d. Fits new d)) moved fits in
        subst (λ b. IsOverlong b index most) (all_bytes-advanced r.taken c) (is_overlong new (advanced r.taken c) index most f going few full)

pub not_overlong_told : (index most : ℕ) (old new : Stream) (w0 w1 : World) → ReadsOn index old new w0 w1 → IsWithin new most
    → (new.ended ≡ false → index < length new.elements) → IfSome (w0.place old.place).contents (λ c. IsOverlong (all_bytes c) index most → ⊥)
not_overlong_told index most old new w0 w1 r within read = at (w0.place old.place).contents (w1.place old.place).contents r.contents r.fits
  where
    at : (o p : Option Contents) → p ≡ option_map (advanced r.taken) o → IfSome p (λ c. Fits new c) → IfSome o (λ c. IsOverlong (all_bytes c) index most → ⊥)
    at None p moved fits = tt
    at (Some c) p moved fits = λ over.
        let f = subst (λ q. IfSome q (λ d. Fits new d)) moved fits in
        not_overlong new (advanced r.taken c) index most f within read (subst (λ b. IsOverlong b index most) (sym (all_bytes-advanced r.taken c)) over)

-- the element that is given is that of all bytes
pub element_told : (index : ℕ) (v : PlainValue) (old new : Stream) (w0 w1 : World) → ReadsOn index old new w0 w1 → GivesElement new index v
    → IfSome (w0.place old.place).contents (λ c. v ≡ element (all_bytes c) index)
element_told index v old new w0 w1 r gives = at (w0.place old.place).contents (w1.place old.place).contents r.contents r.fits
  where
    same : (o : Option PlainValue) (x : PlainValue) (E : Type 0) → MatchOption o (E → x ≡ eod) (λ e. e ≡ x) → MatchOption o (E × (v ≡ eod)) (λ e. v ≡ e) → v ≡ x
    same None x E none given = given.1 ∙ sym (none given.0)
    same (Some e) x E is given = given ∙ is

    at : (o p : Option Contents) → p ≡ option_map (advanced r.taken) o → IfSome p (λ c. Fits new c) → IfSome o (λ c. v ≡ element (all_bytes c) index)
    at None p moved fits = tt
    at (Some c) p moved fits =
        let f = subst (λ q. IfSome q (λ d. Fits new d)) moved fits in
        same (slice_get new.elements index) _ _ (elements_fit new (advanced r.taken c) f index) gives ∙ ap (λ b. element b index) (all_bytes-advanced r.taken c)
