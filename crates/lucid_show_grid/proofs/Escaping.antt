-- What has a meaning between tags doesn't stand there as it is, and where an `&` stands, there is the name of a byte.
use Rattle.std.proofs.Common.{◌≡◌, ◌≢◌, ℕ, ◌<◌, List, [], ◌∷◌, ◌++◌, Bool, true, false, length, arith, refl, sym, ap, ◌∙◌}
use Rattle.std.specs.Prelude.{◌==◌, ◌||◌, ◌&&◌, not, nat_lt, codes, slice_index_or, if◌then◌else◌}
use Rattle.std.specs.List.{AllByRecursion}
use Rattle.std.proofs.lemmas.Bool.{and_parts, false≢true}
use Rattle.lucid_show_grid.specs.Escapes.{escaped, escaped_byte}
use Rattle.lucid_show_grid.specs.Laws.{EscapedIsPlain, EscapedNamesBytes, NamesBytes, byte_names}

abbrev Safe : ℕ → Type 0
Safe b = (b ≢ 60) × (b ≢ 62) × (b ≢ 34) × (b ≢ 39)

abbrev AllSafe : List ℕ → Type 0
AllSafe bs = AllByRecursion Safe bs

-- by a test, which computes on the names of bytes
abbrev is_safe : ℕ → Bool
is_safe b = not (b == 60) && (not (b == 62) && (not (b == 34) && not (b == 39)))

abbrev all_safe : List ℕ → Bool
all_safe [] = true
all_safe (b ∷ bs) = is_safe b && all_safe bs

safe_from : (b : ℕ) → is_safe b ≡ true → Safe b
safe_from b e = (
  λ x. false≢true (sym (ap is_safe x) ∙ e),
  λ x. false≢true (sym (ap is_safe x) ∙ e),
  λ x. false≢true (sym (ap is_safe x) ∙ e),
  λ x. false≢true (sym (ap is_safe x) ∙ e),
)

from_test : (bs : List ℕ) → all_safe bs ≡ true → AllSafe bs
from_test [] e = tt
from_test (b ∷ bs) e =
    let p = and_parts (is_safe b) (all_safe bs) e in
    (safe_from b p.0, from_test bs p.1)

by_test : (t : Bool) (xs ys : List ℕ) → (t ≡ true → AllSafe xs) → (t ≡ false → AllSafe ys) → AllSafe (if t then xs else ys)
by_test true xs ys chosen other = chosen refl
by_test false xs ys chosen other = other refl

differs : (b k : ℕ) → (k == k) ≡ true → (b == k) ≡ false → b ≢ k
differs b k same e x = false≢true (sym e ∙ (ap (λ y. y == k) x ∙ same))

byte_safe : (b : ℕ) → AllSafe (escaped_byte b)
unfolding escaped_byte
byte_safe b =
    by_test (b == 38) _ _ (λ e. from_test (codes "&amp;") refl)
    (λ e. by_test (b == 60) _ _ (λ e. from_test (codes "&lt;") refl)
    (λ less. by_test (b == 62) _ _ (λ e. from_test (codes "&gt;") refl)
    (λ more. by_test (b == 34) _ _ (λ e. from_test (codes "&quot;") refl)
    (λ quote. by_test (b == 39) _ _ (λ e. from_test (codes "&#39;") refl)
    (λ mark. by_test (nat_lt b 32 || nat_lt 126 b) _ _ (λ e. from_test (codes "?") refl)
    (λ e. ((differs b 60 refl less, differs b 62 refl more, differs b 34 refl quote, differs b 39 refl mark), tt)))))))

joined : (xs ys : List ℕ) → AllSafe xs → AllSafe ys → AllSafe (xs ++ ys)
joined [] ys a b = b
joined (x ∷ xs) ys a b = (a.0, joined xs ys a.1 b)

pub escaped_safe : EscapedIsPlain
escaped_safe [] = tt
escaped_safe (b ∷ bs) = joined (escaped_byte b) (escaped bs) (byte_safe b) (escaped_safe bs)

-- no `&` (38) stands in it
abbrev no_mark : List ℕ → Bool
no_mark [] = true
no_mark (b ∷ bs) = not (b == 38) && no_mark bs

front : (bs rest : List ℕ) → no_mark bs ≡ true → NamesBytes rest → NamesBytes (bs ++ rest)
front [] rest e h = h
front (b ∷ bs) rest e h =
    let p = and_parts (not (b == 38)) (no_mark bs) e in
    ((λ x. absurd (false≢true (sym (ap (λ y. not (y == 38)) x) ∙ p.0))), front bs rest p.1 h)

named : (k : ℕ) (name rest : List ℕ) → k < length byte_names → slice_index_or byte_names k name ≡ name → no_mark name ≡ true → NamesBytes rest
    → NamesBytes (38 ∷ (name ++ rest))
named k name rest below is e h = ((λ _. (name, rest, (k, below, is), refl)), front name rest e h)

by_case : (t : Bool) (xs ys rest : List ℕ) → (t ≡ true → NamesBytes (xs ++ rest)) → (t ≡ false → NamesBytes (ys ++ rest))
    → NamesBytes ((if t then xs else ys) ++ rest)
by_case true xs ys rest chosen other = chosen refl
by_case false xs ys rest chosen other = other refl

byte_named : (b : ℕ) (rest : List ℕ) → NamesBytes rest → NamesBytes (escaped_byte b ++ rest)
unfolding escaped_byte
byte_named b rest h =
    by_case (b == 38) _ _ rest (λ e. named 0 (codes "amp;") rest (omega arith) refl refl h)
    (λ and. by_case (b == 60) _ _ rest (λ e. named 1 (codes "lt;") rest (omega arith) refl refl h)
    (λ e. by_case (b == 62) _ _ rest (λ e. named 2 (codes "gt;") rest (omega arith) refl refl h)
    (λ e. by_case (b == 34) _ _ rest (λ e. named 3 (codes "quot;") rest (omega arith) refl refl h)
    (λ e. by_case (b == 39) _ _ rest (λ e. named 4 (codes "#39;") rest (omega arith) refl refl h)
    (λ e. by_case (nat_lt b 32 || nat_lt 126 b) _ _ rest (λ e. front (codes "?") rest refl h)
    (λ e. ((λ x. absurd (differs b 38 refl and x)), h)))))))

pub escaped_named : EscapedNamesBytes
escaped_named [] = tt
escaped_named (b ∷ bs) = byte_named b (escaped bs) (escaped_named bs)
