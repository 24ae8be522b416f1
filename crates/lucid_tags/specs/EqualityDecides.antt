-- The tests of the same tag, of the same key and of the same context decide equality.
use Rattle.std.proofs.Common.{◌≡◌, ◌<◌, ◌^◌, ℕ, false, ◌==◌, ◌&&◌, ap, refl, arith}
use Rattle.std.specs.Bool.{Decides}
use Rattle.std.specs.Cmp.{IsEquivalence, decided}
use Rattle.std.specs.Coded.{le_prop}
use Rattle.std.proofs.lemmas.Bool.Decides.{Decides-eqb, Decides-and, Decides-like}
use mathlib.Core.HLevel.{is_prop→PathP}
use Rattle.lucid_tags.specs.declared.Tag.{Tag}
use Rattle.lucid_tags.specs.declared.Key.{Key}
use Rattle.lucid_tags.specs.Contexts.{Context, root, call_frame, frozen_frame, same_context}
use Rattle.lucid_tags.specs.Known.{number_of, space_of, same_tag}
use Rattle.lucid_tags.specs.Keys.{same_key}

-- Two tags are equal exactly where they are the same.
abbrev pub SameTagIsEquality : Type 0
SameTagIsEquality = (a b : Tag) → Decides (same_tag a b) (a ≡ b)

-- tags of the same number and the same halves are equal
same_parts : (a b : Tag) → number_of a ≡ number_of b → a.space_high ≡ b.space_high → a.space_low ≡ b.space_low → a ≡ b
same_parts a b n high low = λ i. record {
  number = n i;
  space_high = high i;
  space_low = low i;
  in_range = is_prop→PathP (λ j. high j < 2 ^ 31) (λ j. le_prop) a.in_range b.in_range i;
  low_in_range = is_prop→PathP (λ j. low j < 2 ^ 32) (λ j. le_prop) a.low_in_range b.low_in_range i;
}

-- equal spaces have equal halves
high_halves : (a b : Tag) → space_of a ≡ space_of b → a.space_high ≡ b.space_high
high_halves a b e = omega (arith, e, a.low_in_range, b.low_in_range)

low_halves : (a b : Tag) → space_of a ≡ space_of b → a.space_low ≡ b.space_low
low_halves a b e = omega (arith, e, a.low_in_range, b.low_in_range)

-- tags of the same number and space are equal
pub tag_from_parts : (a b : Tag) → number_of a ≡ number_of b → space_of a ≡ space_of b → a ≡ b
tag_from_parts a b n s = same_parts a b n (high_halves a b s) (low_halves a b s)

pub same_tag_is_equality : SameTagIsEquality
same_tag_is_equality a b = Decides-like (same_tag a b) (λ e. same_parts a b e.1.1 e.0 e.1.0) (λ e. (ap (λ t. t.space_high) e, (ap (λ t. t.space_low) e, ap number_of e)))
    (Decides-and (a.space_high == b.space_high) ((a.space_low == b.space_low) && (number_of a == number_of b)) (Decides-eqb a.space_high b.space_high)
    (Decides-and (a.space_low == b.space_low) (number_of a == number_of b) (Decides-eqb a.space_low b.space_low) (Decides-eqb (number_of a) (number_of b))))

-- Two keys are equal exactly where they are the same.
abbrev pub SameKeyIsEquality : Type 0
SameKeyIsEquality = (a b : Key) → Decides (same_key a b) (a ≡ b)

pub same_key_is_equality : SameKeyIsEquality
same_key_is_equality a b = Decides-like (same_key a b) (λ e i. record { name = e.0 i; tag = e.1.0 i; time = e.1.1 i }) (λ e. (ap (λ k. k.name) e, (ap (λ k. k.tag) e, ap (λ k. k.time) e)))
    (Decides-and (a.name == b.name) (same_tag a.tag b.tag && (a.time == b.time)) (Decides-eqb a.name b.name)
    (Decides-and (same_tag a.tag b.tag) (a.time == b.time) (same_tag_is_equality a.tag b.tag) (Decides-eqb a.time b.time)))

pub same_key_equiv : IsEquivalence same_key
same_key_equiv = decided same_key same_key_is_equality

-- Two contexts are equal exactly where they are the same.
abbrev pub SameContextIsEquality : Type 0
SameContextIsEquality = (a c : Context) → Decides (same_context a c) (a ≡ c)

never : {P : Type 0} → (P → ⊥) → Decides false P
never none = (λ e. cc, λ p. absurd (none p))

calls_alike : (p q : ℕ) (f g c d : Context) → (p ≡ q) × ((f ≡ g) × (c ≡ d)) → call_frame p f c ≡ call_frame q g d
calls_alike p q f g c d e = cc

calls_parts : (p q : ℕ) (f g c d : Context) → call_frame p f c ≡ call_frame q g d → (p ≡ q) × ((f ≡ g) × (c ≡ d))
calls_parts p q f g c d e = (cc, (cc, cc))

frozen_alike : (t u : ℕ) (c d : Context) → (t ≡ u) × (c ≡ d) → frozen_frame t c ≡ frozen_frame u d
frozen_alike t u c d e = cc

frozen_parts : (t u : ℕ) (c d : Context) → frozen_frame t c ≡ frozen_frame u d → (t ≡ u) × (c ≡ d)
frozen_parts t u c d e = (cc, cc)

pub same_context_is_equality : SameContextIsEquality
same_context_is_equality root root = (λ e. refl, λ e. refl)
same_context_is_equality root (call_frame q g d) = never (λ e. cc)
same_context_is_equality root (frozen_frame u d) = never (λ e. cc)
same_context_is_equality (call_frame p f c) root = never (λ e. cc)
same_context_is_equality (call_frame p f c) (call_frame q g d) =
    Decides-like (same_context (call_frame p f c) (call_frame q g d)) (calls_alike p q f g c d) (calls_parts p q f g c d)
    (Decides-and (p == q) (same_context f g && same_context c d) (Decides-eqb p q)
    (Decides-and (same_context f g) (same_context c d) (same_context_is_equality f g) (same_context_is_equality c d)))
same_context_is_equality (call_frame p f c) (frozen_frame u d) = never (λ e. cc)
same_context_is_equality (frozen_frame t c) root = never (λ e. cc)
same_context_is_equality (frozen_frame t c) (call_frame q g d) = never (λ e. cc)
same_context_is_equality (frozen_frame t c) (frozen_frame u d) =
    Decides-like (same_context (frozen_frame t c) (frozen_frame u d)) (frozen_alike t u c d) (frozen_parts t u c d)
    (Decides-and (t == u) (same_context c d) (Decides-eqb t u) (same_context_is_equality c d))
