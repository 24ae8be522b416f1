-- Texts of which each has a form, taken one after the other.
use Rattle.lucid_words.proofs.Common.{◌≡◌, ℕ, ◌<◌, Bool, true, false, cond, not, List, [], ◌∷◌, ◌++◌, map, take, length, Some, None, refl, list_all, Bor, ◌+◌, IsTrue, get_or, map-append, take_more, list_all_at, list_all-append, list_all-map}

-- each text passes, and the parts of them all are these
pub record EachSoFar {X Y : Type 0} (passes : X → Bool) (part : X → Y) (texts : List X) (parts : List Y) : Type 0 where
  pub all : list_all passes texts ≡ true
  pub are : map part texts ≡ parts

pub fails_where_none : {X : Type 0} (passes : Bool) (x : X) → cond passes (Some x) None ≡ None → passes ≡ false
fails_where_none true x same = cc
fails_where_none false x same = refl

pub false_from_not : (passes : Bool) → IsTrue (not passes) → passes ≡ false
false_from_not true fails = cc
false_from_not false fails = refl

-- a text that fails makes them all fail
pub one_fails : {Y : Type 0} (passes : List ℕ → Bool) (answer : Y) (texts : List (Bor (List ℕ))) (i : ℕ) (text : Bor (List ℕ)) → i < length texts
    → passes (get_or texts i text).now ≡ false → cond (list_all passes (map (λ t. t.now) texts)) (Some answer) None ≡ None
one_fails passes answer texts i text inside fails =
    rw (list_all-map passes (λ (t : Bor (List ℕ)). t.now) texts, list_all_at (λ (t : Bor (List ℕ)). passes t.now) texts i text inside fails) refl

-- the next text passes too
pub one_more : {Y : Type 0} (passes : List ℕ → Bool) (part : List ℕ → Y) (texts : List (Bor (List ℕ))) (i : ℕ) (text : Bor (List ℕ)) (old new : List Y)
    (last : Y) → i < length texts → EachSoFar passes part (map (λ t. t.now) (take i texts)) old → passes (get_or texts i text).now ≡ true
    → part (get_or texts i text).now ≡ last → new ≡ old ++ last ∷ [] → EachSoFar passes part (map (λ t. t.now) (take (i + 1) texts)) new
one_more passes part texts i text old new last inside so_far pass same grown = record {
  all = rw (take_more texts i text inside, map-append, list_all-append, so_far.all, pass) refl;
  are = rw (grown, take_more texts i text inside, map-append, map-append, so_far.are, same) refl;
}
