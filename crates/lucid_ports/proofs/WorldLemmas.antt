-- What stays over several calls.
use Rattle.lucid_ports.proofs.Common.{◌≡◌, ℕ, ◌++◌, ◌∷◌, [], List, length, Some, ap, ◌∙◌, arith, KeepsOthers}
use Rattle.std.proofs.Common.{◌≢◌, map}
use Rattle.std.proofs.lemmas.List.{map_push}
use Rattle.std.specs.List.{slice_get}
use Rattle.lucid_lists.proofs.Lists.{slice_get-push_same, slice_get-push_other}
use Rattle.lucid_ports.specs.World.{World}

-- two calls in a row on one place
pub KeepsOthers-trans : (number : ℕ) (a b c : World) → KeepsOthers number a b → KeepsOthers number b c → KeepsOthers number a c
KeepsOthers-trans number a b c first second = record {
  names = λ name. second.names name ∙ first.names name;
  asked = second.asked ∙ first.asked;
  others = λ k other. second.others k other ∙ first.others k other;
  faults = omega (arith, first.faults, second.faults);
}

-- one more name is asked for
pub asked_next : {X : Type 0} (bytes : X → List ℕ) (names later : List X) (next : X) (name : List ℕ) → later ≡ names ++ next ∷ [] → bytes next ≡ name
    → map bytes later ≡ map bytes names ++ name ∷ []
asked_next bytes names later next name more is = ap (map bytes) more ∙ map_push bytes names next ∙ ap (λ n. map bytes names ++ n ∷ []) is

-- one more place is reached, and the others are where they were
pub place_added : {X : Type 0} (places later : List X) (next : X) (k : ℕ) → later ≡ places ++ next ∷ [] → k ≢ length places → slice_get later k ≡ slice_get places k
place_added places later next k more other = ap (λ l. slice_get l k) more ∙ slice_get-push_other places next k other

pub place_reached : {X : Type 0} (places later : List X) (next : X) (k : ℕ) → later ≡ places ++ next ∷ [] → k ≡ length places → slice_get later k ≡ Some next
place_reached places later next k more last = ap (λ l. slice_get l k) more ∙ ap (slice_get (places ++ next ∷ [])) last ∙ slice_get-push_same places next
