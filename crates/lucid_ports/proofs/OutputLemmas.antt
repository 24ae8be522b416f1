-- What a writer holds after a write and a flush.
use Rattle.lucid_ports.proofs.Common.{◌≡◌, ℕ, List, take, Option, None, Some, Ok, IfSome, refl, ap, with_front, Result, Err, IsSome, IfNone, result_ok, Appends, Keeps, WriteAppends}

-- a writer that is settled holds the same, told or not
pub keeps_settled : (old new : Option (List ℕ)) → (IsSome new → IsSome old) → Keeps old new → new ≡ old
keeps_settled None None settled kept = refl
keeps_settled None (Some ys) settled kept = cc (settled refl)
keeps_settled (Some xs) None settled kept = absurd kept
keeps_settled (Some xs) (Some ys) settled kept = ap Some kept

-- so it has the first n bytes of the piece behind what it held
pub appends_settled : (old new : Option (List ℕ)) (n : ℕ) (piece : List ℕ) → (IsSome new → IsSome old) → Appends old new (take n piece)
    → new ≡ with_front n piece old
appends_settled None None n piece settled appended = refl
appends_settled None (Some ys) n piece settled appended = cc (settled refl)
appends_settled (Some xs) None n piece settled appended = absurd appended
appends_settled (Some xs) (Some ys) n piece settled appended = ap Some appended

-- where a write succeeds, it appends so many bytes
pub write_appends : {E : Type 0} (r : Result ℕ E) (taken : Option ℕ) (old new : Option (List ℕ)) (piece : List ℕ) → taken ≡ result_ok r
    → (IsSome new → IsSome old) → WriteAppends old new r piece → IfSome taken (λ n. new ≡ with_front n piece old)
write_appends (Ok n) taken old new piece is settled wrote = rw is (appends_settled old new n piece settled wrote)
write_appends (Err e) taken old new piece is settled wrote = rw is tt

-- where it is refused, it appends nothing
pub write_keeps : {E : Type 0} (r : Result ℕ E) (taken : Option ℕ) (old new : Option (List ℕ)) (piece : List ℕ) → taken ≡ result_ok r
    → (IsSome new → IsSome old) → WriteAppends old new r piece → IfNone taken (new ≡ old)
write_keeps (Ok n) taken old new piece is settled wrote = rw is tt
write_keeps (Err e) taken old new piece is settled wrote = rw is (keeps_settled old new settled wrote)
