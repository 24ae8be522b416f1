-- How the plan of a form has gone on in a judgment in the making, use by use.
use Rattle.std.specs.Prelude.{◌≡◌, ℕ, ◌+◌, ◌≤◌, List, [], ◌∷◌, ◌++◌, Some}
use Rattle.lucid_value.specs.Plain.{PlainValue}
use Rattle.lucid_tree.specs.Rows.{Plan}
use Rattle.lucid_cert_rules.specs.Fed.{Uses}
use Rattle.lucid_cert_rules.specs.RestPlans.{AreFedAlike, CanGoOn, Stands, by_then, rest_plan}
use Rattle.lucid_cert_rules.specs.declared.rest.Look.{Look}
use Rattle.lucid_cert_rules.specs.declared.rest.Rest.{Rest}
use Rattle.lucid_cert_rules.specs.declared.rest.Rest.TheVariants as rest
use Rattle.lucid_cert.specs.Uses.{plain_look}

-- The plan, by its limit, goes on to this rest with these uses, one for each look, which have these values: it begins as a rest, and each
-- look goes on as one with the value of its use.
pub data Trace (limited : (limit : ℕ) → Plan) (time : ℕ) (value : Uses) : List ℕ → List PlainValue → Rest → Type 0 where
  begun : (r : Rest) → ((m most : ℕ) → time + most ≤ m → AreFedAlike most (limited m) (rest_plan m [] r)) → Stands 0 r → Trace limited time value [] [] r
  gone : (us : List ℕ) (vs : List PlainValue) (l : Look) (u : ℕ) (v : PlainValue) (r : Rest) → Trace limited time value us vs (rest.Look l) → value (plain_look l) u ≡ Some v
      → ((m k most : ℕ) (ws : List PlainValue) → CanGoOn k l → k + 1 + most ≤ m → AreFedAlike most (by_then m ws l.then l.part l.time l.space v) (rest_plan m (ws ++ v ∷ []) r))
      → ((k : ℕ) → CanGoOn k l → Stands (k + 1) r) → Trace limited time value (us ++ u ∷ []) (vs ++ v ∷ []) r
