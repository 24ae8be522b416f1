-- The rest of a plan: what is left of it after looks that have values; and where a search stands once it has looked at so many
-- times.
use Rattle.std.specs.Prelude.{◌≡◌, ℕ, zero, suc, ◌-◌, ◌≤◌, true, false, List, [], ◌∷◌, Option, Some, None, if◌then◌else◌, nat_le}
use Rattle.lucid_value.specs.Plain.{PlainValue, truth}
use Rattle.lucid_tree.specs.Tree.{Head, whenever, asa, upon}
use Rattle.lucid_tree.specs.Rows.{Look, Plan, nothing, looks, plan, find_true, count_true, Reader}

-- the reader gives the look this value
abbrev pub Reads : Reader (Option PlainValue) → Look → PlainValue → Type 0
Reads r l v = r l.part l.time l.space ≡ Some v

-- Of readers by a limit, as those of the approximations are: one of them gives the look this value, so it is meant.
abbrev pub ReadsAtSome : (ℕ → Reader (Option PlainValue)) → Look → PlainValue → Type 0
ReadsAtSome rs l v = (n : ℕ) × Reads (rs n) l v

-- each look has its value, by a relation of looks and values
abbrev pub AllHave : (Look → PlainValue → Type 0) → List Look → List PlainValue → Type 0
AllHave M [] [] = Unit {0}
AllHave M (l ∷ ls) (v ∷ vs) = M l v × AllHave M ls vs
AllHave M [] (v ∷ vs) = ⊥
AllHave M (l ∷ ls) [] = ⊥

-- From the plan p one comes to the rest q: one stands at the plan itself, or goes on from looks with values that they have.
pub data LeadsTo (M : Look → PlainValue → Type 0) (p : Plan) : (q : Plan) → Type 0 where
  at_start : LeadsTo M p p
  and_then : {ls : List Look} {k : List PlainValue → Plan} (vs : List PlainValue) → LeadsTo M p (looks ls k) → AllHave M ls vs → LeadsTo M p (k vs)

-- one more value of the stream that is counted: what is no truth ends the count
abbrev pub count_on : Option ℕ → Option PlainValue → Option ℕ
count_on (Some n) (Some (truth true)) = Some (suc n)
count_on (Some n) (Some (truth false)) = Some n
count_on _ _ = None

-- how many of a stream's values at the times below one are true, where all of them are truths
abbrev pub count_below : (ℕ → Option PlainValue) → (time : ℕ) → Option ℕ
count_below f zero = Some 0
count_below f (suc t) = count_on (count_below f t) (f t)

-- The rest of a form's plan where its search has come to the time j, with n true values below it. A form that doesn't search
-- stands at its plan.
abbrev pub rest_at : Head → (m j n time space : ℕ) → Plan
rest_at whenever m j n t s = find_true (m - j) j (t - n) s
rest_at asa m j n t s = find_true (m - j) j (0 - n) s
rest_at upon m j n t s = if nat_le t m then count_true (t - j) j n s t else nothing
rest_at f m j n t s = plan m f t s

-- The search for the time t can have come to the time j with n true values below it: it did not end before.
abbrev pub CanStandAt : Head → (j n time : ℕ) → Type 0
CanStandAt whenever j n t = n ≤ t
CanStandAt asa j n t = n ≡ 0
CanStandAt upon j n t = j ≤ t
CanStandAt f j n t = Unit {0}
