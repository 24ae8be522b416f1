-- The laws of plans and their rests. Each is the contract of a function of `laws`. A clause speaks of readers; the lemmas behind it
-- (proofs/Ways, RestsDefined, RestsTraced and SearchesLead) say the same of any facts of looks and values.
use Rattle.std.specs.Prelude.{◌≡◌, ℕ, suc, ◌+◌, ◌<◌, ◌≤◌, Bool, List, [], ◌∷◌, Option, Some, None}
use Rattle.lucid_value.specs.Plain.{PlainValue, truth}
use Rattle.lucid_tree.specs.Tree.{Head}
use Rattle.lucid_tree.specs.Members.{In, Inside}
use Rattle.lucid_tree.specs.Rows.{Look, Plan, gives, nothing, looks, plan, Reader, run, trace}
use Rattle.lucid_tree.specs.Rests.{Reads, ReadsAtSome, LeadsTo, count_below, rest_at, CanStandAt}

-- Readers by a limit, of which each has the values of those before it.
abbrev pub NeverLose : (ℕ → Reader (Option PlainValue)) → Type 0
NeverLose rs = (n i t s : ℕ) (v : PlainValue) → rs n i t s ≡ Some v → rs (suc n) i t s ≡ Some v

-- The reader never differs from what these mean: it may know less, or more.
abbrev pub NeverDiffers : (ℕ → Reader (Option PlainValue)) → Reader (Option PlainValue) → Type 0
NeverDiffers rs r = (l : Look) (v w : PlainValue) → ReadsAtSome rs l v → Reads r l w → v ≡ w

-- A way goes over to a reader that has the same values, and more.
abbrev pub WaysGoOver : Type 0
WaysGoOver =
    (r r' : Reader (Option PlainValue)) (p q : Plan) → ((i t s : ℕ) (v : PlainValue) → r i t s ≡ Some v → r' i t s ≡ Some v)
    → LeadsTo (Reads r) p q → LeadsTo (Reads r') p q

-- Ways join.
abbrev pub WaysJoin : Type 0
WaysJoin = (r : Reader (Option PlainValue)) (p q x : Plan) → LeadsTo (Reads r) p q → LeadsTo (Reads r) q x → LeadsTo (Reads r) p x

-- A way whose values are each of some limit is a way of one limit.
abbrev pub WaysAreOfOneLimit : Type 0
WaysAreOfOneLimit =
    (rs : ℕ → Reader (Option PlainValue)) (p q : Plan) → NeverLose rs → LeadsTo (ReadsAtSome rs) p q → (n : ℕ) × LeadsTo (Reads (rs n)) p q

-- Where the reader has the values on the way, the plan and its rest have one value.
abbrev pub RestsKeepTheValue : Type 0
RestsKeepTheValue = (r : Reader (Option PlainValue)) (p q : Plan) → LeadsTo (Reads r) p q → run p r ≡ run q r

-- Where the plan is defined by a reader that never differs from what is meant, so is the rest.
abbrev pub RestsAreDefined : Type 0
RestsAreDefined =
    (rs : ℕ → Reader (Option PlainValue)) (r : Reader (Option PlainValue)) (p q : Plan) (v : PlainValue)
    → NeverDiffers rs r → LeadsTo (ReadsAtSome rs) p q → run p r ≡ Some v → run q r ≡ Some v

-- So is each look that stands next.
abbrev pub NextLooksAreDefined : Type 0
NextLooksAreDefined =
    (rs : ℕ → Reader (Option PlainValue)) (r : Reader (Option PlainValue)) (p : Plan) (ls : List Look) (k : List PlainValue → Plan) (v : PlainValue)
    → NeverDiffers rs r → LeadsTo (ReadsAtSome rs) p (looks ls k) → run p r ≡ Some v → (l : Look) → In l ls → (w : PlainValue) × Reads r l w

-- So a plan of which nothing is left has no value.
abbrev pub NothingLeftIsUndefined : Type 0
NothingLeftIsUndefined =
    (rs : ℕ → Reader (Option PlainValue)) (r : Reader (Option PlainValue)) (p : Plan) → NeverDiffers rs r → LeadsTo (ReadsAtSome rs) p nothing → run p r ≡ None

-- where a look looks: its part, its time and its space
abbrev pub point_of : Look → ℕ × ℕ × ℕ
point_of l = (l.part, l.time, l.space)

-- where a plan looks at m, with these values
abbrev pub points_of : (m : ℕ) → Plan → Reader (Option PlainValue) → List (ℕ × ℕ × ℕ)
points_of m p r = trace m p r (λ i t s. (i, t, s) ∷ [])

-- Whatever the values are, a look that stands next in a plan of m is taken by m.
abbrev pub NextLooksAreTaken : Type 0
NextLooksAreTaken =
    (m : ℕ) (f : Head) (t s : ℕ) (ls : List Look) (k : List PlainValue → Plan) → LeadsTo (λ l v. Unit {0}) (plan m f t s) (looks ls k)
    → (l : Look) → In l ls → l.least ≤ m

-- A look that stands next is among those of the plan of m, where at least m decides the choices.
abbrev pub NextLooksAreAmong : Type 0
NextLooksAreAmong =
    (m n : ℕ) → m ≤ n → (f : Head) (t s : ℕ) (r : Reader (Option PlainValue)) (ls : List Look) (k : List PlainValue → Plan)
    → LeadsTo (Reads r) (plan m f t s) (looks ls k) → (l : Look) → In l ls → In (point_of l) (points_of m (plan n f t s) r)

-- Where the values on the way are each of some limit, it is so for each added number from some on.
abbrev pub NextLooksAreAmongFromSomeOn : Type 0
NextLooksAreAmongFromSomeOn =
    (rs : ℕ → Reader (Option PlainValue)) → NeverLose rs → (m : ℕ) (f : Head) (t s : ℕ) (ls : List Look) (k : List PlainValue → Plan)
    → LeadsTo (ReadsAtSome rs) (plan m f t s) (looks ls k)
    → (d : ℕ) × ((e : ℕ) → d ≤ e → (l : Look) → In l ls → In (point_of l) (points_of m (plan (m + e) f t s) (rs (m + e))))

-- A plan that comes to a value looks nowhere but on the way.
abbrev pub LooksAreOnTheWay : Type 0
LooksAreOnTheWay =
    (m : ℕ) (p : Plan) (v : PlainValue) (r : Reader (Option PlainValue)) (xs : List (ℕ × ℕ × ℕ))
    → LeadsTo (λ l w. Reads r l w × In (point_of l) xs) p (gives v) → Inside (points_of m p r) xs

-- A count stays where the stream has more values,
abbrev pub CountsStay : Type 0
CountsStay =
    (f g : ℕ → Option PlainValue) (j n : ℕ) → ((u : ℕ) (v : PlainValue) → f u ≡ Some v → g u ≡ Some v) → count_below f j ≡ Some n → count_below g j ≡ Some n

-- and all that was counted are truths.
abbrev pub CountsAreOfTruths : Type 0
CountsAreOfTruths = (f : ℕ → Option PlainValue) (j n u : ℕ) → count_below f j ≡ Some n → u < j → (b : Bool) × (f u ≡ Some (truth b))

-- A search that has not begun stands at its plan.
abbrev pub RestsBeginAtThePlan : Type 0
RestsBeginAtThePlan = (f : Head) (m t s : ℕ) → rest_at f m 0 0 t s ≡ plan m f t s

-- True values counted below a time lead a search there, at each limit, also at those that the time is past.
abbrev pub CountsLeadSearches : Type 0
CountsLeadSearches =
    (f : Head) (m j n t s : ℕ) (r : Reader (Option PlainValue)) → CanStandAt f j n t → count_below (λ u. r 1 u s) j ≡ Some n
    → LeadsTo (Reads r) (plan m f t s) (rest_at f m j n t s)
