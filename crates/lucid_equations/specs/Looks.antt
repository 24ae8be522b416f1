-- Laws of forms step by step: what is read of parts never gets lost and never differs from what the parts mean, and what a look on the
-- way visits and needs, the form visits and needs. Each law is over all tables p, contexts and points.
use Rattle.std.specs.Prelude.{◌≡◌, ℕ, ◌+◌, ◌≤◌, List, Some}
use Rattle.lucid_value.specs.Plain.{PlainValue}
use Rattle.lucid_tree.specs.Tree.{Head}
use Rattle.lucid_tree.specs.Members.{In, Inside}
use Rattle.lucid_tree.specs.Rows.{Look, Plan, gives, looks, plan}
use Rattle.lucid_tree.specs.Rests.{Reads, ReadsAtSome, LeadsTo}
use Rattle.lucid_tree.specs.PlanLaws.{NeverLose, NeverDiffers}
use Rattle.lucid_tree.specs.Levels.{Elements, Given, nothing_held}
use Rattle.lucid_tags.specs.Contexts.{Context}
use Rattle.lucid_equations.specs.Nodes.{PlainNode, row, PlainNodes, part_of, Equations}
use Rattle.lucid_equations.specs.Datons.{Daton}
use Rattle.lucid_equations.specs.Visits.{node_visits, IsNeeded}
use Rattle.lucid_equations.specs.Laws.{HeldIsMeant}
use Rattle.lucid_equations.specs.Parts.{reads_parts, visits_parts}

-- What is read of parts at a limit is read at each greater one.
abbrev pub PartsNeverLose : Type 0
PartsNeverLose = (p : Equations) (g : Given Daton) (es : PlainNodes) (c : Context) → NeverLose (λ n. reads_parts p g n es c)

-- With held values that are meant, what is read of parts never differs from what they mean.
abbrev pub PartsNeverDiffer : Type 0
PartsNeverDiffer =
    (p : Equations) (g : Given Daton) → HeldIsMeant p g → (m : ℕ) (es : PlainNodes) (c : Context)
    → NeverDiffers (λ n. reads_parts p (nothing_held g.element) n es c) (reads_parts p g m es c)

-- What a look that stands next visits, the form visits, where the limit and the added number give the values on the way.
abbrev pub NextLooksAreVisited : Type 0
NextLooksAreVisited =
    (p : Equations) (b : Elements) (m d : ℕ) (f : Head) (es : PlainNodes) (c : Context) (t s : ℕ) (ls : List Look) (k : List PlainValue → Plan)
    → LeadsTo (Reads (reads_parts p (nothing_held b) (m + d) es c)) (plan m f t s) (looks ls k)
    → (l : Look) → In l ls → Inside (visits_parts p b m d es c l.part l.time l.space) (node_visits p b m d (row f es) c t s)

-- Where the values on the way are those that the parts mean, it is so for each added number from some on.
abbrev pub NextLooksAreVisitedFromSomeOn : Type 0
NextLooksAreVisitedFromSomeOn =
    (p : Equations) (b : Elements) (m : ℕ) (f : Head) (es : PlainNodes) (c : Context) (t s : ℕ) (ls : List Look) (k : List PlainValue → Plan)
    → LeadsTo (ReadsAtSome (λ n. reads_parts p (nothing_held b) n es c)) (plan m f t s) (looks ls k)
    → (d : ℕ) × ((a : ℕ) → d ≤ a → (l : Look) → In l ls → Inside (visits_parts p b m a es c l.part l.time l.space) (node_visits p b m a (row f es) c t s))

-- all that the part of a look needs there is listed
abbrev pub NeedsWithin : Equations → Elements → PlainNodes → Context → List (Daton × ℕ) → Look → Type 0
NeedsWithin p b es c xs l = (e : PlainNode) → part_of es l.part ≡ Some e → (d : Daton × ℕ) → IsNeeded p b e c l.time l.space d → In d xs

-- What a form with a value needs, the looks on the way to the value need.
abbrev pub NeedsAreOfTheWay : Type 0
NeedsAreOfTheWay =
    (p : Equations) (b : Elements) (m : ℕ) (f : Head) (es : PlainNodes) (c : Context) (t s : ℕ) (v : PlainValue) (xs : List (Daton × ℕ))
    → LeadsTo (λ l w. Reads (reads_parts p (nothing_held b) m es c) l w × NeedsWithin p b es c xs l) (plan m f t s) (gives v)
    → (d : Daton × ℕ) → IsNeeded p b (row f es) c t s d → In d xs
