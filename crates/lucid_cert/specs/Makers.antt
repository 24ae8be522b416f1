-- A certificate in the making: what stands of it, and what a step makes of it.
use Rattle.std.specs.Prelude.{◌≡◌, ℕ, ◌<◌, ◌≤◌, List, [], ◌∷◌, ◌++◌, Some, map, length, slice_get}
use Rattle.std.specs.List.{AllByRecursion}
use Rattle.lucid_value.specs.Plain.{PlainValue}
use Rattle.lucid_tree.specs.Tree.{Head}
use Rattle.lucid_tree.specs.Rows.{last, plan}
use Rattle.lucid_tree.specs.Levels.{Elements}
use Rattle.lucid_tags.specs.Contexts.{Context}
use Rattle.lucid_tags.specs.Known.{IsOneForOne, KeepsKnown, context_of, number_of, root_tag, space_of}
use Rattle.lucid_tags.specs.declared.Key.{Key}
use Rattle.lucid_equations.specs.Programs.{table_of}
use Rattle.lucid_equations.specs.Rows.{node_at, node_by, row_at, parts, part_number}
use Rattle.lucid_equations.specs.declared.rows.Node.{Node}
use Rattle.lucid_equations.specs.declared.table.Table.{Table}
use Rattle.lucid_cert_rules.specs.Certificates.{PlainJudgment, plain_judgment}
use Rattle.lucid_cert_rules.specs.WhyTexts.{MayShowJudgment}
use Rattle.lucid_cert_rules.specs.Fed.{Uses}
use Rattle.lucid_cert_rules.specs.Follows.{FollowsIn, given, of_part, used}
use Rattle.lucid_cert_rules.specs.RestPlans.{HasHead, IsForm, LooksInside, Stands, least_of}
use Rattle.lucid_cert_rules.specs.Checking.{ArePlaces, AreTimes, IsOfContext, IsWithin, PassesOn, going, row_onward}
use Rattle.lucid_cert_rules.specs.declared.passing.Position.{Position}
use Rattle.lucid_cert_rules.specs.declared.rest.Rest.{Rest}
use Rattle.lucid_cert_rules.specs.declared.rest.Rest.TheVariants as rest
use Rattle.lucid_cert.specs.Uses.{told}
use Rattle.lucid_cert.specs.Traces.{Trace}
use Rattle.lucid_cert.specs.declared.making.Making.{Making}
use Rattle.lucid_cert.specs.declared.making.Next.{Next}
use Rattle.lucid_cert.specs.declared.making.Next.TheVariants as next
use Rattle.lucid_cert.specs.declared.maker.Maker.{Maker}

-- what holds of each item
abbrev pub Each : {X : Type 0} → (X → Type 0) → List X → Type 0
Each {X} P xs = (i : ℕ) (x : X) → slice_get xs i ≡ Some x → P x

-- the table and the judgments of a maker
abbrev pub table_in : Maker → Table
table_in m = table_of m.program.now

abbrev pub judgments_of : Maker → List PlainJudgment
judgments_of m = map plain_judgment m.judgments.items

-- A node in a context, by its number, at a point: what a judgment is of, and what a key stands for.
pub record Spot : Type 0 where
  pub node : ℕ
  pub context : ℕ
  pub time : ℕ
  pub space : ℕ

abbrev pub spot_of : PlainJudgment → Spot
spot_of j = record { node = j.node; context = j.context; time = j.time; space = j.space }

abbrev pub spot_at : Position → (space : ℕ) → Spot
spot_at at s = record { node = at.node; context = number_of at.context; time = at.time; space = s }

abbrev pub spot_by : Key → Spot
spot_by k = record { node = k.name; context = number_of k.tag; time = k.time; space = space_of k.tag }

-- the keys are those of the judgments, in their order
abbrev pub AreKeysOf : List Key → List PlainJudgment → Type 0
AreKeysOf keys js = map spot_by keys ≡ map spot_of js

-- The judgment of a number is of this spot; some judgment is.
pub record IsJudgmentAt (js : List PlainJudgment) (spot : Spot) (number : ℕ) : Type 0 where
  pub judgment : PlainJudgment
  pub there : slice_get js number ≡ Some judgment
  pub its_spot : spot_of judgment ≡ spot

abbrev pub IsMade : List PlainJudgment → Position → (space : ℕ) → Type 0
IsMade js at s = (i : ℕ) × IsJudgmentAt js (spot_at at s) i

-- no two judgments are of one spot
abbrev pub AreSpotsApart : List PlainJudgment → Type 0
AreSpotsApart js = (i k : ℕ) (j l : PlainJudgment) → slice_get js i ≡ Some j → slice_get js k ≡ Some l → spot_of j ≡ spot_of l → i ≡ k

-- A node of the table in a known context at a point, of which there may be a judgment.
pub record MayJudge (T : Table) (known : List Context) (at : Position) (space : ℕ) : Type 0 where
  pub within : IsWithin T at
  pub context : IsOfContext known at.context
  pub space_in_range : space ≤ last

-- the values of uses, for the looks of a node in a context, where all known contexts are good
abbrev pub values_for : Table → List Context → List PlainJudgment → Position → Uses
values_for T known js at = of_part T (used (map Some known) js (length js)) at.node (context_of known at.context)

-- A judgment of a form in the making: by its uses so far, which are made, this is left of the form's plan.
pub record IsForming (T : Table) (known : List Context) (js : List PlainJudgment) (at : Position) (space : ℕ) (uses : List ℕ) (r : Rest) : Type 0 where
  pub node : Node
  pub row : row_at T at.node ≡ Some node
  pub meaning : node_at T at.node ≡ node_by T node
  pub form : IsForm node
  pub trace : (f : Head) → HasHead T node f → Trace (λ m. plan m f at.time space) at.time (values_for T known js at) uses (map (told js) uses) r
  pub stands : Stands (length uses) r
  pub earlier : AllByRecursion (λ u. u < length js) uses
  pub inside : LooksInside (length (parts node)) r

-- A judgment of a frozen time, a reference or a call, in the making: it goes on with this.
pub record IsPassing (T : Table) (known : List Context) (at : Position) (space : ℕ) (uses : List ℕ) (on : Position) : Type 0 where
  pub node : Node
  pub row : row_at T at.node ≡ Some node
  pub meaning : node_at T at.node ≡ node_by T node
  pub passes : PassesOn node
  pub no_uses : uses ≡ []
  pub goes : going known (Some on) ≡ row_onward T node (context_of known at.context) at.time
  pub may : MayJudge T known on space

-- what a judgment waits for, which its limit allows
abbrev pub WaitsFor : Table → List Context → List PlainJudgment → Making → Next → Type 0
WaitsFor T known js w (next.Look l) = IsForming T known js w.at w.space w.uses.items (rest.Look l) × (least_of l.then l.time ≤ w.limit) × (l.time ≤ last)
WaitsFor T known js w (next.Position on references) = IsPassing T known w.at w.space w.uses.items on × (references ≤ w.limit)

-- A judgment that waits, among these judgments and contexts.
pub record IsWaiting (T : Table) (known : List Context) (js : List PlainJudgment) (w : Making) : Type 0 where
  pub may : MayJudge T known w.at w.space
  pub waits : WaitsFor T known js w w.next

-- Where it wants its next use, so many references further on.
abbrev pub WantsBy : Table → Making → Next → Position → (space references : ℕ) → Type 0
WantsBy T w (next.Look l) at s r = (part_number T w.at.node l.part ≡ Some at.node) × (at.context ≡ w.at.context) × (at.time ≡ l.time) × (s ≡ l.space) × (r ≡ 0)
WantsBy T w (next.Position on references) at s r = (at ≡ on) × (s ≡ w.space) × (r ≡ references)

pub record Wants (T : Table) (w : Making) (at : Position) (space references : ℕ) : Type 0 where
  pub by : WantsBy T w w.next at space references

-- A certificate in the making is sound: contexts are known once each, frozen times are times, call places are the table's, keys are those of the
-- judgments, no judgment stands twice, each is of a known context and may be shown, and what waits does.
pub record IsSoundBy (T : Table) (known : List Context) (keys : List Key) (js : List PlainJudgment) (waiting : List Making) : Type 0 where
  pub once : IsOneForOne known
  pub times : AreTimes known
  pub places : ArePlaces (length T.places) known
  pub keys_of : AreKeysOf keys js
  pub apart : AreSpotsApart js
  pub shown : Each MayShowJudgment js
  pub contexts : Each (λ j. j.context < length known) js
  pub waits : Each (IsWaiting T known js) waiting

abbrev pub IsSoundMaker : Maker → Type 0
IsSoundMaker m = IsSoundBy (table_in m) m.tags m.keys.keys (judgments_of m) m.waiting.items

-- The judgments follow.
abbrev pub FollowAmong : Table → Elements → List Context → List PlainJudgment → Type 0
FollowAmong T b known js = (i : ℕ) → i < length js → FollowsIn T b (map Some known) js i

abbrev pub AreFollowing : Elements → Maker → Type 0
AreFollowing b m = FollowAmong (table_in m) b m.tags (judgments_of m)

-- what the node gives from the uses, among the judgments
abbrev pub GivesBy : Table → Elements → List Context → List PlainJudgment → Position → (space : ℕ) → (uses : List ℕ) → PlainValue → Type 0
GivesBy T b known js at s uses v = given T b (used (map Some known) js (length js)) at.node (context_of known at.context) at.time s uses ≡ Some v

-- Judgments and contexts stay, and there may be more.
pub record Grows (T : Table) (known : List Context) (js : List PlainJudgment) (new : Maker) : Type 0 where
  pub table : table_in new ≡ T
  pub keeps : KeepsKnown known new.tags
  pub more : List PlainJudgment
  pub judgments : judgments_of new ≡ js ++ more

-- The judgment of a node in a context at a point waits, maybe with others behind it; or it is made.
pub data Settles (waiting : List Making) (new : Maker) (at : Position) (space : ℕ) : Type 0 where
  waits : (w : Making) (more : List Making) → new.waiting.items ≡ waiting ++ w ∷ more → w.at ≡ at → w.space ≡ space → Settles waiting new at space
  made : new.waiting.items ≡ waiting → IsMade (judgments_of new) at space → Settles waiting new at space

-- What a step for the judgment of a node in a context at a point makes of a certificate.
pub record Goes (old new : Maker) (at : Position) (space : ℕ) : Type 0 where
  pub sound : IsSoundMaker new
  pub grows : Grows (table_in old) old.tags (judgments_of old) new
  pub settles : Settles old.waiting.items new at space

-- The judgment of the root waits outermost, or it is made.
abbrev pub RootStands : Position → List Making → List PlainJudgment → Type 0
RootStands root [] js = IsMade js root 0
RootStands root (w ∷ ws) js = (w.at ≡ root) × (w.space ≡ 0)

-- the root in the empty context
pub record IsRoot (T : Table) (at : Position) : Type 0 where
  pub node : at.node ≡ T.root
  pub context : at.context ≡ root_tag

-- one that waited waits no more; all else stays
pub record Leaves (old new : Maker) : Type 0 where
  pub sound : IsSoundMaker new
  pub table : table_in new ≡ table_in old
  pub known : new.tags ≡ old.tags
  pub judgments : judgments_of new ≡ judgments_of old
