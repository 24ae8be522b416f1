-- What follows: a judgment that is what its node's case gives from the values of the judgments that it uses. Certificates come from anybody:
-- contexts needn't be there, call places may be none of the program's, and uses may be any numbers.
use Rattle.std.specs.Prelude.{◌≡◌, ℕ, ◌+◌, ◌<◌, ◌≤◌, Bool, false, ◌==◌, ◌&&◌, nat_le, nat_lt, if◌then◌else◌, List, [], ◌∷◌, ◌++◌, length, Option, Some, None, get_or, slice_get}
use Rattle.std.specs.Option.{option_and_then}
use Rattle.lucid_value.specs.Plain.{PlainValue}
use Rattle.lucid_tree.specs.Rows.{Look, last, plan}
use Rattle.lucid_tree.specs.Levels.{Target, element_of, goes_to, nowhere, Elements}
use Rattle.lucid_tags.specs.Contexts.{Context, root, call_frame, frozen_frame, same_context}
use Rattle.lucid_equations.specs.Nodes.{PlainNode, row, freeze, reference, invoke}
use Rattle.lucid_equations.specs.NumberAims.{NumberPosition, NumberAim, number_aim}
use Rattle.lucid_equations.specs.Rows.{node_at, part_number}
use Rattle.lucid_equations.specs.declared.table.Table.{Table}
use Rattle.lucid_cert_rules.specs.Certificates.{PlainJudgment}
use Rattle.lucid_cert_rules.specs.declared.rows.ContextRow.{ContextRow}
use Rattle.lucid_cert_rules.specs.declared.rows.ContextRow.TheVariants.{Call, Frozen}
use Rattle.lucid_cert_rules.specs.declared.rows.Why.{Why}
use Rattle.lucid_cert_rules.specs.Fed.{fed}

-- the context of a number, where it is there and good
abbrev pub context_in : List (Option Context) → (number : ℕ) → Option Context
context_in cs n = get_or cs n None

-- with the frame of a call added, at one of so many call places; with a frozen time, which is a time
abbrev pub with_call : (places place : ℕ) → (caller base : Option Context) → Option Context
with_call places at (Some caller) (Some base) = if nat_lt at places then Some (call_frame at caller base) else None
with_call places at _ _ = None

abbrev pub with_frozen : (time : ℕ) → (base : Option Context) → Option Context
with_frozen t (Some base) = if nat_le t last then Some (frozen_frame t base) else None
with_frozen t None = None

-- the context of a row, by those of lower numbers: good where these are
abbrev pub row_context : (places : ℕ) → List (Option Context) → ContextRow → Option Context
row_context places cs (Call base place caller) = with_call places place (context_in cs caller) (context_in cs base)
row_context places cs (Frozen base time) = with_frozen time (context_in cs base)

abbrev pub contexts_behind : (places : ℕ) → List (Option Context) → List ContextRow → List (Option Context)
contexts_behind places cs [] = cs
contexts_behind places cs (r ∷ rs) = contexts_behind places (cs ++ row_context places cs r ∷ []) rs

-- The contexts of a certificate by their numbers, over the call places of a table: the empty one, and those of its rows.
unfoldable pub contexts : Table → Why → List (Option Context)
contexts T w = contexts_behind (length T.places) (Some root ∷ []) w.contexts

-- the context is there, and it is this one
abbrev pub is_context : Option Context → Context → Bool
is_context (Some d) c = same_context d c
is_context None c = false

-- The judgment is of the node of this number in this context at this point.
abbrev pub is_of : List (Option Context) → PlainJudgment → (node : ℕ) → Context → (time space : ℕ) → Bool
is_of cs j n c t s = (j.node == n) && (is_context (context_in cs j.context) c && ((j.time == t) && (j.space == s)))

abbrev pub value_if : Bool → PlainValue → Option PlainValue
value_if b v = if b then Some v else None

-- The value of a use among judgments: that of an earlier one of this node in this context at this point.
unfoldable pub used : List (Option Context) → List PlainJudgment → (before : ℕ) → (node : ℕ) → Context → (time space : ℕ) → (number : ℕ) → Option PlainValue
used cs js i n c t s u = if nat_lt u i then option_and_then (λ j. value_if (is_of cs j n c t s) j.value) (slice_get js u) else None

-- the value of the one use
abbrev pub only : (ℕ → Option PlainValue) → (uses : List ℕ) → Option PlainValue
only value (u ∷ []) = value u
only value _ = None

-- what a reference goes on with, whatever its daton is
abbrev pub Onward : Type 0
Onward = Target (Unit {0}) NumberPosition

abbrev pub onward : NumberAim → Onward
onward (element_of n j) = element_of n j
onward (goes_to d x u) = goes_to tt x u
onward nowhere = nowhere

-- What a node gives, where uses have these values: of a node in a context at a point.
abbrev pub Judged : Type 0
Judged = (node : ℕ) → Context → (time space : ℕ) → (number : ℕ) → Option PlainValue

-- the values of a row's looks
abbrev pub of_part : Table → Judged → (id : ℕ) → Context → Look → (number : ℕ) → Option PlainValue
of_part T value id c l u = option_and_then (λ n. value n c l.time l.space u) (part_number T id l.part)

-- An input gives its element, without a use; a reference what its one use has where it goes on.
abbrev pub by_onward : Elements → Judged → Onward → (space : ℕ) → (uses : List ℕ) → Option PlainValue
by_onward b value (element_of n j) s [] = b n j
by_onward b value (element_of n j) s (u ∷ us) = None
by_onward b value (goes_to d x u) s us = only (value x.number x.context u s) us
by_onward b value nowhere s us = None

-- A form gives the value of its plan, fed by the uses; with so many uses no limit past their number and the time feeds it further. A frozen
-- time gives what its one use has in the context that it enters.
abbrev pub by_node : Table → Elements → Judged → PlainNode → (id : ℕ) → Context → (time space : ℕ) → (uses : List ℕ) → Option PlainValue
by_node T b value (row f es) id c t s us = fed (of_part T value id c) (plan (t + length us) f t s) us
by_node T b value (freeze e) id c t s us = only (λ u. option_and_then (λ n. value n (frozen_frame t c) t s u) (part_number T id 0)) us
by_node T b value (reference r) id c t s us = by_onward b value (onward (number_aim T id c t)) s us
by_node T b value (invoke n at l) id c t s us = by_onward b value (onward (number_aim T id c t)) s us

-- What the node of a number gives in a context at a point from these uses.
unfoldable pub given : Table → Elements → Judged → (id : ℕ) → Context → (time space : ℕ) → (uses : List ℕ) → Option PlainValue
given T b value id c t s us = by_node T b value (node_at T id) id c t s us

-- A judgment is one that can follow: its time and its space are such, its node is one of the table's, and its context is good.
pub record HasForm (T : Table) (cs : List (Option Context)) (j : PlainJudgment) (c : Context) : Type 0 where
  pub time : j.time ≤ last
  pub space : j.space ≤ last
  pub node : j.node < length T.nodes
  pub context : context_in cs j.context ≡ Some c

-- Among judgments, that of a number follows: it has the value that its node gives from its uses, which are earlier ones.
pub record FollowsIn (T : Table) (b : Elements) (cs : List (Option Context)) (js : List PlainJudgment) (number : ℕ) : Type 0 where
  pub judgment : PlainJudgment
  pub there : slice_get js number ≡ Some judgment
  pub context : Context
  pub form : HasForm T cs judgment context
  pub gives : given T b (used cs js number) judgment.node context judgment.time judgment.space judgment.uses ≡ Some judgment.value

-- The judgment of a number of a certificate follows.
abbrev pub Follows : Table → Elements → Why → (number : ℕ) → Type 0
Follows T b w i = FollowsIn T b (contexts T w) w.judgments i

-- all judgments below a number do
abbrev pub AllFollow : Table → Elements → Why → (below : ℕ) → Type 0
AllFollow T b w n = (i : ℕ) → i < n → Follows T b w i

-- The judgment of a number is of the root in the empty context at space 0.
pub record IsOfRoot (T : Table) (cs : List (Option Context)) (js : List PlainJudgment) (number : ℕ) : Type 0 where
  pub judgment : PlainJudgment
  pub there : slice_get js number ≡ Some judgment
  pub node : judgment.node ≡ T.root
  pub context : context_in cs judgment.context ≡ Some root
  pub space : judgment.space ≡ 0

-- A certificate is right: all its judgments follow, and the last is of the root in the empty context at space 0.
pub record IsRight (T : Table) (b : Elements) (w : Why) : Type 0 where
  pub all : AllFollow T b w (length w.judgments)
  pub before : ℕ
  pub last_number : length w.judgments ≡ before + 1
  pub of_root : IsOfRoot T (contexts T w) w.judgments before
