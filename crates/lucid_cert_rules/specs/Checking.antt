-- What a check has of a certificate: tags in place of contexts.
use Rattle.std.specs.Prelude.{◌≡◌, ℕ, ◌<◌, ◌≤◌, List, Option, Some, None, map, take, length, option_map, slice_get}
use Rattle.lucid_tree.specs.Rows.{last}
use Rattle.lucid_tree.specs.Levels.{goes_to, nowhere}
use Rattle.lucid_tags.specs.Contexts.{Context, call_frame, frozen_frame, context_at}
use Rattle.lucid_tags.specs.Known.{IsKnown, context_of, space_of}
use Rattle.lucid_tags.specs.declared.Tag.{Tag}
use Rattle.lucid_equations.specs.NumberAims.{row_aim}
use Rattle.lucid_equations.specs.declared.rows.Node.{Node}
use Rattle.lucid_equations.specs.declared.rows.Node.TheVariants.{Freeze, Refer, Call}
use Rattle.lucid_equations.specs.declared.table.Table.{Table}
use Rattle.lucid_cert_rules.specs.Follows.{Onward, onward}
use Rattle.lucid_cert_rules.specs.declared.passing.Position.{Position}

-- a tag of a context: known, and at space 0
pub record IsOfContext (known : List Context) (tag : Tag) : Type 0 where
  pub known_tag : IsKnown known tag
  pub space : space_of tag ≡ 0

-- the contexts that tags stand for
abbrev pub contexts_of : (known : List Context) → List (Option Tag) → List (Option Context)
contexts_of known tags = map (option_map (context_of known)) tags

abbrev pub AreOfContexts : (known : List Context) → List (Option Tag) → Type 0
AreOfContexts known tags = (i : ℕ) (tag : Tag) → slice_get tags i ≡ Some (Some tag) → IsOfContext known tag

-- the known contexts before a number, each of them good
abbrev pub known_before : List Context → (number : ℕ) → List (Option Context)
known_before known n = map Some (take n known)

-- the frozen times of known contexts are times
abbrev pub AreTimes : List Context → Type 0
AreTimes known = (i t : ℕ) (c : Context) → context_at known i ≡ frozen_frame t c → t ≤ last

-- the call places of known contexts are of so many
abbrev pub ArePlaces : (places : ℕ) → List Context → Type 0
ArePlaces places known = (i at : ℕ) (caller base : Context) → context_at known i ≡ call_frame at caller base → at < places

-- a node of the table at a time
pub record IsWithin (T : Table) (at : Position) : Type 0 where
  pub node : at.node < length T.nodes
  pub time : at.time ≤ last

-- where a position goes on, without its daton
abbrev pub going : List Context → Option Position → Onward
going known None = nowhere
going known (Some p) = goes_to tt (record { number = p.node; context = context_of known p.context }) p.time

-- the node is a frozen time, a reference or a call
abbrev pub PassesOn : Node → Type 0
PassesOn (Freeze a) = Unit {0}
PassesOn (Refer n l) = Unit {0}
PassesOn (Call n q l) = Unit {0}
PassesOn _ = ⊥

-- What a row goes on with: its subject in the context that it enters, or what it refers to.
abbrev pub row_onward : Table → Node → Context → (time : ℕ) → Onward
row_onward T (Freeze a) c t = goes_to tt (record { number = a; context = frozen_frame t c }) t
row_onward T n c t = onward (row_aim T (Some n) c t)
