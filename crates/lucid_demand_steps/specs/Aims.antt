-- What a reference goes on with, by tags: the same as by contexts.
use Rattle.std.specs.Prelude.{◌≡◌, ℕ, ◌<◌, List, Option, Some, None, length}
use Rattle.lucid_tree.specs.Members.{In}
use Rattle.lucid_tree.specs.Levels.{goes_to, nowhere}
use Rattle.lucid_tags.specs.Contexts.{Context}
use Rattle.lucid_tags.specs.Known.{IsKnown, IsUnknown, context_of, space_of}
use Rattle.lucid_equations.specs.Datons.{NodeAim}
use Rattle.lucid_equations.specs.Rows.{node_at}
use Rattle.lucid_equations.specs.declared.table.Table.{Table}
use Rattle.lucid_demand_steps.specs.Tasks.{plain_key}
use Rattle.lucid_demand_steps.specs.declared.aim.Aim.{Aim}

-- The aim in plain data, where these contexts are known: nowhere is no aim.
abbrev pub plain_aim : Table → List Context → Option Aim → NodeAim
plain_aim T known None = nowhere
plain_aim T known (Some a) = goes_to (plain_key known a.key).0 (record { node = node_at T a.body; context = context_of known a.tag }) a.time

-- The aim is one of the table and of the known contexts, at a space: its daton's and its body's, which are the reference's.
pub record IsAim (T : Table) (known : List Context) (space : ℕ) (a : Aim) : Type 0 where
  pub body : a.body < length T.nodes
  pub key_known : IsKnown known a.key.tag
  pub known_tag : IsKnown known a.tag
  pub key_space : space_of a.key.tag ≡ space
  pub same_space : space_of a.tag ≡ space

-- the context is that of the aim's daton
abbrev pub IsOfDaton : List Context → Option Aim → Context → Type 0
IsOfDaton known None c = ⊥
IsOfDaton known (Some a) c = c ≡ context_of known a.key.tag

-- it goes on with a daton, whose context isn't known
abbrev pub IsOfUnknown : List Context → NodeAim → Type 0
IsOfUnknown known (goes_to d x u) = IsUnknown known d.context
IsOfUnknown known _ = ⊥

-- one of the contexts isn't known
abbrev pub EntersUnknown : (known entered : List Context) → Type 0
EntersUnknown known cs = (c : Context) × In c cs × IsUnknown known c
