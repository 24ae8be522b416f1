-- The laws of sound tables. Each is the contract of a function of `laws`.
use Rattle.std.specs.Prelude.{◌≡◌, ℕ, suc}
use Rattle.lucid_tree.specs.Members.{In, Inside}
use Rattle.lucid_tree.specs.Levels.{Elements, goes_to, referred}
use Rattle.lucid_tags.specs.Contexts.{Context}
use Rattle.lucid_equations.specs.Nodes.{PlainNode, Equations}
use Rattle.lucid_equations.specs.Datons.{Daton, NodePosition, node_aim}
use Rattle.lucid_equations.specs.Visits.{node_visits, visits}
use Rattle.lucid_equations.specs.Rows.{equations_of}
use Rattle.lucid_equations.specs.Sound.{IsSound}
use Rattle.lucid_equations.specs.declared.table.Table.{Table}
use Rattle.lucid_flat.specs.Met.{IsMet, EachReferenceLeads}
use Rattle.lucid_flat.specs.Fits.{EachDatonFits, EachDatonHasItsFrame}

-- In a sound table each reference that is met leads somewhere,
abbrev pub ReferencesOfSoundTablesLead : Type 0
ReferencesOfSoundTablesLead = (T : Table) → IsSound T → EachReferenceLeads (equations_of T)

-- each daton that is visited has a context that fits the scope of its name,
abbrev pub DatonsOfSoundTablesFit : Type 0
DatonsOfSoundTablesFit = (T : Table) → IsSound T → EachDatonFits T

-- and so the innermost frame that its entry wants.
abbrev pub DatonsOfSoundTablesHaveTheirFrames : Type 0
DatonsOfSoundTablesHaveTheirFrames = (T : Table) → IsSound T → EachDatonHasItsFrame T

-- Of all equations: what a node that is met visits there, the root visits.
abbrev pub WhatIsMetIsVisited : Type 0
WhatIsMetIsVisited =
    (p : Equations) (b : Elements) (limit d time space m : ℕ) (e : PlainNode) (c : Context) (t s : ℕ) → IsMet p b limit d time space m e c t s
    → Inside (node_visits p b m d e c t s) (visits p b limit d time space)

-- A node that is met, with a reference left, goes on with the daton's position, at its time.
pub record Referrer (p : Equations) (b : Elements) (limit d time space : ℕ) (k : Daton) (x : NodePosition) (u s : ℕ) : Type 0 where
  pub left : ℕ
  pub node : PlainNode
  pub context : Context
  pub from : ℕ
  pub met : IsMet p b limit d time space (suc left) node context from s
  pub aim : node_aim p node context from ≡ goes_to k x u

-- And each reference that the root visits is that of a node that is met.
abbrev pub WhatIsVisitedIsMet : Type 0
WhatIsVisitedIsMet =
    (p : Equations) (b : Elements) (limit d time space : ℕ) (k : Daton) (x : NodePosition) (u s : ℕ) → In (referred k x u s) (visits p b limit d time space)
    → Referrer p b limit d time space k x u s
