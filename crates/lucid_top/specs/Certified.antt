-- A program of which a certificate was made.
use Rattle.std.specs.Prelude.{◌≡◌, Result, Ok, Err}
use Rattle.lucid_ports.specs.World.{World}
use Rattle.lucid_scope.specs.Scoped.{scoped_tree, scoped_inputs}
use Rattle.lucid_equations.specs.Programs.{table_of}
use Rattle.lucid_compile.specs.Settled.{table_of as tree_table}
use Rattle.lucid_words.specs.Asked.{PlainWords}
use Rattle.lucid_report.specs.Status.{Outcome}
use Rattle.lucid_report.specs.declared.stop.Done.TheVariants as done
use Rattle.lucid_report.specs.declared.stop.Stop.{Stop}
use Rattle.lucid_top.specs.Judged.{AreResolved}
use Rattle.lucid_top.specs.Places.{IsAccepted}
use Rattle.lucid_top.specs.declared.certificates.Certified.{Certified}

-- the outcome of a call that gives something where the certificate is written
abbrev pub made_outcome : {X : Type 0} → Result X Stop → Outcome
made_outcome (Ok x) = Ok done.Written
made_outcome (Err why) = Err why

-- The tree is what the words' source is accepted as, its names belong somewhere, and the table is its own.
pub record IsOfWords (words : PlainWords) (before : World) (c : Certified) : Type 0 where
  pub accepted : IsAccepted words.source before (scoped_tree c.scoped)
  pub resolved : AreResolved c.scoped
  pub table : table_of c.program ≡ tree_table (scoped_tree c.scoped) (scoped_inputs c.scoped)
