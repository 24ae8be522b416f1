-- A certificate under check.
use Rattle.std.specs.Prelude.{◌≡◌, List, Option, Some, map}
use Rattle.lucid_tree.specs.Members.{AllDiffer}
use Rattle.lucid_tags.specs.Contexts.{Context}
use Rattle.lucid_tags.specs.Known.{IsOneForOne, context_of}
use Rattle.lucid_tags.specs.declared.Tag.{Tag}
use Rattle.lucid_equations.specs.Programs.{table_of}
use Rattle.lucid_equations.specs.Ranges.{NodeNames, sizes}
use Rattle.lucid_equations.specs.Rows.{node_at, node_by, row_at}
use Rattle.lucid_equations.specs.declared.rows.Node.{Node}
use Rattle.lucid_equations.specs.declared.table.Table.{Table}
use Rattle.lucid_cert_rules.specs.Certificates.{PlainJudgment, plain_judgment}
use Rattle.lucid_cert_rules.specs.Follows.{HasForm}
use Rattle.lucid_cert_rules.specs.Checking.{IsOfContext, AreOfContexts, contexts_of}
use Rattle.lucid_cert.specs.declared.check.Check.{Check}

-- the judgments and the contexts of a check
abbrev pub judgments_of : Check → List PlainJudgment
judgments_of c = map plain_judgment c.judgments.now

abbrev pub contexts_in : Check → List (Option Context)
contexts_in c = contexts_of c.tags c.contexts.items

-- the tags of its contexts are known, each context once; and the names of the program's inputs differ
pub record IsSoundCheck (c : Check) : Type 0 where
  pub contexts : AreOfContexts c.tags c.contexts.items
  pub once : IsOneForOne c.tags
  pub names : AllDiffer (table_of c.program.now).inputs

-- A judgment that can follow: the row of its node, and its context by its tag.
pub record HasRow (T : Table) (c : Check) (j : PlainJudgment) (node : Node) (tag : Tag) : Type 0 where
  pub form : HasForm T (contexts_in c) j (context_of c.tags tag)
  pub is_context : IsOfContext c.tags tag
  pub row : row_at T j.node ≡ Some node
  pub meaning : node_at T j.node ≡ node_by T node
  pub in_range : NodeNames (sizes T) node

-- another state of the same check: of its program and its judgments, with the same contexts
pub record IsSameCheck (old new : Check) : Type 0 where
  pub program : new.program.now ≡ old.program.now
  pub judgments : judgments_of new ≡ judgments_of old
  pub contexts : contexts_in new ≡ contexts_in old
