use Rattle.lucid_tree.proofs.Common.{Reads}
use Rattle.lucid_tree.proofs.SearchesLead.{count-keeps, counted_truth, rest_at_start, search_leads}
use Rattle.lucid_tree.proofs.laws.counts_lead_searches.Goals as goal

pub returns-clause-stay : goal.returns-clause-stay
returns-clause-stay c f g j n h e = count-keeps f g h j n e

pub returns-clause-truths : goal.returns-clause-truths
returns-clause-truths c f j n u e l = counted_truth f j n e u l

pub returns-clause-begin : goal.returns-clause-begin
returns-clause-begin c = rest_at_start

pub returns-clause-lead : goal.returns-clause-lead
returns-clause-lead c f m j n t s r h e = search_leads (Reads r) (λ u. r 1 u s) f m j n t s (λ u b l d. d) h e
