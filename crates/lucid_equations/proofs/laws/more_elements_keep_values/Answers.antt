use Rattle.lucid_equations.proofs.MoreElements.{node_hval-extends, meaning-extends, held-extends, node_visits-extends, consults-extend, node_visits-alike, needed-same}
use Rattle.lucid_equations.proofs.laws.more_elements_keep_values.Goals as goal

pub returns-clause-values : goal.returns-clause-values
returns-clause-values c = node_hval-extends

pub returns-clause-visits : goal.returns-clause-visits
returns-clause-visits c = node_visits-extends

pub returns-clause-consults : goal.returns-clause-consults
returns-clause-consults c = consults-extend

pub returns-clause-same : goal.returns-clause-same
returns-clause-same c = node_visits-alike

pub returns-clause-needed : goal.returns-clause-needed
returns-clause-needed c = needed-same

pub returns-clause-meanings : goal.returns-clause-meanings
returns-clause-meanings c = meaning-extends

pub returns-clause-held : goal.returns-clause-held
returns-clause-held c = held-extends
