use Rattle.lucid_cert_rules.proofs.NeedCommon.{ℕ, List, [], map, refl, sym, subst, on_ok_weaker, plain_judgment}
use Rattle.lucid_cert_rules.specs.declared.cell.Cell.{Cell}
use Rattle.lucid_cert_rules.specs.Outlines.{CellNeeds, of_element, of_name}
use Rattle.lucid_cert_rules.specs.Walks.{WaitsFor}
use Rattle.lucid_cert_rules.proofs.telling.Telling.wait_for_needs.Goals as goal

pub returns-in-Element : goal.returns-in-Element
returns-in-Element c = (
  [],
  subst (λ (x : Cell). CellNeeds c.args.table.now (map plain_judgment c.args.judgments.now) x []) (sym c.in-Element.is) of_element,
  record { waiting = refl; told = refl; entries = refl },
)

pub returns-in_ok-found-in-Named : goal.returns-in_ok-found-in-Named
returns-in_ok-found-in-Named c =
    let found = c.in_ok-found-in-Named.found.items in
    on_ok_weaker c.wait_for.result
    (λ waits. (
      found,
      subst (λ (x : Cell). CellNeeds c.args.table.now (map plain_judgment c.args.judgments.now) x found) (sym c.in-Named.is) (of_name c.in_ok-found-in-Named.ensures),
      subst (λ (ns : List ℕ). WaitsFor c.args.self.now c.wait_for.new.self ns c.args.depth) c.deref.ensures.value waits,
    )) c.wait_for.ensures
