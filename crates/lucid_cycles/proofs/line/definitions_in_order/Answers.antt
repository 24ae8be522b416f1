use Rattle.lucid_cycles.proofs.Common.{rules, subst, ap, ◌∙◌, ◌++◌, IsPermutation, IsNonDecreasingBy, scoped_tree, Definition, definitions, IsNonDecreasingBy-from_sort_by_key}
use Rattle.lucid_cycles.proofs.Defined.{named}
use Rattle.lucid_cycles.proofs.line.definitions_in_order.Goals as goal

pub returns : goal.returns
returns c =
    let e = scoped_tree c.args.scoped.now in
    let all : IsPermutation (definitions e) c.sort_by_key.new.self.items =
    subst (λ l. IsPermutation l c.sort_by_key.new.self.items) (c.in_ok-walk.ensures.marks ∙ ap (λ l. l ++ definitions e) c.new-found.ensures.items)
    c.in_ok-sort_by_key.ensures.permutation in
    let order : IsNonDecreasingBy (λ (d : Definition). d.at) c.sort_by_key.new.self.items =
    IsNonDecreasingBy-from_sort_by_key (λ (d : Definition). d.at) _ c.in_ok-sort_by_key.ensures.sorted (λ a r q k. search rules) in
    named e c.sort_by_key.new.self.items c.in_ok-walk.ensures.well_made.placed all order
