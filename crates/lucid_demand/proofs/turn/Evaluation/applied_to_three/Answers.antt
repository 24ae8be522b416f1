use Rattle.lucid_demand.proofs.Common.{sym, ap, ◌∙◌, arith, rules, option_copied, slice_get-get_or, slice_index_or, plain, arity, value_of}
use Rattle.std.proofs.Common.{◌≡◌, Some, length}
use Rattle.std.specs.Prelude.{option_map}
use Rattle.lucid_demand.proofs.TakenParts.{applied_three}
use Rattle.lucid_demand.proofs.turn.Evaluation.applied_to_three.Goals as goal

pub argument-requires-clause-node : goal.argument-requires-clause-node
argument-requires-clause-node g c =
    let three : length c.args.args ≡ 3 = search rules in
    (c.requires.there 0 (slice_index_or c.args.args 0 0) (omega arith) (slice_get-get_or c.args.args 0 0 (omega (arith, three)))).in_table

pub argument-requires-2-clause-node : goal.argument-requires-2-clause-node
argument-requires-2-clause-node g c =
    let three : length c.args.args ≡ 3 = search rules in
    (c.requires.there 1 (slice_index_or c.args.args 1 0) (omega arith) (slice_get-get_or c.args.args 1 0 (omega (arith, three)))).in_table

pub argument-requires-3-clause-node : goal.argument-requires-3-clause-node
argument-requires-3-clause-node g c =
    let three : length c.args.args ≡ 3 = search rules in
    (c.requires.there 2 (slice_index_or c.args.args 2 0) (omega arith) (slice_get-get_or c.args.args 2 0 (omega (arith, three)))).in_table

pub returns : goal.returns
returns g c =
    let e = c.args.self.now in
    let three : length c.args.args ≡ 3 = search rules in
    let first : value_of e c.args.slot 0 (slice_index_or c.args.args 0 0) ≡ Some (plain c.in-Some-Some-Some.first.now) = sym c.argument.ensures
    ∙ ap (λ o. option_map plain (option_copied o)) c.in-Some-Some-Some.is-0 in
    let second : value_of e c.args.slot 1 (slice_index_or c.args.args 1 0) ≡ Some (plain c.in-Some-Some-Some.second.now) = sym c.argument-2.ensures
    ∙ ap (λ o. option_map plain (option_copied o)) c.in-Some-Some-Some.is-1 in
    let third : value_of e c.args.slot 2 (slice_index_or c.args.args 2 0) ≡ Some (plain c.in-Some-Some-Some.third.now) = sym c.argument-3.ensures
    ∙ ap (λ o. option_map plain (option_copied o)) c.in-Some-Some-Some.is-2 in
    let count : 3 ≡ arity c.args.op = search rules in
    applied_three c.args.op e c.args.slot c.args.args three (plain c.in-Some-Some-Some.first.now) (plain c.in-Some-Some-Some.second.now)
    (plain c.in-Some-Some-Some.third.now) first second third c.apply_to_three.result c.apply_to_three.ensures count
