use Rattle.lucid_demand.proofs.Common.{slice_get-get_or, arith, rules, slice_index_or}
use Rattle.std.proofs.Common.{◌≡◌, length}
use Rattle.lucid_demand.proofs.turn.Evaluation.applied.Goals as goal

pub applied_to_one-requires-clause-first : goal.applied_to_one-requires-clause-first
applied_to_one-requires-clause-first g c =
    let three : length c.args.args ≡ 3 = search rules in
    c.requires.there 0 (slice_index_or c.args.args 0 0) (omega (arith, c.arity.ensures.arity, c.arity.ensures.some, c.arity.ensures.few, c.in-1.is))
    (slice_get-get_or c.args.args 0 0 (omega (arith, three)))

pub applied_to_two-requires-clause-first : goal.applied_to_two-requires-clause-first
applied_to_two-requires-clause-first g c =
    let three : length c.args.args ≡ 3 = search rules in
    c.requires.there 0 (slice_index_or c.args.args 0 0) (omega (arith, c.arity.ensures.arity, c.arity.ensures.some, c.arity.ensures.few, c.in-2.is))
    (slice_get-get_or c.args.args 0 0 (omega (arith, three)))

pub applied_to_two-requires-clause-second : goal.applied_to_two-requires-clause-second
applied_to_two-requires-clause-second g c =
    let three : length c.args.args ≡ 3 = search rules in
    c.requires.there 1 (slice_index_or c.args.args 1 0) (omega (arith, c.arity.ensures.arity, c.arity.ensures.some, c.arity.ensures.few, c.in-2.is))
    (slice_get-get_or c.args.args 1 0 (omega (arith, three)))

pub applied_to_three-requires-clause-there : goal.applied_to_three-requires-clause-there
applied_to_three-requires-clause-there g c = λ i n low is.
    c.requires.there i n (omega (arith, c.arity.ensures.arity, c.arity.ensures.some, c.arity.ensures.few, low)) is
