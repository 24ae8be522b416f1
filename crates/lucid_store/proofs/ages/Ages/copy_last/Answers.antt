use Rattle.lucid_store.proofs.Common.{◌≡◌, ◌-◌, length, slice_get, Some, sym, ap, ◌∙◌, arith, slice_set}
use Rattle.lucid_store.proofs.AgeLemmas.{all-there, zero-there, set-view, set-zero, read_or}
use Rattle.lucid_store.proofs.ages.Ages.copy_last.Goals as goal

pub at-last-requires : goal.at-last-requires
at-last-requires c =
    let all = all-there c.self.inside.written.items c.args.self.now c.self.inside.count c.self.view_is c.self.invariant.0 in
    omega (arith, all, c.requires)

pub returns-then-index-len : goal.returns-then-index-len
returns-then-index-len c = λ d.
    let all = all-there c.self.inside.written.items c.args.self.now c.self.inside.count c.self.view_is c.self.invariant.0 in
    let at : slice_get c.args.self.now (length c.args.self.now - 1) ≡ Some c.at-last.result = ap (λ k. slice_get c.args.self.now (k - 1)) all
    ∙ c.at-last.ensures in
    set-view c.self.inside.written.items _ c.args.self.now c.self.inside.count c.args.index c.at-last.result c.self.view_is (omega arith)
    (λ i. slice_set c.self.inside.written.items c.args.index c.at-last.result)
    ∙ ap (slice_set c.args.self.now c.args.index) (sym (read_or c.args.self.now (length c.args.self.now - 1) c.at-last.result d at))

pub returns-else-index-len : goal.returns-else-index-len
returns-else-index-len c = λ d.
    let all = all-there c.self.inside.written.items c.args.self.now c.self.inside.count c.self.view_is c.self.invariant.0 in
    let zero = zero-there c.self.inside.written.items c.args.self.now c.self.inside.count in
    let last : slice_get c.args.self.now (length c.args.self.now - 1) ≡ Some 0 =
    zero (length c.args.self.now - 1) c.self.view_is c.self.invariant.0 (omega (arith, all, c.requires)) (omega (arith, all, c.requires)) in
    let here : slice_get c.args.self.now c.args.index ≡ Some 0 =
    zero c.args.index c.self.view_is c.self.invariant.0 (omega arith) (omega (arith, all, c.requires)) in
    sym (ap (slice_set c.args.self.now c.args.index) (read_or c.args.self.now (length c.args.self.now - 1) 0 d last)
    ∙ set-zero c.args.self.now c.args.index here)
