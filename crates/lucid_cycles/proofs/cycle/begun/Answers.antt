use Rattle.lucid_cycles.proofs.Common.{◌≡◌, ◌<◌, ◌≤◌, ℕ, length, get_or, sym, ap, subst, ◌∙◌, arith}
use Rattle.lucid_cycles.proofs.Trails.{cycle-some, cycle-length, begun-cycle}
use Rattle.lucid_cycles.proofs.cycle.begun.Goals as goal

pub least_at-least-requires : goal.least_at-least-requires
least_at-least-requires c = omega (arith, ap length c.deref.ensures.value, cycle-some c.args.edges.now c.args.names.items c.args.delays.items c.requires.cycle)

pub rotate_left-requires-2 : goal.rotate_left-requires-2
rotate_left-requires-2 c =
    let same = cycle-length c.args.edges.now c.args.names.items c.args.delays.items c.requires.cycle in
    omega (arith, same, ap length c.deref.ensures.value, c.least_at-least.ensures.within, c.args.delays.ok)

pub returns : goal.returns
returns c =
    let whole : c.deref.result.now ≡ c.args.names.items = c.deref.ensures.value in
    begun-cycle c.args.edges.now c.args.names.items c.args.delays.items c.least_at-least.result c.from_vec-names.result c.from_vec-delays.result c.requires
    (subst (λ l. c.least_at-least.result < length l) whole c.least_at-least.ensures.within)
    (subst (λ l. (k : ℕ) → k < length l → get_or l c.least_at-least.result 0 ≤ get_or l k 0) whole c.least_at-least.ensures.least)
    (c.from_vec-names.ensures ∙ c.rotate_left.ensures.items) (c.from_vec-delays.ensures ∙ c.rotate_left-2.ensures.items)
