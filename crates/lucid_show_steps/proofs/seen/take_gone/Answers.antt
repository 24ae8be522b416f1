use Rattle.lucid_show_steps.proofs.Counted.{tells}
use Rattle.lucid_show_steps.proofs.seen.take_gone.Goals as goal

pub returns-clause-told : goal.returns-clause-told
returns-clause-told c =
    let g = c.gone_front-gone.ensures in
    tells c.args.count c.gone_front-gone.result c.args.keys.now.items c.deref.result.now c.deref-2.result.now c.deref-3.result.now c.in_ok-keys.field-0.items
    c.in_ok-dropped.dropped.items c.gone_front-gone.new.warehouse c.deref.ensures.value c.deref-2.ensures.value c.deref-3.ensures.value
    c.in_ok-dropped.ensures.items c.in_ok-keys.ensures.items g.within g.few g.gone g.rest
