use Rattle.lucid_compile.proofs.Common.{◌≡◌, ◌<◌, ◌≤◌, length, get_or, slice_get, arith, sym, ap, ◌∙◌, Key, Lists, lists, Numbered, numbered, callee_number, row_by, with_names}
use Rattle.lucid_compile.proofs.Calling.{calls-none, calls-more, calls-all}
use Rattle.lucid_compile.proofs.linking.add_calls.Goals as goal

pub loop-i-init : goal.loop-i-init
loop-i-init c = calls-none (numbered c.args.source.now) (lists c.args.rows.now)

pub loop-i-preserved : goal.loop-i-preserved
loop-i-preserved c =
    let w : Numbered = numbered c.args.source.now in
    let before : Lists = lists c.loop-i.rows in
    let key : Key = c.index.result.now in
    let within : c.loop-i.i < length before.keys.calls = omega arith in
    let here : get_or before.keys.calls c.loop-i.i key ≡ key = sym c.index.ensures in
    let row : c.call_row-row.result ≡ row_by (slice_get before.bodies (callee_number w key.at)) = c.call_row-row.ensures
    ∙ ap (λ l. row_by (slice_get l (callee_number w key.at))) c.deref.ensures.value in
    ap (λ ns. with_names ns before) c.in_ok-push.ensures.items
    ∙ calls-more w (lists c.args.rows.now) before c.loop-i.i key c.call_row-row.result c.loop-i.invariant within here row

pub returns : goal.returns
returns c =
    let past : length (lists c.loop-i.rows).keys.calls ≤ c.loop-i.i = omega arith in
    calls-all (numbered c.args.source.now) (lists c.args.rows.now) (lists c.loop-i.rows) c.loop-i.i c.loop-i.invariant past
