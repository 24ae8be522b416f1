-- Each token's span lies within the source, and its terminal is the next terminal's.
use Rattle.lucid_parse.proofs.Common.{arith, refl, Token}
use Rattle.lucid_scan.specs.declared.token.TokenKind.TheVariants as kind
use Rattle.lucid_parse.proofs.Texts.{terminals_more, no_terminals, starts_before, ends_within}
use Rattle.lucid_parse.proofs.terminals.read_terminals.Goals as goal

abbrev none : Token
none = record { kind = kind.Name; from = 0; to = 0 }

pub loop-token-init : goal.loop-token-init
loop-token-init c = no_terminals c.args.source.now _ c.new-terminals.ensures.items

pub slice_bounds-bytes-count : goal.slice_bounds-bytes-count
slice_bounds-bytes-count c =
    let starts = starts_before c.args.source.now c.args.tokens.now c.requires c.tokens_stand.ensures c.loop-token.token-index none c.loop-token-test.true in
    omega (arith, starts)

pub slice_bounds-bytes-start : goal.slice_bounds-bytes-start
slice_bounds-bytes-start c =
    let starts = starts_before c.args.source.now c.args.tokens.now c.requires c.tokens_stand.ensures c.loop-token.token-index none c.loop-token-test.true in
    omega (arith, starts)

pub slice_bounds-bytes-end : goal.slice_bounds-bytes-end
slice_bounds-bytes-end c =
    let ends = ends_within c.args.source.now c.args.tokens.now c.requires c.tokens_stand.ensures c.loop-token.token-index none c.loop-token-test.true in
    omega (arith, ends)

pub loop-token-preserved : goal.loop-token-preserved
loop-token-preserved c =
    terminals_more c.args.source.now c.args.tokens.now c.loop-token.token-index none c.loop-token.terminals.items _ _ c.loop-token.invariant
    c.loop-token-test.true
    c.in_ok-push.ensures.items refl c.in_ok-terminal.ensures.terminal
