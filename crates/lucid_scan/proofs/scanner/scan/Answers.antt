-- One token after the other.
use Rattle.lucid_scan.proofs.Common.{ℕ, ◌+◌, ◌∙◌, ap, subst, arith, drop, length-drop, List, take_rest, gap, IsLongest, NoneStands, refusal_of}
use Rattle.lucid_scan.proofs.Scanned.{goes_on, gets_stuck, over, stops}
use Rattle.lucid_scan.proofs.Refused.{refused}
use Rattle.lucid_scan.proofs.scanner.scan.Goals as goal

pub returns-then-from-source-clause-tokens : goal.returns-then-from-source-clause-tokens
returns-then-from-source-clause-tokens c =
    over c.args.source.now c.loop-alloc.at c.gap_len.result c.loop-alloc.tokens.items
    (c.gap_len.ensures.value ∙ ap gap (take_rest c.args.source.now c.loop-alloc.at))
    c.loop-alloc.invariant.within c.if-from-source.true c.loop-alloc.invariant.goes_on

pub loop-alloc-preserved : goal.loop-alloc-preserved
loop-alloc-preserved c =
    let from = c.loop-alloc.at + c.gap_len.result in
    let longest = subst (λ (l : List ℕ). IsLongest l c.in-Some.front.kind c.in-Some.front.len) (take_rest c.args.source.now from)
    (rw c.in-Some.is at c.in_ok-found.ensures.some) in
    let gap_is = c.gap_len.ensures.value ∙ ap gap (take_rest c.args.source.now c.loop-alloc.at) in
    record {
      small = c.loop-alloc.invariant.small;
      within = omega (arith, longest.stands.within, length-drop (c.loop-alloc.at + c.gap_len.result) c.args.source.now, c.if-from-source.false);
      goes_on = goes_on c.args.source.now c.loop-alloc.at c.gap_len.result c.in-Some.front.len c.in-Some.front.kind c.loop-alloc.tokens.items _ gap_is longest
          c.in_ok-push-in-Some.ensures.items c.loop-alloc.invariant.goes_on;
      gets_stuck = gets_stuck c.args.source.now c.loop-alloc.at c.gap_len.result c.in-Some.front.len c.in-Some.front.kind gap_is longest
          c.loop-alloc.invariant.gets_stuck;
    }

pub returns-in-None-clause-refused : goal.returns-in-None-clause-refused
returns-in-None-clause-refused c =
    let from = c.loop-alloc.at + c.gap_len.result in
    let none = subst NoneStands (take_rest c.args.source.now from) (rw c.in-None.is at c.in_ok-found.ensures.none) in
    let gap_is = c.gap_len.ensures.value ∙ ap gap (take_rest c.args.source.now c.loop-alloc.at) in
    refused c.refusal_of.result c.args.source.now (drop from c.args.source.now) from c.loop-alloc.invariant.small
    (stops c.args.source.now c.loop-alloc.at c.gap_len.result gap_is c.if-from-source.false none c.loop-alloc.invariant.gets_stuck)
    (c.refusal_of.ensures ∙ ap (λ (l : List ℕ). refusal_of l from) (take_rest c.args.source.now from))
