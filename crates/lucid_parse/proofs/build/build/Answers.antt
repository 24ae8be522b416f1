-- No node lacks its parts, and the tree is left.
use Rattle.lucid_parse.proofs.Common.{◌≡◌, ◌+◌, [], ◌∷◌, None, sym, ◌∙◌, plain_piles, items_of}
use Rattle.lucid_parse.proofs.Building.{put_item, items_over}
use Rattle.lucid_parse.proofs.Built.{never_lacks, all_built}
use Rattle.lucid_parse.proofs.build.build.Goals as goal

pub prove-unreachable-requires : goal.prove-unreachable-requires
prove-unreachable-requires c =
    let lacks = rw c.if-prove.true at c.in_ok-there.ensures in
    never_lacks c.requires.2 (items_of c.args.items.now) (c.loop-item.item-index + 1) c.requires.3
    (put_item c.args.items.now c.loop-item.item-index _ (plain_piles c.loop-item.piles) None c.loop-item-test.true c.item-item.is c.loop-item.invariant lacks)

pub loop-item-preserved : goal.loop-item-preserved
loop-item-preserved c =
    let puts = rw c.if-prove.false at c.in_ok-there.ensures in
    put_item c.args.items.now c.loop-item.item-index _ (plain_piles c.loop-item.piles) _ c.loop-item-test.true c.item-item.is c.loop-item.invariant puts

pub unreachable-requires : goal.unreachable-requires
unreachable-requires c =
    let none = rw c.in-None.is at c.pop.ensures in
    let one = all_built c.requires.2 (items_of c.args.items.now) c.loop-item.item-index _ c.requires.3 (items_over c.args.items.now _ c.loop-item-test.false)
    c.loop-item.invariant in
    let both : c.requires.1 ∷ [] ≡ [] = sym one ∙ none.0 in cc

pub returns : goal.returns
returns c = λ ws t s e.
    let some = rw c.in-Some.is at c.pop.ensures in
    let one = all_built s (items_of c.args.items.now) c.loop-item.item-index _ e (items_over c.args.items.now _ c.loop-item-test.false) c.loop-item.invariant in
    let both : t ∷ [] ≡ c.in-Some.tree ∷ c.pop.new.self = sym one ∙ some in cc
