use Rattle.lucid_parse.proofs.Common.{◌≡◌, Some, take, built, no_piles, plain_piles, items_of}
use Rattle.lucid_parse.proofs.build.build.Given as goal

-- the nodes so far are on the piles
abbrev pub invariant-loop-item : goal.invariant-loop-item
invariant-loop-item l = built (take l.item-index (items_of l.items)) no_piles ≡ Some (plain_piles l.piles)
