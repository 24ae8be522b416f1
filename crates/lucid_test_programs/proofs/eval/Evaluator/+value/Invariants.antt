use Rattle.lucid_test_programs.proofs.Common.{map, drop, ◌≤◌, ◌≡◌, ◌+◌, ◌-◌, ◌^◌, nodes, nodes_in, nodes_in_defs, trees_of, env_of, found_by, counted_by, each_value, plain, ◌*◌}
use Rattle.lucid_test_programs.proofs.Parts.{before_all}
use Rattle.lucid_test_programs.proofs.eval.Evaluator.+value.Given as goal

-- a reference lowers the limit, and each other step goes on to a smaller tree
abbrev pub decreases-value : goal.decreases-value
decreases-value l = l.at.now.limit * 2 ^ 32 + 2 * nodes l.tree.now

abbrev pub decreases-named : goal.decreases-named
decreases-named l = l.at.now.limit * 2 ^ 32 + 1

abbrev pub decreases-choose : goal.decreases-choose
decreases-choose l = l.at.now.limit * 2 ^ 32 + 2 * (nodes l.test.now + nodes l.yes.now + nodes l.no.now) + 1

abbrev pub decreases-scoped : goal.decreases-scoped
decreases-scoped l = l.at.now.limit * 2 ^ 32 + 2 * (nodes l.block.now.subject + nodes_in_defs l.block.now.defs) + 1

abbrev pub decreases-both : goal.decreases-both
decreases-both l = l.at.now.limit * 2 ^ 32 + 2 * (nodes l.left.now + nodes l.right.now) + 1

abbrev pub decreases-either : goal.decreases-either
decreases-either l = l.at.now.limit * 2 ^ 32 + 2 * (nodes l.left.now + nodes l.right.now) + 1

abbrev pub decreases-search : goal.decreases-search
decreases-search l = l.at.now.limit * 2 ^ 32 + 2 * (nodes l.subject.now + nodes l.test.now) + 1

-- what is left finds what the whole search finds
abbrev pub invariant-search-loop-j : goal.invariant-search-loop-j
invariant-search-loop-j l =
    found_by l.self.streams.now l.at.limit l.subject l.test (env_of l.at.env.now) l.at.limit 0 l.number l.at.space ≡ found_by l.self.streams.now l.at.limit
    l.subject l.test (env_of l.at.env.now) (l.at.limit - l.j) l.j l.left l.at.space

abbrev pub decreases-attime : goal.decreases-attime
decreases-attime l = l.at.now.limit * 2 ^ 32 + 2 * (nodes l.left.now + nodes l.right.now) + 1

abbrev pub decreases-atspace : goal.decreases-atspace
decreases-atspace l = l.at.now.limit * 2 ^ 32 + 2 * (nodes l.left.now + nodes l.right.now) + 1

abbrev pub decreases-applied : goal.decreases-applied
decreases-applied l = l.at.now.limit * 2 ^ 32 + 2 * nodes_in l.args.now + 1

abbrev pub decreases-counted : goal.decreases-counted
decreases-counted l = l.at.now.limit * 2 ^ 32 + 2 * (nodes l.subject.now + nodes l.test.now) + 1

abbrev pub decreases-called : goal.decreases-called
decreases-called l = l.at.now.limit * 2 ^ 32 + 1

-- what is left counts what the whole count counts
abbrev pub invariant-counted-loop-time : goal.invariant-counted-loop-time
invariant-counted-loop-time l = record {
  same : counted_by l.self.streams.now l.at.limit l.subject l.test (env_of l.at.env.now) l.at.time l.at.time 0 0 l.at.space ≡ counted_by l.self.streams.now
      l.at.limit l.subject l.test (env_of l.at.env.now) l.at.time (l.at.time - l.time) l.time l.number l.at.space;
  few : l.number ≤ l.time;
}

-- the values so far, and those of the rest, are all
abbrev pub invariant-applied-loop-arg : goal.invariant-applied-loop-arg
invariant-applied-loop-arg l =
    each_value l.self.streams.now l.at.limit (trees_of l.arg-items) (env_of l.at.env.now) l.at.time l.at.space ≡ before_all (map plain l.values.items)
    (each_value l.self.streams.now l.at.limit (trees_of (drop l.arg-index l.arg-items)) (env_of l.at.env.now) l.at.time l.at.space)
