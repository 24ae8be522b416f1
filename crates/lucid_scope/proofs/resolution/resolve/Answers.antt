use Rattle.lucid_scope.proofs.resolution.resolve.Goals as goal

-- the copy is the tree that the names were found of
pub invariant_of-result : goal.invariant_of-result
invariant_of-result c = record {
  resolved = rw c.in_ok-tree.ensures c.in_ok-inputs.ensures.resolved;
  well_made = rw c.in_ok-tree.ensures c.requires;
}
