use Rattle.lucid_cert_rules.proofs.FollowingCommon.{◌≡◌, ◌∷◌, [], Some, drop, length, root, table_of, contexts_behind, AreOfContexts, contexts_of}
use Rattle.lucid_tags.specs.Known.{IsOneForOne}
use Rattle.lucid_cert_rules.proofs.contexts.enter_all.Given as goal

-- The contexts so far, with those of the rows that are left, are those of all rows.
abbrev pub invariant-loop-row : goal.invariant-loop-row
invariant-loop-row l =
    (contexts_behind (length (table_of l.program).places) (contexts_of l.tags l.contexts.items) (drop l.row-index l.rows)
    ≡ contexts_behind (length (table_of l.program).places) (Some root ∷ []) l.rows)
    × (AreOfContexts l.tags l.contexts.items × IsOneForOne l.tags)
