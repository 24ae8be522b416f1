use Rattle.lucid_parse.proofs.Common.{◌≡◌, [], ◌∷◌, None, reverse, take, search_from}
use Rattle.lucid_parse.proofs.depth.least_at.Given as goal

-- the search goes on as it began
abbrev pub invariant-loop-i : goal.invariant-loop-i
invariant-loop-i g l = search_from (reverse (take l.i l.items)) l.depths l.best ≡ search_from (reverse l.items) (l.depth ∷ []) None
