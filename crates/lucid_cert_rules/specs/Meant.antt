-- The law of certificates, over all tables in range, inputs and certificates, whoever made them.
use Rattle.std.specs.Prelude.{◌≡◌, ℕ, ◌+◌, ◌<◌, ◌≤◌, Some, length, slice_get}
use Rattle.lucid_tree.specs.Levels.{Elements}
use Rattle.lucid_tags.specs.Contexts.{Context}
use Rattle.lucid_equations.specs.Values.{node_val}
use Rattle.lucid_equations.specs.Rows.{node_at, equations_of}
use Rattle.lucid_equations.specs.Ranges.{IsInRange}
use Rattle.lucid_equations.specs.declared.table.Table.{Table}
use Rattle.lucid_cert_rules.specs.Certificates.{PlainJudgment}
use Rattle.lucid_cert_rules.specs.declared.rows.Why.{Why}
use Rattle.lucid_cert_rules.specs.Follows.{AllFollow, context_in, contexts}

-- no judgment below a number has a time and uses that together are more than this
abbrev pub AreWithin : Why → (below most : ℕ) → Type 0
AreWithin w n most = (i : ℕ) (j : PlainJudgment) → i < n → slice_get w.judgments i ≡ Some j → j.time + length j.uses ≤ most

-- What follows is meant: where all judgments below a number follow, each has the value of its node's approximation in its context at its
-- point, and the limit can be read off the certificate.
abbrev pub WhatFollowsIsMeant : Type 0
WhatFollowsIsMeant =
    (T : Table) → IsInRange T → (b : Elements) (w : Why) (n most : ℕ) → AllFollow T b w n → AreWithin w n most
    → (i : ℕ) (j : PlainJudgment) (c : Context) → i < n → slice_get w.judgments i ≡ Some j → context_in (contexts T w) j.context ≡ Some c
    → node_val (equations_of T) b (i + 1 + most) (node_at T j.node) c j.time j.space ≡ Some j.value
