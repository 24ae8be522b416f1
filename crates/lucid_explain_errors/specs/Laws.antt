-- What holds of ways.
use Rattle.std.specs.Prelude.{◌≡◌, ℕ, ◌<◌, true, false, List, [], ◌∷◌, ◌++◌, slice_get}
use Rattle.lucid_tree.specs.Members.{In}
use Rattle.lucid_cert_rules.specs.Certificates.{PlainJudgment}
use Rattle.lucid_cert_rules.specs.Needs.{uses_at}
use Rattle.lucid_explain_errors.specs.declared.traced.Traced.{Traced}
use Rattle.lucid_explain_errors.specs.Ways.{Leads, is_traced_in}

-- From a judgment that has the value that is traced, each one that the way passes has it, and so has the one at the end.
abbrev pub WaysKeepTheValue : Type 0
WaysKeepTheValue =
    (x : Traced) (js : List PlainJudgment) (i end : ℕ) (passed : List ℕ) → is_traced_in x (slice_get js i) ≡ true → Leads x js i passed end
    → (k : ℕ) → In k (passed ++ end ∷ []) → is_traced_in x (slice_get js k) ≡ true

-- None of the earlier judgments that the one at the end uses has it: there the value arises.
abbrev pub ValuesAriseAtTheEnd : Type 0
ValuesAriseAtTheEnd =
    (x : Traced) (js : List PlainJudgment) (i end : ℕ) (passed : List ℕ) → Leads x js i passed end
    → (u : ℕ) → In u (uses_at js end) → u < end → is_traced_in x (slice_get js u) ≡ false
