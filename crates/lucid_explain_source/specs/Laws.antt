-- What holds of all sources: none is both accepted and refused, one fault alone is explained, and of a name that is defined twice an earlier
-- definition is told.
use Rattle.std.specs.Prelude.{◌≡◌, ℕ, List, ◌⊎◌, IsSome}
use Rattle.lucid_tree.specs.Tree.{PlainTree}
use Rattle.lucid_scope.specs.declared.refusal.ScopeRefusal.TheVariants as refusal
use Rattle.lucid_scope.specs.Bindings.{IsLeastFault}
use Rattle.lucid_explain_source.specs.declared.fault.Fault.{Fault}
use Rattle.lucid_explain_source.specs.Accepted.{IsSpelt, IsAccepted, IsTurnedDown}
use Rattle.lucid_explain_source.specs.Scopes.{in_scope}
use Rattle.lucid_explain_source.specs.Names.{earlier, headed}
use Rattle.lucid_explain_source.specs.Sources.{Explains}

-- A source that is accepted isn't refused.
abbrev pub AcceptedAreNotRefused : Type 0
AcceptedAreNotRefused = (source : List ℕ) → IsAccepted source → IsTurnedDown source → ⊥

-- What explains a source is said of one that is refused.
abbrev pub ExplainedAreRefused : Type 0
ExplainedAreRefused = (file source : List ℕ) (fault : Fault) (text : List ℕ) → Explains file source fault text → IsTurnedDown source

-- A source has one fault alone that is explained.
abbrev pub OneFaultIsExplained : Type 0
OneFaultIsExplained =
    (file source : List ℕ) (fault : Fault) (text : List ℕ) (other : Fault) (said : List ℕ)
    → Explains file source fault text → Explains file source other said → fault ≡ other

-- Of a name that is defined twice an earlier definition of it is found, or the function in whose parameters it stands again.
abbrev pub TwiceIsTold : Type 0
TwiceIsTold =
    (source : List ℕ) (tree : PlainTree) (at : ℕ) → IsSpelt source tree → IsLeastFault tree (refusal.Twice at)
    → IsSome (earlier at (in_scope at tree)) ⊎ IsSome (headed at (in_scope at tree))
