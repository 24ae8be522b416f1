-- Of a name that is defined twice an earlier definition is told.
use Rattle.lucid_explain_source.proofs.Common.{◌≡◌, ℕ, List, Bool, true, false, length, ap, subst}
use Rattle.std.specs.Prelude.{◌⊎◌, None, Some, IsSome, nat_eq, if◌then◌else◌}
use Rattle.lucid_scan.specs.Laws.{TokensAreInOrder}
use Rattle.lucid_tree.specs.Tree.{PlainTree}
use Rattle.lucid_tree.specs.Members.{In}
use Rattle.lucid_tree.proofs.Members.{stands_at}
use Rattle.lucid_scope.specs.Scope.{outermost, Meaning, free, plain_name, parameter, current_name, function, meaning}
use Rattle.lucid_scope.specs.Sites.{Site, named, called, again}
use Rattle.lucid_scope.specs.Bindings.{name_fault, call_fault, fault_of, all_sites, IsLeastFault}
use Rattle.lucid_scope.specs.declared.refusal.ScopeRefusal.{ScopeRefusal}
use Rattle.lucid_scope.specs.declared.refusal.ScopeRefusal.TheVariants as refusal
use Rattle.lucid_explain_source.specs.Accepted.{IsSpelt}
use Rattle.lucid_explain_source.specs.Scopes.{in_scope}
use Rattle.lucid_explain_source.specs.Names.{earlier, headed}
use Rattle.lucid_explain_source.proofs.Rising.{ordered, spelled_rises}
use Rattle.lucid_explain_source.proofs.Again.{again_told}

no_name_twice : (p : ℕ) (m : Meaning) (at : ℕ) → name_fault p m ≡ Some (refusal.Twice at) → ⊥
no_name_twice p free at e = cc
no_name_twice p (plain_name d t k) at e = cc
no_name_twice p (parameter d i q k) at e = cc
no_name_twice p (current_name d t k o) at e = cc
no_name_twice p (function d ns ats t k) at e = cc

no_arity_twice : (b : Bool) (p n m at : ℕ) → (if b then None else Some (refusal.Arity p n m)) ≡ Some (refusal.Twice at) → ⊥
no_arity_twice true p n m at e = cc
no_arity_twice false p n m at e = cc

no_call_twice : (p n : ℕ) (m : Meaning) (at : ℕ) → call_fault p n m ≡ Some (refusal.Twice at) → ⊥
no_call_twice p n free at e = cc
no_call_twice p n (plain_name d t k) at e = cc
no_call_twice p n (parameter d i q k) at e = cc
no_call_twice p n (current_name d t k o) at e = cc
no_call_twice p n (function d ns ats t k) at e = no_arity_twice (nat_eq (length ns) n) p (length ns) n at e

-- such a fault is that of a site at which a name stands again
again_of : (s : Site) (at : ℕ) → fault_of s ≡ Some (refusal.Twice at) → s ≡ again at
again_of (named p x k) at e = absurd (no_name_twice p (meaning x k) at e)
again_of (called p x n k) at e = absurd (no_call_twice p n (meaning x k) at e)
again_of (again p) at e = let f : p ≡ at = cc in ap again f

pub twice_told : TokensAreInOrder → (source : List ℕ) (tree : PlainTree) (at : ℕ) → IsSpelt source tree → IsLeastFault tree (refusal.Twice at)
    → IsSome (earlier at (in_scope at tree)) ⊎ IsSome (headed at (in_scope at tree))
twice_told law source tree at s f =
    let rises = spelled_rises s.spelled.2 0 (length source) (ordered s.spelled.1 0 (length source) (law source s.tokens s.scanned.listed)) in
    let P : Site → Type 0 = λ z. In z (all_sites tree) in
    let here : In (again at) (all_sites tree) = subst P (again_of f.site at f.is) (stands_at f.site (all_sites tree) f.stands.0 f.stands.1 f.stands.2) in
    again_told outermost tree at rises here
