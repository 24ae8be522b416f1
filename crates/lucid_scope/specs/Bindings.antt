-- What each name is bound to, and the faults of names.
use Rattle.std.specs.Prelude.{◌≡◌, ◌≢◌, ◌≤◌, ℕ, List, [], ◌∷◌, ◌++◌, length, fold, Option, Some, None, IsSome, All, Contains, nat_eq, if◌then◌else◌}
use Rattle.std.specs.List.{position_or_len, list_any}
use Rattle.std.specs.List.Sorted.{IsPermutation, IsNonDecreasingBy}
use Rattle.lucid_tree.specs.Tree.{PlainTree}
use Rattle.lucid_tree.specs.Env.{same_name}
use Rattle.lucid_scope.specs.Scope.{outermost, Meaning, free, plain_name, parameter, current_name, function, meaning}
use Rattle.lucid_scope.specs.Sites.{Site, named, called, again, site_at, sites}
use Rattle.lucid_scope.specs.declared.scoped.Binding.{Binding}
use Rattle.lucid_scope.specs.declared.scoped.Binding.TheVariants.{Plain, Parameter, Current, Function, Input}
use Rattle.lucid_scope.specs.declared.refusal.ScopeRefusal.{ScopeRefusal}
use Rattle.lucid_scope.specs.declared.refusal.ScopeRefusal.TheVariants.{Twice, NoFunction, NotFunction, IsFunction, Arity}

-- the binding of a name with this meaning; a free name is an input, by its number among the inputs
abbrev pub binding_of : (inputs : List (List ℕ)) → (name : List ℕ) → Meaning → Binding
binding_of inputs x free = Input (position_or_len (same_name x) inputs)
binding_of inputs x (plain_name d e k) = Plain d
binding_of inputs x (parameter d i at k) = Parameter d i
binding_of inputs x (current_name d e k o) = Current d
binding_of inputs x (function d ns ats e k) = Function d

-- the binding at a site at which a name stands
abbrev pub binding_for : (inputs : List (List ℕ)) → Site → Option Binding
binding_for inputs (named at x k) = Some (binding_of inputs x (meaning x k))
binding_for inputs (called at x n k) = Some (binding_of inputs x (meaning x k))
binding_for inputs (again at) = None

-- a name without arguments that belongs to a function
abbrev pub name_fault : (at : ℕ) → Meaning → Option ScopeRefusal
name_fault at free = None
name_fault at (plain_name d e k) = None
name_fault at (parameter d i p k) = None
name_fault at (current_name d e k o) = None
name_fault at (function d ns ats e k) = Some (IsFunction at)

-- a call of what is no function, or of a function with another number of parameters
abbrev pub call_fault : (at given : ℕ) → Meaning → Option ScopeRefusal
call_fault at n free = Some (NoFunction at)
call_fault at n (plain_name d e k) = Some (NotFunction at)
call_fault at n (parameter d i p k) = Some (NotFunction at)
call_fault at n (current_name d e k o) = Some (NotFunction at)
call_fault at n (function d ns ats e k) = if nat_eq (length ns) n then None else Some (Arity at (length ns) n)

-- the fault of a site
abbrev pub fault_of : Site → Option ScopeRefusal
fault_of (named at x k) = name_fault at (meaning x k)
fault_of (called at x n k) = call_fault at n (meaning x k)
fault_of (again at) = Some (Twice at)

-- the sites of a program
abbrev pub all_sites : PlainTree → List Site
all_sites e = sites outermost e

-- no name of the program is at fault
abbrev pub HasNoFault : PlainTree → Type 0
HasNoFault e = All (λ s. fault_of s ≡ None) (all_sites e)

-- the fault is one of the program's, and none stands at a lesser place
pub record IsLeastFault (e : PlainTree) (fault : ScopeRefusal) : Type 0 where
  pub site : Site
  pub stands : Contains (all_sites e) site
  pub is : fault_of site ≡ Some fault
  pub least : All (λ s. IsSome (fault_of s) → site_at site ≤ site_at s) (all_sites e)

-- one name more among the inputs, where it is free and is not there yet
abbrev pub with_input : (inputs : List (List ℕ)) → (name : List ℕ) → Meaning → List (List ℕ)
with_input inputs x free = if list_any (same_name x) inputs then inputs else inputs ++ x ∷ []
with_input inputs x (plain_name d e k) = inputs
with_input inputs x (parameter d i at k) = inputs
with_input inputs x (current_name d e k o) = inputs
with_input inputs x (function d ns ats e k) = inputs

abbrev pub with_site : (inputs : List (List ℕ)) → Site → List (List ℕ)
with_site inputs (named at x k) = with_input inputs x (meaning x k)
with_site inputs (called at x n k) = with_input inputs x (meaning x k)
with_site inputs (again at) = inputs

-- the free names of sites, in order, without repeats
abbrev pub free_names : List Site → List (List ℕ)
free_names ss = fold with_site [] ss

-- The inputs of a program: the free names of its sites in the order of their places, without repeats.
pub record AreInputs (e : PlainTree) (inputs : List (List ℕ)) : Type 0 where
  pub order : List Site
  pub permutes : IsPermutation (all_sites e) order
  pub rises : IsNonDecreasingBy site_at order
  pub names : inputs ≡ free_names order

-- Each name and call has its binding at its place, and no other place has one.
pub record AreBindings (e : PlainTree) (inputs : List (List ℕ)) (bindings : ℕ → Option Binding) : Type 0 where
  pub bound : All (λ s. bindings (site_at s) ≡ binding_for inputs s) (all_sites e)
  pub others : (at : ℕ) → All (λ s. site_at s ≢ at) (all_sites e) → bindings at ≡ None

-- What is known of a program whose names have no fault.
pub record IsResolved (e : PlainTree) (inputs : List (List ℕ)) (bindings : ℕ → Option Binding) : Type 0 where
  pub no_fault : HasNoFault e
  pub inputs_are : AreInputs e inputs
  pub bindings_are : AreBindings e inputs bindings
