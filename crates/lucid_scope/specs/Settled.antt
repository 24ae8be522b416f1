-- What marks say: faults, inputs and bindings, as sites say them.
use Rattle.std.specs.Prelude.{◌≡◌, ◌<◌, ◌≤◌, ◌^◌, ℕ, List, [], ◌∷◌, ◌++◌, length, Option, Some, None, nat_eq, get_or, sum_by, if◌then◌else◌}
use Rattle.std.specs.List.{position_or_len, list_any}
use Rattle.lucid_tree.specs.Env.{same_name}
use Rattle.lucid_scope.specs.declared.scoped.Binding.{Binding}
use Rattle.lucid_scope.specs.declared.scoped.Binding.TheVariants.{Plain, Parameter, Current, Function, Input}
use Rattle.lucid_scope.specs.declared.refusal.ScopeRefusal.{ScopeRefusal}
use Rattle.lucid_scope.specs.declared.refusal.ScopeRefusal.TheVariants.{Twice, NoFunction, NotFunction, IsFunction, Arity}
use Rattle.lucid_scope.specs.declared.table.Owner.{Owner}
use Rattle.lucid_scope.specs.declared.table.Owner.TheVariants.{Plain as PlainOwner, Parameter as ParameterOwner, Current as CurrentOwner, Function as FunctionOwner}
use Rattle.lucid_scope.specs.declared.marks.Mark.{Mark}
use Rattle.lucid_scope.specs.declared.marks.What.{What}
use Rattle.lucid_scope.specs.declared.marks.What.TheVariants.{Named, Called, Again}

-- the numbers of an owner fit their type
abbrev pub OwnerFits : Option Owner → Type 0
OwnerFits None = Unit {0}
OwnerFits (Some (PlainOwner d)) = Unit {0}
OwnerFits (Some (ParameterOwner d i)) = i < 2 ^ 32
OwnerFits (Some (CurrentOwner d)) = Unit {0}
OwnerFits (Some (FunctionOwner d n)) = n < 2 ^ 32

abbrev pub WhatFits : What → Type 0
WhatFits (Named x o) = OwnerFits o
WhatFits (Called x o n) = OwnerFits o × (n < 2 ^ 32)
WhatFits Again = Unit {0}

abbrev pub Fits : Mark → Type 0
Fits m = WhatFits m.what

abbrev pub owner_fault : (at : ℕ) → Option Owner → Option ScopeRefusal
owner_fault at None = None
owner_fault at (Some (PlainOwner d)) = None
owner_fault at (Some (ParameterOwner d i)) = None
owner_fault at (Some (CurrentOwner d)) = None
owner_fault at (Some (FunctionOwner d n)) = Some (IsFunction at)

abbrev pub owner_call_fault : (at given : ℕ) → Option Owner → Option ScopeRefusal
owner_call_fault at g None = Some (NoFunction at)
owner_call_fault at g (Some (PlainOwner d)) = Some (NotFunction at)
owner_call_fault at g (Some (ParameterOwner d i)) = Some (NotFunction at)
owner_call_fault at g (Some (CurrentOwner d)) = Some (NotFunction at)
owner_call_fault at g (Some (FunctionOwner d n)) = if nat_eq n g then None else Some (Arity at n g)

abbrev pub what_fault : (at : ℕ) → What → Option ScopeRefusal
what_fault at (Named x o) = owner_fault at o
what_fault at (Called x o n) = owner_call_fault at n o
what_fault at Again = Some (Twice at)

-- the fault of a mark
abbrev pub mark_fault : Mark → Option ScopeRefusal
mark_fault m = what_fault m.at m.what

abbrev pub owner_binding : (inputs : List (List ℕ)) → (name : List ℕ) → Option Owner → Binding
owner_binding is x None = Input (position_or_len (same_name x) is)
owner_binding is x (Some (PlainOwner d)) = Plain d
owner_binding is x (Some (ParameterOwner d i)) = Parameter d i
owner_binding is x (Some (CurrentOwner d)) = Current d
owner_binding is x (Some (FunctionOwner d n)) = Function d

abbrev pub what_binding : (inputs : List (List ℕ)) → What → Option Binding
what_binding is (Named x o) = Some (owner_binding is x o)
what_binding is (Called x o n) = Some (owner_binding is x o)
what_binding is Again = None

-- the binding of a mark
abbrev pub mark_binding : (inputs : List (List ℕ)) → Mark → Option Binding
mark_binding is m = what_binding is m.what

abbrev pub with_owner_input : (inputs : List (List ℕ)) → (name : List ℕ) → Option Owner → List (List ℕ)
with_owner_input is x None = if list_any (same_name x) is then is else is ++ x ∷ []
with_owner_input is x (Some o) = is

abbrev pub with_what : (inputs : List (List ℕ)) → What → List (List ℕ)
with_what is (Named x o) = with_owner_input is x o
with_what is (Called x o n) = with_owner_input is x o
with_what is Again = is

abbrev pub with_mark : (inputs : List (List ℕ)) → Mark → List (List ℕ)
with_mark is m = with_what is m.what

-- the fault is the first one of the marks
pub record IsFirstFault (ms : List Mark) (fault : ScopeRefusal) : Type 0 where
  pub index : ℕ
  pub mark : Mark
  pub within : index < length ms
  pub is_there : mark ≡ get_or ms index mark
  pub is : mark_fault mark ≡ Some fault
  pub first : (k : ℕ) (d : Mark) → k < index → mark_fault (get_or ms k d) ≡ None

-- no place has two marks
abbrev pub ArePlacesDifferent : List Mark → Type 0
ArePlacesDifferent ms = (at : ℕ) → sum_by (λ m. if nat_eq at m.at then 1 else 0) ms ≤ 1
