-- The binding of a name is what an environment finds: an environment that matches what is in scope goes where the name's meaning says.
-- One fault alone is at the least place, and a tree has one list of inputs.
use Rattle.std.specs.Prelude.{◌≡◌, ℕ, List, Option, Some, slice_get}
use Rattle.std.specs.List.{position_or_len}
use Rattle.lucid_tree.specs.Levels.{element_of, nowhere}
use Rattle.lucid_tree.specs.Tree.{PlainTree, PlainTrees, PlainDefs}
use Rattle.lucid_tree.specs.Members.{In}
use Rattle.lucid_tree.specs.WellMade.{IsWellMade}
use Rattle.lucid_tree.specs.Env.{same_name, Env, empty, scope, args, Aim, to_tree, frozen_target, to_actual, tree_at, name_target, call_target}
use Rattle.lucid_scope.specs.Sites.{named}
use Rattle.lucid_scope.specs.Bindings.{all_sites, AreInputs, HasNoFault, IsLeastFault}
use Rattle.lucid_scope.specs.declared.refusal.ScopeRefusal.{ScopeRefusal}
use Rattle.lucid_scope.specs.Scope.{Static, outermost, in_block, in_function, Meaning, free, plain_name, parameter, current_name, function, meaning}

-- the environment, without its frozen times, actuals and callers, is what is in scope
pub data Matches : Env → Static → Type 0 where
  outermost_matches : Matches empty outermost
  block_matches : {ds : PlainDefs} {z : Option ℕ} {env : Env} {k : Static} → Matches env k → Matches (scope ds z env) (in_block ds k)
  call_matches : {d : ℕ} {ns : List (List ℕ)} {ats : List ℕ} {es : PlainTrees} {caller env : Env} {k : Static} → Matches env k
      → Matches (args ns ats es caller env) (in_function d ns ats k)

-- to a right side, in an environment that matches the definition's scope
pub record RightSideAim (def : ℕ) (right : PlainTree) (home : Static) (time : ℕ) (aim : Aim) : Type 0 where
  pub env : Env
  pub matches : Matches env home
  pub is : aim ≡ to_tree (record { at = def; env = env; time = time }) right env time

-- to the actual of a parameter, in the caller's environment
pub record ActualAim (index place : ℕ) (home : Static) (time : ℕ) (aim : Aim) : Type 0 where
  pub names : List (List ℕ)
  pub places : List ℕ
  pub actuals : PlainTrees
  pub caller : Env
  pub rest : Env
  pub matches : Matches (args names places actuals caller rest) home
  pub is : aim ≡ to_actual place (tree_at actuals index) (args names places actuals caller rest) caller time

-- to the right side of a current name, outside its block at the frozen time
pub record FrozenAim (def : ℕ) (right : PlainTree) (home outside : Static) (aim : Aim) : Type 0 where
  pub defs : PlainDefs
  pub frozen : Option ℕ
  pub rest : Env
  pub matches : Matches (scope defs frozen rest) home
  pub outside_matches : Matches rest outside
  pub is : aim ≡ frozen_target def (scope defs frozen rest) right rest frozen

-- where a name with this meaning goes at a time
abbrev pub NameAim : (name : List ℕ) → Meaning → (time : ℕ) → Aim → Type 0
NameAim x free t a = a ≡ element_of x t
NameAim x (plain_name d e k) t a = RightSideAim d e k t a
NameAim x (parameter d i at k) t a = ActualAim i at k t a
NameAim x (current_name d e k o) t a = FrozenAim d e k o a
NameAim x (function d ns ats e k) t a = a ≡ nowhere

-- to a function's right side, behind an entry with the arguments
pub record CallAim (at : ℕ) (names : List (List ℕ)) (places : List ℕ) (actuals : PlainTrees) (caller : Env) (right : PlainTree) (home : Static) (time : ℕ) (aim : Aim) : Type 0 where
  pub env : Env
  pub matches : Matches env home
  pub is : aim ≡ to_tree (record { at = at; env = args names places actuals caller env; time = time }) right (args names places actuals caller env) time

-- where a call of a name with this meaning goes at a time
abbrev pub CalledAim : (at : ℕ) → (actuals : PlainTrees) → (caller : Env) → Meaning → (time : ℕ) → Aim → Type 0
CalledAim at es env free t a = a ≡ nowhere
CalledAim at es env (plain_name d e k) t a = a ≡ nowhere
CalledAim at es env (parameter d i p k) t a = a ≡ nowhere
CalledAim at es env (current_name d e k o) t a = a ≡ nowhere
CalledAim at es env (function d ns ats e k) t a = CallAim at ns ats es env e k t a

-- each name goes where it belongs
abbrev pub NamesGoWhereTheyBelong : Type 0
NamesGoWhereTheyBelong = (x : List ℕ) (env : Env) (k : Static) → Matches env k → (t : ℕ) → NameAim x (meaning x k) t (name_target x env t)

-- each call goes to the function that its name belongs to
abbrev pub CallsGoWhereTheyBelong : Type 0
CallsGoWhereTheyBelong =
    (at : ℕ) (x : List ℕ) (es : PlainTrees) (caller env : Env) (k : Static) → Matches env k → (t : ℕ) → CalledAim at es caller (meaning x k) t (call_target at x es caller env t)

-- a well-made tree has one fault at most that stands at the least place
abbrev pub LeastFaultIsUnique : Type 0
LeastFaultIsUnique = (e : PlainTree) (f g : ScopeRefusal) → IsWellMade e → IsLeastFault e f → IsLeastFault e g → f ≡ g

-- and has none where no name is at fault
abbrev pub NoFaultIsLeast : Type 0
NoFaultIsLeast = (e : PlainTree) (f : ScopeRefusal) → HasNoFault e → IsLeastFault e f → ⊥

-- a well-made tree has one list of inputs
abbrev pub InputsAreUnique : Type 0
InputsAreUnique = (e : PlainTree) (a b : List (List ℕ)) → IsWellMade e → AreInputs e a → AreInputs e b → a ≡ b

-- a free name is the input of its number
abbrev pub FreeNamesAreInputs : Type 0
FreeNamesAreInputs =
    (e : PlainTree) (inputs : List (List ℕ)) → AreInputs e inputs → (at : ℕ) (x : List ℕ) (k : Static) → In (named at x k) (all_sites e) → meaning x k ≡ free
    → slice_get inputs (position_or_len (same_name x) inputs) ≡ Some x
