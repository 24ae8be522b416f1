-- The laws of the meaning, over all inputs b, limits m, environments and points. Each is the contract of a function of `laws`.
use Rattle.std.specs.Prelude.{◌≡◌, ℕ, ◌+◌, ◌<◌, ◌≤◌, List, Option, Some, None, ◌↔◌}
use Rattle.lucid_value.specs.Plain.{PlainValue}
use Rattle.lucid_tree.specs.Tree.{PlainTree, name, call, PlainTrees, PlainDefs, first_of, next_of, fby_of, whenever_of, asa_of, upon_of, initial_of, succ_of, sby_of, if_of}
use Rattle.lucid_tree.specs.Members.{Inside}
use Rattle.lucid_tree.specs.Rows.{last}
use Rattle.lucid_tree.specs.Levels.{Elements}
use Rattle.lucid_tree.specs.Env.{Env, empty, scope, args, plain_def, function_def, current_def, definition, param, tree_at}
use Rattle.lucid_tree.specs.Find.{Outwards}
use Rattle.lucid_tree.specs.Meaning.{val, Means}
use Rattle.lucid_tree.specs.Demand.{consults}
use Rattle.lucid_tree.specs.Output.{Output}
use Rattle.lucid_tree.specs.Spaceless.{IsSpaceless, EnvIsSpaceless}

-- A defined approximation is the same at each greater limit.
abbrev pub ApproximationsStay : Type 0
ApproximationsStay =
    (b : Elements) (m n : ℕ) → m ≤ n → (e : PlainTree) (env : Env) (t s : ℕ) (v : PlainValue) → val b m e env t s ≡ Some v → val b n e env t s ≡ Some v

-- So a tree means at most one value at a point.
abbrev pub OneValueIsMeant : Type 0
OneValueIsMeant =
    (b : Elements) (e : PlainTree) (env : Env) (t s : ℕ) (v w : PlainValue) → Means b e env t s v → Means b e env t s w → v ≡ w

-- So a program has at most one output for a number of times.
abbrev pub OneOutput : Type 0
OneOutput = (b : Elements) (p : PlainTree) (k : ℕ) (x y : List ℕ) → Output b p k x → Output b p k y → x ≡ y

-- The first tree is undefined at 0, and at m + 1 it is the second at m, which is taken in an environment and at a time of its own;
-- so the first means what the second means.
pub record IsOneReference (b : Elements) (e : PlainTree) (env : Env) (t : ℕ) (x : PlainTree) (f : Env) (u : ℕ) : Type 0 where
  pub undefined_at_zero : (s : ℕ) → val b 0 e env t s ≡ None
  pub approximation : (m s : ℕ) → val b (m + 1) e env t s ≡ val b m x f u s
  pub meaning : (s : ℕ) (v : PlainValue) → Means b e env t s v ↔ Means b x f u s v

-- A plain name is its right side, in the environment from its block's scope on.
abbrev pub PlainNames : Type 0
PlainNames =
    (b : Elements) (n : List ℕ) (env rest : Env) (ds : PlainDefs) (z : Option ℕ) (at d : ℕ) (x : PlainTree) (t : ℕ)
    → Outwards n env (scope ds z rest) → definition n ds ≡ plain_def d x → IsOneReference b (name at n) env t x (scope ds z rest) t

-- A call is the function's right side with the actuals as parameters, in front of the environment from the function's block on.
abbrev pub Calls : Type 0
Calls =
    (b : Elements) (n : List ℕ) (env rest : Env) (ds : PlainDefs) (z : Option ℕ) (at d : ℕ) (ns : List (List ℕ)) (ats : List ℕ) (es : PlainTrees) (x : PlainTree) (t : ℕ)
    → Outwards n env (scope ds z rest) → definition n ds ≡ function_def d ns ats x
    → IsOneReference b (call at n es) env t x (args ns ats es env (scope ds z rest)) t

-- A parameter is its actual, in the caller's environment.
abbrev pub Parameters : Type 0
Parameters =
    (b : Elements) (n : List ℕ) (env caller rest : Env) (ns : List (List ℕ)) (ats : List ℕ) (es : PlainTrees) (at i : ℕ) (x : PlainTree) (t : ℕ)
    → Outwards n env (args ns ats es caller rest) → param n ns ≡ Some i → tree_at es i ≡ Some x
    → IsOneReference b (name at n) env t x caller t

-- A current name is its right side outside the block, at the time at which the block was opened.
abbrev pub CurrentNames : Type 0
CurrentNames =
    (b : Elements) (n : List ℕ) (env rest : Env) (ds : PlainDefs) (at d u : ℕ) (x : PlainTree) (t : ℕ)
    → Outwards n env (scope ds (Some u) rest) → definition n ds ≡ current_def d x → IsOneReference b (name at n) env t x rest u

-- A free name is undefined at 0; at m + 1 it is the element of its input at the time.
abbrev pub FreeNames : Type 0
FreeNames =
    (b : Elements) (m : ℕ) (n : List ℕ) (env : Env) (at t s : ℕ) → Outwards n env empty
    → (val b 0 (name at n) env t s ≡ None) × (val b (m + 1) (name at n) env t s ≡ b n t)

-- `first` undoes `fby`.
abbrev pub FirstOfFby : Type 0
FirstOfFby =
    (b : Elements) (m : ℕ) (x y : PlainTree) (env : Env) (i j k t s : ℕ) → val b m (first_of i (fby_of j x y)) env t s ≡ val b m (first_of k x) env t s

-- `next` undoes `fby` below the last time.
abbrev pub NextOfFby : Type 0
NextOfFby =
    (b : Elements) (m : ℕ) (x y : PlainTree) (env : Env) (i j t s : ℕ) → t < last → val b m (next_of i (fby_of j x y)) env t s ≡ val b m y env t s

-- `asa` is `first` of `whenever`.
abbrev pub AsaIsFirstOfWhenever : Type 0
AsaIsFirstOfWhenever =
    (b : Elements) (m : ℕ) (x p : PlainTree) (env : Env) (i j k t s : ℕ) → val b m (asa_of i x p) env t s ≡ val b m (first_of j (whenever_of k x p)) env t s

-- `initial` undoes `sby`.
abbrev pub InitialOfSby : Type 0
InitialOfSby =
    (b : Elements) (m : ℕ) (x y : PlainTree) (env : Env) (i j k t s : ℕ) → val b m (initial_of i (sby_of j x y)) env t s ≡ val b m (initial_of k x) env t s

-- `succ` undoes `sby` below the last space.
abbrev pub SuccOfSby : Type 0
SuccOfSby =
    (b : Elements) (m : ℕ) (x y : PlainTree) (env : Env) (i j t s : ℕ) → s < last → val b m (succ_of i (sby_of j x y)) env t s ≡ val b m y env t s

-- An expression without forms over space, in an environment whose trees have none, has at every space the value that it has at
-- space 0.
abbrev pub SameAtEverySpace : Type 0
SameAtEverySpace =
    (b : Elements) (m : ℕ) (e : PlainTree) (env : Env) (t s : ℕ) → IsSpaceless e → EnvIsSpaceless env → val b m e env t s ≡ val b m e env t 0

-- What is consulted only grows with the limit.
abbrev pub ConsultsGrowWithLimit : Type 0
ConsultsGrowWithLimit =
    (b : Elements) (m d : ℕ) (e : PlainTree) (env : Env) (t s : ℕ) → Inside (consults b m d e env t s) (consults b (m + 1) d e env t s)

-- What is consulted only grows with the added number.
abbrev pub ConsultsGrowWithAdded : Type 0
ConsultsGrowWithAdded =
    (b : Elements) (m d : ℕ) (e : PlainTree) (env : Env) (t s : ℕ) → Inside (consults b m d e env t s) (consults b m (d + 1) e env t s)

-- What the left side has, the right side has at the same limit; what the right side has, the left side has at one more. It is said of
-- limits up to the last time, since `next` at the last time is an error.
pub record IsEqualWithOneMore (b : Elements) (left right : PlainTree) (env : Env) : Type 0 where
  pub to_right : (m t s : ℕ) (v : PlainValue) → m ≤ last → val b m left env t s ≡ Some v → val b m right env t s ≡ Some v
  pub to_left : (m t s : ℕ) (v : PlainValue) → m ≤ last → val b m right env t s ≡ Some v → val b (m + 1) left env t s ≡ Some v

-- At a time up to the last, the two sides are the same at each limit of at least the time; below it the left side is undefined.
pub record IsEqualFromItsTime (b : Elements) (left right : PlainTree) (env : Env) : Type 0 where
  pub same : (m t s : ℕ) → t ≤ m → t ≤ last → val b m left env t s ≡ val b m right env t s
  pub undefined_before : (m t s : ℕ) → m < t → val b m left env t s ≡ None

-- The right side of the equation of `whenever`: if first P then X fby (next X whenever next P) else (next X whenever next P) fi,
-- its nodes at any places, here by their numbers.
abbrev pub whenever_unfolded : (at : ℕ → ℕ) → (x p : PlainTree) → PlainTree
whenever_unfolded at x p =
    if_of (at 0) (first_of (at 1) p)
    (fby_of (at 2) x (whenever_of (at 3) (next_of (at 4) x) (next_of (at 5) p)))
    (whenever_of (at 6) (next_of (at 7) x) (next_of (at 8) p))

-- The right side of the equation of `upon`: X fby (if first P then next X upon next P else X upon next P fi).
abbrev pub upon_unfolded : (at : ℕ → ℕ) → (x p : PlainTree) → PlainTree
upon_unfolded at x p =
    fby_of (at 0) x
    (if_of (at 1) (first_of (at 2) p)
    (upon_of (at 3) (next_of (at 4) x) (next_of (at 5) p))
    (upon_of (at 6) x (next_of (at 7) p)))

-- X whenever P = if first P then X fby (next X whenever next P) else (next X whenever next P) fi, Wadge and Ashcroft's equation.
abbrev pub WheneverEquation : Type 0
WheneverEquation =
    (b : Elements) (x p : PlainTree) (env : Env) (i : ℕ) (at : ℕ → ℕ) → IsEqualWithOneMore b (whenever_of i x p) (whenever_unfolded at x p) env

-- X upon P = X fby (if first P then next X upon next P else X upon next P fi), this language's own.
abbrev pub UponEquation : Type 0
UponEquation =
    (b : Elements) (x p : PlainTree) (env : Env) (i : ℕ) (at : ℕ → ℕ) → IsEqualFromItsTime b (upon_of i x p) (upon_unfolded at x p) env
