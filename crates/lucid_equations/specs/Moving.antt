-- Laws of what only moves the point: a form whose plan gives one part at one point goes on there, at the same limit, and so does a
-- frozen time in the context that it enters. Each law is over all tables p and contexts.
use Rattle.std.specs.Prelude.{◌≡◌, ℕ, zero, suc, ◌∷◌, Option, Some, None, if◌then◌else◌, nat_lt, ◌↔◌}
use Rattle.lucid_tree.specs.Tree.{Head, first, next, fby, initial, succ, sby}
use Rattle.lucid_tree.specs.Rows.{plan, gives_part, last}
use Rattle.lucid_tree.specs.Levels.{Elements, Given, entered}
use Rattle.lucid_tags.specs.Contexts.{Context, frozen_frame}
use Rattle.lucid_equations.specs.Nodes.{PlainNode, row, freeze, PlainNodes, part_of, Equations}
use Rattle.lucid_equations.specs.Datons.{Daton}
use Rattle.lucid_equations.specs.Values.{node_hval}
use Rattle.lucid_equations.specs.Visits.{node_visits, IsNeeded}
use Rattle.lucid_equations.specs.declared.step.PartAt.{PartAt}

-- The part, at a time and a space, with which the forms go on that only move the point: `first`, `next` below the last time, `fby`, `initial`,
-- `succ` below the last space, and `sby`.
abbrev pub onward : Head → (time space : ℕ) → Option PartAt
onward first t s = Some (record { part = 0; time = 0; space = s })
onward next t s = if nat_lt t last then Some (record { part = 0; time = suc t; space = s }) else None
onward fby zero s = Some (record { part = 0; time = 0; space = s })
onward fby (suc u) s = Some (record { part = 1; time = u; space = s })
onward initial t s = Some (record { part = 0; time = t; space = 0 })
onward succ t s = if nat_lt s last then Some (record { part = 0; time = t; space = suc s }) else None
onward sby t zero = Some (record { part = 0; time = t; space = 0 })
onward sby t (suc r) = Some (record { part = 1; time = t; space = r })
onward _ t s = None

-- The form only moves the point: at each limit its plan is to give this part at this point.
abbrev pub OnlyMoves : Head → (time space : ℕ) → PartAt → Type 0
OnlyMoves f t s q = (m : ℕ) → plan m f t s ≡ gives_part q.part q.time q.space

-- So it is for the six forms.
abbrev pub SixFormsOnlyMove : Type 0
SixFormsOnlyMove = (f : Head) (t s : ℕ) (q : PartAt) → onward f t s ≡ Some q → OnlyMoves f t s q

-- What only moves the point has its part's approximations there, at the same limits, whatever is held.
abbrev pub MovingKeepsValues : Type 0
MovingKeepsValues =
    (p : Equations) (f : Head) (es : PlainNodes) (e : PlainNode) (t s : ℕ) (q : PartAt) → OnlyMoves f t s q → part_of es q.part ≡ Some e
    → (g : Given Daton) (m : ℕ) (c : Context) → node_hval p g m (row f es) c t s ≡ node_hval p g m e c q.time q.space

-- It visits the very same,
abbrev pub MovingVisitsTheSame : Type 0
MovingVisitsTheSame =
    (p : Equations) (f : Head) (es : PlainNodes) (e : PlainNode) (t s : ℕ) (q : PartAt) → OnlyMoves f t s q → part_of es q.part ≡ Some e
    → (b : Elements) (m d : ℕ) (c : Context) → node_visits p b m d (row f es) c t s ≡ node_visits p b m d e c q.time q.space

-- and needs the same.
abbrev pub MovingNeedsTheSame : Type 0
MovingNeedsTheSame =
    (p : Equations) (f : Head) (es : PlainNodes) (e : PlainNode) (t s : ℕ) (q : PartAt) → OnlyMoves f t s q → part_of es q.part ≡ Some e
    → (b : Elements) (c : Context) (d : Daton × ℕ) → IsNeeded p b (row f es) c t s d ↔ IsNeeded p b e c q.time q.space d

-- A frozen time has its subject's approximations in the context that it enters,
abbrev pub FreezingKeepsValues : Type 0
FreezingKeepsValues =
    (p : Equations) (e : PlainNode) (g : Given Daton) (m : ℕ) (c : Context) (t s : ℕ)
    → node_hval p g m (freeze e) c t s ≡ node_hval p g m e (frozen_frame t c) t s

-- visits that context, at each limit, and then what its subject visits there,
abbrev pub FreezingEnters : Type 0
FreezingEnters =
    (p : Equations) (e : PlainNode) (b : Elements) (m d : ℕ) (c : Context) (t s : ℕ)
    → node_visits p b m d (freeze e) c t s ≡ entered (frozen_frame t c) ∷ node_visits p b m d e (frozen_frame t c) t s

-- and needs the same as its subject.
abbrev pub FreezingNeedsTheSame : Type 0
FreezingNeedsTheSame =
    (p : Equations) (e : PlainNode) (b : Elements) (c : Context) (t s : ℕ) (d : Daton × ℕ)
    → IsNeeded p b (freeze e) c t s d ↔ IsNeeded p b e (frozen_frame t c) t s d
