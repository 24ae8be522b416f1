-- Contexts: in which frames an equation is evaluated. Plain data, with no tags in it.
use Rattle.std.specs.Prelude.{◌≡◌, ℕ, suc, ◌≤◌, Bool, true, false, ◌==◌, ◌&&◌, List, Option, Some, None, if◌then◌else◌, slice_index_or}

-- A context is a list of frames, here the innermost one first. A frame is a call's place with the context of its caller, or
-- the time at which a block is frozen, and stands over the context of the frames further out, its base. `root` is the empty
-- context. The source is the copy rule of Wadge and Ashcroft, by which each call has a copy of its function's body, and this
-- language's own rule for a block with current values: places, callers and times tell the copies apart.
pub data Context : Type 0 where
  root : Context
  call_frame : (place : ℕ) → (caller : Context) → (base : Context) → Context
  frozen_frame : (time : ℕ) → (base : Context) → Context

-- two contexts are the same: frame by frame, with the callers' contexts
abbrev pub same_context : Context → Context → Bool
same_context root root = true
same_context (call_frame p caller base) (call_frame q other_caller other_base) =
    (p == q) && (same_context caller other_caller && same_context base other_base)
same_context (frozen_frame t base) (frozen_frame u other_base) = (t == u) && same_context base other_base
same_context _ _ = false

-- the number of frames; a caller's frames are not counted
abbrev pub frames : Context → ℕ
frames root = 0
frames (call_frame place caller base) = suc (frames base)
frames (frozen_frame time base) = suc (frames base)

-- the context without its innermost frame
abbrev pub base_of : Context → Context
base_of root = root
base_of (call_frame place caller base) = base
base_of (frozen_frame time base) = base

-- the context of the outermost `level` frames, where there are so many
abbrev pub cut : (level : ℕ) → Context → Option Context
cut level root = if level == 0 then Some root else None
cut level (call_frame place caller base) = if level == suc (frames base) then Some (call_frame place caller base) else cut level base
cut level (frozen_frame time base) = if level == suc (frames base) then Some (frozen_frame time base) else cut level base

-- one context is another without some of its inner frames: below its own level both are cut alike
pub record IsOuter (outer inner : Context) : Type 0 where
  pub lower : frames outer ≤ frames inner
  pub same : (level : ℕ) → level ≤ frames outer → cut level inner ≡ cut level outer

-- the context at a place of a list of contexts
abbrev pub context_at : List Context → ℕ → Context
context_at known number = slice_index_or known number root
