-- The steps of the cells of a time, as the code takes them.
use Rattle.lucid_session.proofs.Common.{◌≡◌, ℕ, zero, suc, ◌+◌, ◌<◌, Bool, true, false, List, ◌++◌, length, sym, ap, subst, arith, inr, slice_get, slice_set, slice_index_or, nat_lt, if◌then◌else◌, Elements, World, RunFault, EngineView, Demands, Start, Has, Standing, layout, before, StopsAt, GivesCell, AreMarked, HasCells}
use Rattle.std.proofs.Common.{[], ◌∷◌, Some}
use Rattle.lucid_ports.specs.declared.run.RunFault.TheVariants as run
use Rattle.lucid_session.proofs.Marking.{SomeNow, next_time, skipped_space, never_demanded, marked_over, cells_over, is_demanded, marked_now, cells_now, no_cells, marked_then}

-- the item of an index that is within
pub get_at : {A : Type 0} (xs : List A) (i : ℕ) (d x : A) → i < length xs → slice_index_or xs i d ≡ x → slice_get xs i ≡ Some x
get_at [] i d x lt e = absurd (omega (arith, lt))
get_at (y ∷ ys) zero d x lt e = ap Some e
get_at (y ∷ ys) (suc i) d x lt e = get_at ys i d x (omega (arith, lt)) e

-- What stands after the cells of the columns below a space.
abbrev pub HasCome : (z : Start) → EngineView → World → (time space cleared : ℕ) → (marks : List Bool) → (line : List ℕ) → (goes_on : Bool) → Type 0
HasCome z e w t i c marks line goes_on = Standing z (before z t i) e w c × ((b : Elements) → Has z b → AreMarked z b t i marks × HasCells z b t i line goes_on)

-- before the first
pub begins_cells : (z : Start) (e : EngineView) (w : World) (t c : ℕ) (marks : List Bool) (line : List ℕ) → line ≡ [] → Standing z (before z t 0) e w c
    → ((b : Elements) → Has z b → AreMarked z b t 0 marks)
    → HasCome z e w t 0 c marks line false
begins_cells z e w t c marks line none standing marked = (standing, λ b has. (marked b has, subst (λ l. HasCells z b t 0 l false) (sym none) (no_cells z b t)))

module _ (z : Start) (e : EngineView) (w : World) (t i c : ℕ) (marks : List Bool) (line : List ℕ) (goes_on : Bool)
    (now : HasCome z e w t i c marks line goes_on) where
  -- there is no memory
  pub lacks_here : (q : RunFault) → q ≡ run.NoMemory → StopsAt z e w t c q
  lacks_here q is = inr (record { space = i; is = is; standing = now.0 })

  -- a column that has ended is passed over
  pub skipped_here : slice_get marks i ≡ Some false → (more : List ℕ) → more ≡ (if nat_lt 0 i then line ++ 9 ∷ [] else line)
      → HasCome z e w t (i + 1) c marks more goes_on
  skipped_here is more parted = (
    skipped_space z e w t c i (λ b has. never_demanded z b t i marks is (now.1 b has).0) now.0,
    λ b has. let h = now.1 b has in (marked_over z b t i marks is h.0, cells_over z b t i marks is h.0 line more goes_on h.1 parted),
  )

  module _ (is : slice_get marks i ≡ Some true) where
    -- the value of an open column is demanded
    pub demanded_here : i < z.columns → (b : Elements) → Has z b → Demands (layout z) b t i
    demanded_here lt b has = is_demanded z b has t i marks is (now.1 b has).0 lt

    -- and its cell is added
    pub given_here : (f : EngineView) (v : World) (d : ℕ) (stays : Bool) (parted_line more : List ℕ)
        → parted_line ≡ (if nat_lt 0 i then line ++ 9 ∷ [] else line)
        → Standing z (before z t (i + 1)) f v d × GivesCell z t i stays parted_line more → (after : Bool) → SomeNow goes_on stays after
        → HasCome z f v t (i + 1) d (slice_set marks i stays) more after
    given_here f v d stays parted_line more parted gives after how = (
      gives.0,
      λ b has. let h = now.1 b has in (
        marked_now z b has t i marks is h.0 stays line parted_line more gives.1,
        cells_now z b has t i marks is h.0 stays line parted_line more gives.1 goes_on h.1 parted after how,
      ),
    )

  -- after the last
  pub ends_cells : i ≡ length marks → z.columns ≡ length marks
      → Standing z (before z (t + 1) 0) e w c × ((b : Elements) → Has z b → AreMarked z b (t + 1) 0 marks × HasCells z b t z.columns line goes_on)
  ends_cells all columns = (
    next_time z e w t c i (omega (arith, all, columns)) now.0,
    λ b has. let h = now.1 b has in (marked_then z b t i marks all h.0, subst (λ n. HasCells z b t n line goes_on) (omega (arith, all, columns)) h.1),
  )
