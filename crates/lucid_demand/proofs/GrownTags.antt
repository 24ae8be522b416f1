-- What is true of a demand's loop stays true where contexts become known that the root enters.
use Rattle.lucid_demand.proofs.Common.{ℕ, zero, suc, inl, inr, List, [], ◌∷◌, Option, refl, sym, ◌∙◌, subst, arith, IsSome, slice_index_or, filter_map, In, Elements, entered_of, inside-read, Context, root, IsKnown, IsOneForOne, KeepsKnown, context_of, TaskRow, Task, World, PlainTask, plain_task, plain_rows, passed_contexts, task_visits, held_in, EngineView, known_elements, holding, MayHave, Demand, IsEntered, Waits, HoldsNothing, owns_enters, all_rows_as_tags_grow, work_over}
use Rattle.std.proofs.Common.{◌≡◌, ◌<◌, ◌⊎◌, Bool, true, false, length}
use Rattle.lucid_tags.specs.Contexts.{same_context}
use Rattle.lucid_tags.specs.EqualityDecides.{same_context_is_equality}
use Rattle.lucid_equations.specs.Ranges.{IsInRange}
use Rattle.lucid_demand_steps.specs.Held.{AreKeysKnown}
use Rattle.lucid_demand_steps.specs.Demands.{table_of, IsSeen}
use Rattle.lucid_demand_steps.proofs.HeldByKey.{held_as_tags_grow}
use Rattle.lucid_demand_steps.proofs.Passing.{passing-enters}
use Rattle.lucid_demand_steps.proofs.Knowing.{rows_stay_known}
use Rattle.lucid_demand_steps.proofs.Working.{work_same}

-- What a task enters that the root sees, the root enters.
pub entered_by_root : (d : Demand) (b : Elements) (x : PlainTask) (c : Context) → IsSeen d b x
    → ((e : ℕ) → In c (filter_map entered_of (task_visits (table_of d) b e x))) → IsEntered d b c
entered_by_root d b x c seen enters = record {
  added = seen.added;
  none = seen.none;
  holds = λ e l. inside-read entered_of (task_visits (table_of d) b e x) (task_visits (table_of d) b e d.root) (seen.holds e l) c (enters e);
}

-- the context of a known tag is known
place_is_known : (known : List Context) (n : ℕ) → n < length known → In (slice_index_or known n root) known
place_is_known [] n l = absurd (omega (arith, l))
place_is_known (c ∷ known) zero l = inl refl
place_is_known (c ∷ known) (suc n) l = inr (place_is_known known n (omega (arith, l)))

-- Each context on the way of a task that only moves the point is known, or the root enters it.
pub way_is_entered : (d : Demand) (b : Elements) (known : List Context) (x : Task) (c : Context) → IsInRange (table_of d) → IsKnown known x.tag
    → IsSeen d b (plain_task known x)
    → (steps : ℕ) → In c (passed_contexts (table_of d) steps (plain_task known x)) → In c known ⊎ IsEntered d b c
way_is_entered d b known x c range tag seen steps i = by (same_context c (context_of known x.tag)) refl
  where
    by : (t : Bool) → same_context c (context_of known x.tag) ≡ t → In c known ⊎ IsEntered d b c
    by true e = inl (subst (λ z. In z known) (sym ((same_context_is_equality c (context_of known x.tag)).0 e)) (place_is_known known x.tag.number tag))
    by false e = inr (entered_by_root d b (plain_task known x) c seen (λ k.
        elim (passing-enters (table_of d) range b x.depth k (plain_task known x) steps c i) [
          | inl same ↦ (let yes = (same_context_is_equality c (context_of known x.tag)).1 same in let both : true ≡ false = sym yes ∙ e in absurd (cc))
          | inr j ↦ j
        ]))

-- The rows wait on where such contexts become known.
pub waits_grow : (d : Demand) (now : EngineView) (w : World) (rs : List (Option TaskRow)) (known : List Context) → KeepsKnown now.known known
    → IsOneForOne known
    → ((b : Elements) → MayHave now b → (c : Context) → In c known → In c now.known ⊎ IsEntered d b c) → Waits d now w rs
    → Waits d (record now { known = known }) w rs
waits_grow d now w rs known keeps contexts enters waits = record {
  going = record {
    work = work_over d (known_elements now) (holding now) (held_in known now.stored) now.stored.lost now.stored.lost (plain_rows known rs)
        (λ k z. (z, λ q i. subst (λ o. IsSome o) (sym ((held_as_tags_grow now.known known now.stored keeps waits.going.owns.keys).1 q.0 q.1)) i))
        (work_same d (known_elements now) (holding now) now.stored.lost (plain_rows now.known rs) (plain_rows known rs)
        (λ q. all_rows_as_tags_grow now.known known rs keeps waits.known q) waits.going.work);
    owns = owns_enters d now w waits.going.owns known keeps contexts enters;
  };
  known = rows_stay_known now.known known rs keeps waits.known;
}

-- where nothing is held, nothing is where more contexts are known
pub nothing_grown : (d : Demand) (now : EngineView) (known : List Context) → KeepsKnown now.known known → AreKeysKnown now.known now.stored → HoldsNothing d now
    → HoldsNothing d (record now { known = known })
nothing_grown d now known keeps keys nothing = λ empties k s. (held_as_tags_grow now.known known now.stored keeps keys).1 k s ∙ nothing empties k s
