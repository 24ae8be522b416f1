-- From an engine to a demand, and from a demand to what it promises.
use Rattle.lucid_demand_steps.proofs.Common.{◌≡◌, ℕ, ◌≤◌, Option, Some, None, ◌⊎◌, inl, inr, refl, sym, ap, ◌∙◌, subst, true≢false, arith, le_refl, IsTrue, IsSome, is_some, IfSome, length-map, same_Some, none-some, value_there, PlainValue, AllDiffer, Elements, nothing_held, World, Contents, Daton, IsNeeded, equations_of, IsInRange, Table, Holding, given, IsDefined, HoldsRight, IsClosed, AllNotedRight, AllNotedClosed, EngineView, IsSoundEngine, known_elements, holding, MayHave, DrawsWithin, AreAskable, places_of, GoesOn, stays, held_if, demand_of, Answers, StockFacts, IsDemand, Owns}
use Rattle.std.proofs.Common.{Bool, true, false, length}
use Rattle.lucid_tags.specs.Contexts.{root}
use Rattle.lucid_equations.specs.Laws.{HoldsMore}
use Rattle.lucid_equations.proofs.VisitsGrow.{visited-needed}
use Rattle.lucid_equations.proofs.NodeMeant.{node_hval-more}
use Rattle.lucid_demand_steps.specs.Engine.{VisitsNew, StillHolds, HoldsNeeded, root_val, root_hval}
use Rattle.lucid_demand_steps.proofs.MoreRead.{right_over, closed_over, noted_over, noted_closed_over, right_is_meant}
use Rattle.lucid_demand_steps.proofs.History.{goes_on_itself, reads_only_itself}

-- what stays held was held
held_if_held : (keeps : Bool) (h : Holding) (k : Daton) (s : ℕ) (v : PlainValue) → held_if keeps h k s ≡ Some v → h k s ≡ Some v
held_if_held true h k s v e = e
held_if_held false h k s v e = absurd (none-some _ e)

-- under a policy that keeps all of it stays
stays_all : (keeps : Bool) (h : Holding) → keeps ≡ true → held_if keeps h ≡ h
stays_all true h e = refl
stays_all false h e = absurd (true≢false (sym e))

drawn_at_once : (o : Option Contents) (P : Contents → Type 0) (n m : ℕ) → n ≡ m → IfSome o (λ c. (n ≤ m) ⊎ P c)
drawn_at_once None P n m e = tt
drawn_at_once (Some c) P n m e = inl (omega (arith, e))

-- An engine that may be asked is ready for a demand.
pub engine_begins : (e : EngineView) (w : World) (t s m : ℕ) → IsSoundEngine e → AreAskable e.streams w
    → IsDemand (demand_of e w t s m) × Owns (demand_of e w t s m) e w
engine_begins e w t s m sound ask = (demand, owns)
  where
    demand : IsDemand (demand_of e w t s m)
    demand = record { in_range = sound.in_range; names = sound.names; places = sound.places; streams = sound.streams; there = sound.in_range.0; of_root = refl }

    facts : (b : Elements) → MayHave e b → StockFacts (demand_of e w t s m) b e.known (holding e) e.stored.lost e.noted
    facts b may = record {
      right = right_over (equations_of e.table) (known_elements e) b may (holding e) sound.right;
      stays = held_if_held e.keeps (holding e);
      traced = λ k r i. inl i;
      closed = λ keeps z. closed_over (equations_of e.table) (known_elements e) b may (holding e) sound.right (sound.closed keeps z);
      noted_right = noted_over e.table (known_elements e) b may e.known e.noted sound.noted;
      noted_closed = λ keeps z. noted_closed_over e.table (known_elements e) b may e.known e.noted (holding e) sound.noted (sound.noted_closed keeps z);
      contexts = λ c i. inl i;
    }

    owns : Owns (demand_of e w t s m) e w
    owns = record {
      stock = record {
        stock = facts;
        drawn = λ b may k n before after named was is.
            drawn_at_once (w.place after.place).contents _ after.consumed before.consumed (ap (λ x. x.consumed) (same_Some _ _ (sym is ∙ was)));
        askable = ask;
      };
      keys = sound.keys;
      contexts = sound.contexts;
      since = record { goes_on = goes_on_itself e; reads_only = reads_only_itself (places_of e.streams) w; few = λ h. h };
    }

-- What a demand leaves is an engine.
pub engine_ends : (old new : EngineView) (v w : World) (t s m : ℕ) → IsDemand (demand_of old v t s m) → Owns (demand_of old v t s m) new w → IsSoundEngine new
engine_ends old new v w t s m demand owns = record {
  right = subst (λ T. HoldsRight (equations_of T) (known_elements new) (holding new)) same facts.right;
  keys = owns.keys;
  noted = subst (λ T. AllNotedRight T (known_elements new) new.known new.noted) same facts.noted_right;
  closed = λ keeps z. subst (λ T. IsClosed (equations_of T) (known_elements new) (holding new)) same (facts.closed (sym go.keeps ∙ keeps) z);
  noted_closed = λ keeps z. subst (λ T. AllNotedClosed T (known_elements new) new.known new.noted (holding new)) same
      (facts.noted_closed (sym go.keeps ∙ keeps) z);
  contexts = owns.contexts;
  streams = sym (length-map new.streams (λ s. s.place)) ∙ ap length go.places ∙ length-map old.streams (λ s. s.place) ∙ demand.streams
      ∙ ap (λ (T : Table). length T.inputs) same;
  places = subst (λ ps. AllDiffer ps) (sym go.places) demand.places;
  in_range = subst (λ T. IsInRange T) same demand.in_range;
  names = subst (λ (T : Table). AllDiffer T.inputs) same demand.names;
}
  where
    go : GoesOn old new
    go = owns.since.goes_on

    same : old.table ≡ new.table
    same = sym owns.since.goes_on.table

    facts : StockFacts (demand_of old v t s m) (known_elements new) new.known (holding new) new.stored.lost new.noted
    facts = owns.stock.stock (known_elements new) (λ n j x e. e)

-- What it newly holds and knows is visited, and what it draws is consulted.
pub engine_visits :
    (old new : EngineView) (v w : World) (t s m : ℕ) → Owns (demand_of old v t s m) new w → (b : Elements) → MayHave new b
    → VisitsNew old new b m t s × DrawsWithin old new b w m t s
engine_visits old new v w t s m owns b may =
    let f = owns.stock.stock b may in (record { held = f.traced; known = f.contexts }, owns.stock.drawn b may)

-- Under a policy that keeps, what was held is held.
pub kept_is_held : (old new : EngineView) (v w : World) (t s m : ℕ) → Owns (demand_of old v t s m) new w → IsTrue old.keeps → StillHolds old new
kept_is_held old new v w t s m owns keeps k r x e =
    let f = owns.stock.stock (known_elements new) (λ n j y h. h) in
    f.stays k r x (ap (λ h. h k r) (stays_all old.keeps (holding old) keeps) ∙ e)

-- And after a value, with nothing lost, what is held is what was held and what the root needs.
pub holds_what_is_needed :
    (old new : EngineView) (v w : World) (t s m : ℕ) (x : PlainValue) → Owns (demand_of old v t s m) new w → IsTrue old.keeps → new.stored.lost ≡ 0
    → (b : Elements) → MayHave new b
    → Answers (demand_of old v t s m) b (holding new) new.stored.lost (demand_of old v t s m).root x → HoldsNeeded old new b t s
holds_what_is_needed old new v w t s m x owns keeps z b may answers k r = (there, back)
  where
    facts : StockFacts (demand_of old v t s m) b new.known (holding new) new.stored.lost new.noted
    facts = owns.stock.stock b may

    there : IsSome (holding new k r) → IsSome (holding old k r) ⊎ IsNeeded (equations_of old.table) b (equations_of old.table).root root t s (k, r)
    there i = elim (facts.traced k r i) [
      | inl o ↦ inl o
      | inr q ↦ inr (visited-needed (equations_of old.table) b m q.added (equations_of old.table).root root t s x answers.means (k, r)
          (q.holds q.added (le_refl q.added)))
    ]

    back : IsSome (holding old k r) ⊎ IsNeeded (equations_of old.table) b (equations_of old.table).root root t s (k, r) → IsSome (holding new k r)
    back (inl i) = let y = value_there (holding old k r) i in ap is_some (kept_is_held old new v w t s m owns keeps k r y.0 y.1)
    back (inr n) = answers.kept keeps z (k, r) n

-- Where the root's approximation is undefined with what stays held, it is undefined; and, under a policy that keeps, so it is with what
-- was held.
pub undefined :
    (old : EngineView) (w : World) (t s m : ℕ) (b : Elements) → HoldsRight (equations_of old.table) b (stays (demand_of old w t s m))
    → (IsDefined old.table b (stays (demand_of old w t s m)) (demand_of old w t s m).root → ⊥)
    → (root_val old b m t s ≡ None) × (IsTrue old.keeps → root_hval old b (holding old) m t s ≡ None)
undefined old w t s m b right none = (
  plainly,
  λ keeps. ap (λ h. root_hval old b h m t s) (sym (stays_all old.keeps (holding old) keeps))
      ∙ nothing (root_hval old b (stays (demand_of old w t s m)) m t s) (λ v e. none (v, e)),
)
  where
    nothing : (o : Option PlainValue) → ((v : PlainValue) → o ≡ Some v → ⊥) → o ≡ None
    nothing None h = refl
    nothing (Some v) h = absurd (h v refl)

    more : HoldsMore (nothing_held b) (given b (stays (demand_of old w t s m)))
    more = record { elements = refl; held = λ d r v e. absurd (none-some _ e) }

    plainly : root_val old b m t s ≡ None
    plainly = nothing (root_val old b m t s) (λ v e. none (
      v,
      node_hval-more (equations_of old.table) (nothing_held b) (given b (stays (demand_of old w t s m))) more
          (right_is_meant (equations_of old.table) b (stays (demand_of old w t s m)) right) m (equations_of old.table).root root t s v e,
    ))
