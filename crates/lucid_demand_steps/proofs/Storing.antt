-- What an engine owns once a value is put under a key, or is lost for want of memory.
use Rattle.lucid_demand_steps.proofs.Common.{cases_lt, ◌≡◌, ℕ, ◌+◌, ◌-◌, ◌^◌, ◌<◌, ◌≤◌, Option, Some, None, ◌⊎◌, inl, inr, refl, sym, ◌∙◌, subst, arith, IsTrue, IsSome, IfSome, Value, plain, Elements, IsKnown, Key, Stored, SetsOnly, count_of, fresh, World, DatonAt, plain_key, EngineView, known_elements, holding, MayHave, GoesOn, AreKeysKnown, Demand, MayPut, StockFacts, Owns, WithinRoom, PutsDaton, min, min-eq_left, min-eq_right}
use Rattle.lucid_store.specs.Entries.{one_more_lost}
use Rattle.lucid_demand_steps.specs.Changes.{PutsOrLoses, puts, loses}
use Rattle.lucid_demand_steps.proofs.HeldByKey.{put_by_key}
use Rattle.lucid_demand_steps.proofs.Stocking.{stock_puts, stock_drops}

-- What the engine owns is right; where nothing is lost, all that was held is held, and the daton is.
pub record AfterPut (d : Demand) (now later : EngineView) (w : World) (k : DatonAt) : Type 0 where
  pub owns : Owns d later w
  pub more : IsTrue d.first.keeps → later.stored.lost ≡ 0
      → (now.stored.lost ≡ 0) × ((q : DatonAt) → IsSome (holding now q.0 q.1) → IsSome (holding later q.0 q.1))
  pub there : later.stored.lost ≡ 0 → IsSome (holding later k.0 k.1)

few_after : (room : Option ℕ) (n m : ℕ) → IfSome room (λ r. n ≤ r) → m ≤ n + 1 → IfSome room (λ r. m ≤ r + 1)
few_after None n m within le = within
few_after (Some r) n m within le = omega (arith, within, le)

-- a count of losses that rises up to the greatest number is no longer 0
some_lost : (n : ℕ) → min (n + 1) (2 ^ 64 - 1) ≡ 0 → ⊥
some_lost n e = by (cases_lt n (2 ^ 64 - 1))
  where
    by : (n < 2 ^ 64 - 1) ⊎ (2 ^ 64 - 1 ≤ n) → ⊥
    by (inl lt) = let f = min-eq_left {n = n + 1} {m = 2 ^ 64 - 1} (omega (arith, lt)) in absurd (omega (arith, e, f))
    by (inr le) = let f = min-eq_right {n = 2 ^ 64 - 1} {m = n + 1} (omega (arith, le)) in absurd (omega (arith, e, f))

-- what has gone on is so where only the store is another, and no less is lost
goes_on_storing : (old now : EngineView) (stored : Stored) → GoesOn old now → now.stored.lost ≤ stored.lost → GoesOn old (record now { stored = stored })
goes_on_storing old now stored g le = record {
  table = g.table;
  most = g.most;
  keeps = g.keeps;
  empties = g.empties;
  room = g.room;
  elements = g.elements;
  known = g.known;
  lost = let l = g.lost in omega (arith, l, le);
  places = g.places;
}

module _ (d : Demand) (now : EngineView) (stored : Stored) (w : World) (k : Key) (v : Value) (o : Owns d now w) (within : WithinRoom d.first.room now.stored)
    (known : IsKnown now.known k.tag)
    (may : (b : Elements) → MayHave now b → MayPut d b (holding now) now.stored.lost (plain_key now.known k) (plain v)) where
  abbrev later : EngineView
  later = record now { stored = stored }

  after_puts : SetsOnly now.stored stored k (Some (fresh v)) → stored.lost ≡ now.stored.lost → count_of stored ≤ count_of now.stored + 1
      → AfterPut d now later w (plain_key now.known k)
  after_puts sets lost count = record {
    owns = record {
      stock = record {
        stock = λ b m. subst (λ n. StockFacts d b now.known (holding later) n now.noted) (sym lost) ((stocked b m).0);
        drawn = o.stock.drawn;
        askable = o.stock.askable;
      };
      keys = put.1;
      contexts = o.contexts;
      since = record {
        goes_on = goes_on_storing d.first now stored o.since.goes_on (omega (arith, lost));
        reads_only = o.since.reads_only;
        few = λ h. few_after d.first.room (count_of now.stored) (count_of stored) within count;
      };
    };
    more = λ keeps z. (sym lost ∙ z, (stocked (known_elements now) (λ n j x e. e)).2);
    there = λ z. (stocked (known_elements now) (λ n j x e. e)).1;
  }
    where
      put : PutsDaton (holding now) (holding later) (plain_key now.known k) (plain v) × AreKeysKnown now.known stored
      put = put_by_key now.known now.stored stored k v o.contexts o.keys known sets

      stocked : (b : Elements) → MayHave now b → StockFacts d b now.known (holding later) now.stored.lost now.noted
          × (IsSome (holding later (plain_key now.known k).0 (plain_key now.known k).1))
          × ((q : DatonAt) → IsSome (holding now q.0 q.1) → IsSome (holding later q.0 q.1))
      stocked b m =
          stock_puts d b now.known (holding now) (holding later) now.stored.lost now.noted (plain_key now.known k) (plain v) (o.stock.stock b m) (may b m) put.0

  pub after_put : PutsOrLoses now.stored stored k v → AfterPut d now later w (plain_key now.known k)
  after_put (puts sets lost count) = after_puts sets lost count
  after_put (loses is le) = subst (λ z. now.stored.lost ≤ z.lost → AfterPut d now (record now { stored = z }) w (plain_key now.known k)) (sym is) lost_one le
    where
      more_lost : Stored
      more_lost = one_more_lost now.stored

      lost_one : now.stored.lost ≤ more_lost.lost → AfterPut d now (record now { stored = more_lost }) w (plain_key now.known k)
      lost_one l = record {
        owns = record {
          stock = record {
            stock = λ b m. stock_drops d b now.known (holding now) (holding now) now.stored.lost more_lost.lost now.noted now.noted (o.stock.stock b m)
                (λ z. absurd (some_lost now.stored.lost z))
                (λ q u e. e) (λ keeps q. refl) (λ node tag key number e. e);
            drawn = o.stock.drawn;
            askable = o.stock.askable;
          };
          keys = o.keys;
          contexts = o.contexts;
          since = record {
            goes_on = goes_on_storing d.first now more_lost o.since.goes_on l;
            reads_only = o.since.reads_only;
            few = λ h. few_after d.first.room (count_of now.stored) (count_of now.stored) within (omega arith);
          };
        };
        more = λ keeps z. absurd (some_lost now.stored.lost z);
        there = λ z. absurd (some_lost now.stored.lost z);
      }
