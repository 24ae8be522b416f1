-- What is true of all that is owned stays true at each change that a step makes: a value is put, values are dropped, a search's position
-- is noted, contexts become known.
use Rattle.lucid_demand_steps.proofs.Common.{◌≡◌, ℕ, ◌≤◌, List, Option, Some, None, ◌⊎◌, refl, sym, subst, arith, le_refl, IsTrue, PlainValue, In, Head, Elements, Context, IsKnown, IsOneForOne, KeepsKnown, space_of, Tag, Key, Stored, held, count_of, Noted, number_at, NotesOrMisses, World, PlainNodes, row, DatonAt, PlainRow, node_of, held_in, AreKeysKnown, is_search, key_noted, EngineView, holding, MayHave, GoesOn, HoldsFew, Demand, table_of, IsEntered, RowFacts, StockFacts, Daton, IsDemand, Owns}
use Rattle.std.proofs.Common.{true}
use Rattle.lucid_tags.specs.Known.{context_of}
use Rattle.lucid_demand_steps.proofs.HeldByKey.{held_drops, held_stays, held_as_tags_grow}
use Rattle.lucid_demand_steps.proofs.Stocking.{stock_drops, stock_enters}
use Rattle.lucid_demand_steps.proofs.Noting.{stock_notes}
use Rattle.lucid_demand_steps.proofs.History.{keeps_known_then}

-- What a change to the contexts, to what is held and to what is noted leaves of what has only grown: contexts and the count of losses
-- don't fall.
since_then : (first now : EngineView) → GoesOn first now → (known : List Context) (stored : Stored) (noted : Noted) → KeepsKnown now.known known
    → now.stored.lost ≤ stored.lost
    → GoesOn first (record now { known = known; stored = stored; noted = noted })
since_then first now go known stored noted keeps more = record {
  table = go.table;
  most = go.most;
  keeps = go.keeps;
  empties = go.empties;
  room = go.room;
  elements = go.elements;
  known = keeps_known_then first.known now.known known go.known keeps;
  lost = omega (arith, go.lost, more);
  places = go.places;
}

pub known_itself : (known : List Context) → KeepsKnown known known
known_itself known = record { known = λ tag h. h; same = λ tag h. refl }

module _ (d : Demand) (now : EngineView) (w : World) (owns : Owns d now w) where
  -- Values are dropped, and noted positions with them: by a policy's turn, at a look-up, or at a put for which there is no memory.
  pub owns_drops : (stored : Stored) (noted : Noted) → ((k : Key) (v : PlainValue) → held stored k ≡ Some v → held now.stored k ≡ Some v)
      → (IsTrue d.first.keeps → (k : Key) → held stored k ≡ held now.stored k) → now.stored.lost ≤ stored.lost
      → ((node : ℕ) (tag : Tag) (key number : ℕ) → number_at noted node tag key ≡ Some number → number_at now.noted node tag key ≡ Some number)
      → (HoldsFew d.first.room d.first.stored → HoldsFew d.first.room stored) → Owns d (record now { stored = stored; noted = noted }) w
  owns_drops stored noted drops same more notes few = record {
    stock = record {
      stock = λ b m. stock_drops d b now.known (holding now) (held_in now.known stored) now.stored.lost stored.lost now.noted noted (owns.stock.stock b m)
          (λ z. omega (arith, more, z)) gone.1
          (λ keeps k. (held_stays now.known now.stored stored owns.contexts owns.keys (same keeps)).1 k) notes;
      drawn = owns.stock.drawn;
      askable = owns.stock.askable;
    };
    keys = gone.0;
    contexts = owns.contexts;
    since = record {
      goes_on = since_then d.first now owns.since.goes_on now.known stored noted (known_itself now.known) more;
      reads_only = owns.since.reads_only;
      few = few;
    };
  }
    where
      gone : AreKeysKnown now.known stored × ((k : DatonAt) (v : PlainValue) → held_in now.known stored k.0 k.1 ≡ Some v
          → held_in now.known now.stored k.0 k.1 ≡ Some v)
      gone = held_drops now.known now.stored stored owns.contexts owns.keys drops

  -- A row notes where its search stands.
  pub owns_notes : IsDemand d → (noted : Noted) (r : PlainRow) (tag : Tag) (f : Head) (es : PlainNodes)
      → ((b : Elements) → MayHave now b → RowFacts d b (holding now) now.stored.lost r)
      → node_of (table_of d) r.task ≡ row f es → is_search f ≡ true → IsKnown now.known tag → context_of now.known tag ≡ r.task.context
      → space_of tag ≡ r.task.space
      → NotesOrMisses now.noted noted r.task.node tag (key_noted f r.cursor).0 (key_noted f r.cursor).1 → Owns d (record now { noted = noted }) w
  owns_notes demand noted r tag f es ready is search known context space notes = record {
    stock = record {
      stock = λ b m. stock_notes d b now.known (holding now) now.stored.lost now.noted noted r tag f es demand (owns.stock.stock b m) (ready b m) is search
          known context space notes;
      drawn = owns.stock.drawn;
      askable = owns.stock.askable;
    };
    keys = owns.keys;
    contexts = owns.contexts;
    since = record {
      goes_on = since_then d.first now owns.since.goes_on now.known now.stored noted (known_itself now.known) (le_refl now.stored.lost);
      reads_only = owns.since.reads_only;
      few = owns.since.few;
    };
  }

  -- Contexts that the root enters become known.
  pub owns_enters : (known : List Context) → KeepsKnown now.known known → IsOneForOne known
      → ((b : Elements) → MayHave now b → (c : Context) → In c known → In c now.known ⊎ IsEntered d b c)
      → Owns d (record now { known = known }) w
  owns_enters known keeps contexts enters = record {
    stock = record {
      stock = λ b m. subst (λ h. StockFacts d b known h now.stored.lost now.noted) (sym same)
          (stock_enters d b now.known known (holding now) now.stored.lost now.noted (owns.stock.stock b m) keeps (enters b m));
      drawn = owns.stock.drawn;
      askable = owns.stock.askable;
    };
    keys = grown.0;
    contexts = contexts;
    since = record {
      goes_on = since_then d.first now owns.since.goes_on known now.stored now.noted keeps (le_refl now.stored.lost);
      reads_only = owns.since.reads_only;
      few = owns.since.few;
    };
  }
    where
      grown : AreKeysKnown known now.stored × ((c : Daton) (s : ℕ) → held_in known now.stored c s ≡ held_in now.known now.stored c s)
      grown = held_as_tags_grow now.known known now.stored keeps owns.keys

      same : held_in known now.stored ≡ holding now
      same = λ i c s. grown.1 c s i

-- and where no more is held
pub few_where_fewer : (room : Option ℕ) (old new : Stored) → count_of new ≤ count_of old → HoldsFew room old → HoldsFew room new
few_where_fewer None old new fewer few = tt
few_where_fewer (Some r) old new fewer few = omega (arith, fewer, few)
