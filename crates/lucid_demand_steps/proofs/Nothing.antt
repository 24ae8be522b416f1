-- An engine that holds nothing and has noted nothing.
use Rattle.lucid_demand_steps.proofs.Common.{◌≡◌, ℕ, [], Option, Some, None, sym, ap, ◌∙◌, true≢false, IsSome, is_some, lookup, plain, AllDiffer, IsOneForOne, Tag, entry_at, same_key, is_key_of, Noted, number_at, IsInRange, Daton, EngineView, IsSoundEngine, holding, places_of}
use Rattle.std.proofs.Common.{length}
use Rattle.std.specs.Prelude.{option_map}
use Rattle.lucid_search.specs.Noted.{number_of_site}

-- it holds no daton,
holds_none : (e : EngineView) → e.stored.entries ≡ [] → (d : Daton) (s : ℕ) → holding e d s ≡ None
holds_none e empty d s = ap (λ es. option_map (λ x. plain x.value) (lookup (is_key_of e.known d s) es)) empty

-- and has no number noted,
notes_none : (noted : Noted) → noted.sites ≡ [] → (node : ℕ) (tag : Tag) (key : ℕ) → number_at noted node tag key ≡ None
notes_none noted empty node tag key = ap (λ sites. number_of_site sites (record { node = node; tag = tag }) key) empty

not_none : {A P : Type 0} (o : Option A) (v : A) → o ≡ None → o ≡ Some v → P
not_none o v e f = let x : None ≡ Some v = sym e ∙ f in absurd (cc)

not_some : {A P : Type 0} (o : Option A) → o ≡ None → IsSome o → P
not_some o e h = absurd (true≢false (sym h ∙ ap is_some e))

-- so it has all that the type of an engine keeps, where its tags, its streams and its table have.
pub nothing_is_sound :
    (e : EngineView) → e.stored.entries ≡ [] → e.noted.sites ≡ [] → IsOneForOne e.known → length e.streams ≡ length e.table.inputs
    → AllDiffer (places_of e.streams) → IsInRange e.table
    → AllDiffer e.table.inputs → IsSoundEngine e
nothing_is_sound e empty none contexts streams places in_range names = record {
  right = λ d s v h. not_none (holding e d s) v (holds_none e empty d s) h;
  keys = λ k h. not_some (entry_at e.stored k) (ap (lookup (same_key k)) empty) h;
  noted = λ node tag key number h. not_none (number_at e.noted node tag key) number (notes_none e.noted none node tag key) h;
  closed = λ keeps z d x u s h. not_some (holding e d s) (holds_none e empty d s) h;
  noted_closed = λ keeps z node tag key number h. not_none (number_at e.noted node tag key) number (notes_none e.noted none node tag key) h;
  contexts = contexts;
  streams = streams;
  places = places;
  in_range = in_range;
  names = names;
}
