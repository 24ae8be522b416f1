-- What stays and only grows, over several steps.
use Rattle.lucid_demand_steps.proofs.Common.{cases_lt, ◌≡◌, ℕ, ◌<◌, ◌≤◌, ◌-◌, ◌^◌, List, ◌⊎◌, inl, inr, refl, ◌∙◌, arith, In, Elements, Context, KeepsKnown, World, Extends, EngineView, GoesOn, ReadsOnly}
use Rattle.lucid_ports.specs.Faults.{Rises}

pub extends_then : (a b c : Elements) → Extends a b → Extends b c → Extends a c
extends_then a b c f g n j v e = g n j v (f n j v e)

pub keeps_known_then : (a b c : List Context) → KeepsKnown a b → KeepsKnown b c → KeepsKnown a c
keeps_known_then a b c f g = record {
  known = λ tag h. g.known tag (f.known tag h);
  same = λ tag h. g.same tag (f.known tag h) ∙ f.same tag h;
}

-- What no step changes, and what only grows, over two steps.
pub goes_on_then : (a b c : EngineView) → GoesOn a b → GoesOn b c → GoesOn a c
goes_on_then a b c f g = record {
  table = g.table ∙ f.table;
  most = g.most ∙ f.most;
  keeps = g.keeps ∙ f.keeps;
  empties = g.empties ∙ f.empties;
  room = g.room ∙ f.room;
  elements = λ n j v e. g.elements n j v (f.elements n j v e);
  known = keeps_known_then a.known b.known c.known f.known g.known;
  lost = omega (arith, f.lost, g.lost);
  places = g.places ∙ f.places;
}

pub goes_on_itself : (a : EngineView) → GoesOn a a
goes_on_itself a = record {
  table = refl;
  most = refl;
  keeps = refl;
  empties = refl;
  room = refl;
  elements = λ n j v e. e;
  known = record { known = λ tag h. h; same = λ tag h. refl };
  lost = omega arith;
  places = refl;
}

pub reads_only_then : (places : List ℕ) (u v w : World) → ReadsOnly places u v → ReadsOnly places v w → ReadsOnly places u w
reads_only_then places u v w f g = record {
  names = λ name. g.names name ∙ f.names name;
  asked = g.asked ∙ f.asked;
  reached = g.reached ∙ f.reached;
  others = λ k. either k (f.others k) (g.others k);
  bytes = λ k. g.bytes k ∙ f.bytes k;
  faults = omega (arith, f.faults, g.faults);
}
  where
    either : (k : ℕ) → In k places ⊎ (v.place k ≡ u.place k) → In k places ⊎ (w.place k ≡ v.place k) → In k places ⊎ (w.place k ≡ u.place k)
    either k (inl i) q = inl i
    either k (inr e) (inl i) = inl i
    either k (inr e) (inr f) = inr (f ∙ e)

pub reads_only_itself : (places : List ℕ) (w : World) → ReadsOnly places w w
reads_only_itself places w = record { names = λ name. refl; asked = refl; reached = refl; others = λ k. inr refl; bytes = λ k. refl; faults = omega arith }

-- A count that rose in one of several steps rose over all of them.
pub rises_later : (u v w : World) → u.faults ≤ v.faults → v.faults ≤ w.faults → Rises v.faults w.faults → Rises u.faults w.faults
rises_later u v w f g rises few = by (cases_lt v.faults (2 ^ 64 - 1))
  where
    by : (v.faults < 2 ^ 64 - 1) ⊎ (2 ^ 64 - 1 ≤ v.faults) → u.faults < w.faults
    by (inl lt) = omega (arith, f, rises lt)
    by (inr le) = omega (arith, few, g, le)
