-- An engine's view is stored as the tuple of its fields.
use Rattle.std.specs.Prelude.{ℕ, Bool, List, Option, refl}
use Rattle.std.specs.Coded.{Coded, code_by, coded×, coded_ℕ, coded_bool, coded_list, coded_option}
use Rattle.lucid_value.specs.Plain.{PlainValue}
use Rattle.lucid_value.specs.Codes.{coded_value}
use Rattle.lucid_tags.specs.Contexts.{Context}
use Rattle.lucid_tags.specs.ContextCode.{known_code}
use Rattle.lucid_store.specs.Stored.{Stored}
use Rattle.lucid_store.specs.StoredCode.{stored_code}
use Rattle.lucid_search.specs.Noted.{Noted}
use Rattle.lucid_search.specs.NotedCode.{noted_code}
use Rattle.lucid_inputs.specs.Streams.{Stream}
use Rattle.lucid_equations.specs.declared.table.Table.{Table}
use Rattle.lucid_equations.specs.contracts.table.Table as table
use Rattle.lucid_demand_steps.specs.Engine.{EngineView}

abbrev pub stream_code : Coded Stream
stream_code =
    code_by (ℕ × (List PlainValue × (Bool × (List ℕ × ℕ)))) (coded× coded_ℕ (coded× (coded_list coded_value) (coded× coded_bool (coded× (coded_list coded_ℕ) coded_ℕ))))
    (λ s. (s.place, (s.elements, (s.ended, (s.partial, s.consumed)))))
    (λ p. record { place = p.0; elements = p.1.0; ended = p.1.1.0; partial = p.1.1.1.0; consumed = p.1.1.1.1 }) (λ _. refl)

abbrev pub engine_code : Coded EngineView
engine_code =
    code_by (Table × (List Context × (Stored × (Noted × (List Stream × (ℕ × (Bool × (Bool × Option ℕ))))))))
    (coded× table.the_row.coded (coded× known_code (coded× stored_code (coded× noted_code (coded× (coded_list stream_code) (coded× coded_ℕ (coded× coded_bool (coded× coded_bool (coded_option coded_ℕ)))))))))
    (λ e. (e.table, (e.known, (e.stored, (e.noted, (e.streams, (e.most, (e.keeps, (e.empties, e.room)))))))))
    (λ p. record { table = p.0; known = p.1.0; stored = p.1.1.0; noted = p.1.1.1.0; streams = p.1.1.1.1.0; most = p.1.1.1.1.1.0; keeps = p.1.1.1.1.1.1.0; empties = p.1.1.1.1.1.1.1.0; room = p.1.1.1.1.1.1.1.1 })
    (λ _. refl)
