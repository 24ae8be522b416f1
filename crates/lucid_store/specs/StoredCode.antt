-- A warehouse is stored as the tuple of its fields.
use Rattle.std.specs.Prelude.{ℕ, List, Option, refl}
use Rattle.std.specs.Coded.{Coded, code_by, coded×, coded_ℕ, coded_list, coded_option}
use Rattle.lucid_value.specs.declared.Value.{Value}
use Rattle.lucid_value.specs.contracts.Value as value
use Rattle.lucid_tags.specs.declared.Key.{Key}
use Rattle.lucid_tags.specs.contracts.Key as key
use Rattle.lucid_store.specs.Stored.{Entry, Stored}

abbrev pub entry_code : Coded Entry
entry_code = code_by (Value × ℕ) (coded× value.the_row.coded coded_ℕ) (λ e. (e.value, e.age)) (λ p. record { value = p.0; age = p.1 }) (λ _. refl)

abbrev pub entries_code : Coded (List (Key × Entry))
entries_code = coded_list (coded× key.the_row.coded entry_code)

abbrev pub stored_code : Coded Stored
stored_code =
    code_by (List (Key × Entry) × (ℕ × (Option Key × Option (List Key))))
    (coded× entries_code (coded× coded_ℕ (coded× (coded_option key.the_row.coded) (coded_option (coded_list key.the_row.coded)))))
    (λ w. (w.entries, (w.lost, (w.touched, w.order)))) (λ p. record { entries = p.0; lost = p.1.0; touched = p.1.1.0; order = p.1.1.1 }) (λ _. refl)
