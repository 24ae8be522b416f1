-- What a warehouse is once the borrow of a look-up is over.
use Rattle.std.specs.Prelude.{⊤}
use Rattle.std.specs.Borrow.{follows_so, MutBor, Fml}
use mathlib.Core.Option.{none}
use Rattle.lucid_tags.specs.declared.Key.{Key}
use Rattle.lucid_store.specs.declared.warehouse.Warehouse.{Warehouse}
use Rattle.lucid_store.specs.contracts.warehouse.Warehouse.{the_row}
use Rattle.lucid_store.specs.Entries.{IsTouched}

abbrev pub EndsTouched : MutBor Warehouse → Key → Fml
EndsTouched w key = follows_so the_row the_row w.ghost_name none (λ _ _. ⊤) (λ n. IsTouched w.now n key)
