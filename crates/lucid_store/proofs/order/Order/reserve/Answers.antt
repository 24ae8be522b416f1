use Rattle.std.proofs.Common.{ℕ, ◌+◌, ◌*◌, ◌/◌, ◌<◌, ◌≤◌, ◌^◌, arith}
use Rattle.std.specs.Prelude.{Result, Ok, Err, OnOk}
use Rattle.futures.specs.LinkedLists.{key_limit}
use Rattle.lucid_store.proofs.order.Order.reserve.Goals as goal

-- where there is room for a later place, there is for this one
room_up_to : {A E : Type 0} (r : Result A E) (count key limit : ℕ) → count ≤ key → OnOk r (key < limit) → OnOk r (key + 1 < 2 ^ 64)
    → OnOk r ((count < limit) × (count + 1 < 2 ^ 64))
room_up_to (Ok x) count key limit le room fits = (omega (arith, le, room), omega (arith, le, fits))
room_up_to (Err e) count key limit le room fits = tt

pub returns-clause-room : goal.returns-clause-room
returns-clause-room c =
    room_up_to c.reserve_key.result c.self.inside.count (c.self.inside.count / 64 * 64 + 63) (key_limit c.reserve_key.new.self) (omega arith)
    c.reserve_key.ensures.room c.reserve_key.ensures.fits
