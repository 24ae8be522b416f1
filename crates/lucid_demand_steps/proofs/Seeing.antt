-- What is said of rows that have tags, said of the plain rows.
use Rattle.lucid_demand_steps.proofs.Common.{◌≡◌, ℕ, zero, suc, List, [], ◌∷◌, Option, Some, None, refl, sym, ap, ◌∙◌, IfSome, map, slice_index_or, list_all, plain, Context, IsKnown, KeepsKnown, Key, Part, Task, TaskRow, Idle, Asked, Got, PlainRow, idle, is_free, state_at, value_in, value_of_part, waits_for_none, plain_task, plain_key, plain_state, plain_row, plain_rows, AreTagsKnown}
use Rattle.std.proofs.Common.{◌&&◌}
use Rattle.std.specs.Prelude.{option_map, option_and_then}
use Rattle.lucid_tasks.specs.Rows as rows
use Rattle.lucid_tasks.specs.Rows.{row_at}

-- ---- as more contexts become known

-- a task whose tag is known stays what it is
pub task_as_tags_grow : (old new : List Context) (x : Task) → KeepsKnown old new → IsKnown old x.tag → plain_task new x ≡ plain_task old x
task_as_tags_grow old new x k known = ap (λ c. record (plain_task old x) { context = c }) (k.same x.tag known)

-- and a key
pub key_as_tags_grow : (old new : List Context) (x : Key) → KeepsKnown old new → IsKnown old x.tag → plain_key new x ≡ plain_key old x
key_as_tags_grow old new x k known = ap (λ c. (record ((plain_key old x).0) { context = c }, (plain_key old x).1)) (k.same x.tag known)

keys_as_tags_grow : (old new : List Context) (o : Option Key) → KeepsKnown old new → IfSome o (λ x. IsKnown old x.tag)
    → option_map (plain_key new) o ≡ option_map (plain_key old) o
keys_as_tags_grow old new None k known = refl
keys_as_tags_grow old new (Some x) k known = ap Some (key_as_tags_grow old new x k known)

-- a row whose tags are known stays what it is
pub rows_as_tags_grow : (old new : List Context) (r : TaskRow) → KeepsKnown old new → AreTagsKnown old r → plain_row new r ≡ plain_row old r
rows_as_tags_grow old new r k known =
    ap (λ x. record (plain_row new r) { task = x }) (task_as_tags_grow old new r.task k known.task)
    ∙ ap (λ o. record (plain_row old r) { key = o }) (keys_as_tags_grow old new r.key k known.key_tag)

-- ---- the parts of a row

-- how a part stands, seen plain
pub plain_at : (ps : List rows.PartState) (i : ℕ) → state_at (map plain_state ps) i ≡ plain_state (slice_index_or ps i Idle)
plain_at [] i = refl
plain_at (p ∷ ps) zero = refl
plain_at (p ∷ ps) (suc i) = plain_at ps i

plain_value : (s : rows.PartState) → value_in (plain_state s) ≡ option_map plain (rows.got_value s)
plain_value Idle = refl
plain_value (Asked slot) = refl
plain_value (Got v) = refl

plain_free : (s : rows.PartState) → rows.is_free s ≡ is_free (plain_state s)
plain_free Idle = refl
plain_free (Asked slot) = refl
plain_free (Got v) = refl

free_parts : (ps : List rows.PartState) → list_all rows.is_free ps ≡ list_all is_free (map plain_state ps)
free_parts [] = refl
free_parts (p ∷ ps) = ap (λ b. b && list_all rows.is_free ps) (plain_free p) ∙ ap (λ b. is_free (plain_state p) && b) (free_parts ps)

-- a row is ready where the plain row waits for none of its parts
pub plain_ready : (known : List Context) (r : TaskRow) → rows.is_ready (Some r) ≡ waits_for_none (plain_row known r)
plain_ready known r = free_parts r.parts

-- the value of a part is that of the plain row's part
pub plain_got : (known : List Context) (rs : List (Option TaskRow)) (slot index : ℕ)
    → option_map plain (rows.got_of rs (record { slot = slot; index = index })) ≡ option_and_then (λ r. value_of_part r index) (plain_rows known rs slot)
plain_got known rs slot index = go (row_at rs slot)
  where
    go : (o : Option TaskRow)
        → option_map plain (option_and_then rows.got_value (option_map (rows.state_at index) o)) ≡ option_and_then (λ r. value_of_part r index)
        (option_map (plain_row known) o)
    go None = refl
    go (Some r) = sym (ap value_in (plain_at r.parts index) ∙ plain_value (slice_index_or r.parts index Idle))

pub plain_idle_state : (s : rows.PartState) → plain_state s ≡ idle → s ≡ Idle
plain_idle_state Idle e = refl
plain_idle_state (Asked slot) e = absurd (cc)
plain_idle_state (Got v) e = absurd (cc)

-- a part is idle where the plain row's part is
pub plain_idle : (known : List Context) (rs : List (Option TaskRow)) (part : Part) (r : PlainRow) → plain_rows known rs part.slot ≡ Some r
    → state_at r.parts part.index ≡ idle
    → rows.state_of rs part ≡ Some Idle
plain_idle known rs part r at free = go (row_at rs part.slot) at
  where
    go : (o : Option TaskRow) → option_map (plain_row known) o ≡ Some r → option_map (rows.state_at part.index) o ≡ Some Idle
    go None e = absurd (cc)
    go (Some s) e =
        let same : plain_row known s ≡ r = cc in
        ap Some (plain_idle_state (slice_index_or s.parts part.index Idle)
        (sym (plain_at s.parts part.index) ∙ ap (λ x. state_at x.parts part.index) same ∙ free))
