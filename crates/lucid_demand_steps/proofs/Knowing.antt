-- The tags of all rows stay known, at each change of the rows that have tags.
use Rattle.lucid_demand_steps.proofs.Common.{◌≡◌, ℕ, List, Option, Some, None, refl, sym, ap, subst, IfSome, Value, Context, IsKnown, KeepsKnown, Key, Part, Task, Cursor, TaskRow, Asked, Got, AreTagsKnown, AreRowsKnown, plain_row, plain_rows}
use Rattle.std.proofs.Common.{◌==◌, Bool, true, false}
use Rattle.std.specs.Prelude.{if◌then◌else◌, option_map}
use Rattle.lucid_tasks.specs.Rows as rows
use Rattle.lucid_tasks.specs.Rows.{row_at}
use Rattle.lucid_demand_steps.proofs.Seeing.{rows_as_tags_grow}

key_grows : (old new : List Context) (o : Option Key) → KeepsKnown old new → IfSome o (λ k. IsKnown old k.tag) → IfSome o (λ k. IsKnown new k.tag)
key_grows old new None keeps known = known
key_grows old new (Some k) keeps known = keeps.known k.tag known

-- where more contexts become known
pub rows_stay_known : (old new : List Context) (rs : List (Option TaskRow)) → KeepsKnown old new → AreRowsKnown old rs → AreRowsKnown new rs
rows_stay_known old new rs keeps known slot r at =
    let k = known slot r at in
    record { task = keeps.known r.task.tag k.task; key_tag = key_grows old new r.key keeps k.key_tag }

-- the tags of a row, if there is one, are known
abbrev IfKnown : List Context → Option TaskRow → Type 0
IfKnown known o = IfSome o (λ r. AreTagsKnown known r)

each_known : (known : List Context) (rs : List (Option TaskRow)) → AreRowsKnown known rs → (q : ℕ) → IfKnown known (row_at rs q)
each_known known rs all q = go (row_at rs q) refl
  where
    go : (o : Option TaskRow) → row_at rs q ≡ o → IfKnown known o
    go None e = tt
    go (Some r) e = all q r e

all_known : (known : List Context) (rs : List (Option TaskRow)) → ((q : ℕ) → IfKnown known (row_at rs q)) → AreRowsKnown known rs
all_known known rs each q r at = subst (λ o. IfKnown known o) at (each q)

-- and all rows are seen as before
pub all_rows_as_tags_grow : (old new : List Context) (rs : List (Option TaskRow)) → KeepsKnown old new → AreRowsKnown old rs → (q : ℕ)
    → plain_rows new rs q ≡ plain_rows old rs q
all_rows_as_tags_grow old new rs keeps known q = go (row_at rs q) (each_known old rs known q)
  where
    go : (o : Option TaskRow) → IfKnown old o → option_map (plain_row new) o ≡ option_map (plain_row old) o
    go None k = refl
    go (Some r) k = ap Some (rows_as_tags_grow old new r keeps k)

known_choice : (known : List Context) (t : Bool) (a b : Option TaskRow) → IfKnown known a → IfKnown known b → IfKnown known (if t then a else b)
known_choice known true a b k l = k
known_choice known false a b k l = l

known_map : (known : List Context) (f : TaskRow → TaskRow) → ((r : TaskRow) → AreTagsKnown known r → AreTagsKnown known (f r)) → (o : Option TaskRow)
    → IfKnown known o → IfKnown known (option_map f o)
known_map known f keeps None k = tt
known_map known f keeps (Some r) k = keeps r k

-- a change that keeps a row's tags known
pub known_changes : (known : List Context) (old new : List (Option TaskRow)) (slot : ℕ) (f : TaskRow → TaskRow)
    → ((r : TaskRow) → AreTagsKnown known r → AreTagsKnown known (f r))
    → rows.ChangesOnly old new slot f → AreRowsKnown known old → AreRowsKnown known new
known_changes known old new slot f keeps changes all = all_known known new (λ q.
    let k = each_known known old all q in
    subst (λ o. IfKnown known o) (sym (changes q))
    (known_choice known (q == slot) (option_map f (row_at old q)) (row_at old q) (known_map known f keeps (row_at old q) k) k))

-- a part that is set, and a cursor, keep them
same_tags : (known : List Context) (r s : TaskRow) → s.task ≡ r.task → s.key ≡ r.key → AreTagsKnown known r → AreTagsKnown known s
same_tags known r s task key k = record {
  task = subst (λ x. IsKnown known x.tag) (sym task) k.task;
  key_tag = subst (λ o. IfSome o (λ x. IsKnown known x.tag)) (sym key) k.key_tag;
}

pub known_takes : (known : List Context) (old new : List (Option TaskRow)) (slot index : ℕ) → rows.ChangesOnly old new slot (rows.taken index)
    → AreRowsKnown known old → AreRowsKnown known new
known_takes known old new slot index = known_changes known old new slot (rows.taken index) (λ r. same_tags known r (rows.taken index r) refl refl)

pub known_gives : (known : List Context) (old new : List (Option TaskRow)) (slot index : ℕ) (v : Value)
    → rows.ChangesOnly old new slot (rows.with_part index (Got v)) → AreRowsKnown known old
    → AreRowsKnown known new
known_gives known old new slot index v = known_changes known old new slot (rows.with_part index (Got v))
    (λ r. same_tags known r (rows.with_part index (Got v) r) refl refl)

pub known_moves : (known : List Context) (old new : List (Option TaskRow)) (slot : ℕ) (c : Cursor) → rows.ChangesOnly old new slot (rows.with_cursor c)
    → AreRowsKnown known old
    → AreRowsKnown known new
known_moves known old new slot c = known_changes known old new slot (rows.with_cursor c) (λ r. same_tags known r (rows.with_cursor c r) refl refl)

-- a known task is asked for a part, or as the root; its row may remember a known key
pub known_asks : (known : List Context) (old new : List (Option TaskRow)) (part : Option Part) (slot : ℕ) (x : Task) (key : Option Key) → IsKnown known x.tag
    → IfSome key (λ k. IsKnown known k.tag) → rows.Asks old new part slot x key → AreRowsKnown known old → AreRowsKnown known new
known_asks known old new part slot x key task key_tag asks all = all_known known new (λ q.
    subst (λ o. IfKnown known o) (sym (asks q)) (known_choice known (q == slot) (Some (rows.fresh x part key)) (rows.waiting part slot q (row_at old q))
    (record { task = task; key_tag = key_tag }) (waiting_known q part (row_at old q) (each_known known old all q))))
  where
    waiting_known : (q : ℕ) (p : Option Part) (o : Option TaskRow) → IfKnown known o → IfKnown known (rows.waiting p slot q o)
    waiting_known q None o k = k
    waiting_known q (Some p) o k =
        known_choice known (q == p.slot) (option_map (rows.with_part p.index (Asked slot)) o) o
        (known_map known (rows.with_part p.index (Asked slot)) (λ r. same_tags known r (rows.with_part p.index (Asked slot) r) refl refl) o k) k

-- a row settles
pub known_settles : (known : List Context) (old new : List (Option TaskRow)) (slot : ℕ) (v : Value) → rows.Settles old new slot v → AreRowsKnown known old
    → AreRowsKnown known new
known_settles known old new slot v settles all = all_known known new (λ q.
    let k = each_known known old all q in
    subst (λ o. IfKnown known o) (sym (settles q))
    (known_choice known (q == slot) None (rows.given (rows.parent_of old slot) v q (row_at old q)) tt
    (given_known q (rows.parent_of old slot) (row_at old q) k)))
  where
    given_known : (q : ℕ) (parent : Option Part) (o : Option TaskRow) → IfKnown known o → IfKnown known (rows.given parent v q o)
    given_known q None o k = k
    given_known q (Some part) o k =
        known_choice known (q == part.slot) (option_map (rows.with_part part.index (Got v)) o) o
        (known_map known (rows.with_part part.index (Got v)) (λ r. same_tags known r (rows.with_part part.index (Got v) r) refl refl) o k) k
