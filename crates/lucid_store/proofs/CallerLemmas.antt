-- What a caller's proof cites of the words in `specs/Entries.antt`.
use Rattle.lucid_store.proofs.Common.{◌≡◌, Bool, true, false, cond, Option, Some, None, is_some, if◌then◌else◌, refl, ap, sym, ◌∙◌, option_map, Key, Entry, same_key, renewed, same_key_is_equality}
use Rattle.std.proofs.Common.{◌≢◌}
use Rattle.lucid_value.specs.View.{plain}
use Rattle.lucid_store.specs.Stored.{Stored}
use Rattle.lucid_store.specs.Entries.{entry_at, value_at, held, order_touched, IsTouched}

pub other_key : (a b : Key) → b ≢ a → same_key a b ≡ false
other_key a b apart = by (same_key a b) refl
  where
    by : (t : Bool) → same_key a b ≡ t → t ≡ false
    by true h = absurd (apart (sym ((same_key_is_equality a b).0 h)))
    by false h = refl

-- a look-up leaves each value as it was
pub value_at-touched : (old new : Stored) (key : Key) → IsTouched old new key → (q : Key) → value_at new q ≡ value_at old q
value_at-touched old new key touched q = ap (option_map (λ (x : Entry). x.value)) (touched.entries q) ∙ by (same_key key q) refl
  where
    renewed_value : (e : Option Entry) → option_map (λ x. x.value) (option_map renewed e) ≡ option_map (λ x. x.value) e
    renewed_value None = refl
    renewed_value (Some e) = refl

    by : (t : Bool) → same_key key q ≡ t → option_map (λ x. x.value) (cond t (option_map renewed (entry_at old key)) (entry_at old q)) ≡ value_at old q
    by true h = renewed_value (entry_at old key) ∙ ap (value_at old) ((same_key_is_equality key q).0 h)
    by false h = refl

pub held-touched : (old new : Stored) (key : Key) → IsTouched old new key → (q : Key) → held new q ≡ held old q
held-touched old new key touched q = ap (option_map plain) (value_at-touched old new key touched q)

-- a look-up of what isn't held may leave all as it is
pub absent_touched : (w : Stored) (key : Key) → value_at w key ≡ None → IsTouched w w key
absent_touched w key none = record {
  entries = λ q. by q (same_key key q) refl;
  touched = ap (λ o. if is_some o then Some key else w.touched) (sym absent);
  order = ap (λ o. if is_some o then order_touched key w.order else w.order) (sym absent);
  lost = refl;
  count = refl;
}
  where
    no_entry : (o : Option Entry) → option_map (λ (x : Entry). x.value) o ≡ None → o ≡ None
    no_entry None h = refl
    no_entry (Some x) h = absurd (cc)

    absent : entry_at w key ≡ None
    absent = no_entry (entry_at w key) none

    by : (q : Key) (t : Bool) → same_key key q ≡ t → entry_at w q ≡ cond t (option_map renewed (entry_at w key)) (entry_at w q)
    by q true h = sym (ap (entry_at w) ((same_key_is_equality key q).0 h)) ∙ absent ∙ sym (ap (option_map renewed) absent)
    by q false h = refl
