-- What stays held when a warehouse is looked at.
use Rattle.std.proofs.Common.{◌≡◌, ℕ, zero, suc, ◌+◌, ◌<◌, false, List, Option, Some, None, is_some, length, get_or, take, refl, sym, ap, subst, ◌∙◌, ◌∷◌, [], ◌++◌, arith, add-one}
use Rattle.std.specs.Prelude.{option_map, slice_get}
use Rattle.std.proofs.lemmas.Option.{slice_get_past}
use Rattle.std.proofs.Math.Seq.{take-suc}
use Rattle.std.proofs.lemmas.List.Elements.{All-weaker, All-append}
use Rattle.lucid_value.specs.View.{plain}
use Rattle.lucid_value.specs.declared.Value.{Value}
use Rattle.lucid_tags.specs.declared.Key.{Key}
use Rattle.lucid_store.specs.Stored.{Stored}
use Rattle.lucid_store.specs.Entries.{value_at, held, IsTouched}
use Rattle.lucid_store.proofs.CallerLemmas.{held-touched}
use Rattle.lucid_show_steps.specs.Turns.{HoldsSame, AreGone}

pub same_then : (u v w : Stored) → HoldsSame u v → HoldsSame v w → HoldsSame u w
same_then u v w first second = record {
  held = λ key. second.held key ∙ first.held key;
  count = second.count ∙ first.count;
  lost = second.lost ∙ first.lost;
}

-- a look-up
pub same_touched : (old new : Stored) (key : Key) → IsTouched old new key → HoldsSame old new
same_touched old new key touched = record { held = held-touched old new key touched; count = touched.count; lost = touched.lost }

none_plain : (v : Option Value) → is_some v ≡ false → option_map plain v ≡ None
none_plain None h = refl
none_plain (Some v) h = cc

pub none_held : (w : Stored) (key : Key) → is_some (value_at w key) ≡ false → held w key ≡ None
none_held w key h = none_plain (value_at w key) h

pub gone_stay : (u w : Stored) (keys : List Key) → HoldsSame u w → AreGone u keys → AreGone w keys
gone_stay u w keys still gone = All-weaker (λ key. held u key ≡ None) (λ key. held w key ≡ None) (λ key none. still.held key ∙ none) keys gone

only_gone : (w : Stored) (key : Key) → held w key ≡ None → AreGone w (key ∷ [])
only_gone w key none zero d within = none
only_gone w key none (suc k) d within = absurd (omega (arith, within))

-- one key more is gone
pub gone_more : (u w : Stored) (keys : List Key) (i : ℕ) (key : Key) → i < length keys → key ≡ get_or keys i key → HoldsSame u w → AreGone u (take i keys)
    → held u key ≡ None → AreGone w (take (i + 1) keys)
gone_more u w keys i key within is still gone none =
    let last : take (i + 1) keys ≡ take i keys ++ key ∷ [] = ap (λ n. take n keys) (add-one i) ∙ take-suc keys i key within ∙ ap (λ k. take i keys ++ k ∷ []) (sym is) in
    subst (λ ks. AreGone w ks) (sym last)
    (All-append (λ q. held w q ≡ None) (take i keys) (key ∷ []) (gone_stay u w (take i keys) still gone) (only_gone w key (still.held key ∙ none)))

-- there is no key behind the last
pub none_past : (keys : List Key) (key : Key) → slice_get keys (length keys) ≡ Some key → ⊥
none_past keys key is = let past : slice_get keys (length keys) ≡ None = slice_get_past keys (length keys) (omega arith) in cc
