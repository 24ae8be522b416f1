-- Real places after a call.
use Rattle.std.proofs.Common.{◌≡◌, ◌≢◌, ℕ, List, [], length, Option, None, Some, IfSome, IfNone, IsSome, option_map, refl, sym, ap, ◌∙◌, subst, ◌↔◌, arith, Result}
use Rattle.std.specs.Prelude.{IsNone, IsOk}
use Rattle.std.proofs.lemmas.List.{nil_from_length}
use Rattle.std.specs.Io.{StartsWith}
use denote.Ref.{Bor}
use Rattle.lucid_ports.specs.declared.fault.PortFault.{PortFault}
use Rattle.lucid_ports.specs.declared.real_place.RealPlace.{RealPlace}
use Rattle.lucid_ports.specs.RealPlacesView.{AsksWhereNone, PlaceAsks, bytes_shown, real_place, source_of}
use Rattle.lucid_ports.specs.Source.{source_contents, SourceAsks}
use Rattle.lucid_ports.specs.Supply.{IsEnd}
use Rattle.lucid_ports.specs.World.{Contents, IsShown, Place}
use Rattle.lucid_ports.specs.Window.{Shown}
use Rattle.lucid_ports.proofs.SupplyLemmas.{empty_at_end}

-- where a fill succeeded
pub where_some : {A : Type 0} (o : Option A) (P : Type 0) → IsSome o → IfSome o (λ _. P) → P
where_some None P is h = cc
where_some (Some x) P is h = h

pub where_none : {A : Type 0} (o : Option A) (P : Type 0) → IsNone o → IfNone o P → P
where_none None P is h = h
where_none (Some x) P is h = cc

pub none_of : {A : Type 0} (o : Option A) (n : ℕ) → IsNone o → option_map (λ _. n) o ≡ None
none_of None n is = refl
none_of (Some x) n is = cc

pub not_both : {A : Type 0} (o : Option A) (P : Type 0) → IsNone o → IsSome o → P
not_both None P none some = cc
not_both (Some x) P none some = cc

pub some_of : {A : Type 0} (o : Option A) (n m : ℕ) → IsSome o → n ≡ m → option_map (λ _. n) o ≡ Some m
some_of None n m is same = cc
some_of (Some x) n m is same = ap Some same

abbrev place_with : Option Contents → Shown → Place
place_with contents w = record { contents = contents; shown = length w.bytes; used = w.used }

module _ {F I : Type 0} {g : _} {h : _} {k : _} (of_file : F → Option Contents) (of_input : I → Option Contents) where
  abbrev told : RealPlace F I g h k → Option Contents
  told p = source_contents of_file of_input p.source p.window.bytes

  -- the place p is q, which shows n bytes
  pub real_shown : (old new : Option (RealPlace F I g h k)) (p q : RealPlace F I g h k) (n : ℕ) → old ≡ Some p → new ≡ Some q
      → told q ≡ told p → length q.window.bytes ≡ n → q.window.used ≡ 0
      → IsShown n (real_place of_file of_input old) (real_place of_file of_input new)
  real_shown old new p q n was is same shown used = rw (was, is) (record { contents = same; shown = shown; used = used })

  -- the place p is q, which shows the same
  pub real_same : (old new : Option (RealPlace F I g h k)) (p q : RealPlace F I g h k) → old ≡ Some p → new ≡ Some q → told q ≡ told p → q.window ≡ p.window
      → real_place of_file of_input new ≡ real_place of_file of_input old
  real_same old new p q was is same window =
      rw (was, is) (ap (λ c. place_with c q.window) same ∙ ap (place_with (told p)) window)

  -- what is shown of q, the place p after a fill, is the front of what was to come
  pub real_front : (old : Option (RealPlace F I g h k)) (p q r : RealPlace F I g h k) (piece : List ℕ) → old ≡ Some p → r ≡ q → told q ≡ told p
      → IfSome (told r) (λ c. StartsWith c.left piece) → IfSome (real_place of_file of_input old).contents (λ c. StartsWith c.left piece)
  real_front old p q r piece was here same front =
      subst (λ o. IfSome (real_place of_file of_input o).contents (λ c. StartsWith c.left piece)) (sym was)
      (subst (λ o. IfSome o (λ c. StartsWith c.left piece)) (ap told here ∙ same) front)

  -- and is empty exactly at the end
  pub real_end : (old : Option (RealPlace F I g h k)) (p q r : RealPlace F I g h k) (piece : List ℕ) → old ≡ Some p → r ≡ q → told q ≡ told p
      → piece ≡ r.window.bytes → (q.window.bytes ≡ [] → IsEnd (told p)) → IfSome (told r) (λ c. StartsWith c.left piece)
      → IfSome (real_place of_file of_input old).contents (λ c. (piece ≡ []) ↔ (c.left ≡ []))
  real_end old p q r piece was here same value end front =
      subst (λ o. IfSome (real_place of_file of_input o).contents (λ c. (piece ≡ []) ↔ (c.left ≡ []))) (sym was)
      (empty_at_end (told p) piece (subst (λ o. IfSome o (λ c. StartsWith c.left piece)) (ap told here ∙ same) front)
      (λ none. end (sym (ap (λ s. s.window.bytes) here) ∙ sym value ∙ none)))

module _ {F I : Type 0} {g : _} {h : _} {k : _} (of_file : F → Option ℕ → F → Type 0) (read show : I → Option ℕ → I → Type 0)
    (from_file : F → Option Contents) (from_input : I → Option Contents) where
  -- the reader is asked where nothing is shown, and then once
  pub asks_where_none : {A : Type 0} (old new : Option (RealPlace F I g h k)) (p q : RealPlace F I g h k) (answer : Option A) (result : Result (Bor (List ℕ)) PortFault)
      → old ≡ Some p → new ≡ Some q
      → (p.window.bytes ≡ [] → SourceAsks of_file read show p.source (option_map (λ _. length q.window.bytes) answer) q.source)
      → (p.window.bytes ≢ [] → IsSome answer × (q.source ≡ p.source) × (q.window.bytes ≡ p.window.bytes))
      → option_map (λ _. length q.window.bytes) answer ≡ bytes_shown result → (IsSome answer → IsOk result)
      → AsksWhereNone (real_place from_file from_input old).shown (λ given. PlaceAsks of_file read show old given new) (source_of new ≡ source_of old) result
  asks_where_none old new p q answer result was is once unasked gave good =
      rw (was, is)
      (record {
        asked = λ zero. subst (λ a. SourceAsks of_file read show p.source a q.source) gave (once (nil_from_length p.window.bytes zero));
        unasked = λ some. let u = unasked (λ nil. omega (arith, ap length nil)) in (good u.0, ap Some u.1);
      })
