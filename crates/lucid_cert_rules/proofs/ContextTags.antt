-- Contexts by tags.
use Rattle.lucid_cert_rules.proofs.FollowingCommon.{◌≡◌, ℕ, zero, suc, ◌<◌, List, [], ◌∷◌, ◌++◌, drop, length, Option, Some, None, get_or, ◌⊎◌, inl, inr, ◌+◌, refl, sym, ap, ◌∙◌, subst, slice_get, same_Some, Context, root, context_of, context_in, contexts_behind, AreOfContexts, contexts_of, add-one, option_map, IfSome, drop-cons, map-append}
use Rattle.lucid_tags.specs.Known.{IsKnown, KeepsKnown}
use Rattle.lucid_tags.specs.declared.Tag.{Tag}
use Rattle.lucid_cert_rules.specs.declared.rows.ContextRow.{ContextRow}
use Rattle.lucid_cert_rules.specs.Follows.{row_context}
use Rattle.lucid_cert_rules.specs.Checking.{IsOfContext}

-- an item that is there by its number
there_by : (tags : List (Option Tag)) (n : ℕ) (tag : Tag) → get_or tags n None ≡ Some tag → slice_get tags n ≡ Some (Some tag)
there_by [] n tag e = absurd (cc)
there_by (x ∷ xs) zero tag e = ap Some e
there_by (x ∷ xs) (suc n) tag e = there_by xs n tag e

pub is_of_context : (known : List Context) (tags : List (Option Tag)) (n : ℕ) (tag : Tag) → AreOfContexts known tags → Some tag ≡ get_or tags n None
    → IsOfContext known tag
is_of_context known tags n tag h e = h n tag (there_by tags n tag (sym e))

-- the context of a number is that of its tag
context_by : (known : List Context) (tags : List (Option Tag)) (n : ℕ)
    → context_in (contexts_of known tags) n ≡ option_map (context_of known) (get_or tags n None)
context_by known [] n = refl
context_by known (x ∷ xs) zero = refl
context_by known (x ∷ xs) (suc n) = context_by known xs n

pub context_there : (known : List Context) (tags : List (Option Tag)) (n : ℕ) (tag : Tag) → Some tag ≡ get_or tags n None
    → context_in (contexts_of known tags) n ≡ Some (context_of known tag)
context_there known tags n tag e = context_by known tags n ∙ ap (option_map (context_of known)) (sym e)

pub context_lacks : (known : List Context) (tags : List (Option Tag)) (n : ℕ) → None ≡ get_or tags n None → context_in (contexts_of known tags) n ≡ None
context_lacks known tags n e = context_by known tags n ∙ ap (option_map (context_of known)) (sym e)

-- tags stand for the same contexts where more are known
pub keeps_tag : (old new : List Context) (tag : Tag) → KeepsKnown old new → IsOfContext old tag → IsOfContext new tag
keeps_tag old new tag k h = record { known_tag = k.known tag h.known_tag; space = h.space }

pub keeps_tags : (old new : List Context) (tags : List (Option Tag)) → KeepsKnown old new → AreOfContexts old tags → AreOfContexts new tags
keeps_tags old new tags k h i tag e = keeps_tag old new tag k (h i tag e)

one_kept : (old new : List Context) (x : Option Tag) → KeepsKnown old new → ((tag : Tag) → x ≡ Some tag → IsKnown old tag)
    → option_map (context_of new) x ≡ option_map (context_of old) x
one_kept old new None k h = refl
one_kept old new (Some tag) k h = ap Some (k.same tag (h tag refl))

pub keeps_contexts : (old new : List Context) (tags : List (Option Tag)) → KeepsKnown old new → AreOfContexts old tags
    → contexts_of new tags ≡ contexts_of old tags
keeps_contexts old new [] k h = refl
keeps_contexts old new (x ∷ xs) k h =
    let a = one_kept old new x k (λ tag e. (h 0 tag (ap Some e)).known_tag) in
    let b = keeps_contexts old new xs k (λ i tag e. h (suc i) tag e) in cc (a, b)

-- one more context
pub push_contexts : (places : ℕ) (old new : List Context) (tags more : List (Option Tag)) (made : Option Tag) (r : ContextRow) (rs : List ContextRow)
    → KeepsKnown old new → AreOfContexts old tags
    → option_map (context_of new) made ≡ row_context places (contexts_of old tags) r → more ≡ tags ++ made ∷ []
    → contexts_behind places (contexts_of old tags) (r ∷ rs) ≡ contexts_behind places (contexts_of new more) rs
push_contexts places old new tags more made r rs k h e m =
    ap (λ (x : List (Option Context)). contexts_behind places x rs)
    (ap (λ (x : Option Context). contexts_of old tags ++ x ∷ []) (sym e)
    ∙ (ap (λ (x : List (Option Context)). x ++ option_map (context_of new) made ∷ []) (sym (keeps_contexts old new tags k h))
    ∙ sym (ap (contexts_of new) m ∙ map-append (option_map (context_of new)) tags (made ∷ []))))

at_end : (tags : List (Option Tag)) (made : Option Tag) (i : ℕ) (tag : Tag) → slice_get (tags ++ made ∷ []) i ≡ Some (Some tag)
    → (slice_get tags i ≡ Some (Some tag)) ⊎ (made ≡ Some tag)
at_end [] made zero tag e = inr (same_Some made (Some tag) e)
at_end [] made (suc i) tag e = absurd (cc)
at_end (x ∷ xs) made zero tag e = inl e
at_end (x ∷ xs) made (suc i) tag e = at_end xs made i tag e

pub push_tags : (old new : List Context) (tags more : List (Option Tag)) (made : Option Tag) → KeepsKnown old new → AreOfContexts old tags
    → ((tag : Tag) → made ≡ Some tag → IsOfContext new tag)
    → more ≡ tags ++ made ∷ [] → AreOfContexts new more
push_tags old new tags more made k h f m i tag e = by_end (at_end tags made i tag (ap (λ (x : List (Option Tag)). slice_get x i) (sym m) ∙ e))
  where
    by_end : (slice_get tags i ≡ Some (Some tag)) ⊎ (made ≡ Some tag) → IsOfContext new tag
    by_end (inl q) = keeps_tag old new tag k (h i tag q)
    by_end (inr q) = f tag q

-- A row more: its context is behind those so far.
pub pushed : (places n : ℕ) → n ≡ places → (old new : List Context) (tags slice more : List (Option Tag)) (made : Option Tag) (rows : List ContextRow)
    (k : ℕ) (d : ContextRow) → k < length rows → slice ≡ tags → AreOfContexts old tags
    → contexts_behind places (contexts_of old tags) (drop k rows) ≡ contexts_behind places (Some root ∷ []) rows → KeepsKnown old new
    → IfSome made (IsOfContext new) → option_map (context_of new) made ≡ row_context n (contexts_of old slice) (get_or rows k d) → more ≡ tags ++ made ∷ []
    → (contexts_behind places (contexts_of new more) (drop (k + 1) rows) ≡ contexts_behind places (Some root ∷ []) rows) × AreOfContexts new more
pushed places n count old new tags slice more made rows k d l same there so_far keeps its is m =
    let row = is ∙ (ap (λ (z : List (Option Tag)). row_context n (contexts_of old z) (get_or rows k d)) same
    ∙ ap (λ (p : ℕ). row_context p (contexts_of old tags) (get_or rows k d)) count) in
    let left : drop k rows ≡ get_or rows k d ∷ drop (k + 1) rows = rw add-one (drop-cons rows k d l) in (
      sym (push_contexts places old new tags more made (get_or rows k d) (drop (k + 1) rows) keeps there row m)
          ∙ (ap (contexts_behind places (contexts_of old tags)) (sym left) ∙ so_far),
      push_tags old new tags more made keeps there (λ tag e. subst (λ (o : Option Tag). IfSome o (IsOfContext new)) e its) m,
    )
