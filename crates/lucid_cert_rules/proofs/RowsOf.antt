-- The rows of known contexts.
use Rattle.std.proofs.Common.{◌≡◌, ℕ, zero, suc, ◌+◌, ◌-◌, ◌<◌, ◌≤◌, List, [], ◌∷◌, ◌++◌, map, take, length, Option, Some, None, refl, sym, ap, ◌∙◌, subst, arith, add-one, cond}
use Rattle.std.specs.List.{AllByRecursion}
use Rattle.std.proofs.Math.Seq.{take-suc, take-length}
use Rattle.std.proofs.lemmas.Bool.{le-leb, lt-ltb}
use Rattle.std.proofs.lemmas.List.{map-append}
use Rattle.std.proofs.lemmas.Option.{same_Some}
use Rattle.lucid_tree.specs.Rows.{last}
use Rattle.lucid_tags.specs.Contexts.{Context, root, call_frame, frozen_frame, frames, base_of, cut, context_at}
use Rattle.lucid_tags.specs.Known.{IsKnown, IsInnermost, HasLowerCaller, context_of, number_of}
use Rattle.lucid_tags.specs.declared.Frame.{Frame}
use Rattle.lucid_tags.specs.declared.Frame.TheVariants as tags
use Rattle.lucid_tags.specs.declared.Tag.{Tag}
use Rattle.lucid_tags.proofs.ContextLemmas.{cut-base_of}
use Rattle.lucid_cert_rules.specs.WhyText.{context_row}
use Rattle.lucid_cert_rules.specs.WhyTexts.{MayShow}
use Rattle.lucid_cert_rules.specs.declared.rows.ContextRow.{ContextRow}
use Rattle.lucid_cert_rules.specs.declared.rows.ContextRow.TheVariants.{Call, Frozen}
use Rattle.lucid_cert_rules.specs.Follows.{context_in, with_call, with_frozen, row_context, contexts_behind}
use Rattle.lucid_cert_rules.specs.Checking.{ArePlaces, AreTimes, known_before}

-- an earlier one by its number
earlier : (known : List Context) (k n : ℕ) → n < k → k ≤ length known → context_in (known_before known k) n ≡ Some (context_at known n)
earlier [] k n l m = absurd (omega (arith, l, m))
earlier (c ∷ cs) zero n l m = absurd (omega (arith, l))
earlier (c ∷ cs) (suc k) zero l m = refl
earlier (c ∷ cs) (suc k) (suc n) l m = earlier cs k n (omega (arith, l)) (omega (arith, m))

-- one context more is behind the others
behind_push : (places : ℕ) (cs : List (Option Context)) (rs : List ContextRow) (r : ContextRow)
    → contexts_behind places cs (rs ++ r ∷ []) ≡ contexts_behind places cs rs ++ row_context places (contexts_behind places cs rs) r ∷ []
behind_push places cs [] r = refl
behind_push places cs (x ∷ rs) r = behind_push places (cs ++ row_context places cs x ∷ []) rs r

pub one_row_more : (places : ℕ) (known : List Context) (k : ℕ) (rs more : List ContextRow) (r : ContextRow) → k < length known
    → contexts_behind places (Some root ∷ []) rs ≡ known_before known k
    → row_context places (known_before known k) r ≡ Some (context_at known k) → more ≡ rs ++ r ∷ []
    → contexts_behind places (Some root ∷ []) more ≡ known_before known (k + 1)
one_row_more places known k rs more r l so_far is m =
    ap (contexts_behind places (Some root ∷ [])) m ∙ (behind_push places (Some root ∷ []) rs r
    ∙ (ap (λ (cs : List (Option Context)). cs ++ row_context places cs r ∷ []) so_far
    ∙ (ap (λ (c : Option Context). known_before known k ++ c ∷ []) is
    ∙ sym (rw add-one (ap (map Some) (take-suc known k root l) ∙ map-append Some (take k known) (context_at known k ∷ []))))))

-- the row of a call's frame, and that of a frozen time's
pub row_of_call : (places : ℕ) (known : List Context) (k b place c : ℕ) → k < length known → b < k → c < k → place < places
    → context_at known k ≡ call_frame place (context_at known c) (context_at known b)
    → row_context places (known_before known k) (Call b place c) ≡ Some (context_at known k)
row_of_call places known k b place c l lb lc lp is =
    ap (λ (x : Option Context). with_call places place x (context_in (known_before known k) b)) (earlier known k c lc (omega (arith, l)))
    ∙ (ap (with_call places place (Some (context_at known c))) (earlier known k b lb (omega (arith, l)))
    ∙ (ap (λ x. cond x (Some (call_frame place (context_at known c) (context_at known b))) None) (lt-ltb place places lp) ∙ ap Some (sym is)))

pub row_of_frozen : (places : ℕ) (known : List Context) (k b t : ℕ) → k < length known → b < k → t ≤ last
    → context_at known k ≡ frozen_frame t (context_at known b)
    → row_context places (known_before known k) (Frozen b t) ≡ Some (context_at known k)
row_of_frozen places known k b t l lb time is =
    ap (with_frozen t) (earlier known k b lb (omega (arith, l)))
    ∙ (ap (λ x. cond x (Some (frozen_frame t (context_at known b))) None) (le-leb t last time) ∙ ap Some (sym is))

-- what is cut off one frame is the base
base_cut : (c d : Context) (level : ℕ) → suc level ≡ frames c → cut level c ≡ Some d → base_of c ≡ d
base_cut c d level e h = same_Some _ _ (sym (cut-base_of c level e) ∙ h)

-- So a frame's row is good, by the numbers of what is cut off and of its caller.
module _ (known : List Context) (tag outer : Tag) (level b : ℕ) (there : IsKnown known tag) (levels : level ≡ frames (context_of known tag))
    (is : cut (level - 1) (context_of known tag) ≡ Some (context_of known outer))
    (lower : level - 1 < frames (context_of known tag) → number_of outer < number_of tag) (number : b ≡ number_of outer) where
  its_base : 0 < frames (context_of known tag) → base_of (context_of known tag) ≡ context_at known b
  its_base h = base_cut (context_of known tag) (context_of known outer) (level - 1) (omega (arith, levels, h)) is ∙ ap (context_at known) (sym number)

  base_below : 0 < frames (context_of known tag) → b < number_of tag
  base_below h = omega (arith, number, lower (omega (arith, levels, h)))

  pub call_is_good : (places : ℕ) → ArePlaces places known → (frame : Frame) (place d : ℕ) (caller : Tag) → IsInnermost known frame (context_of known tag)
      → HasLowerCaller (number_of tag) frame → frame ≡ tags.Call place caller → d ≡ number_of caller
      → row_context places (known_before known (number_of tag)) (Call b place d) ≡ Some (context_of known tag)
  call_is_good places are frame place d caller inner low e f =
      let i = subst (λ x. IsInnermost known x (context_of known tag)) e inner in
      let l = subst (λ x. HasLowerCaller (number_of tag) x) e low in
      let some : 0 < frames (context_of known tag) = omega (arith, ap frames i.2) in
      row_of_call places known (number_of tag) b place d there (base_below some) (omega (arith, f, l))
      (are (number_of tag) place (context_of known caller) (base_of (context_of known tag)) i.2)
      (i.2 ∙ (ap (λ (x : Context). call_frame place x (base_of (context_of known tag))) (ap (context_at known) (sym f))
      ∙ ap (call_frame place (context_at known d)) (its_base some)))

  pub frozen_is_good : (places : ℕ) (frame : Frame) (t : ℕ) → IsInnermost known frame (context_of known tag) → frame ≡ tags.Frozen t → AreTimes known
      → row_context places (known_before known (number_of tag)) (Frozen b t) ≡ Some (context_of known tag)
  frozen_is_good places frame t inner e times =
      let i = subst (λ x. IsInnermost known x (context_of known tag)) e inner in
      let some : 0 < frames (context_of known tag) = omega (arith, ap frames i) in
      row_of_frozen places known (number_of tag) b t there (base_below some) (times (number_of tag) t (base_of (context_of known tag)) i)
      (i ∙ ap (frozen_frame t) (its_base some))

-- The rows of all known contexts: the first, which is empty, has none;
pub first_known : (known : List Context) → 0 < length known → context_at known 0 ≡ root → Some root ∷ [] ≡ known_before known 1
first_known [] l e = absurd (omega (arith, l))
first_known (c ∷ cs) l e = ap (λ (x : Context). Some x ∷ []) (sym e)

pub no_rows : (known : List Context) (rows : List ContextRow) → rows ≡ [] → 0 < length known → context_at known 0 ≡ root
    → ((places : ℕ) → ArePlaces places known → contexts_behind places (Some root ∷ []) rows ≡ known_before known 1)
    × AllByRecursion (λ x. MayShow (context_row x)) rows
no_rows known rows none l first = (
  λ places are. ap (contexts_behind places (Some root ∷ [])) none ∙ first_known known l first,
  subst (AllByRecursion (λ x. MayShow (context_row x))) (sym none) tt,
)

-- one more,
pub row_pushed : (places : ℕ) (known : List Context) (k : ℕ) (tag : Tag) (rs more : List ContextRow) (r : ContextRow) → number_of tag ≡ k
    → k < length known → contexts_behind places (Some root ∷ []) rs ≡ known_before known k
    → row_context places (known_before known (number_of tag)) r ≡ Some (context_of known tag) → more ≡ rs ++ r ∷ []
    → contexts_behind places (Some root ∷ []) more ≡ known_before known (k + 1)
row_pushed places known k tag rs more r e l so_far is m =
    let P : ℕ → Type 0 = λ x. row_context places (known_before known x) r ≡ Some (context_at known x) in
    one_row_more places known k rs more r l so_far (subst P e is) m

-- and all of them.
pub all_known : (known : List Context) (k : ℕ) → k ≡ length known → known_before known k ≡ map Some known
all_known known k e = ap (λ (x : ℕ). known_before known x) e ∙ ap (map Some) (take-length known)

-- each row may be shown
pub shown_more : (rs more : List ContextRow) (r : ContextRow) → AllByRecursion (λ x. MayShow (context_row x)) rs → MayShow (context_row r) → more ≡ rs ++ r ∷ []
    → AllByRecursion (λ x. MayShow (context_row x)) more
shown_more rs more r h k m = subst (AllByRecursion (λ x. MayShow (context_row x))) (sym m) (go rs h)
  where
    go : (xs : List ContextRow) → AllByRecursion (λ x. MayShow (context_row x)) xs → AllByRecursion (λ x. MayShow (context_row x)) (xs ++ r ∷ [])
    go [] g = (k, tt)
    go (x ∷ xs) g = (g.0, go xs g.1)
