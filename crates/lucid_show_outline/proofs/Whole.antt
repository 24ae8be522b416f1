-- More levels tell no more.
use Rattle.std.proofs.Common.{◌≡◌, ℕ, zero, suc, ◌+◌, ◌-◌, ◌<◌, List, [], ◌∷◌, map, drop, length, Option, Some, None, refl, sym, ap, ◌∙◌, arith}
use Rattle.std.specs.Prelude.{slice_get}
use Rattle.std.specs.List.{AllByRecursion}
use Rattle.std.proofs.lemmas.List.Elements.{All-drop, All-from_recursion, recursion_from_All}
use Rattle.lucid_equations.specs.Rows.{row_at}
use Rattle.lucid_equations.specs.declared.rows.Node.{Node}
use Rattle.lucid_cert_rules.specs.Certificates.{PlainJudgment}
use Rattle.lucid_show_outline.specs.declared.does.Does.{Does}
use Rattle.lucid_show_outline.specs.declared.does.Does.TheVariants.{Asks, Searches}
use Rattle.lucid_show_outline.specs.Views.{View}
use Rattle.lucid_show_outline.specs.Equations.{by_judgment, by_node, does, done, equation, told_uses}
use Rattle.lucid_show_outline.specs.Laws.{EquationsAreWhole, UsesAreEarlier}
use Rattle.lucid_show_outline.proofs.Levels.{one_level}

all_told : (P : ℕ → Type 0) (d : Does) (us : List ℕ) → AllByRecursion P us → AllByRecursion P (told_uses d us)
unfolding told_uses
all_told P Asks us all = tt
all_told P (Searches p) us all = recursion_from_All P (drop (length us - 1) us) (All-drop P (length us - 1) us (All-from_recursion P us all))
all_told P _ us all = all

same_map : {X Y : Type 0} (f g : X → Y) (xs : List X) → AllByRecursion (λ x. f x ≡ g x) xs → map f xs ≡ map g xs
same_map f g [] same = refl
same_map f g (x ∷ xs) same = λ j. same.0 j ∷ same_map f g xs same.1 j

all_so : {X : Type 0} (P Q : X → Type 0) → ((x : X) → P x → Q x) → (xs : List X) → AllByRecursion P xs → AllByRecursion Q xs
all_so P Q so [] all = tt
all_so P Q so (x ∷ xs) all = (so x all.0, all_so P Q so xs all.1)

module _ (v : View) (earlier : UsesAreEarlier v.judgments) where
  -- what two equations are made of is the same
  module _ (n m i : ℕ) (below : (u : ℕ) → u < i → equation n v u ≡ equation m v u) where
    by_row : (j : PlainJudgment) → slice_get v.judgments i ≡ Some j → (o : Option Node) → by_node v j (map (equation n v)) o ≡ by_node v j (map (equation m v)) o
    unfolding by_node
    by_row j there None = refl
    by_row j there (Some node) =
        ap (done v (does node) j)
        (same_map (equation n v) (equation m v) (told_uses (does node) j.uses)
        (all_so (λ u. u < i) (λ u. equation n v u ≡ equation m v u) below (told_uses (does node) j.uses)
        (all_told (λ u. u < i) (does node) j.uses (earlier i j there))))

    by_parts : (o : Option PlainJudgment) → slice_get v.judgments i ≡ o → by_judgment v (map (equation n v)) o ≡ by_judgment v (map (equation m v)) o
    unfolding by_judgment
    by_parts None is = refl
    by_parts (Some j) is = by_row j is (row_at v.table j.node)

    step : equation (suc n) v i ≡ equation (suc m) v i
    step = one_level n v i ∙ by_parts (slice_get v.judgments i) refl ∙ sym (one_level m v i)

  whole : (n m i : ℕ) → i < n → i < m → equation n v i ≡ equation m v i
  whole zero m i l k = absurd (omega (arith, l))
  whole (suc n) zero i l k = absurd (omega (arith, k))
  whole (suc n) (suc m) i l k = step n m i (λ u h. whole n m u (omega (arith, h, l)) (omega (arith, h, k)))

pub equations_whole : EquationsAreWhole
equations_whole v earlier i n l = whole v earlier n (i + 1) i l (omega arith)
