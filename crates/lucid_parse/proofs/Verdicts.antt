-- What tokens spell is well made; they spell a tree or have one refusal, and not both.
use Rattle.lucid_parse.proofs.Common.{◌≡◌, ℕ, ◌≤◌, ◌<◌, List, length, refl, ap, subst, arith, PlainTree, depth, PlacedTerminal, Spells, at_depth, IsLeast, IsFault, TerminalsAreUnique, All-contains}
use Rattle.lucid_scan.specs.Laws.{TokensAreInOrder, TokensAreFew}
use Rattle.lucid_parse.specs.declared.refusal.ParseRefusal.TheVariants as refusal
use Rattle.lucid_parse.specs.Laws.{TerminalsSpellOneTree, FaultIsUnique, SpelledTreesAreWellMade, SpelledPlacesAreFew, TokensHaveOneRefusal, SpelledTokensAreNotRefused}
use Rattle.lucid_parse.proofs.WellMade.{few, well_made}
use Rattle.lucid_parse.proofs.Texts.{terminals_rise, terminals_length}

pub trees_well_made : TokensAreInOrder → TokensAreFew → SpelledTreesAreWellMade
trees_well_made in_order few_tokens source tokens tree short listed spelled =
    well_made spelled.2 (terminals_rise spelled.1 0 (length source) (in_order source tokens listed))
    (omega (arith, few_tokens source tokens listed, short, terminals_length spelled.1))

pub places_few : TokensAreFew → SpelledPlacesAreFew
places_few few_tokens source tokens tree listed spelled = omega (arith, few_tokens source tokens listed, terminals_length spelled.1, few spelled.2)

pub least_once : (places : List ℕ) (at other : ℕ) → IsLeast places at → IsLeast places other → at ≡ other
least_once places at other x y =
    let there : at ≤ other = All-contains (λ p. at ≤ p) places other x.least y.among in
    let back : other ≤ at = All-contains (λ p. other ≤ p) places at y.least x.among in omega (arith, there, back)

-- a tree of other terminals that are the same
spelled_again : (terminals others : List PlacedTerminal) (tree : PlainTree) → terminals ≡ others → Spells 0 terminals tree → Spells 0 others tree
spelled_again terminals others tree same s = subst (λ ws. Spells 0 ws tree) same s

module _ (unique : TerminalsAreUnique) (trees : TerminalsSpellOneTree) (faults : FaultIsUnique) where
  pub one_refusal : TokensHaveOneRefusal
  one_refusal source tokens (refusal.Syntax at) (refusal.Syntax other) r s m n =
      let same : r.0 ≡ s.0 = unique source tokens r.0 s.0 r.1 s.1 in
      ap (λ p. refusal.Syntax p) (faults s.0 (length source) at other (subst (λ ws. IsFault ws (length source) at) same r.2.1) s.2.1)
  one_refusal source tokens (refusal.Syntax at) (refusal.TooNested other) r s m n =
      absurd (r.2.0 s.2.0 (spelled_again s.0 r.0 s.2.0 (unique source tokens s.0 r.0 s.1 r.1) s.2.1))
  one_refusal source tokens (refusal.TooNested at) (refusal.Syntax other) r s m n =
      absurd (s.2.0 r.2.0 (spelled_again r.0 s.0 r.2.0 (unique source tokens r.0 s.0 r.1 s.1) r.2.1))
  one_refusal source tokens (refusal.TooNested at) (refusal.TooNested other) r s m n =
      let tree : r.2.0 ≡ s.2.0 = trees s.0 r.2.0 s.2.0 (spelled_again r.0 s.0 r.2.0 (unique source tokens r.0 s.0 r.1 s.1) r.2.1) s.2.1 in
      ap (λ p. refusal.TooNested p) (least_once (at_depth 401 s.2.0) at other (subst (λ t. IsLeast (at_depth 401 t) at) tree r.2.3) s.2.3)
  one_refusal source tokens refusal.NoMemory other r s m n = absurd (m refl)
  one_refusal source tokens why refusal.NoMemory r s m n = absurd (n refl)

  pub not_refused : SpelledTokensAreNotRefused
  not_refused source tokens tree (refusal.Syntax at) spelled shallow r =
      absurd (r.2.0 tree (spelled_again spelled.0 r.0 tree (unique source tokens spelled.0 r.0 spelled.1 r.1) spelled.2))
  not_refused source tokens tree (refusal.TooNested at) spelled shallow r =
      let same : r.2.0 ≡ tree = trees r.0 r.2.0 tree r.2.1 (spelled_again spelled.0 r.0 tree (unique source tokens spelled.0 r.0 spelled.1 r.1) spelled.2) in
      let deep : 400 < depth tree = subst (λ t. 400 < depth t) same r.2.2 in absurd (omega (arith, deep, shallow))
  not_refused source tokens tree refusal.NoMemory spelled shallow r = refl
