-- What is noted after the numbers of one site were written.
use Rattle.lucid_search.proofs.Common.{◌≡◌, ℕ, ◌≤◌, true, false, cond, ◌==◌, List, Option, Some, None, IsSome, ap, sym, refl, subst, ◌∙◌, option_and_then, lookup, Site, number_in, same_site, number_of_site, ◌&&◌, IfSome, IfNone}
use Rattle.lucid_search.specs.Noted.{NotesSite, SameSites, IsGreatest}
use Rattle.lucid_search.proofs.SiteLemmas.{site_from_same}

-- the numbers of a site, found or not
pub found_at : (sites : List (Site × List (ℕ × ℕ))) (q : Site) (o : Option (List (ℕ × ℕ))) → o ≡ lookup (same_site q) sites
    → (k : ℕ) → number_of_site sites q k ≡ option_and_then (λ pairs. number_in pairs k) o
found_at sites q o e k = ap (option_and_then (λ pairs. number_in pairs k)) (sym e)

module _ (old new : List (Site × List (ℕ × ℕ))) (site : Site) (m : List (ℕ × ℕ))
    (sites : (q : Site) → lookup (same_site q) new ≡ cond (same_site site q) (Some m) (lookup (same_site q) old)) where
  -- where the site's numbers are those of before, with one written
  pub noted_from : (key number : ℕ) → ((k : ℕ) → number_in m k ≡ cond (k == key) (Some number) (number_of_site old site k)) → NotesSite old new site key number
  noted_from key number pairs = λ q k. ap (option_and_then (λ pairs. number_in pairs k)) (sites q)
      ∙ (elim (same_site site q) as (λ b. same_site site q ≡ b
      → option_and_then (λ pairs. number_in pairs k) (cond b (Some m) (lookup (same_site q) old)) ≡ cond (b && (k == key)) (Some number)
      (number_of_site old q k)) [
        | true ↦ λ same. pairs k ∙ ap (λ s. cond (k == key) (Some number) (number_of_site old s k)) (site_from_same site q same)
        | false ↦ λ _. refl
      ]) refl

  -- where the site's numbers are those of before
  pub same_from : ((k : ℕ) → number_in m k ≡ number_of_site old site k) → SameSites old new
  same_from pairs = λ q k. ap (option_and_then (λ pairs. number_in pairs k)) (sites q)
      ∙ (elim (same_site site q) as (λ b. same_site site q ≡ b
      → option_and_then (λ pairs. number_in pairs k) (cond b (Some m) (lookup (same_site q) old)) ≡ number_of_site old q k) [
        | true ↦ λ same. pairs k ∙ ap (λ s. number_of_site old s k) (site_from_same site q same)
        | false ↦ λ _. refl
      ]) refl

-- the greatest, by numbers that are the same
pub greatest_by : (f g : ℕ → Option ℕ) (key : ℕ) (pair : ℕ × ℕ) → ((k : ℕ) → f k ≡ g k) → IsGreatest g key pair → IsGreatest f key pair
greatest_by f g key pair same h = record {
  noted = same pair.0 ∙ h.noted;
  low = h.low;
  greatest = λ q low some. h.greatest q low (subst IsSome (same q) some);
}

pub best_by : (f g : ℕ → Option ℕ) (key : ℕ) (r : Option (ℕ × ℕ)) → ((k : ℕ) → f k ≡ g k) → IfSome r (IsGreatest g key) → IfSome r (IsGreatest f key)
best_by f g key None same h = h
best_by f g key (Some pair) same h = greatest_by f g key pair same h

-- nothing low, by numbers that are the same
pub none_by : (f g : ℕ → Option ℕ) (key : ℕ) (r : Option (ℕ × ℕ)) → ((k : ℕ) → f k ≡ g k)
    → IfNone r ((q : ℕ) → q ≤ key → g q ≡ None) → IfNone r ((q : ℕ) → q ≤ key → f q ≡ None)
none_by f g key None same h = λ q low. same q ∙ h q low
none_by f g key (Some pair) same h = h
