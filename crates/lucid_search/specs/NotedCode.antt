-- The code of a map of positions, from that of its sites.
use Rattle.std.specs.Prelude.{ℕ, List, refl}
use Rattle.std.specs.Coded.{Coded, code_by, coded×, coded_ℕ, coded_list}
use Rattle.lucid_search.specs.declared.Site.{Site}
use Rattle.lucid_search.specs.contracts.Site as site
use Rattle.lucid_search.specs.Noted.{Noted}

abbrev pub pairs_code : Coded (List (ℕ × ℕ))
pairs_code = coded_list (coded× coded_ℕ coded_ℕ)

-- the sites and the count
abbrev pub noted_code : Coded Noted
noted_code = code_by (List (Site × List (ℕ × ℕ)) × ℕ) (coded× (coded_list (coded× site.the_row.coded pairs_code)) coded_ℕ) (λ n. (n.sites, n.missed)) (λ p. record { sites = p.0; missed = p.1 }) (λ _. refl)
