-- Sites that are the same are equal.
use Rattle.lucid_search.proofs.Common.{◌≡◌, true, ◌==◌, Site, same_site, Decides-eqb, Decides-and}
use Rattle.lucid_tags.specs.Known.{same_tag}
use Rattle.lucid_tags.specs.EqualityDecides.{same_tag_is_equality}

pub site_from_same : (a b : Site) → same_site a b ≡ true → a ≡ b
site_from_same a b h =
    let e = (Decides-and (a.node == b.node) (same_tag a.tag b.tag) (Decides-eqb a.node b.node) (same_tag_is_equality a.tag b.tag)).0 h in
    λ i. record { node = e.0 i; tag = e.1 i }
