-- Ages that are passed by the block.
use Rattle.lucid_store.proofs.Common.{◌≡◌, ℕ, ◌+◌, ◌-◌, ◌≤◌, ◌<◌, true, List, length, take, drop, Option, Some, None, subst, ◌∙◌, arith, AllWithin, nat_le, append-nil, length-take-le, get_or-take, ap}
use Rattle.std.proofs.Common.{slice_index_or, slice_range}
use Rattle.std.proofs.lemmas.Bool.{leb-true}
use Rattle.std.proofs.lemmas.List.{get_or-drop, length-drop}
use Rattle.std.proofs.lemmas.List.Sums.{AllPass-from_list_all}
use Rattle.std.specs.List.{list_all}
use Rattle.lucid_store.specs.Ages.{IsLastOver}
use Rattle.lucid_store.proofs.AgeLemmas.{over_there}
use Rattle.lucid_store.proofs.Besides.{joined_within}

-- ages that all pass the test are within the limit
all_young : (limit : ℕ) (ages : List ℕ) → list_all (λ age. nat_le age limit) ages ≡ true → AllWithin (λ age. age ≤ limit) ages 0 (length ages)
all_young limit ages h k d low high =
    leb-true (slice_index_or ages k d) limit (AllPass-from_list_all (λ age. nat_le age limit) ages h k d high)

-- a block that passes the test has none over the limit
pub block_is_young : (limit start end : ℕ) (ages : List ℕ) → end ≤ length ages → list_all (λ age. nat_le age limit) (slice_range ages start end) ≡ true
    → AllWithin (λ age. age ≤ limit) ages start end
block_is_young limit start end ages inside h k d low high =
    let j = k - start in
    let there : start + j ≡ k = omega (arith, low) in
    let below : j < end - start = omega (arith, low, high) in
    let long : length (slice_range ages start end) ≡ end - start = length-take-le (end - start) (drop start ages) (omega (arith, length-drop start ages, inside)) in
    let read : slice_index_or (slice_range ages start end) j d ≡ slice_index_or ages k d =
    get_or-take (end - start) (drop start ages) j d below ∙ get_or-drop start ages j d ∙ ap (λ i. slice_index_or ages i d) there in
    subst (λ age. age ≤ limit) read (all_young limit (slice_range ages start end) h j d (omega arith) (omega (arith, long, below, inside)))

-- what is found in front of ages that are within the limit is found among all
pub over_front : (limit n : ℕ) (ages : List ℕ) (found : Option ℕ) → n ≤ length ages → AllWithin (λ age. age ≤ limit) ages n (length ages)
    → IsLastOver limit (take n ages) (length (take n ages)) found → IsLastOver limit ages (length ages) found
over_front limit n ages found low rest is = further found
    (subst (λ l. IsLastOver limit l n found) (append-nil ages) (over_there ages 0 limit n n (omega (arith, low)) (omega (arith, low)) found is))
  where
    further : (o : Option ℕ) → IsLastOver limit ages n o → IsLastOver limit ages (length ages) o
    further None all = joined_within limit 0 n (length ages) ages all rest
    further (Some index) at = record {
      age = at.age;
      here = at.here;
      over = at.over;
      before = (let before = at.before in omega (arith, before, low));
      later = joined_within limit (index + 1) n (length ages) ages at.later rest;
    }
