-- What tags stand for: one tag for one context and space, and known tags that stay known.
use Rattle.lucid_tags.proofs.Common.{◌≡◌, suc, List, length, ap, sym, subst, Context, root, context_at, Row, Depth, contexts, AreDistinct, AreRows}
use Rattle.std.proofs.Common.{[]}
use Rattle.lucid_tags.specs.Known.{number_of, space_of, context_of, IsOneForOne}
use Rattle.lucid_tags.specs.EqualityDecides.{tag_from_parts}
use Rattle.lucid_tags.proofs.RowLemmas.{context_at-first, length-contexts, length-depths, AreRows-nil}

pub one_for_one : (known : List Context) → AreDistinct known → IsOneForOne known
one_for_one known one = record {
  places = one.same;
  tags = λ a b h k. (λ e. (ap (context_of known) e, ap space_of e), λ e. tag_from_parts a b (one.same (number_of a) (number_of b) h k e.0) e.1);
}

-- what the known contexts are like, seen from a table
module _ (rows : List Row) (known : List Context) (seen : contexts rows ≡ known) where
  pub seen-one_for_one : {depths : List Depth} → AreRows rows depths → IsOneForOne known
  seen-one_for_one h = subst IsOneForOne seen (one_for_one (contexts rows) h.distinct)

  pub seen-length : length known ≡ suc (length rows)
  seen-length = subst (λ k. length k ≡ suc (length rows)) seen (length-contexts rows)

  pub seen-depths : {depths : List Depth} → AreRows rows depths → length known ≡ suc (length depths)
  seen-depths {depths} h = subst (λ k. length k ≡ suc (length depths)) seen (length-depths rows depths h)

  pub seen-first : context_at known 0 ≡ root
  seen-first = subst (λ k. context_at k 0 ≡ root) seen (context_at-first rows)

pub empty-one_for_one : (rows : List Row) → rows ≡ [] → IsOneForOne (contexts rows)
empty-one_for_one rows e = subst (λ r. IsOneForOne (contexts r)) (sym e) (one_for_one (contexts []) AreRows-nil.distinct)
