use Rattle.lucid_equations.proofs.Common.{◌≡◌, ℕ, ◌+◌, List, [], ◌∷◌, ◌++◌, take, ap, sym, ◌∙◌, subst, arith, Decides, contains, In, AllDiffer, take_more}
use Rattle.lucid_equations.proofs.Names.{names_cmp, one_more-decides, new-differs, old-repeats, split-at}
use Rattle.lucid_equations.proofs.differ.do_differ.Goals as goal

pub returns-then-not-branch : goal.returns-then-not-branch
returns-then-not-branch c =
    let names : List (List ℕ) = c.args.names.now in
    let i : ℕ = c.loop-name.name-index in
    let key = c.bytes.result in
    let s = split-at names i key.now c.name-item.result c.loop-name-test.true (c.bytes.ensures.value ∙ c.name-item.is) in (
      (λ e. absurd (grind (arith, e))),
      λ d. absurd
          (old-repeats (take i names) s.0 key.now (contains names_cmp c.loop-name.earlier key) c.in_ok-insert.field-0 (c.loop-name.invariant.0 key)
          c.in_ok-insert.ensures.added c.if-not-branch.true (subst AllDiffer s.1 d)),
    )

pub loop-name-preserved : goal.loop-name-preserved
loop-name-preserved c =
    let names : List (List ℕ) = c.args.names.now in
    let i : ℕ = c.loop-name.name-index in
    let key = c.bytes.result in
    let earlier = c.loop-name.earlier in
    let later = c.insert.new.self in
    let next : take i names ++ key.now ∷ [] ≡ take (i + 1) names = ap (λ y. take i names ++ y ∷ []) (c.bytes.ensures.value ∙ c.name-item.is)
    ∙ sym (take_more names i c.name-item.result c.loop-name-test.true) in (
      (λ q. subst (λ l. Decides (contains names_cmp later q) (In q.now l)) next
          (one_more-decides (contains names_cmp later q) (contains names_cmp earlier q) key.now q.now (take i names) (c.in_ok-insert.ensures.updates.0 q)
          (c.loop-name.invariant.0 q))),
      subst AllDiffer next (new-differs (take i names) key.now (contains names_cmp earlier key) c.in_ok-insert.field-0 (c.loop-name.invariant.0 key)
          c.in_ok-insert.ensures.added c.if-not-branch.false c.loop-name.invariant.1),
    )
