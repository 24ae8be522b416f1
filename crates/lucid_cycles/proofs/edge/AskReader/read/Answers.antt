use Rattle.lucid_cycles.proofs.Common.{◌≡◌, Bool, true, false, [], refl, sym, ap, subst, ◌∙◌, All-nil, All-cons, All-head, marked, is_ok, is_some, then_some}
use Rattle.lucid_cycles.specs.Walks.{asked}
use Rattle.lucid_cycles.specs.Readers.{Answers}
use Rattle.lucid_cycles.proofs.edge.AskReader.read.Goals as goal

some-where : (b : Bool) → is_some (then_some b (tt {0})) ≡ b
some-where true = refl
some-where false = refl

pub returns-in-Edge : goal.returns-in-Edge
returns-in-Edge c =
    let P = asked c.args.self.now in
    let q : is_ok c.ok_or.result ≡ c.holds.result = c.ok_or.ensures.variant ∙ ap is_some c.then_some.ensures ∙ some-where c.holds.result in
    subst (λ k. Answers c.args.self.now (marked k) c.ok_or.result c.args.self.now) (sym c.in-Edge.is) (record {
      same = refl;
      tells = (
        (λ o. All-cons P c.in-Edge.edge [] (c.holds.ensures.0 (sym q ∙ o)) (All-nil P)),
        (λ a. q ∙ c.holds.ensures.1 (All-head P c.in-Edge.edge [] a)),
      );
    })
