use Rattle.lucid_compile.proofs.Common.{◌≡◌, [], ◌∷◌, ◌++◌, ap, ◌∙◌, PlainTree, scoped_tree}
use Rattle.std.specs.Prelude.{fold}
use Rattle.lucid_compile.specs.Origins.{spots, with_spot, places_of}
use Rattle.lucid_compile.proofs.Traced.{traced}
use Rattle.lucid_compile.proofs.tracing.find_origins.Goals as goal

pub returns : goal.returns
returns c =
    let e : PlainTree = scoped_tree c.args.scoped.now in
    let all : c.deref.result.now ≡ spots e = c.deref.ensures.value ∙ c.in_ok-find_spots.ensures
    ∙ (λ j. c.new-spots.ensures.items j ++ spots (c.tree.ensures.value j)) in
    traced e (places_of c.add_all.new.self) _
    (c.in_ok-add_all.ensures
    ∙ (λ j. fold with_spot (record {
      nodes = c.new.ensures.items j;
      names = c.new-2.ensures.items j;
      places = c.new-3.ensures.items j;
      scopes = (c.in_ok-push.ensures.items ∙ ap (λ l. l ++ 0 ∷ []) c.new-4.ensures.items) j;
    }) (all j)))
    (λ j. record (places_of c.add_all.new.self) {
      names = (c.in_ok-extend_from_slice.ensures.items ∙ ap (λ l. c.add_all.new.self.names.items ++ l) c.deref-2.ensures.value) j;
    })
