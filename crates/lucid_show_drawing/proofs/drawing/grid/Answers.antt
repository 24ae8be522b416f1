use Rattle.lucid_show_drawing.proofs.Common.{◌≡◌, ◌-◌, ◌++◌, ℕ, List, length, map, take, refl, rules, ap, subst, ◌∙◌}
use Rattle.std.specs.List.Sorted.{IsPermutation}
use Rattle.lucid_cert_rules.specs.Certificates.{plain_judgment}
use Rattle.lucid_cert_rules.specs.declared.telling.Entry.{Entry}
use Rattle.lucid_show_outline.specs.Chosen.{chosen}
use Rattle.lucid_show_outline.specs.Lines.{heading}
use Rattle.lucid_show_outline.specs.Views.{View, view_of}
use Rattle.lucid_show_drawing.specs.Drawings.{all_entries, roles_at}
use Rattle.lucid_show_drawing.specs.Panels.{plain_roles}
use Rattle.lucid_show_drawing.specs.Shown.{numbers, told_whole}
use Rattle.lucid_show_drawing.proofs.Shown.{grid_arrows, grid_panels}
use Rattle.lucid_show_drawing.proofs.Telling.{all_there, outline_at, shown_asked, shown_once}
use Rattle.lucid_show_drawing.proofs.drawing.grid.Goals as goal

pub told_whole-requires : goal.told_whole-requires
told_whole-requires c =
    let v : View = view_of c.args.source.now in
    let es : List Entry = c.in_ok-entries.entries.items in
    all_there v c.last-output.result es c.deref-3.result.now c.deref.result.now
    (c.deref-3.ensures.value ∙ c.in_ok-told.ensures ∙ ap (chosen v) (c.deref-2.ensures.value ∙ c.in_ok-add_tests.ensures))
    (outline_at c.table.result.now v.table (map plain_judgment c.judgments.result.now) v.judgments c.last-output.result c.last-output.result es es
    c.table.ensures c.judgments.ensures refl refl c.in_ok-entries.ensures)

pub returns : goal.returns
returns c =
    let v : View = view_of c.args.source.now in
    let number : ℕ = length v.judgments - 1 in
    let es : List Entry = c.in_ok-entries.entries.items in
    let tests : List ℕ = c.in_ok-tests.tests.items in
    let all_are : c.add_tests.new.entries.items ≡ all_entries v es tests = c.in_ok-add_tests.ensures ∙ ap (all_entries v es) c.deref.ensures.value in
    let told_is : c.deref-3.result.now ≡ chosen v (all_entries v es tests) =
    c.deref-3.ensures.value ∙ c.in_ok-told.ensures ∙ ap (chosen v) (c.deref-2.ensures.value ∙ all_are) in
    let roles_are : plain_roles c.in_ok-roles.roles ≡ roles_at v number tests =
    c.in_ok-roles.ensures ∙ ap (λ (n : ℕ). roles_at v n c.deref-5.result.now) c.last-output.ensures ∙ ap (roles_at v number) c.deref-5.ensures.value in
    let left_out : c.saturating_sub-left_out.result ≡ length (told_whole c.deref-4.result.now) - length c.in_ok-shown.shown.items = search rules in
    record {
      entries = es;
      outlined = outline_at c.table.result.now v.table (map plain_judgment c.judgments.result.now) v.judgments c.last-output.result number es es
          c.table.ensures c.judgments.ensures c.last-output.ensures refl c.in_ok-entries.ensures;
      tests = tests;
      are_tests = c.in_ok-tests.ensures;
      shown = c.in_ok-shown.shown.items;
      asked = shown_asked v c.deref-3.result.now c.in_ok-all.all.items c.in_ok-shown.shown.items c.args.most c.in_ok-all.ensures
          c.in_ok-shown.ensures.same;
      each_once = subst (λ (ds : List Entry). IsPermutation (take c.args.most (told_whole ds)) (numbers c.in_ok-shown.shown.items)) told_is
          (shown_once v c.deref-3.result.now c.in_ok-all.all.items c.in_ok-shown.shown.items c.args.most c.in_ok-all.ensures c.in_ok-shown.ensures.same);
      left_out = left_out ∙ ap (λ (ds : List Entry). length (told_whole ds) - length c.in_ok-shown.shown.items) (c.deref-4.ensures.value ∙ all_are);
      heading = c.in_ok-put_heading.ensures ∙ ap (λ (z : List ℕ). z ++ heading v c.last-output.result) c.new-heading.ensures.items
          ∙ ap (heading v) c.last-output.ensures;
      panels = grid_panels v (plain_roles c.in_ok-roles.roles) (roles_at v number tests) c.deref-6.result.now c.in_ok-shown.shown.items _ roles_are
          c.deref-6.ensures.value c.in_ok-panels.ensures;
      arrows = grid_arrows v c.deref-7.result.now c.in_ok-shown.shown.items _ c.deref-7.ensures.value c.in_ok-arrows.ensures;
    }
