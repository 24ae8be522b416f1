use Rattle.lucid_top.proofs.Common.{◌≡◌, ◌++◌, List, ℕ, ap, subst, ◌∙◌, scoped_tree, scoped_inputs, scoped_binding, table_of, IsSound, Table, IsTextOf, told, IsFlatForm}
use Rattle.lucid_compile.specs.Settled.{table_of as tree_table}
use Rattle.lucid_flat.specs.FlatText.{flat_text}
use Rattle.lucid_flat.specs.FlatTables.{HasText}
use Rattle.lucid_top.specs.Tables.{HasSoundTable}
use Rattle.lucid_top.proofs.Ending.{as_text, inputs_of}
use Rattle.lucid_top.proofs.TreeTables.{has_table}
use Rattle.lucid_top.proofs.writing.write_flat.Goals as goal

pub returns-clause-writes : goal.returns-clause-writes
returns-clause-writes g c =
    let tree = scoped_tree c.args.scoped.now in
    let free : List (List ℕ) = scoped_inputs c.args.scoped.now in
    let table : Table = table_of c.in_ok-program.program in
    let exact = c.in_ok-program.ensures.exact in
    let inputs = inputs_of tree (scoped_inputs c.args.scoped.now) (scoped_binding c.args.scoped.now) c.requires.resolved.resolved in
    as_text (λ written. written ≡ c.deref.result.now) (IsFlatForm tree) (told g.K.Sink.written g.K.Sink.faults g.K.Sink.late c.args.out.now)
    (told g.K.Sink.written g.K.Sink.faults g.K.Sink.late c.write_out.new.out) c.write_out.result
    (λ text is.
    let sound : IsSound table = c.in_ok-program.ensures.sound c.requires.few in
    let is_text : IsTextOf text table = record {
      has = subst (λ (t : Table). HasText t) c.table.ensures.value c.in_ok-show_flat.ensures.has;
      text = is ∙ c.deref.ensures.value ∙ c.in_ok-show_flat.ensures.text ∙ ap (λ front. front ++ flat_text c.table.result.now) c.new-text.ensures.items
          ∙ ap flat_text c.table.ensures.value;
    } in
    let here : HasSoundTable tree free = has_table tree free table exact sound c.in_ok-program.ensures.keeps c.in_ok-program.ensures.means in
    let is_its : IsTextOf text (tree_table tree free) = subst (λ (t : Table). IsTextOf text t) exact is_text in
    record {
      inputs = free;
      are = inputs;
      table = here;
      is = is_its;
      again = λ short. record { has = record { short = short; text = is_its }; sound = here.sound };
    })
    c.write_out.ensures.writes
