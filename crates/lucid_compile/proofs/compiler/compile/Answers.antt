use Rattle.lucid_compile.proofs.Common.{◌≡◌, ◌≤◌, length, arith, true, false, Option, Some, None, ap, sym, ◌∙◌, subst, AllDiffer, refl, scoped_tree, scoped_inputs, Table, IsInRange, equations_of, IsSound, lists, Numbered, KeepsTree, ◌↔◌, is_some, IfSome, Program, table_of}
use Rattle.lucid_equations.specs.Rows.{node_at}
use Rattle.lucid_compile.specs.Building.{no_lists}
use Rattle.lucid_compile.specs.Steps.{AreRowsOf}
use Rattle.lucid_compile.specs.Meant.{NodesMeanTheirPieces}
use Rattle.lucid_compile.proofs.Final.{IsMade, table-made}
use Rattle.lucid_compile.proofs.compiler.compile.Goals as goal

-- the table of the program that was made
table-is : (o : Option Program) (p : Program) (t : Table) → o ≡ Some p → IfSome o (λ x. table_of x ≡ t) → table_of p ≡ t
table-is o p t e h = subst (λ z. IfSome z (λ x. table_of x ≡ t)) e h

-- a table in range whose inputs differ has a program
never-none : (o : Option Program) (t : Table) → o ≡ None → ((is_some o ≡ true) ↔ (IsInRange t × AllDiffer t.inputs)) → IsInRange t → AllDiffer t.inputs → ⊥
never-none o t e h r d =
    let q : false ≡ true = sym (ap is_some e) ∙ h.1 (r, d) in
    cc

pub returns : goal.returns
returns c =
    let rows : AreRowsOf c.args.scoped.now (lists c.fill.new.rows) c.in_ok-root.root = c.in_ok-root.ensures in
    let w : Numbered = record { numbering = rows.numbering; scoped = c.args.scoped.now } in
    let t : Table = c.in_ok-table.table in
    let inputs : c.in_ok-inputs.inputs.items ≡ scoped_inputs c.args.scoped.now = c.in_ok-inputs.ensures ∙ c.inputs.ensures.value in
    let names : t.inputs ≡ scoped_inputs c.args.scoped.now = c.in_ok-table.ensures.inputs_are ∙ inputs in
    let made : IsMade w (scoped_tree c.args.scoped.now) t =
    table-made w no_lists rows.opened rows.walked (scoped_tree c.args.scoped.now) rows.scope c.in_ok-root.root rows.well_made rows.resolved refl rows.opens refl
    rows.adds (lists c.fill.new.rows) c.in_ok-inputs.inputs.items t c.free_names_are_inputs.ensures rows.numbers rows.links inputs c.in_ok-table.ensures in
    let same : table_of c.in-Some.program ≡ t = table-is c.in_ok-program.field-0 c.in-Some.program t c.in-Some.is c.in_ok-program.ensures.table in
    let sound : length (scoped_inputs c.args.scoped.now) ≤ 1048576
    → IsSound t = λ few. made.sound (subst AllDiffer (sym names) c.inputs.ensures.differ) (omega (arith, ap length names, few)) in
    record {
      exact = same ∙ made.exact;
      means = subst (λ t. NodesMeanTheirPieces (scoped_tree c.args.scoped.now) (equations_of t) (node_at t)) (sym same) made.means;
      keeps = subst (λ t. KeepsTree (equations_of t) (scoped_tree c.args.scoped.now)) (sym same) made.keeps;
      sound = subst (λ t. length (scoped_inputs c.args.scoped.now) ≤ 1048576 → IsSound t) (sym same) sound;
      inputs = ap (λ (x : Table). x.inputs) same ∙ names;
    }

pub unreachable-requires : goal.unreachable-requires
unreachable-requires c =
    let rows : AreRowsOf c.args.scoped.now (lists c.fill.new.rows) c.in_ok-root.root = c.in_ok-root.ensures in
    let w : Numbered = record { numbering = rows.numbering; scoped = c.args.scoped.now } in
    let t : Table = c.in_ok-table.table in
    let inputs : c.in_ok-inputs.inputs.items ≡ scoped_inputs c.args.scoped.now = c.in_ok-inputs.ensures ∙ c.inputs.ensures.value in
    let made : IsMade w (scoped_tree c.args.scoped.now) t =
    table-made w no_lists rows.opened rows.walked (scoped_tree c.args.scoped.now) rows.scope c.in_ok-root.root rows.well_made rows.resolved refl rows.opens refl
    rows.adds (lists c.fill.new.rows) c.in_ok-inputs.inputs.items t c.free_names_are_inputs.ensures rows.numbers rows.links inputs c.in_ok-table.ensures in
    never-none c.in_ok-program.field-0 t c.in-None.is c.in_ok-program.ensures.exactly made.in_range
    (subst AllDiffer (sym (c.in_ok-table.ensures.inputs_are ∙ inputs)) c.inputs.ensures.differ)
