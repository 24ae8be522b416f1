use Rattle.lucid_flat.proofs.SoundCommon.{ap, both_ways, wrong_root, is_some}
use Rattle.lucid_flat.specs.declared.program.BuildRefusal.TheVariants.{Root}
use Rattle.lucid_flat.proofs.Rights.{refused, rights-sound}
use Rattle.lucid_flat.proofs.InRange.{in-range}
use Rattle.lucid_flat.proofs.program.build.Goals as goal

pub returns-then-not-is_root_right-clause-refused : goal.returns-then-not-is_root_right-clause-refused
returns-then-not-is_root_right-clause-refused c =
    refused c.args.table Root (wrong_root c.in_ok-check_rows.ensures.right
    (λ root. both_ways _ c.if-not-is_root_right.true (c.is_root_right.ensures.1 (root.root, root.few))))

pub returns-in-Some-clause-sound : goal.returns-in-Some-clause-sound
returns-in-Some-clause-sound c =
    let root = c.is_root_right.ensures.0 c.if-not-is_root_right.false in
    let made = c.in_ok-program.ensures.exactly.0 (ap is_some c.in-Some.is) in
    rights-sound c.args.table c.in_ok-check_rows.ensures.right (record { root = root.0; differ = made.1; few = root.1 })

pub returns-in-None-clause-refused : goal.returns-in-None-clause-refused
returns-in-None-clause-refused c =
    let rows = c.in_ok-check_rows.ensures.right in
    refused c.args.table Root (wrong_root rows (λ root.
    both_ways (is_some c.in_ok-program.field-0) (ap is_some c.in-None.is)
    (c.in_ok-program.ensures.exactly.1 (in-range c.args.table rows root.root root.few, root.differ))))
