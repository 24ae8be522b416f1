use Rattle.lucid_compile.proofs.Common.{◌≡◌, ℕ, ◌+◌, List, get_or, Option, nat_eq, ap, ◌∙◌, arith, get_or_default, lookup, Mark, Key, mark_by}
use Rattle.lucid_compile.proofs.Marking.{Marked, mark-more, none-there}
use Rattle.lucid_compile.proofs.numbering.mark_all.Goals as goal

pub loop-key-preserved : goal.loop-key-preserved
loop-key-preserved c =
    let ks : List Key = c.args.keys.now in
    let i : ℕ = c.loop-key.key-index in
    let x : Key = get_or ks i (record { at = 0; first = 0; level = 0 }) in
    let m : Mark = record { number = c.in_ok-number.number; first = x.first; level = x.level } in
    let before : ℕ → Option Mark = λ q. lookup (nat_eq q) c.args.marks.now.entries in
    let old : ℕ → Option Mark = λ q. lookup (nat_eq q) c.loop-key.marks.entries in
    let new : ℕ → Option Mark = λ q. lookup (nat_eq q) c.insert.new.self.entries in
    let h : Marked old before c.args.start ks i = record { marked = c.loop-key.invariant.1; others = c.loop-key.invariant.2 } in
    let mark : m ≡ mark_by (c.args.start + i) x = ap (λ n. record { number = n; first = x.first; level = x.level })
    (c.in_ok-number.ensures ∙ c.loop-key.invariant.0) in
    let is : x ≡ get_or ks i x = get_or_default ks i (record { at = 0; first = 0; level = 0 }) x c.loop-key-test.true in
    let r : Marked new before c.args.start ks (i + 1) =
    mark-more before old new c.args.start ks i x m c.requires.differ c.loop-key-test.true is mark (λ q. c.in_ok-insert.ensures.updates.0 q) h in
    (omega (arith, c.loop-key.invariant.0), r.marked, r.others)

pub returns-clause-others : goal.returns-clause-others
returns-clause-others c = λ at out. c.loop-key.invariant.2 at (λ k d l. none-there c.args.keys.now at out k d (omega (arith, l)))
