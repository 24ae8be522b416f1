use Rattle.lucid_tags.proofs.Common.{◌≡◌, ◌≢◌, ap, subst, arith, frames, cut, context_at, contexts}
use Rattle.std.proofs.Common.{Some}
use Rattle.lucid_tags.proofs.ContextLemmas.{cut-outer, outer-itself}
use Rattle.lucid_tags.proofs.RowLemmas.{length-depths}
use Rattle.lucid_tags.proofs.rows.Table.cut_to.Goals as goal

pub depth_of-depth-requires-clause-known : goal.depth_of-depth-requires-clause-known
depth_of-depth-requires-clause-known c = omega (arith, c.requires.known, length-depths _ _ c.requires.rows)

pub loop-depth-init : goal.loop-depth-init
loop-depth-init c = record {
  known = omega (arith, c.requires.known, length-depths _ _ c.requires.rows);
  before = omega arith;
  right = c.depth_of-depth.ensures;
  deep = omega (arith, c.depth_of-depth.ensures.level, c.requires.level);
  outer = outer-itself _;
}

pub returns-clause-known : goal.returns-clause-known
returns-clause-known c = omega (arith, c.loop-depth.invariant.known, length-depths _ _ c.requires.rows)

pub returns-clause-context : goal.returns-clause-context
returns-clause-context c =
    let known = contexts c.args.self.now.rows.keys in
    let level : frames (context_at known c.loop-depth.at) ≡ c.args.level = omega (arith, c.loop-depth.invariant.right.level, c.loop-depth.invariant.deep) in
    subst (λ n. cut n (context_at known c.args.number) ≡ Some (context_at known c.loop-depth.at)) level
    (cut-outer (context_at known c.loop-depth.at) (context_at known c.args.number) c.loop-depth.invariant.outer)

-- a context with fewer frames is another one, so its number is lower
pub returns-clause-lower : goal.returns-clause-lower
returns-clause-lower c h =
    let known = contexts c.args.self.now.rows.keys in
    let level : frames (context_at known c.loop-depth.at) ≡ c.args.level = omega (arith, c.loop-depth.invariant.right.level, c.loop-depth.invariant.deep) in
    let other : c.loop-depth.at ≢ c.args.number = λ e. omega (arith, h, level, ap (λ n. frames (context_at known n)) e) in
    omega (arith, c.loop-depth.invariant.before, other)
