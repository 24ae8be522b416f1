-- One more tree is taken.
use Rattle.lucid_parse.proofs.Common.{sym, ◌∙◌}
use Rattle.lucid_parse.proofs.Gathering.{gather_more, length_more}
use Rattle.lucid_parse.proofs.build.pop_parts.Goals as goal

pub loop-i-preserved : goal.loop-i-preserved
loop-i-preserved c = record {
  taken =
      sym (gather_more c.args.count c.loop-i.i c.loop-i.trees c.pop.new.self c.loop-i.parts.items c.push.new.self.items c.in-Some.tree c.loop-i-test.true
      (rw c.in-Some.is at c.pop.ensures) c.in_ok-push.ensures.items)
      ∙ c.loop-i.invariant.taken;
  as_many = length_more c.loop-i.i c.loop-i.parts.items c.push.new.self.items c.in-Some.tree c.loop-i.invariant.as_many c.in_ok-push.ensures.items;
}
