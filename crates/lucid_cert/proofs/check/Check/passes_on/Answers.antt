use Rattle.lucid_cert.proofs.CheckCommon.{plain, context_of, table_of, contexts_of, row_onward, judgments_of, contexts_in}
use Rattle.lucid_cert_rules.specs.Checking.{going}
use Rattle.lucid_cert.proofs.Using.{still_sound, still_same, passed_by}
use Rattle.lucid_cert.proofs.check.Check.passes_on.Goals as goal

pub is_passed_on-requires-clause-sound : goal.is_passed_on-requires-clause-sound
is_passed_on-requires-clause-sound c = still_sound c.args.self.now c.onward.new.tags c.requires.sound c.onward.ensures.keeps c.onward.ensures.once

pub returns-in_err-at-clause-sound : goal.returns-in_err-at-clause-sound
returns-in_err-at-clause-sound c = still_sound c.args.self.now c.onward.new.tags c.requires.sound c.onward.ensures.keeps c.onward.ensures.once

pub returns-in_err-at-clause-same : goal.returns-in_err-at-clause-same
returns-in_err-at-clause-same c = still_same c.args.self.now c.onward.new.tags c.requires.sound c.onward.ensures.keeps

pub returns-clause-sound : goal.returns-clause-sound
returns-clause-sound c = still_sound c.args.self.now c.onward.new.tags c.requires.sound c.onward.ensures.keeps c.onward.ensures.once

pub returns-clause-same : goal.returns-clause-same
returns-clause-same c = still_same c.args.self.now c.onward.new.tags c.requires.sound c.onward.ensures.keeps

pub returns-clause-follows : goal.returns-clause-follows
returns-clause-follows c b =
    passed_by b c.is_passed_on.result (judgments_of c.args.self.now) c.args.before (contexts_in c.args.self.now)
    (contexts_of c.onward.new.tags c.args.self.now.contexts.items) (going c.onward.new.tags c.in_ok-at.at)
    (row_onward (table_of c.args.self.now.program.now) c.args.node (context_of c.args.self.now.tags c.args.context) c.args.row.now.time) c.args.row.now.space
    c.args.row.now.uses (plain c.args.row.now.value)
    (still_same c.args.self.now c.onward.new.tags c.requires.sound c.onward.ensures.keeps).contexts c.in_ok-at.ensures.at (c.is_passed_on.ensures b)
