use Rattle.lucid_cert.proofs.Common.{sym, ap, ◌∙◌, length, ◌<◌, AllByRecursion, plain, GivesBy, IsForming, MayJudge, judgments_of, table_in}
use Rattle.lucid_cert.proofs.Stepping.{look_used, may_look, one_use, passing_used, use_there, with_its_use}
use Rattle.lucid_cert.proofs.StayingWanted.{use_stays, stays_ok}
use Rattle.lucid_cert.proofs.maker.Maker.uses.Goals as goal

pub value-requires : goal.value-requires
value-requires c = use_there (table_in c.args.self.now) c.args.self.now.tags (judgments_of c.args.self.now) c.args.making c.requires.waiting c.args.number
    c.requires.it

-- It waited for a look.
pub go_on-requires : goal.go_on-requires
go_on-requires c =
    may_look (table_in c.args.self.now) c.args.self.now.tags (judgments_of c.args.self.now) c.args.making c.requires.waiting c.in-Look.look
    (sym c.in_ok-making.ensures.next ∙ c.in-Look.is)

pub go_on-requires-in-Look-clause-may : goal.go_on-requires-in-Look-clause-may
go_on-requires-in-Look-clause-may c =
    with_its_use (λ at s us. MayJudge (table_in c.args.self.now) c.args.self.now.tags at s) c.args.making c.in_ok-making.making c.args.number
    c.in_ok-making.ensures c.requires.waiting.may

pub go_on-requires-in-Look-clause-forming : goal.go_on-requires-in-Look-clause-forming
go_on-requires-in-Look-clause-forming c =
    with_its_use (λ at s us. IsForming (table_in c.args.self.now) c.args.self.now.tags (judgments_of c.args.self.now) at s us c.go_on.result) c.args.making
    c.in_ok-making.making c.args.number c.in_ok-making.ensures
    (look_used (table_in c.args.self.now) c.args.self.now.tags (judgments_of c.args.self.now) c.args.making c.requires.waiting c.in-Look.look
    (sym c.in_ok-making.ensures.next ∙ c.in-Look.is) c.args.number c.requires.it
    (plain c.in_ok-value.value) c.go_on.result (ap plain c.in_ok-value.ensures ∙ c.value.ensures) c.go_on.ensures.plan c.go_on.ensures.stands
    c.go_on.ensures.inside)

-- It waited for what it goes on with.
pub make-requires-clause-may : goal.make-requires-clause-may
make-requires-clause-may c =
    with_its_use (λ at s us. MayJudge (table_in c.args.self.now) c.args.self.now.tags at s) c.args.making c.in_ok-making.making c.args.number
    c.in_ok-making.ensures c.requires.waiting.may

pub make-requires-clause-earlier : goal.make-requires-clause-earlier
make-requires-clause-earlier c =
    with_its_use (λ at s us. AllByRecursion (λ u. u < length (judgments_of c.args.self.now)) us) c.args.making c.in_ok-making.making c.args.number
    c.in_ok-making.ensures
    (one_use (table_in c.args.self.now) c.args.self.now.tags (judgments_of c.args.self.now) c.args.making c.requires.waiting c.in-Position.at
    c.in-Position.references
    (sym c.in_ok-making.ensures.next ∙ c.in-Position.is) c.args.number c.requires.it)

pub returns-in_ok-make-in-Position-clause-follow : goal.returns-in_ok-make-in-Position-clause-follow
returns-in_ok-make-in-Position-clause-follow c b follow =
    c.in_ok-make-in-Position.ensures.follow b
    (with_its_use (λ at s us. GivesBy (table_in c.args.self.now) b c.args.self.now.tags (judgments_of c.args.self.now) at s us (plain c.in_ok-value.value))
    c.args.making c.in_ok-making.making c.args.number
    c.in_ok-making.ensures
    (passing_used (table_in c.args.self.now) c.args.self.now.tags (judgments_of c.args.self.now) c.args.making c.requires.waiting c.in-Position.at
    c.in-Position.references
    (sym c.in_ok-making.ensures.next ∙ c.in-Position.is) c.args.number c.requires.it (plain c.in_ok-value.value)
    (ap plain c.in_ok-value.ensures ∙ c.value.ensures) b)) follow

-- What waits stays wanted.
pub returns-in-Look-clause-wanted : goal.returns-in-Look-clause-wanted
returns-in-Look-clause-wanted c b root range follow may all =
    use_stays b root c.args.self.now c.go_on-in-Look.new.self range follow c.args.making c.in_ok-making.making c.args.number c.in_ok-making.ensures
    c.in-Look.look c.in-Look.is c.requires.waiting c.requires.it
    (plain c.in_ok-value.value) (ap plain c.in_ok-value.ensures ∙ c.value.ensures) c.go_on.result c.go_on.ensures.plan c.go_on.ensures.stands
    c.go_on-in-Look.result (c.go_on-in-Look.ensures.wanted b root range) may all

pub returns-in_ok-make-in-Position-clause-wanted : goal.returns-in_ok-make-in-Position-clause-wanted
returns-in_ok-make-in-Position-clause-wanted c b root range follow may all =
    stays_ok b root c.args.self.now c.make.new.self (c.in_ok-make-in-Position.ensures.wanted b root all)
