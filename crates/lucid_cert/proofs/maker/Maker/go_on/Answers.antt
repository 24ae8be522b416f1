use Rattle.lucid_cert.proofs.Common.{List, ℕ, subst, sym, length, ◌<◌, map, AllByRecursion, plain, Stands, rest_plan, gives_only, told, judgments_of, table_in, Rest, HasCome, task_at}
use Rattle.lucid_cert.proofs.Forming.{forming_ends, look_forming}
use Rattle.lucid_cert.proofs.Starting.{own_memory}
use Rattle.lucid_cert.proofs.StayingWanted.{stays_ok}
use Rattle.lucid_cert.proofs.maker.Maker.go_on.Goals as goal

pub wait_for-requires-clause-forming : goal.wait_for-requires-clause-forming
wait_for-requires-clause-forming c =
    look_forming (table_in c.args.self.now) c.args.self.now.tags (judgments_of c.args.self.now) c.args.making.at c.args.making.space c.args.making.uses.items
    c.args.rest c.in-Look.look c.in-Look.is c.requires.forming

pub given-requires-clause-there : goal.given-requires-clause-there
given-requires-clause-there c =
    subst (λ (us : List ℕ). AllByRecursion (λ u. u < length (judgments_of c.args.self.now)) us) (sym c.as_slice.ensures.value) c.requires.forming.earlier

pub given-requires-clause-stands : goal.given-requires-clause-stands
given-requires-clause-stands c = subst (λ (us : List ℕ). Stands (length us) c.args.rest) (sym c.as_slice.ensures.value) c.requires.forming.stands

pub returns-clause-follow : goal.returns-clause-follow
returns-clause-follow c b follow =
    c.in_ok-make.ensures.follow b
    (forming_ends (table_in c.args.self.now) c.args.self.now.tags (judgments_of c.args.self.now) c.args.making.at c.args.making.space c.args.making.uses.items
    c.args.rest (plain c.in_ok-value.value) c.requires.forming
    (λ m. subst (λ (us : List ℕ). gives_only (rest_plan m (map (told (judgments_of c.args.self.now)) us) c.args.rest) (plain c.in_ok-value.value))
    c.as_slice.ensures.value (c.in_ok-value.ensures m)) b) follow

pub returns-in_err-value-clause-own : goal.returns-in_err-value-clause-own
returns-in_err-value-clause-own c = own_memory c.from_residual.result c.from_residual.ensures.1

pub returns-in_err-make-clause-own : goal.returns-in_err-make-clause-own
returns-in_err-make-clause-own c = own_memory c.from_residual-in_err-make.result c.from_residual-in_err-make.ensures.1

pub returns-in-Look-clause-wanted : goal.returns-in-Look-clause-wanted
returns-in-Look-clause-wanted c b root range own come all =
    c.wait_for.ensures.wanted b root range own
    (subst (λ (r : Rest). HasCome (table_in c.args.self.now) b (task_at c.args.self.now.tags c.args.making.at c.args.making.space c.args.making.limit) r)
    c.in-Look.is come) all

pub returns-clause-wanted : goal.returns-clause-wanted
returns-clause-wanted c b root range own come all = stays_ok b root c.args.self.now c.make.new.self (c.in_ok-make.ensures.wanted b root all)
