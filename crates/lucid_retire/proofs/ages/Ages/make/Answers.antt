use Rattle.lucid_retire.proofs.Common.{◌≡◌, sym, subst, Stored, count_of, IsPaced}
use Rattle.lucid_retire.proofs.CountedTurns.{made_at}
use Rattle.lucid_retire.proofs.Paces.{paced_empty}
use Rattle.lucid_retire.proofs.ages.Ages.make.Goals as goal

pub returns-clause-made : goal.returns-clause-made
returns-clause-made c = made_at c.args.every c.args.limit

pub returns-clause-paced : goal.returns-clause-paced
returns-clause-paced c =
    subst (λ a. (w : Stored) → count_of w ≡ 0 → IsPaced a w) (sym (made_at c.args.every c.args.limit)) (paced_empty c.args.every c.args.limit)
