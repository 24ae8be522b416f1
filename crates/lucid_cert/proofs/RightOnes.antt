-- A certificate that is right is found wrong nowhere.
use Rattle.lucid_cert.proofs.CheckCommon.{subst, arith, contexts, IsOfRoot}
use Rattle.lucid_cert.specs.Checked.{not_following, not_of_root}
use Rattle.lucid_cert.specs.CheckLaws.{RightIsNotWrong}

pub right_is_not_wrong : RightIsNotWrong
right_is_not_wrong T b w number right (not_following below follow wrong) = wrong (right.all number below)
right_is_not_wrong T b w number right (not_of_root last follow wrong) =
    wrong (subst (λ i. IsOfRoot T (contexts T w) w.judgments i) (omega (arith, right.last_number, last)) right.of_root)
