use Rattle.lucid_explain_places.proofs.Common.{inl, inr, sym, arith, cases_lt}
use Rattle.lucid_explain_places.proofs.Grows.{one_place}
use Rattle.lucid_explain_places.proofs.laws.positions_tell_places.Goals as goal

pub returns : goal.returns
returns c source at other h k same alike = elim (cases_lt at other) [
  | inl below ↦ one_place source at other (omega arith) k same alike
  | inr above ↦ sym (one_place source other at above h (sym same) (sym alike))
]
