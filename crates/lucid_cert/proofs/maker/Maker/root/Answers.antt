use Rattle.lucid_cert.proofs.Common.{ap, arith, space_of}
use Rattle.lucid_cert.proofs.maker.Maker.root.Goals as goal

pub returns-clause-root : goal.returns-clause-root
returns-clause-root c = record { node = c.root.ensures.value; context = c.root-2.ensures.tag }

pub returns-clause-may : goal.returns-clause-may
returns-clause-may c = record {
  within = record { node = c.root.ensures.below; time = c.requires };
  context = record { known_tag = c.root-2.ensures.known; space = ap space_of c.root-2.ensures.tag };
  space_in_range = omega arith;
}
