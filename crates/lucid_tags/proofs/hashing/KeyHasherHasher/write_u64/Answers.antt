-- A number is what its bytes are read as.
use Rattle.lucid_tags.proofs.Common.{ap, sym, ◌∙◌, le_bytes, from_le_bytes-to_le_bytes_8}
use Rattle.lucid_tags.specs.Hashing as hashing
use Rattle.lucid_tags.proofs.hashing.KeyHasherHasher.write_u64.Goals as goal

pub returns : goal.returns
unfolding le_bytes
returns c = c.add.ensures ∙ ap (hashing.added c.args.self.now) (sym (from_le_bytes-to_le_bytes_8 c.args.number c.ranges.number.fits))
