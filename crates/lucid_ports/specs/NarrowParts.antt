-- The parts of a narrowed reader.
use Rattle.std.specs.Prelude.{ℕ}
use Rattle.lucid_ports.specs.declared.narrow.Narrow.{Narrow}

-- the reader that it narrows
abbrev pub narrow_inner : {P : Type 0} → Narrow P → P
narrow_inner n = n.inner

-- how many bytes a piece may have
abbrev pub narrow_most : {P : Type 0} → Narrow P → ℕ
narrow_most n = n.most.bytes
