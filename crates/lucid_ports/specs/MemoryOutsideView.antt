-- What files in memory hold, and what is read of one.
use Rattle.std.specs.Prelude.{List}
use Rattle.lucid_ports.specs.declared.files.MemoryFile.{MemoryFile}
use Rattle.lucid_ports.specs.declared.memory_outside.MemoryOutside.{MemoryOutside}
use Rattle.lucid_ports.specs.declared.memory_outside.MemoryReader.{MemoryReader}
use Rattle.lucid_ports.specs.MemoryView.{read_to}
use Rattle.lucid_ports.specs.World.{Contents}

-- the files
abbrev pub outside_files : MemoryOutside → List MemoryFile
outside_files o = o.files.now

-- the bytes read of a file and those that are left
abbrev pub reader_contents : MemoryReader → Contents
reader_contents r = read_to r.position r.bytes.now
