-- Standard input behind a window, by the manner in which it is read.
use Rattle.std.specs.Prelude.{ℕ, List, Option}
use Rattle.lucid_ports.specs.Supply.{shown_taken, shown_kept, with_taken}
use Rattle.lucid_ports.specs.World.{Contents}
use Rattle.lucid_ports.specs.declared.standard_input.Manner.{Manner}
use Rattle.lucid_ports.specs.declared.standard_input.Manner.TheVariants.{Unknown, Kept, Taken}

-- what is shown of the reader
abbrev pub shown_of : Manner → List ℕ → Option Contents → List ℕ
shown_of Unknown bytes told = shown_taken bytes told
shown_of Kept bytes told = shown_kept bytes told
shown_of Taken bytes told = shown_taken bytes told

-- what the place tells
abbrev pub contents_of : Manner → List ℕ → Option Contents → Option Contents
contents_of Unknown bytes told = with_taken bytes told
contents_of Kept bytes told = told
contents_of Taken bytes told = with_taken bytes told

-- one call of the reader, which gave that answer: a read where its bytes are taken, and a show where it keeps them, or may keep them
abbrev pub AsksOnce : {I : Type 0} (m : Manner) (read show : I → Option ℕ → I → Type 0) → I → Option ℕ → I → Type 0
AsksOnce {I} Unknown read show old answer new = (shown : I) × show old answer shown
AsksOnce Kept read show old answer new = show old answer new
AsksOnce Taken read show old answer new = read old answer new
