-- Where a source comes from: what is told of it, and its place.
use Rattle.std.specs.Prelude.{◌≡◌, ℕ, List, IfSome, IsSome}
use Rattle.lucid_ports.specs.World.{World}
use Rattle.lucid_make.specs.Source.{made_source}
use Rattle.lucid_words.specs.Plain.{PlainSource, file, made}

-- The source: what the file of its name holds, where that is told; or the text of a made program.
abbrev pub IsSource : PlainSource → World → List ℕ → Type 0
IsSource (file name) w bytes = IfSome (w.holds name) (λ held. bytes ≡ held)
IsSource (made n) w bytes = bytes ≡ made_source n

-- the source is told
abbrev pub IsTold : PlainSource → World → Type 0
IsTold (file name) w = IsSome (w.holds name)
IsTold (made n) w = Unit {0}

-- how many places are reached for it: that of its file, where it has one
abbrev pub first_place : PlainSource → ℕ
first_place (file name) = 1
first_place (made n) = 0
