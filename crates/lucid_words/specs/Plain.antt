-- The plain form of what words ask for: texts are lists of bytes.
use Rattle.std.specs.Prelude.{◌≡◌, ℕ, List, Option, Some, None, Result, MatchResult}
use Rattle.std.specs.String.{string_bytes}
use Rattle.lucid_words.specs.declared.Source.{Source}
use Rattle.lucid_words.specs.declared.Source.TheVariants.{File, Made}
use Rattle.lucid_words.specs.declared.Given.{Given}
use Rattle.lucid_words.specs.declared.WordsRefusal.{WordsRefusal}
use Rattle.lucid_words.specs.declared.WordsRefusal.TheVariants.{Usage}

-- Where a source comes from: the file of a name, or the made program of a number.
pub data PlainSource : Type 0 where
  file : List ℕ → PlainSource
  made : ℕ → PlainSource

abbrev pub plain_source : Source → PlainSource
plain_source (File name) = file (string_bytes name)
plain_source (Made number) = made number

-- An input's name and its file.
abbrev pub plain_given : Given → List ℕ × List ℕ
plain_given given = (given.name, string_bytes given.file)

-- What a call answers for an answer that is wanted, or is refused as usage where none is: want of memory is free.
abbrev pub Answers : {T P : Type 0} → (T → P) → Option P → Result T WordsRefusal → Type 0
Answers plain wanted result =
    MatchResult result (λ value. wanted ≡ Some (plain value)) (λ refusal. refusal ≡ Usage → wanted ≡ None)
