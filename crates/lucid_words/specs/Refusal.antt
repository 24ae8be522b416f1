-- The refusal of words for the refusal of a name.
use Rattle.lucid_words.specs.declared.WordsRefusal.{WordsRefusal}
use Rattle.lucid_words.specs.declared.WordsRefusal.TheVariants as words
use Rattle.lucid_value.specs.declared.bytes.MakeRefusal.{MakeRefusal}
use Rattle.lucid_value.specs.declared.bytes.MakeRefusal.TheVariants.{NotThat, NoMemory}

-- Bytes that are no name are refused as usage.
abbrev pub refusal_for : MakeRefusal → WordsRefusal
refusal_for NotThat = words.Usage
refusal_for NoMemory = words.NoMemory
