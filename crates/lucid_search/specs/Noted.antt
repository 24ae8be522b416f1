-- Noted positions as a finite map from a node, a tag and a key to a number. All of it is this project's own.
use Rattle.std.specs.Prelude.{◌≡◌, ℕ, ◌≤◌, ◌+◌, ◌-◌, ◌^◌, min, List, [], Option, Some, Bool, ◌==◌, ◌&&◌, IsSome, if◌then◌else◌, option_and_then}
use Rattle.std.specs.Map.{lookup}
use Rattle.lucid_tags.specs.declared.Tag.{Tag}
use Rattle.lucid_tags.specs.Known.{same_tag}
use Rattle.lucid_search.specs.declared.Site.{Site}
use Rattle.lucid_search.specs.Numbered.{number_in}

-- two sites are the same: the same node and tag
abbrev pub same_site : Site → Site → Bool
same_site a b = (a.node == b.node) && same_tag a.tag b.tag

-- the pairs of a key and a number that are noted of each site, and how many notes were missed for want of memory
pub record Noted : Type 0 where
  pub sites : List (Site × List (ℕ × ℕ))
  pub missed : ℕ

-- nothing is noted
abbrev pub nothing_noted : Noted
nothing_noted = record { sites = []; missed = 0 }

-- the number at a site and a key, if one is noted
abbrev pub number_of_site : List (Site × List (ℕ × ℕ)) → Site → ℕ → Option ℕ
number_of_site sites site key = option_and_then (λ pairs. number_in pairs key) (lookup (same_site site) sites)

-- the number at a node, a tag and a key, if one is noted
abbrev pub number_at : Noted → ℕ → Tag → ℕ → Option ℕ
number_at noted node tag key = number_of_site noted.sites (record { node = node; tag = tag }) key

-- the pair is that of the greatest key that is at most `key`, where `numbers` gives the number of each key
pub record IsGreatest (numbers : ℕ → Option ℕ) (key : ℕ) (pair : ℕ × ℕ) : Type 0 where
  pub noted : numbers pair.0 ≡ Some pair.1
  pub low : pair.0 ≤ key
  pub greatest : (q : ℕ) → q ≤ key → IsSome (numbers q) → q ≤ pair.0

-- the same among pairs
abbrev pub IsBestOf : List (ℕ × ℕ) → ℕ → ℕ × ℕ → Type 0
IsBestOf pairs key pair = IsGreatest (number_in pairs) key pair

-- the pair is the best noted position: that of the greatest noted key that is at most `key`
abbrev pub IsBest : Noted → ℕ → Tag → ℕ → ℕ × ℕ → Type 0
IsBest noted node tag key pair = IsGreatest (number_at noted node tag) key pair

-- the number is now noted at the node, the tag and the key, and all else is noted as before
abbrev pub NotesOnly : Noted → Noted → ℕ → Tag → ℕ → ℕ → Type 0
NotesOnly old new node tag key number = (n : ℕ) (t : Tag) (k : ℕ)
    → number_at new n t k ≡ (if same_site (record { node = node; tag = tag }) (record { node = n; tag = t }) && (k == key) then Some number else number_at old n t k)

-- the same by the sites alone
abbrev pub NotesSite : List (Site × List (ℕ × ℕ)) → List (Site × List (ℕ × ℕ)) → Site → ℕ → ℕ → Type 0
NotesSite old new site key number = (q : Site) (k : ℕ) → number_of_site new q k ≡ (if same_site site q && (k == key) then Some number else number_of_site old q k)

abbrev pub SameSites : List (Site × List (ℕ × ℕ)) → List (Site × List (ℕ × ℕ)) → Type 0
SameSites old new = (q : Site) (k : ℕ) → number_of_site new q k ≡ number_of_site old q k

-- the same positions are noted
abbrev pub SameNotes : Noted → Noted → Type 0
SameNotes old new = (n : ℕ) (t : Tag) (k : ℕ) → number_at new n t k ≡ number_at old n t k

-- a note is made, or it is missed: then nothing is noted, and the count rises, up to its type's end
pub data NotesOrMisses (old new : Noted) (node : ℕ) (tag : Tag) (key number : ℕ) : Type 0 where
  Notes : NotesOnly old new node tag key number → new.missed ≡ old.missed → NotesOrMisses old new node tag key number
  Misses : SameNotes old new → new.missed ≡ min (old.missed + 1) (2 ^ 64 - 1) → NotesOrMisses old new node tag key number
