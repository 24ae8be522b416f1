-- What is read again of files.
use Rattle.std.specs.Prelude.{◌≡◌, ℕ, Bool, true, false, List, take, Option, IfSome}
use Rattle.lucid_explain_report.specs.declared.outlook.Again.{Again}
use Rattle.lucid_explain_report.specs.declared.outlook.Again.TheVariants.{Bytes, Unread, Gone}

-- What stands under a name: a regular file that holds bytes, nothing that can be opened and read, or what is no regular file.
pub data Held : Type 0 where
  holds : List ℕ → Held
  unread : Held
  gone : Held

-- what stands under each name, where that is told
abbrev pub Files : Type 0
Files = List ℕ → Option Held

-- what is seen of it, of at most so many bytes
abbrev pub seen_of : (most : ℕ) → Held → Held
seen_of most (holds bytes) = holds (take most bytes)
seen_of most unread = unread
seen_of most gone = gone

-- This is seen under the name, as far as it is told what stands there.
abbrev pub IsSeen : Files → (name : List ℕ) → (most : ℕ) → (seen : Held) → Type 0
IsSeen files name most seen = IfSome (files name) (λ held. seen ≡ seen_of most held)

abbrev pub is_unread : Held → Bool
is_unread (holds bytes) = false
is_unread unread = true
is_unread gone = false

-- what comes of reading again
abbrev pub plain_again : Again → Held
plain_again (Bytes bytes) = holds bytes.items
plain_again Unread = unread
plain_again Gone = gone

abbrev pub IsAgain : Files → (name : List ℕ) → (most : ℕ) → Again → Type 0
IsAgain files name most again = IsSeen files name most (plain_again again)
