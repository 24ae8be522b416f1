-- What is noted of a source that runs, by its tokens alone: a list of constants with a name in it, a sum that lags behind, an inner block that begins
-- once, and in a block the name whose value it freezes. Each is right, and means what it says; a beginner mostly means something else. Of more than 4096
-- bytes nothing is noted.
use Rattle.std.specs.Prelude.{◌≡◌, ◌≢◌, ℕ, ◌<◌, ◌≤◌, Bool, true, false, ◌&&◌, ◌||◌, not, ◌==◌, List, [], ◌∷◌, ◌++◌, length, take, drop, min, codes, find, Option, Some, None, if◌then◌else◌}
use Rattle.std.specs.Option.{option_or}
use Rattle.std.specs.List.{list_any, prefix_len, slice_get, slice_split}
use Rattle.lucid_value.specs.Plain.{same_bytes}
use Rattle.lucid_value.specs.Reading.{is_blank}
use Rattle.lucid_scan.specs.declared.token.TokenKind.{TokenKind}
use Rattle.lucid_scan.specs.declared.token.TokenKind.TheVariants as kind
use Rattle.lucid_scan.specs.declared.token.Token.{Token}
use Rattle.lucid_scan.specs.declared.refusal.ScanRefusal.{ScanRefusal}
use Rattle.lucid_scan.specs.declared.refusal.ScanRefusal.TheVariants as scanned
use Rattle.lucid_scan.specs.Tokens.{Tokens}
use Rattle.lucid_scan.specs.Refusals.{Refuses}
use Rattle.lucid_explain_places.specs.Shown.{place_text}
use Rattle.lucid_explain_report.specs.declared.notes.Note.{Note}
use Rattle.lucid_explain_report.specs.declared.notes.Subject.{Subject}
use Rattle.lucid_explain_report.specs.declared.notes.Subject.TheVariants as subject

-- the most bytes of a source of which something is noted
abbrev pub most_noted : ℕ
most_noted = 4096

-- what stands before a place, and behind it; all and nothing where the place is past the end
abbrev pub before : {A : Type 0} → (at : ℕ) → List A → List A
before at items = take (min (length items) at) items

abbrev pub behind : {A : Type 0} → (at : ℕ) → List A → List A
behind at items = drop (min (length items) at) items

-- What holds or is found of the tokens from some place on to the end: of the first such place.
abbrev pub any_end : (List Token → Bool) → List Token → Bool
any_end p [] = false
any_end p (t ∷ ts) = p (t ∷ ts) || any_end p ts

abbrev pub first_end : {A : Type 0} → (List Token → Option A) → List Token → Option A
first_end f [] = None
first_end f (t ∷ ts) = option_or (f (t ∷ ts)) (first_end f ts)

-- the text of a token
abbrev pub text_in : (source : List ℕ) → Token → List ℕ
text_in source t = behind t.from (before t.to source)

abbrev pub is_spelt : (source word : List ℕ) → Token → Bool
is_spelt source word t = same_bytes (text_in source t) word

abbrev pub is_name : TokenKind → Bool
is_name kind.Name = true
is_name _ = false

abbrev pub is_list : TokenKind → Bool
is_list kind.ListText = true
is_list _ = false

-- the token of a number, or an empty one
abbrev pub or_empty : Option Token → Token
or_empty (Some t) = t
or_empty None = record { kind = kind.Fixed; from = 0; to = 0 }

abbrev pub token_at : List Token → (number : ℕ) → Token
token_at tokens number = or_empty (slice_get tokens number)

-- Between the items of a list stand blanks, `[` (91), `]` (93) and `%` (37).
abbrev pub parts_items : ℕ → Bool
parts_items b = is_blank b || (b == 91) || (b == 93) || (b == 37)

-- One of the items is this word, without quotes. A list with a string in it isn't looked at: that begins with a backquote (96), and may have blanks.
abbrev pub has_item : (list word : List ℕ) → Bool
has_item list word = not (list_any (λ b. b == 96) list) && list_any (λ part. same_bytes part word) (slice_split parts_items list)

-- the token is a name that the list has as a word
abbrev pub is_item : (source : List ℕ) → (list : Token) → Token → Bool
is_item source list t = is_name t.kind && has_item (text_in source list) (text_in source t)

abbrev pub note_of : Subject → (at : Token) → Option Token → Option Note
note_of what at None = None
note_of what at (Some name) = Some (record { subject = what; at = at; name = name })

-- some of the tokens is spelt so
abbrev pub has_word : (source word : List ℕ) → List Token → Bool
has_word source word tokens = list_any (is_spelt source word) tokens

-- The tokens begin with `N = X fby`, where N and X are names: so N has the number 0, and X the number 2.
abbrev pub is_start : (source : List ℕ) → List Token → Bool
is_start source ts =
    is_name (token_at ts 0).kind && is_spelt source (codes "=") (token_at ts 1) && is_name (token_at ts 2).kind && is_spelt source (codes "fby") (token_at ts 3)

-- the words that look at another time: they move in it, or pick times
abbrev pub is_moving : (word : List ℕ) → Bool
is_moving word = same_bytes word (codes "fby") || same_bytes word (codes "first") || same_bytes word (codes "next")

abbrev pub is_picking : (word : List ℕ) → Bool
is_picking word =
    same_bytes word (codes "whenever") || same_bytes word (codes "wvr") || same_bytes word (codes "asa")
    || same_bytes word (codes "upon") || same_bytes word (codes "attime")

abbrev pub is_timed : (word : List ℕ) → Bool
is_timed word = is_moving word || is_picking word

-- what ends a part of a definition that has no block in it
abbrev pub is_breaking : (word : List ℕ) → Bool
is_breaking word =
    same_bytes word (codes ";") || same_bytes word (codes "=") || same_bytes word (codes "where") || same_bytes word (codes "end")

abbrev pub len_of_part : (source : List ℕ) → List Token → ℕ
len_of_part source ts = prefix_len (λ t. not (is_breaking (text_in source t))) ts

abbrev pub part : (source : List ℕ) → List Token → List Token
part source ts = take (len_of_part source ts) ts

-- Behind such a beginning both names stand, and no word that looks at another time, as in `s = x fby s + x`.
abbrev pub lags : (source : List ℕ) → (name other : Token) → (right : List Token) → Bool
lags source name other right =
    has_word source (text_in source name) right && has_word source (text_in source other) right && not (list_any (λ t. is_timed (text_in source t)) right)

-- `current` stands nowhere: so no name is frozen.
abbrev pub is_sum : (source : List ℕ) → (all : List Token) → List Token → Bool
is_sum source all ts =
    is_start source ts && lags source (token_at ts 0) (token_at ts 2) (part source (behind 4 ts)) && not (has_word source (codes "current") all)

-- the tokens begin with the name, and then `=`
abbrev pub heads : (source : List ℕ) → (name : Token) → List Token → Bool
heads source name ts = is_spelt source (text_in source name) (token_at ts 0) && is_spelt source (codes "=") (token_at ts 1)

-- the X of a definition `N = X fby ..` with which the tokens begin, where the block doesn't define X
abbrev pub outer_at : (source : List ℕ) → (block : List Token) → List Token → Option Token
outer_at source block ts = if is_start source ts && not (any_end (heads source (token_at ts 2)) block) then Some (token_at ts 2) else None

abbrev pub first_outer : (source : List ℕ) → (block : List Token) → Option Token
first_outer source block = first_end (outer_at source block) block

-- what ends the definitions of a block, or begins an inner one
abbrev pub bounds_block : (word : List ℕ) → Bool
bounds_block word = same_bytes word (codes "where") || same_bytes word (codes "end")

abbrev pub len_of_block : (source : List ℕ) → List Token → ℕ
len_of_block source ts = prefix_len (λ t. not (bounds_block (text_in source t))) ts

-- of a block that has no inner one
abbrev pub outer_in : (source : List ℕ) → List Token → Option Token
outer_in source ts =
    if is_spelt source (codes "end") (token_at ts (len_of_block source ts))
    then first_outer source (take (len_of_block source ts) ts) else None

-- Of the block to which an `asa` belongs, behind which the rest of the subject and `where` come.
abbrev pub outer_of_part : (source : List ℕ) → List Token → Option Token
outer_of_part source ts = if is_spelt source (codes "where") (token_at ts 0) then outer_in source (behind 1 ts) else None

abbrev pub outer_behind : (source : List ℕ) → List Token → Option Token
outer_behind source ts = outer_of_part source (drop (len_of_part source ts) ts)

abbrev pub loop_at : (source : List ℕ) → (all : List Token) → List Token → Option Token
loop_at source all ts = if has_word source (codes "current") all then None else outer_behind source (behind 1 ts)

-- The tokens begin with `K is current X;`, where K and X are names: so K has the number 0, and X the number 3.
abbrev pub is_freeze : (source : List ℕ) → List Token → Bool
is_freeze source ts =
    is_name (token_at ts 0).kind && is_spelt source (codes "is") (token_at ts 1) && is_spelt source (codes "current") (token_at ts 2)
    && is_name (token_at ts 3).kind && is_spelt source (codes ";") (token_at ts 4)

-- the X of a definition `N = X fby ..` with which the tokens begin, where it is this name
abbrev pub used_at : (source : List ℕ) → (name : Token) → List Token → Option Token
used_at source name ts = if is_start source ts && is_spelt source (text_in source name) (token_at ts 2) then Some (token_at ts 2) else None

abbrev pub first_used : (source : List ℕ) → (name : Token) → (block : List Token) → Option Token
first_used source name block = first_end (used_at source name) block

-- the tokens of a block, up to its end or to an inner one
abbrev pub block_part : (source : List ℕ) → List Token → List Token
block_part source ts = take (len_of_block source ts) ts

-- the note of a K, at the X
abbrev pub frozen_at : Option Token → (name : Token) → Option Note
frozen_at None name = None
frozen_at (Some at) name = Some (record { subject = subject.Frozen; at = at; name = name })

-- Behind `K is current X;` a definition of the block begins with the first value of X, which isn't that of the time outside.
abbrev pub frozen_note : (source : List ℕ) → List Token → Option Note
frozen_note source ts =
    if is_freeze source ts then frozen_at (first_used source (token_at ts 3) (block_part source (behind 5 ts))) (token_at ts 0) else None

-- what is noted where these tokens begin, of those that the source has
abbrev pub note_at : (source : List ℕ) → (all : List Token) → List Token → Option Note
note_at source all ts =
    if is_list (token_at ts 0).kind then note_of subject.Constants (token_at ts 0) (find (is_item source (token_at ts 0)) all)
    else if is_spelt source (codes "asa") (token_at ts 0) then note_of subject.Block (token_at ts 0) (loop_at source all ts)
    else if is_sum source all ts then note_of subject.Sum (token_at ts 0) (Some (token_at ts 2))
    else frozen_note source ts

-- the first of all
abbrev pub first_note : (source : List ℕ) → (all : List Token) → Option Note
first_note source all = first_end (note_at source all) all

-- what is said of the name
abbrev pub said_of : Subject → (name : List ℕ) → List ℕ
said_of subject.Constants name =
    codes "A list between [% and %] has constants: " ++ (name ++ (codes " in it is the word " ++ (name ++ codes ". Of computed items it is `x :: y :: []`.\n")))
said_of subject.Sum name =
    codes "Behind `fby` stands the value for the next time, made of values of this time. If " ++ (name ++ (codes " of that next time is meant, write `next " ++ (name ++ codes "` there.\n")))
said_of subject.Block name =
    codes "`asa` gives one value for all times. A block that is to begin anew at each time has `k is current " ++ (name ++ (codes ";`, and then k in place of " ++ (name ++ codes ".\n")))
said_of subject.Frozen name =
    codes "Here the name goes on with the time of the block, where " ++ (name ++ (codes " is its value at the time outside: is " ++ (name ++ codes " meant?\n")))

abbrev pub said_text : (file source : List ℕ) → Note → List ℕ
said_text file source n = place_text file source (min (length source) n.at.from) ++ said_of n.subject (text_in source n.name)

abbrev pub note_text : (file source : List ℕ) → Option Note → List ℕ
note_text file source None = []
note_text file source (Some n) = said_text file source n

-- The text says that of a source of this name, where the scanner doesn't refuse it.
pub data TellsNote (file source text : List ℕ) : Type 0 where
  long : most_noted < length source → text ≡ [] → TellsNote file source text
  refused : (why : ScanRefusal) → why ≢ scanned.NoMemory → Refuses source why → text ≡ [] → TellsNote file source text
  noted : length source ≤ most_noted → (tokens : List Token) → Tokens source 0 tokens → text ≡ note_text file source (first_note source tokens) → TellsNote file source text
