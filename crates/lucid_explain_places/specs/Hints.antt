-- What was probably meant at a place where the tokens go wrong: by the tokens about it, and by those that may stand there. Of the hints the first
-- that fits is said. Those marked `unfoldable` are so that proofs of the others see their names alone.
use Rattle.std.specs.Prelude.{ℕ, List, [], ◌∷◌, ◌++◌, length, map, take, Bool, true, false, not, ◌&&◌, ◌||◌, ◌==◌, codes, nat_eq, if◌then◌else◌, Option, None, Some}
use Rattle.std.specs.List.{list_any, prefix_len, starts_with}
use Rattle.std.specs.Char.{is_ascii_alphabetic, is_ascii_digit, to_ascii_lowercase}
use Rattle.lucid_value.specs.Plain.{same_bytes}
use Rattle.lucid_value.specs.Names.{is_reserved}
use Rattle.lucid_ops.specs.declared.op.Form.{Form}
use Rattle.lucid_ops.specs.declared.op.Form.TheVariants.{Between, Before, Called}
use Rattle.lucid_parse.specs.declared.operator.Operator.{Operator}
use Rattle.lucid_parse.specs.Operators.{row_of, spelled}
use Rattle.lucid_explain_places.specs.declared.candidates.Candidate.{Candidate}
use Rattle.lucid_explain_places.specs.Positions.{ends_line, stands_in_line}
use Rattle.lucid_explain_places.specs.Around.{PlainAround}

-- a token with this text may stand at the place
abbrev pub has : (text : List ℕ) → List Candidate → Bool
has text those = list_any (λ c. same_bytes c.text.now text) those

-- the token is this one, and another one may stand there
abbrev pub reads : (read word other : List ℕ) → List Candidate → Bool
reads read word other those = same_bytes read word && has other those

-- a definition, an `if` or a parenthesis is open, and what ends it or goes on with it may stand there
abbrev pub is_open : List Candidate → Bool
is_open those =
    has (codes ";") those || has (codes "then") those || has (codes "else") those || has (codes "fi") those || has (codes ")") those || has (codes ",") those

-- an expression ends before the place, and nothing is open: so the program may end there
abbrev pub is_whole : List Candidate → Bool
is_whole those = has (codes "where") those && not (is_open those)

-- what ends an expression, or the end of the source
abbrev pub is_closing : List ℕ → Bool
is_closing read = list_any (same_bytes read) (codes ";" ∷ codes "end" ∷ codes ")" ∷ codes "," ∷ codes "fi" ∷ [] ∷ [])

abbrev pub is_comparison : List ℕ → Bool
is_comparison read = list_any (same_bytes read) (codes "<" ∷ codes ">" ∷ codes "<=" ∷ codes ">=" ∷ codes "eq" ∷ codes "ne" ∷ [])

-- how other languages write `else if`
abbrev pub is_elif : List ℕ → Bool
is_elif read = same_bytes read (codes "elif") || same_bytes read (codes "elsif") || same_bytes read (codes "elseif")

-- what other languages write before a `=` that changes a value
abbrev pub is_step : List ℕ → Bool
is_step read = list_any (same_bytes read) (codes "+" ∷ codes "-" ∷ codes "*" ∷ [])

-- the words behind which an expression stands, and which are no operators
abbrev pub is_part_word : List ℕ → Bool
is_part_word read =
    same_bytes read (codes "if") || same_bytes read (codes "then") || same_bytes read (codes "else") || same_bytes read (codes "current")

-- an operator that is a reserved word, behind which an expression may stand
abbrev pub lacks_operand : (before : List ℕ) → List Candidate → Bool
lacks_operand before those = has (codes "1") those && is_reserved before && not (is_part_word before)

-- a reserved word but for capital letters
abbrev pub is_capital : List ℕ → Bool
is_capital text = is_reserved (map to_ascii_lowercase text) && not (is_reserved text)

abbrev pub begins_with : (ℕ → Bool) → List ℕ → Bool
begins_with fits [] = false
begins_with fits (b ∷ bs) = fits b

-- a number, and directly behind it a name
abbrev pub is_product : PlainAround → Bool
is_product a = length a.gap == 0 && begins_with is_ascii_digit a.before && begins_with is_ascii_alphabetic a.read && not (is_reserved a.read)

-- A line ends there; or a byte 13; or a comment begins in the line of the token before.
abbrev pub breaks_line : List ℕ → Bool
breaks_line gap = list_any ends_line gap

abbrev pub has_return : List ℕ → Bool
has_return gap = list_any (λ b. b == 13) gap

abbrev pub has_comment : List ℕ → Bool
has_comment gap = list_any (λ b. b == 47) (take (prefix_len stands_in_line gap) gap)

-- a comment that goes on past a byte 13, to the end of the source
abbrev pub is_swallowed : (gap : List ℕ) → Bool
is_swallowed gap = has_comment gap && has_return gap && not (breaks_line gap)

-- behind a parameter
abbrev pub is_behind_parameter : List Candidate → Bool
is_behind_parameter those = has (codes ")") those && not (has (codes "+") those)

-- a parenthesis that is open
abbrev pub open_hint : (read : List ℕ) → List ℕ
open_hint read =
    if same_bytes read (codes ",") then codes "Parentheses that are no call have one expression in them: a list is `x :: y :: []`. Reserved words, as `if` and `next`, are no functions: a choice is written `if .. then .. else .. fi`, and the value of n two times later `next next n`.\n"
    else codes "A `(` stands open before this: its `)` is missing.\n"

-- what ends nothing, where the program may end
abbrev pub whole_hint : PlainAround → List ℕ
whole_hint a =
    if same_bytes a.read (codes ")") then codes "Before this no `(` is open: leave it out.\n"
    else if same_bytes a.read (codes ",") then codes "A program has one subject. Names of its block are written side by side by `--columns x,y`. Tests are joined by `and`, and values by `::`, as in `x :: y :: []`.\n"
    else if same_bytes a.read (codes "fi") then codes "Before this no `if` is open: leave the `fi` out.\n"
    else if same_bytes a.before (codes "end") then codes "Before this the program is whole: leave out what stands behind.\n"
    else if same_bytes a.read (codes ";") then codes "Behind a definition alone stands `;`: leave it out.\n"
    else codes "Before this no `where` is open: leave the `end` out.\n"

-- of a `=` alone
abbrev pub alone_hint : (read : List ℕ) → List Candidate → List ℕ
alone_hint read those =
    if has (codes "end") those then codes "The name that is defined is missing before this.\n"
    else if is_whole those then codes "A program begins with an expression, and its definitions stand behind `where`: `n where n = 1; end`. To compare, write `eq`.\n"
    else if is_behind_parameter those then open_hint read
    else if has (codes ";") those then codes "A definition has one name and one `=`: two are written `x = 0; y = 0;`. To compare, write `eq`.\n"
    else codes "`=` stands in definitions alone: to compare, write `eq`.\n"

-- of a `=`
unfoldable pub equals_hint : PlainAround → List Candidate → List ℕ
equals_hint a those =
    if length a.before == 0 then codes "A program begins with an expression, and no `=` stands before it.\n"
    else if same_bytes a.after (codes ">") then codes "To compare, write `>=`.\n"
    else if same_bytes a.after (codes "<") then codes "To compare, write `<=`.\n"
    else if same_bytes a.after (codes "=") then codes "To compare, write `eq`.\n"
    else if same_bytes a.before (codes "=") then codes "A definition has one name and one `=`: two are written `x = 0; y = 0;`. To compare, write `eq`.\n"
    else alone_hint a.read those

-- in a definition
unfoldable pub definition_hint : (read : List ℕ) → List Candidate → List ℕ
definition_hint read those =
    if reads read (codes ",") (codes ";") those then codes "Each definition ends with `;`. Tests are joined by `and`, and values by `::`, as in `x :: y :: []`.\n"
    else if has (codes ";") those then codes "Each definition ends with `;`, the last one before `end` too.\n"
    else if is_closing read && has (codes "end") those then codes "Behind `where` come the definitions, and then `end`.\n"
    else if reads read (codes "where") (codes "end") those then codes "One `where` stands before all definitions of a block, and before the `where` of an inner block stands no `;`.\n"
    else if has (codes "end") those && is_reserved read then codes "This word is reserved: no name is spelled so.\n"
    else if has (codes "1") those then codes "An expression is missing before this.\n"
    else []

-- of a `;` that lacks at the end of a line; before a comment whole division was mostly meant
abbrev pub line_hint : (gap : List ℕ) → List ℕ
line_hint gap =
    if has_comment gap then codes "Whole division is `div`: what stands behind `//` is a comment. Or is the `;` missing before it?\n"
    else codes "Is the `;` missing at the end of the line before?\n"

-- behind a name, and before no `=`: an argument was meant
abbrev pub is_argument : PlainAround → List Candidate → Bool
is_argument a those = has (codes "(") those && not (has (codes "1") those) && not (same_bytes a.after (codes "="))

-- two numbers, where a program may end
abbrev pub is_values : PlainAround → List Candidate → Bool
is_values a those = is_whole those && (begins_with is_ascii_digit a.before && begins_with is_ascii_digit a.read)

-- behind a block that may be the whole program
abbrev pub is_ended : PlainAround → List Candidate → Bool
is_ended a those = is_whole those && same_bytes a.before (codes "end")

-- before a definition, where none may stand
abbrev pub is_defining : PlainAround → List Candidate → Bool
is_defining a those = is_whole those && (breaks_line a.gap || same_bytes a.after (codes "="))

-- a second subject, in a line of its own before `where`
abbrev pub is_second : PlainAround → List Candidate → Bool
is_second a those = is_whole those && (breaks_line a.gap && same_bytes a.after (codes "where"))

-- `eod` or `error` as a function
abbrev pub is_asked : PlainAround → Bool
is_asked a = (same_bytes a.before (codes "eod") || same_bytes a.before (codes "error")) && same_bytes a.read (codes "(")

-- a number, and behind it a name that begins no definition
abbrev pub is_factor : PlainAround → Bool
is_factor a =
    begins_with is_ascii_digit a.before && begins_with is_ascii_alphabetic a.read && not (is_reserved a.read) && not (same_bytes a.after (codes "="))

-- the commonest operators that stand before what they take
abbrev pub is_shift : (read : List ℕ) → Bool
is_shift read = same_bytes read (codes "first") || same_bytes read (codes "next")

-- one of those, or one that takes a list: they too stand before what they take
abbrev pub is_prefix : (read : List ℕ) → Bool
is_prefix read = is_shift read || same_bytes read (codes "hd") || same_bytes read (codes "tl") || same_bytes read (codes "length")

-- what ends an expression, or begins its definitions
abbrev pub ends_subject : (after : List ℕ) → Bool
ends_subject after = is_closing after || same_bytes after (codes "where")

-- such an operator behind an expression, and nothing behind it that it could take
abbrev pub is_postfix : PlainAround → List Candidate → Bool
is_postfix a those = is_prefix a.read && ends_subject a.after && has (codes "+") those

-- of an operator that lacks before the place, or the end of a definition
abbrev pub missing_hint : PlainAround → List Candidate → List ℕ
missing_hint a those =
    if is_postfix a those then codes "This operator stands before what it takes, as in `next n`.\n"
    else if is_argument a those then codes "Is an operator or `where` missing before this, or misspelt? Arguments stand in parentheses, as in `f(x)`, and a string of words as `two words'.\n"
    else if is_factor a then codes "Is an operator missing before this, or misspelt? A product is written `2 * n`, a value and then others `0 fby n`, and the value of n two times later `next next n`.\n"
    else definition_hint a.read those

-- of a token that lacks before the place in an `if` or a call
unfoldable pub part_hint : PlainAround → List Candidate → List ℕ
part_hint a those =
    if is_asked a then codes "`eod` and `error` are values: whether n is one of them is asked by `iseod n` and `iserror n`.\n"
    else if has (codes "then") those then codes "Behind the test of an `if` stands `then`.\n"
    else if has (codes "else") those then codes "Is `else` missing before this, or an operator? A choice is written `if .. then .. else .. fi`, and a call `f(x)`.\n"
    else if has (codes "fi") those then codes "Is `fi` missing before this, or an operator? Each `if` ends with a `fi` of its own, and a call is written `f(x)`.\n"
    else if has (codes ",") those then codes "Is a `,` or a `)` missing before this? A call is written `f(x, y)`.\n"
    else missing_hint a those

-- of a token that lacks before the place
abbrev pub lacking_hint : PlainAround → List Candidate → List ℕ
lacking_hint a those =
    if has (codes ";") those && breaks_line a.gap then line_hint a.gap
    else if is_ended a those then whole_hint a
    else if is_values a those then codes "Two numbers stand here, and no operator between them. Values of an input stand in a file of their own: `NAME=FILE` behind the program.\n"
    else if is_second a those then codes "A program has one subject: `n :: m :: []` is one, and `--columns n,m` writes names of its block side by side.\n"
    else if is_defining a those then codes "Is `where` missing before the definitions?\n"
    else part_hint a those

-- where the source ends behind a block in a definition
abbrev pub is_inner : PlainAround → List Candidate → Bool
is_inner a those = has (codes ";") those && (length a.read == 0 && same_bytes a.before (codes "end"))

-- where a definition goes on, and what stands there doesn't
abbrev pub inner_hint : PlainAround → List Candidate → List ℕ
inner_hint a those =
    if is_inner a those then codes "Each `where` has an `end` of its own: one is missing. Here the last `end` ends an inner block: where that is whole before, write `end;` there, and else `; end` here.\n"
    else if same_bytes a.read (codes "fi") && has (codes ";") those then codes "In this definition no `if` is open: leave the `fi` out, or end the definition with `;`.\n"
    else definition_hint a.read those

-- a `;` before `else` or `fi`
abbrev pub is_parted : PlainAround → Bool
is_parted a = same_bytes a.read (codes ";") && (same_bytes a.after (codes "else") || same_bytes a.after (codes "fi"))

-- a comma between two numbers
abbrev pub is_listed : PlainAround → Bool
is_listed a = same_bytes a.read (codes ",") && begins_with is_ascii_digit a.before && begins_with is_ascii_digit a.after

-- a `)` behind an expression, in a definition or an `if` that has no `(` open
abbrev pub is_unopened : (read : List ℕ) → List Candidate → Bool
is_unopened read those = reads read (codes ")") (codes "where") those && is_open those && not (has (codes ")") those)

-- of such a `)`: one before the definition or the `if` may be open
abbrev pub unopened_hint : List Candidate → List ℕ
unopened_hint those =
    if has (codes ";") those then codes "In this definition no `(` is open: leave the `)` out, or end the definition with `;`, and its block with `end`.\n"
    else if has (codes "else") those then codes "In this `if` no `(` is open: leave the `)` out, or end the `if` with `else` and `fi`. To keep some values alone, write `n whenever n > 3`.\n"
    else codes "In this `if` no `(` is open: leave the `)` out, or end the `if`, which has `then`, `else` and `fi`.\n"

-- of a `fi` that lacks
abbrev pub last_hint : (before : List ℕ) → List ℕ
last_hint before =
    if same_bytes before (codes "end") then codes "Each `if` ends with a `fi` of its own. A `where` between an `if` and its `fi` defines names for the part alone in which it stands.\n"
    else codes "Each `if` ends with a `fi` of its own.\n"

-- where an expression ends, and no `if` is open
unfoldable pub ending_hint : PlainAround → List Candidate → List ℕ
ending_hint a those =
    if reads a.read (codes ";") (codes ",") those then codes "A `(` stands open before this: its `)` is missing, or a `,` between two arguments, as in `f(x, y)`.\n"
    else if has (codes ")") those then open_hint a.read
    else if is_listed a then codes "No `,` stands here between numbers: there are no real numbers, a stream is `1 fby 2 fby 3`, and a list `[% 1 2 3 %]`.\n"
    else if is_whole those then whole_hint a
    else inner_hint a those

-- where an expression ends that may not end there, or the program goes on that may end
abbrev pub closing_hint : PlainAround → List Candidate → List ℕ
closing_hint a those =
    if is_parted a then codes "Before `else` and `fi` stands no `;`.\n"
    else if is_unopened a.read those then unopened_hint those
    else if has (codes "fi") those then last_hint a.before
    else if has (codes "else") those then codes "An `if` has an `else`, and ends with `fi`. To keep some values alone, write `n whenever n > 3`.\n"
    else ending_hint a those

abbrev pub end_hint : PlainAround → List Candidate → List ℕ
end_hint a those =
    if is_closing a.read then closing_hint a those
    else lacking_hint a those

-- behind the name of a definition
unfoldable pub head_hint : PlainAround → List ℕ
head_hint a =
    if is_step a.read && same_bytes a.after (codes "=") then codes "A name is defined once, for all times: `n = 0 fby n + 1;`.\n"
    else if same_bytes a.read (codes "-") && length a.gap == 0 then codes "A name has letters, digits and `_` alone.\n"
    else if same_bytes a.read (codes "::") then codes "Kinds of values aren't declared: behind the name stands `=`, and then what it is.\n"
    else if is_comparison a.read then codes "A definition begins with the name that it defines, and then `=`: `n = 1;`. A condition on times stands behind `whenever`, as in `n whenever n > 3`.\n"
    else if length a.read == 0 then codes "Behind `where` come the definitions, and then `end`.\n"
    else codes "A definition begins with the name that it defines, and then `=`: `n = 1;`. Parameters stand in parentheses: `f(x) = x + 1;`.\n"

-- the parameters of a function stand there
abbrev pub is_parameter : List Candidate → Bool
is_parameter those = has (codes "x") those && not (has (codes "1") those || has (codes "end") those)

abbrev pub parameter_hint : (read : List ℕ) → List ℕ
parameter_hint read =
    if is_reserved read then codes "This word is reserved: no name is spelled so.\n"
    else codes "A parameter is a name. What depends on it is written with `if`; a stream that begins with 0 is `n = 0 fby n + 1;`, without parentheses.\n"

-- an operator that stands between two expressions, as `+` and `fby`
abbrev pub is_between : Option Form → Bool
is_between None = false
is_between (Some Between) = true
is_between (Some Before) = false
is_between (Some Called) = false

abbrev pub stands_between : Option Operator → Bool
stands_between None = false
stands_between (Some operator) = is_between (row_of operator).form

abbrev pub is_infix : List ℕ → Bool
is_infix read = stands_between (spelled read)

-- an operator that stands before what it takes, as `next` and `length`
abbrev pub is_ahead : Option Form → Bool
is_ahead None = false
is_ahead (Some Between) = false
is_ahead (Some Before) = true
is_ahead (Some Called) = false

abbrev pub stands_ahead : Option Operator → Bool
stands_ahead None = false
stands_ahead (Some operator) = is_ahead (row_of operator).form

abbrev pub goes_ahead : List ℕ → Bool
goes_ahead read = stands_ahead (spelled read)

-- of the first token, or where there is none
abbrev pub first_hint : (read : List ℕ) → List ℕ
first_hint read =
    if length read == 0 then codes "The program has no token: it is empty, or has blanks and comments alone. Is its file saved?\n"
    else codes "A program begins with an expression, and its definitions stand behind `where`: `n where n = 1; end`.\n"

-- what follows the end of a definition, and begins none with its name
abbrev pub is_remnant : PlainAround → Bool
is_remnant a = same_bytes a.before (codes ";") && not (same_bytes a.after (codes "="))

-- such an operator between two expressions
abbrev pub is_cut : PlainAround → Bool
is_cut a = is_remnant a && is_infix a.read

-- by where the place stands
unfoldable pub place_hint : PlainAround → List Candidate → List ℕ
place_hint a those =
    if is_cut a then codes "This operator stands between two expressions, as `fby` in `0 fby n`: before it stands no `;`.\n"
    else if has (codes "1") those && is_infix a.read then codes "This operator stands between two expressions, as `fby` in `0 fby n`.\n"
    else if length a.before == 0 then first_hint a.read
    else if has (codes "is") those then head_hint a
    else if is_parameter those then parameter_hint a.read
    else end_hint a those

-- how other languages write the value before; a program may have a name `last` of its own, and nothing in its line is behind that
abbrev pub is_previous : PlainAround → Bool
is_previous a =
    same_bytes a.before (codes "prev") || same_bytes a.before (codes "pre")
    || (same_bytes a.before (codes "last") && begins_with is_ascii_alphabetic a.read && not (is_reserved a.read) && not (breaks_line a.gap))

-- a definition that was to begin with the time of a value
abbrev pub is_moment : PlainAround → List Candidate → Bool
is_moment a those =
    has (codes "end") those && not (same_bytes a.after (codes "=")) && is_shift a.read

-- words of other languages, where a program goes on
abbrev pub foreign_hint : PlainAround → List Candidate → List ℕ
foreign_hint a those =
    if has (codes "where") those && same_bytes a.before (codes "let") then codes "There is no `let`: definitions stand behind `where`, as in `n where n = 1; end`.\n"
    else if has (codes "where") those && same_bytes a.before (codes "head") then codes "The first item of a list l is `hd l`, and the others are `tl l`.\n"
    else if has (codes "where") those && is_previous a then codes "The value of n one time before is `(0 fby n)`, which is 0 at first.\n"
    else if is_moment a those then codes "A name is defined once, for all times: `n = 0 fby n + 1;`.\n"
    else place_hint a those

-- how other languages begin a loop
abbrev pub is_loop : (before : List ℕ) → Bool
is_loop before = same_bytes before (codes "for") || same_bytes before (codes "while")

-- the token at the place and the one behind it
abbrev pub are_next : PlainAround → (read after : List ℕ) → Bool
are_next a read after = same_bytes a.read read && same_bytes a.after after

-- this word, where a program goes on: it begins neither a line nor a definition
abbrev pub is_joining : PlainAround → (word : List ℕ) → List Candidate → Bool
is_joining a word those = reads a.read word (codes "where") those && (not (breaks_line a.gap) && not (same_bytes a.after (codes "=")))

-- words that other languages write between two expressions
unfoldable pub joining_hint : PlainAround → List Candidate → List ℕ
joining_hint a those =
    if is_joining a (codes "at") those then codes "The value of n at time 3 is `n attime 3`.\n"
    else if is_joining a (codes "until") those || is_joining a (codes "while") those then codes "A run ends where the subject is `eod`, as in `if n > 5 then eod else n fi`, or by --count N.\n"
    else if is_joining a (codes "equals") those then codes "To compare, write `eq`.\n"
    else foreign_hint a those

-- a loop, or one behind an expression
abbrev pub is_looping : PlainAround → List Candidate → Bool
is_looping a those = (has (codes "where") those && is_loop a.before) || is_joining a (codes "for") those

-- words of a text, where an operator lacks
unfoldable pub spoken_hint : PlainAround → List Candidate → List ℕ
spoken_hint a those =
    if are_next a (codes "followed") (codes "by") then codes "`followed by` is written `fby`, as in `0 fby n`.\n"
    else if are_next a (codes "as") (codes "soon") then codes "`as soon as` is written `asa`, as in `n asa n > 3`.\n"
    else if is_looping a those then codes "There are no loops: `n = 0 fby n + 1;` defines the values of all times, `n * n` has their squares, and --count N says how many are written.\n"
    else joining_hint a those

-- by the token before
abbrev pub behind_hint : PlainAround → List Candidate → List ℕ
behind_hint a those =
    if same_bytes a.before (codes "is") then codes "Behind `is` stands `current`: a definition is written with `=`.\n"
    else if same_bytes a.before (codes "return") then codes "There is no `return`: the right side of `=` is the value.\n"
    else if same_bytes a.before (codes "print") then codes "There is no `print`: a program writes the values of its subject, with which it begins.\n"
    else if is_product a then codes "A product is written with `*`, as in `2 * n`. A number has digits alone.\n"
    else spoken_hint a those

-- an operator behind a block
abbrev pub is_behind_block : PlainAround → Bool
is_behind_block a = same_bytes a.before (codes "end") && is_infix a.read

-- by both
abbrev pub are_both : PlainAround → (before read : List ℕ) → Bool
are_both a before read = same_bytes a.before before && same_bytes a.read read

-- of an arrow
abbrev pub arrow_hint : PlainAround → List Candidate → List ℕ
arrow_hint a those =
    if are_both a (codes "=") (codes ">") then codes "A definition is written with `=` alone, as in `f(x) = x + 1;`.\n"
    else if are_both a (codes "-") (codes ">") then codes "There is no `->`: a function is written `f(x) = x + 1;`, and for `0 -> pre n + 1` write `0 fby n + 1`.\n"
    else behind_hint a those

unfoldable pub pair_hint : PlainAround → List Candidate → List ℕ
pair_hint a those =
    if are_both a (codes "+") (codes "+") then codes "There is no `++`: write `n + 1`. Lists are joined by `<>`, and strings by `^`.\n"
    else if are_both a (codes "(") (codes ")") then codes "A function has one argument at least: what has none is a plain name, without parentheses.\n"
    else if reads a.read (codes "+") (codes "1") those then codes "No `+` stands before a number: write `1`.\n"
    else if is_behind_block a then codes "A block before an operator stands in parentheses: `(n where n = 1; end) + 1`.\n"
    else arrow_hint a those

abbrev pub continues : (read : List ℕ) → List Candidate → Bool
continues read those = is_elif read && has (codes "else") those

-- a comment that was to begin with two `-`
abbrev pub is_dashed : PlainAround → List Candidate → Bool
is_dashed a those = same_bytes a.read (codes "-") && (has (codes "end") those || same_bytes a.after (codes "-"))

-- such a comment in the line of the token before
abbrev pub is_in_remark : PlainAround → Bool
is_in_remark a = starts_with nat_eq a.line (codes "--")

-- how other languages begin a comment
abbrev pub is_remark : PlainAround → List Candidate → Bool
is_remark a those = are_both a (codes "(") (codes "*") || is_dashed a those || is_in_remark a

abbrev pub chains : (read : List ℕ) → List Candidate → Bool
chains read those = is_comparison read && has (codes "+") those

-- `then` or `else` behind an expression, in a definition, a parenthesis or a whole program that has no `if` open
abbrev pub is_astray : (read : List ℕ) → List Candidate → Bool
is_astray read those =
    (same_bytes read (codes "then") || same_bytes read (codes "else")) && has (codes "+") those
    && not (has (codes "then") those || has (codes "else") those || has (codes "fi") those)

abbrev pub astray_hint : List Candidate → List ℕ
astray_hint those =
    if has (codes ")") those then codes "A `(` stands open before this: its `)` is missing.\n"
    else if has (codes ";") those then codes "In this definition no `if` is open: a choice is written `if .. then .. else .. fi`. What follows a first value stands behind `fby`, as in `0 fby n`.\n"
    else codes "Before this no `if` is open: a choice is written `if .. then .. else .. fi`. What follows a first value stands behind `fby`, as in `0 fby n`.\n"

abbrev pub word_hint : PlainAround → List Candidate → List ℕ
word_hint a those =
    if reads a.read (codes "if") (codes "where") those then codes "A choice is written `if .. then .. else .. fi`.\n"
    else if reads a.read (codes "when") (codes "where") those then codes "A condition on times stands behind `whenever`, as in `n whenever n > 3`, and definitions stand behind `where`.\n"
    else if continues a.read those then codes "Write `else if .. then .. else .. fi fi`: each `if` ends with a `fi` of its own.\n"
    else if is_remark a those then codes "A comment begins with `//`.\n"
    else if is_astray a.read those then astray_hint those
    else pair_hint a those

-- of an operator
unfoldable pub operator_hint : PlainAround → List Candidate → List ℕ
operator_hint a those =
    if chains a.read those then codes "Comparisons don't chain: write `1 < n and n < 5`.\n"
    else if reads a.read (codes "not") (codes "1") those then codes "Here `not` stands in parentheses, as in `a eq (not b)`.\n"
    else if reads a.read (codes "not") (codes "+") those then codes "What differs is written with `ne`, as in `n ne 3`.\n"
    else word_hint a those

-- the words of a definition that freezes a value
abbrev pub is_frozen : (read : List ℕ) → Bool
is_frozen read = same_bytes read (codes "current") || same_bytes read (codes "is")

abbrev pub frozen_hint : (read : List ℕ) → List ℕ
frozen_hint read =
    if same_bytes read (codes "current") then codes "Write `k is current n;`, without `=`.\n"
    else codes "To compare, write `eq`. `k is current n;` defines a plain name, behind `where`.\n"

-- where the source ends with a comment that was to end before
abbrev pub is_cut_off : PlainAround → Bool
is_cut_off a = length a.read == 0 && is_swallowed a.gap

abbrev pub token_hint : PlainAround → List Candidate → List ℕ
token_hint a those =
    if is_cut_off a then codes "Here lines end with a carriage return (byte 13) alone, and a comment goes on past it: save the file with line ends of Unix (LF).\n"
    else if same_bytes a.read (codes "=") then equals_hint a those
    else if is_frozen a.read then frozen_hint a.read
    else operator_hint a those

abbrev pub hint : PlainAround → List Candidate → List ℕ
hint a those =
    if is_capital a.before || is_capital a.read then codes "Reserved words are spelled in small letters, as `where` and `if`.\n"
    else token_hint a those

-- what is said of the place itself, though an operator lacks what it takes
abbrev pub is_apart : PlainAround → List Candidate → Bool
is_apart a those = is_cut_off a || same_bytes a.read (codes "not") || is_remark a those

-- The word before the place is an operator, and what it takes lacks. Where both that word and the token stand between two expressions, the token is told.
unfoldable pub stands_bare : PlainAround → List Candidate → Bool
stands_bare a those = lacks_operand a.before those && (goes_ahead a.before || not (is_infix a.read)) && not (is_apart a those)

abbrev pub bare_text : (before : List ℕ) → List ℕ
bare_text before = codes "`" ++ (before ++ codes "` before this is an operator, behind which an expression stands. It is reserved: no name is spelled so.\n")

unfoldable pub hint_text : PlainAround → List Candidate → List ℕ
hint_text a those = if stands_bare a those then bare_text a.before else hint a those
