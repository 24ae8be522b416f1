-- What is said of bytes that are no token, with what was probably meant.
use Rattle.std.specs.Prelude.{ℕ, ◌-◌, Bool, List, ◌++◌, length, take, drop, slice_index, codes, ◌==◌, ◌&&◌, ◌||◌, nat_lt, if◌then◌else◌}
use Rattle.std.specs.List.{prefix_len, suffix_len}
use Rattle.std.specs.Char.{is_ascii_digit}
use Rattle.lucid_value.specs.Names.{is_name_byte}
use Rattle.lucid_value.specs.Plain.{same_bytes}
use Rattle.lucid_scan.specs.declared.refusal.ScanRefusal.{ScanRefusal}
use Rattle.lucid_scan.specs.declared.refusal.ScanRefusal.TheVariants as refusal
use Rattle.lucid_explain_places.specs.Positions.{last_line}
use Rattle.lucid_explain_places.specs.Shown.{place_text}
use Rattle.lucid_explain_source.specs.Characters.{begins, differs_advice, character_advice}

abbrev pub list_advice : List ℕ
list_advice = codes "A list of constants is written `[% 1 2 3 %]`, with blanks between its items and no commas. Of computed items it is `a :: b :: []`.\n"

abbrev pub string_advice : List ℕ
string_advice = codes "A string begins with a backquote and ends with ' in one line, as `two words'. It has printable ASCII alone, without these two.\n"

-- of a byte of ASCII with which no token begins
abbrev pub byte_advice : ℕ → List ℕ
byte_advice b =
    if b == 47 then codes "Division is `div`, and what it leaves over is `mod`. A comment begins with `//`.\n"
    else if b == 46 then codes "No `.` stands outside comments and strings: operators and functions stand before what they take, as in `next n` and `f(n)`.\n"
    else if b == 34 then codes "A word stands between two \", as in \"red\": a letter, then letters and digits. Integers, `true` and `false` stand without \", and other texts as `two words'.\n"
    else if b == 39 then codes "A word stands between two \", as in \"red\". A string begins with a backquote and ends with ' in one line, as `two words'.\n"
    else if b == 33 then codes "Write `ne` for what differs, and `not` before a truth.\n"
    else if b == 38 then codes "Write `and`, and to join strings `^`.\n"
    else if b == 124 then codes "Write `or`. Cases are told apart by `if .. then .. else .. fi`.\n"
    else if b == 37 then codes "What a division leaves over is `mod`. A comment begins with `//`.\n"
    else if b == 91 then list_advice
    else if b == 93 then codes "Before this no list is open: a `(` ends with `)`, and a list of constants with `%]`.\n"
    else if b == 123 || b == 125 then codes "Parentheses group, definitions stand between `where` and `end`, and a function is written `f(x) = x + 1;`.\n"
    else if b == 95 then codes "A name begins with a letter, and a number has digits alone.\n"
    else if b == 58 then codes "A definition is written with `=` and ends with `;`, as `n = 0 fby n + 1;` or `f(x) = x + 1;`, and `::` puts a value in front of a list. Behind a test stands `then`.\n"
    else if b == 63 then codes "A choice is written `if .. then .. else .. fi`.\n"
    else if b == 35 then codes "A comment begins with `//`.\n"
    else if b == 64 then codes "The value at another time is `X attime T`.\n"
    else if b == 92 then codes "A function is written with a name, as `f(x) = x + 1;`.\n"
    else if b == 36 then codes "A name begins with a letter, and has letters, digits and `_` alone.\n"
    else if b == 126 then codes "Write `not` before a truth.\n"
    else if b == 0 then codes "A byte 0 stands here: the file may be UTF-16, or no text. Save it as ASCII or UTF-8.\n"
    else if nat_lt b 32 || nat_lt 126 b then codes "Only in comments may other bytes stand than printable ASCII, tabs and line ends.\n"
    else codes "No token begins with this byte.\n"

-- A name ends there; so what follows directly isn't meant to begin something new.
abbrev pub ends_name : (before : List ℕ) → Bool
ends_name before = nat_lt 0 (suffix_len is_name_byte before)

-- of a byte directly behind a name
abbrev pub behind_advice : ℕ → List ℕ
behind_advice b =
    if b == 39 then codes "A name has letters, digits and `_` alone, and a string has no ' in it.\n"
    else if b == 91 then codes "The value of n at time 2 is `n attime 2`, and item 2 of a list l, from 0, is `nth(l, 2)`.\n"
    else byte_advice b

-- of a byte of ASCII, by what stands before it
abbrev pub ascii_advice : (before : List ℕ) → ℕ → List ℕ
ascii_advice before b = if ends_name before then behind_advice b else byte_advice b

-- a `.` and a digit, as in a real number
abbrev pub is_real : (rest : List ℕ) → Bool
is_real rest = nat_lt 1 (length rest) && slice_index rest 0 == 46 && is_ascii_digit (slice_index rest 1)

-- the bytes of a name that stand at the end
abbrev pub last_name : (before : List ℕ) → List ℕ
last_name before = drop (length before - suffix_len is_name_byte before) before

-- digits alone, one at least: as a line before a place, the number of an exercise
abbrev pub is_numbered : (text : List ℕ) → Bool
is_numbered text = nat_lt 0 (length text) && prefix_len is_ascii_digit text == length text

-- how other languages begin a loop
abbrev pub is_loop : (line : List ℕ) → Bool
is_loop line = begins line (codes "for ") || begins line (codes "while ")

-- how other languages begin a program or a function
abbrev pub is_header : (line : List ℕ) → Bool
is_header line = begins line (codes "node ") || begins line (codes "function ") || begins line (codes "def ")

-- a `[`, digits and two points, as in `[0..]`
abbrev pub is_range : (rest : List ℕ) → Bool
is_range rest = begins rest (codes "[") && begins (drop (prefix_len is_ascii_digit (drop 1 rest)) (drop 1 rest)) (codes "..")

-- a number, and two points behind it, as in `1..10`
abbrev pub is_span : (before rest : List ℕ) → Bool
is_span before rest = begins rest (codes "..") && is_numbered (last_name before)

abbrev pub range_advice : List ℕ
range_advice = codes "There are no ranges: `n = 0 fby n + 1;` is 0, 1, 2, .., and --count N says how many are written.\n"

-- how other languages write that two values differ
abbrev pub is_unequal : (rest : List ℕ) → Bool
is_unequal rest = begins rest (codes "/=") || begins rest (codes "!=") || begins rest (codes "~=")

-- of a `.`, by what stands before it
abbrev pub point_advice : (before rest : List ℕ) → List ℕ
point_advice before rest =
    if is_real rest then codes "There are no real numbers: write integers.\n"
    else if begins rest (codes ".lucid") then codes "A program names no files: these stand in the command.\n"
    else if is_span before rest then range_advice
    else if is_numbered (last_line before) then codes "Is this the number of an exercise? It is no part of the program: leave it out.\n"
    else ascii_advice before 46

-- of a `:`, by what stands before it
abbrev pub colon_advice : (before : List ℕ) → List ℕ
colon_advice before =
    if same_bytes (last_name before) (codes "where") then codes "No `:` stands behind `where`: the definitions come there, and then `end`.\n"
    else if is_loop (last_line before) then codes "There are no loops: `n = 0 fby n + 1;` defines the values of all times, `n * n` has their squares, and --count N says how many are written.\n"
    else if is_header (last_line before) then codes "A program begins with an expression, and its definitions stand behind `where`: `n where n = 0 fby n + 1; f(x) = x + 1; end`.\n"
    else ascii_advice before 58

-- of a byte of ASCII, by what stands before it and what begins with it
abbrev pub bracket_advice : (before rest : List ℕ) → List ℕ
bracket_advice before rest =
    if is_range rest then range_advice
    else if begins rest (codes "{-") then codes "A comment begins with `//`.\n"
    else ascii_advice before (slice_index rest 0)

-- of bytes with which no token begins, by what stands before them
abbrev pub bad_advice : (before rest : List ℕ) → List ℕ
bad_advice before rest =
    if nat_lt 127 (slice_index rest 0) then character_advice rest
    else if is_unequal rest then differs_advice
    else if slice_index rest 0 == 46 then point_advice before rest
    else if slice_index rest 0 == 58 then colon_advice before
    else bracket_advice before rest

-- of a string or a list that has no end, or is no value, which begins so
abbrev pub open_advice : (rest : List ℕ) → List ℕ
open_advice rest =
    if begins rest (codes "```") then codes "The fence ``` of a page is no part of a program: leave it out.\n"
    else if begins rest (codes "`mod`") || begins rest (codes "`div`") then codes "An operator stands without quotation marks, as in `n mod 2`.\n"
    else if slice_index rest 0 == 96 then string_advice
    else list_advice

abbrev pub big_advice : List ℕ
big_advice = codes "The largest integer is 170141183460469231731687303715884105727, that is 2^127 - 1.\n"

abbrev pub long_advice : List ℕ
long_advice = codes "A source has at most 1,048,576 bytes.\n"

-- Of a source that is refused so: the place, and what is said of it.
abbrev pub scan_text : (file source : List ℕ) → ScanRefusal → List ℕ
scan_text file source refusal.TooLong = long_advice
scan_text file source (refusal.BadByte at) = place_text file source at ++ bad_advice (take at source) (drop at source)
scan_text file source (refusal.OpenText at) = place_text file source at ++ open_advice (drop at source)
scan_text file source (refusal.BigNumber at) = place_text file source at ++ big_advice
scan_text file source refusal.NoMemory = codes ""
