-- Why an operator gives `error`.
use Rattle.std.specs.Prelude.{ℕ, pos, negsuc, Bool, true, false, nat_eq, if◌then◌else◌, List, [], ◌∷◌, ◌++◌, codes, Option, Some, None}
use Rattle.lucid_value.specs.Plain.{PlainValue, int}
use Rattle.lucid_ops.specs.Algebra.{algebra, is_error}
use Rattle.lucid_ops.specs.declared.op.Op.{Op}
use Rattle.lucid_ops.specs.declared.op.Op.TheVariants.{Add, Div, Mod, Pow, Head, Tail, Cons, Append, Join, Length, Substr, Nth, MakeWord}
use Rattle.lucid_explain_errors.specs.declared.cause.Cause.{Cause}
use Rattle.lucid_explain_errors.specs.declared.cause.Cause.TheVariants as cause
use Rattle.lucid_explain_errors.specs.Wanted.{wanted_of, wanted_text, are_wanted}

abbrev pub is_zero : PlainValue → Bool
is_zero (int (pos n)) = nat_eq n 0
is_zero _ = false

abbrev pub is_below_zero : PlainValue → Bool
is_below_zero (int (negsuc n)) = true
is_below_zero _ = false

-- of a quotient or a remainder; of a power
abbrev pub division_cause : List PlainValue → Cause
division_cause (v ∷ w ∷ []) = if is_zero w then cause.ZeroDivisor else cause.TooBig
division_cause _ = cause.TooBig

abbrev pub power_cause : List PlainValue → Cause
power_cause (v ∷ w ∷ []) = if is_below_zero w then cause.BelowZero else cause.TooBig
power_cause _ = cause.TooBig

-- of arguments that are what the operator wants
abbrev pub inner_cause : Op → List PlainValue → Cause
inner_cause Div vs = division_cause vs
inner_cause Mod vs = division_cause vs
inner_cause Pow vs = power_cause vs
inner_cause Head vs = cause.Empty
inner_cause Tail vs = cause.Empty
inner_cause Nth vs = cause.NoItem
inner_cause Substr vs = cause.NoPart
inner_cause MakeWord vs = cause.NoWord
inner_cause Cons vs = cause.TooLarge
inner_cause Append vs = cause.TooLarge
inner_cause Join vs = cause.TooLarge
inner_cause _ vs = cause.TooBig

-- the cause of an `error` of these arguments: they aren't what the operator wants, or what else it is
abbrev pub cause_by : Op → List PlainValue → Cause
cause_by op vs = if are_wanted (wanted_of op) vs then inner_cause op vs else cause.Kinds

-- The cause, where the operator gives `error` for these arguments; none where it gives another value.
abbrev pub cause_of : Op → List PlainValue → Option Cause
cause_of op vs = if is_error (algebra op vs) then Some (cause_by op vs) else None

-- what may be meant, where the arguments aren't what the operator wants
abbrev pub kinds_hint : Op → List ℕ
kinds_hint Add = codes "Strings, as `red' and `blue', are joined by `^`, and lists by `<>`. \"red\" is a word, and words aren't joined. Each line of an input is a value, also a heading.\n"
kinds_hint Join = codes "A string is written `red', and \"red\" is a word. Lists are joined by `<>`. A power is written `**`. The string of an integer or a word x is `mkstring x`.\n"
kinds_hint Cons = codes "A list of two items is `1 :: 2 :: []`. An item with `fby` in it stands in parentheses.\n"
kinds_hint Append = codes "What differs is written with `ne`, as in `n ne 3`.\n"
kinds_hint Length = codes "\"red\" is a word, and no string: the string of a word x is `mkstring x`.\n"
kinds_hint Substr = codes "\"red\" is a word, and no string: the string of a word x is `mkstring x`.\n"
kinds_hint Head = codes "The first value of a stream n is `first n`.\n"
kinds_hint _ = []

-- what is said of it
abbrev pub cause_text : Op → Cause → List ℕ
cause_text op cause.Kinds = codes "it wants " ++ (wanted_text (wanted_of op) ++ (codes ".\n" ++ kinds_hint op))
cause_text op cause.TooBig = codes "the result is no integer from -2^127 to 2^127 - 1.\n"
cause_text op cause.ZeroDivisor = codes "the divisor is 0.\n"
cause_text op cause.BelowZero = codes "the exponent is below 0.\n"
cause_text op cause.Empty = codes "the list is empty.\n"
cause_text op cause.NoItem = codes "the list has no item of this number; the first is item 0.\n"
cause_text op cause.NoPart = codes "the string has no such part. Its first byte is byte 0, and a part ends before the last number, which is the length at most.\n"
cause_text op cause.NoWord = codes "no word is spelt so. A word is a letter, then letters and digits, and none of `true`, `false`, `eod` and `error`.\n"
cause_text op cause.TooLarge = codes "the result is too large. A list or a string weighs 65,536 at most, and lists nest 64 deep at most.\n"
