-- The algebra of the operators: what each data operator gives for its arguments, over numbers without bounds.
-- Every rule here is this language's own. The value written `error` is `fault` here. It is the result where an operator's row
-- names no case for the arguments, and where the result is no value: an integer that has no place among those of 128 bits, a
-- list or a string that passes a limit. Where the arguments are values, only the rows with `place`, `limited_list` and
-- `limited_text` can come to that.
use Rattle.std.specs.Prelude.{ℤ, pos, negsuc, Bool, true, false, List, [], ◌∷◌, ◌++◌, length, not, ◌+ℤ◌, ◌-ℤ◌, ◌*ℤ◌, neg_ℤ, unsigned_abs, int_div, int_rem, nat_eq, if◌then◌else◌, Option, Some, None}
use Rattle.std.specs.Int.{int_pow}
use Rattle.std.specs.List.{list_any}
use Rattle.std.specs.Ordering.{is_lt, is_le, is_gt, is_ge}
use Rattle.std.specs.Fmt.{signed_decimal}
use Rattle.std.specs.declared.cmp.Ordering.{Ordering}
use Rattle.std.specs.declared.cmp.Ordering.TheVariants.{Less, Equal, Greater}
use Rattle.lucid_value.specs.Plain.{PlainValue, int, truth, word, text, list, eod, fault, no_items, listed, is_word, is_i128}
use Rattle.lucid_value.specs.Equality.{same_value}
use Rattle.lucid_value.specs.Lists.{limited_list, in_front, joined, first_of, rest_of}
use Rattle.lucid_value.specs.Texts.{limited_text, cut_of, pick_of, order_of}
use Rattle.lucid_ops.specs.declared.op.Op.{Op}
use Rattle.lucid_ops.specs.declared.op.Op.TheVariants.{Add, Sub, Mul, Div, Mod, Pow, Neg, Abs, Eq, Ne, Lt, Le, Gt, Ge, Cmp, Not, Head, Tail, Cons, Append, Join, Length, Substr, Nth, MakeWord, MakeString, IsInt, IsWord, IsString, IsList, IsTruth, IsNull, IsAtom, IsEod, IsError}

-- the number as a value, or `error` where it has no place among the integers of 128 bits
abbrev pub integer : ℤ → PlainValue
integer z = if is_i128 z then int z else fault

-- a quotient or a remainder, and an error where the divisor is 0
abbrev pub unless_zero : (divisor : ℤ) → PlainValue → PlainValue
unless_zero (pos n) result = if nat_eq n 0 then fault else result
unless_zero (negsuc n) result = result

-- a test of the order of two values, and an error where they have none: integers, words and strings have one among their kind
abbrev pub tested : (Ordering → Bool) → Option Ordering → PlainValue
tested test None = fault
tested test (Some order) = truth (test order)

-- the order of two values as a number: -1, 0 or 1, and an error where they have none
abbrev pub compared : Option Ordering → PlainValue
compared None = fault
compared (Some Less) = int (negsuc 0)
compared (Some Equal) = int (pos 0)
compared (Some Greater) = int (pos 1)

-- the kind of a value
abbrev pub is_int : PlainValue → Bool
is_int (int n) = true
is_int _ = false

abbrev pub is_word_value : PlainValue → Bool
is_word_value (word bs) = true
is_word_value _ = false

abbrev pub is_string : PlainValue → Bool
is_string (text bs) = true
is_string _ = false

abbrev pub is_list : PlainValue → Bool
is_list (list vs) = true
is_list _ = false

abbrev pub is_truth : PlainValue → Bool
is_truth (truth b) = true
is_truth _ = false

-- whether it is the empty list
abbrev pub is_null : PlainValue → Bool
is_null (list no_items) = true
is_null _ = false

-- whether it is the end of data, or the value written `error`
abbrev pub is_eod : PlainValue → Bool
is_eod eod = true
is_eod _ = false

abbrev pub is_error : PlainValue → Bool
is_error fault = true
is_error _ = false

-- The row of an operator of one argument that is neither end of data nor an error. Integers are placed by `place`.
abbrev pub row_of_one : (place : ℤ → PlainValue) → Op → PlainValue → PlainValue
row_of_one place Neg (int n) = place (neg_ℤ n)
row_of_one place Abs (int n) = place (pos (unsigned_abs n))
row_of_one place Not (truth b) = truth (not b)
row_of_one place Head (list vs) = first_of vs
row_of_one place Tail (list vs) = rest_of vs
row_of_one place Length (list vs) = place (pos (length (listed vs)))
row_of_one place Length (text bs) = place (pos (length bs))
row_of_one place MakeWord (text bs) = if is_word bs then word bs else fault
row_of_one place MakeString (word bs) = text bs
row_of_one place MakeString (int n) = text (signed_decimal n)
row_of_one place IsInt v = truth (is_int v)
row_of_one place IsWord v = truth (is_word_value v)
row_of_one place IsString v = truth (is_string v)
row_of_one place IsList v = truth (is_list v)
row_of_one place IsTruth v = truth (is_truth v)
row_of_one place IsNull v = truth (is_null v)
row_of_one place IsAtom v = truth (not (is_list v))
row_of_one place _ v = fault

-- The row of an operator of two such arguments. `Div` rounds toward zero, `Mod` is the remainder of that division with the
-- dividend's sign, and a power has an exponent of at least 0. Values of two kinds are not equal.
abbrev pub row_of_two : (place : ℤ → PlainValue) → Op → PlainValue → PlainValue → PlainValue
row_of_two place Add (int a) (int b) = place (a +ℤ b)
row_of_two place Sub (int a) (int b) = place (a -ℤ b)
row_of_two place Mul (int a) (int b) = place (a *ℤ b)
row_of_two place Div (int a) (int b) = unless_zero b (place (int_div a b))
row_of_two place Mod (int a) (int b) = unless_zero b (place (int_rem a b))
row_of_two place Pow (int a) (int (pos n)) = place (int_pow a n)
row_of_two place Eq v w = truth (same_value v w)
row_of_two place Ne v w = truth (not (same_value v w))
row_of_two place Lt v w = tested is_lt (order_of v w)
row_of_two place Le v w = tested is_le (order_of v w)
row_of_two place Gt v w = tested is_gt (order_of v w)
row_of_two place Ge v w = tested is_ge (order_of v w)
row_of_two place Cmp v w = compared (order_of v w)
row_of_two place Cons v (list vs) = limited_list (in_front v vs)
row_of_two place Append (list us) (list vs) = limited_list (joined us vs)
row_of_two place Join (text bs) (text cs) = limited_text (bs ++ cs)
row_of_two place Nth (list vs) (int i) = pick_of vs i
row_of_two place _ v w = fault

-- The row of an operator of three such arguments: the bytes of a string from one place up to another.
abbrev pub row_of_three : Op → PlainValue → PlainValue → PlainValue → PlainValue
row_of_three Substr (text bs) (int i) (int j) = cut_of bs i j
row_of_three _ u v w = fault

-- the row of an operator, by the number of its arguments
abbrev pub row_of : (place : ℤ → PlainValue) → Op → List PlainValue → PlainValue
row_of place op (u ∷ []) = row_of_one place op u
row_of place op (u ∷ v ∷ []) = row_of_two place op u v
row_of place op (u ∷ v ∷ w ∷ []) = row_of_three op u v w
row_of place op _ = fault

-- The rule of all operators but two: end of data where an argument is, else an error where an argument is one, else what the
-- operator's row gives.
abbrev pub by_rule : List PlainValue → PlainValue → PlainValue
by_rule vs result = if list_any is_eod vs then eod else (if list_any is_error vs then fault else result)

-- What the two operators give that look at every value, end of data and errors too.
abbrev pub seen_by : (PlainValue → Bool) → List PlainValue → PlainValue
seen_by test (v ∷ []) = truth (test v)
seen_by test _ = fault

-- What an operator gives for its arguments, where `place` gives the integers that have a place, and an error for all others.
abbrev pub algebra_in : (place : ℤ → PlainValue) → Op → List PlainValue → PlainValue
algebra_in place IsEod vs = seen_by is_eod vs
algebra_in place IsError vs = seen_by is_error vs
algebra_in place op vs = by_rule vs (row_of place op vs)

-- The algebra of the language: what an operator gives for its arguments, with integers of 128 bits.
abbrev pub algebra : Op → List PlainValue → PlainValue
algebra op vs = algebra_in integer op vs
