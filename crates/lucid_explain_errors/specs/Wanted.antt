-- What an operator wants of its arguments, the words for that, and whether arguments are that. No argument may be `error`.
use Rattle.std.specs.Prelude.{ℕ, Bool, true, false, ◌&&◌, not, List, [], ◌∷◌, codes, Option, Some, None}
use Rattle.std.specs.declared.cmp.Ordering.{Ordering}
use Rattle.lucid_value.specs.Plain.{PlainValue, int, truth, word, text, list}
use Rattle.lucid_value.specs.Texts.{order_of}
use Rattle.lucid_ops.specs.Algebra.{is_error}
use Rattle.lucid_ops.specs.declared.op.Op.{Op}
use Rattle.lucid_ops.specs.declared.op.Op.TheVariants.{Add, Sub, Mul, Div, Mod, Pow, Neg, Abs, Lt, Le, Gt, Ge, Cmp, Not, Head, Tail, Cons, Append, Join, Length, Substr, Nth, MakeWord, MakeString}
use Rattle.lucid_explain_errors.specs.declared.wanted.Wanted.{Wanted}
use Rattle.lucid_explain_errors.specs.declared.wanted.Wanted.TheVariants as wanted

-- what an operator wants
abbrev pub wanted_of : Op → Wanted
wanted_of Add = wanted.Integers
wanted_of Sub = wanted.Integers
wanted_of Mul = wanted.Integers
wanted_of Div = wanted.Integers
wanted_of Mod = wanted.Integers
wanted_of Pow = wanted.Integers
wanted_of Neg = wanted.Integer
wanted_of Abs = wanted.Integer
wanted_of Lt = wanted.Ordered
wanted_of Le = wanted.Ordered
wanted_of Gt = wanted.Ordered
wanted_of Ge = wanted.Ordered
wanted_of Cmp = wanted.Ordered
wanted_of Not = wanted.OneTruth
wanted_of Head = wanted.OneList
wanted_of Tail = wanted.OneList
wanted_of Cons = wanted.ListBehind
wanted_of Append = wanted.Lists
wanted_of Join = wanted.Strings
wanted_of Length = wanted.ListOrString
wanted_of Substr = wanted.StringAndIntegers
wanted_of Nth = wanted.ListAndInteger
wanted_of MakeWord = wanted.OneString
wanted_of MakeString = wanted.WordOrInteger
wanted_of _ = wanted.Anything

-- the words for it
abbrev pub wanted_text : Wanted → List ℕ
wanted_text wanted.Integer = codes "an integer"
wanted_text wanted.Integers = codes "two integers"
wanted_text wanted.Ordered = codes "two integers, two words or two strings"
wanted_text wanted.OneTruth = codes "`true` or `false`"
wanted_text wanted.OneList = codes "a list"
wanted_text wanted.ListBehind = codes "a value and a list"
wanted_text wanted.Lists = codes "two lists"
wanted_text wanted.Strings = codes "two strings"
wanted_text wanted.ListOrString = codes "a list or a string"
wanted_text wanted.StringAndIntegers = codes "a string and two integers"
wanted_text wanted.ListAndInteger = codes "a list and an integer"
wanted_text wanted.OneString = codes "a string"
wanted_text wanted.WordOrInteger = codes "a word or an integer"
wanted_text wanted.Anything = codes "values"

-- one argument is that
abbrev pub is_wanted : Wanted → PlainValue → Bool
is_wanted wanted.Integer (int n) = true
is_wanted wanted.OneTruth (truth b) = true
is_wanted wanted.OneList (list vs) = true
is_wanted wanted.ListOrString (list vs) = true
is_wanted wanted.ListOrString (text bs) = true
is_wanted wanted.OneString (text bs) = true
is_wanted wanted.WordOrInteger (word bs) = true
is_wanted wanted.WordOrInteger (int n) = true
is_wanted wanted.Anything v = not (is_error v)
is_wanted _ v = false

-- two values have an order
abbrev pub has_order : Option Ordering → Bool
has_order None = false
has_order (Some order) = true

-- two arguments are that
abbrev pub are_two_wanted : Wanted → PlainValue → PlainValue → Bool
are_two_wanted wanted.Integers (int m) (int n) = true
are_two_wanted wanted.Ordered v w = has_order (order_of v w)
are_two_wanted wanted.ListBehind v (list vs) = not (is_error v)
are_two_wanted wanted.Lists (list us) (list vs) = true
are_two_wanted wanted.Strings (text bs) (text cs) = true
are_two_wanted wanted.ListAndInteger (list vs) (int n) = true
are_two_wanted wanted.Anything v w = not (is_error v) && not (is_error w)
are_two_wanted _ v w = false

-- three arguments are that
abbrev pub are_three_wanted : Wanted → PlainValue → PlainValue → PlainValue → Bool
are_three_wanted wanted.StringAndIntegers (text bs) (int m) (int n) = true
are_three_wanted _ u v w = false

-- the arguments are that
abbrev pub are_wanted : Wanted → List PlainValue → Bool
are_wanted x (v ∷ []) = is_wanted x v
are_wanted x (v ∷ w ∷ []) = are_two_wanted x v w
are_wanted x (u ∷ v ∷ w ∷ []) = are_three_wanted x u v w
are_wanted x _ = false
