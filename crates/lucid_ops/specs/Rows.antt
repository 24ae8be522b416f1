-- The table of operators: what a row says, the order of the rows, and the rows of the language.
use Rattle.std.specs.Prelude.{◌≡◌, ◌≤◌, ℕ, Bool, true, false, IsTrue, List, [], ◌∷◌, Option, Some, ◌↔◌, get_or, codes, map, nat_eq, nat_lt, ◌&&◌}
use Rattle.std.specs.List.{find}
use Rattle.std.specs.Option.{option_map}
use Rattle.std.specs.Ordering.{nat_cmp, ordering_then, is_lt}
use Rattle.std.specs.Cmp.Lexicographic.{slice_cmp}
use Rattle.std.specs.declared.cmp.Ordering.{Ordering}
use Rattle.lucid_value.specs.Plain.{same_bytes}
use Rattle.lucid_ops.specs.declared.op.Op.{Op}
use Rattle.lucid_ops.specs.declared.op.Op.TheVariants.{Add, Sub, Mul, Div, Mod, Pow, Neg, Abs, Eq, Ne, Lt, Le, Gt, Ge, Cmp, Not, Head, Tail, Cons, Append, Join, Length, Substr, Nth, MakeWord, MakeString, IsInt, IsWord, IsString, IsList, IsTruth, IsNull, IsAtom, IsEod, IsError}
use Rattle.lucid_ops.specs.declared.op.Form.{Form}
use Rattle.lucid_ops.specs.declared.op.Form.TheVariants.{Before, Between, Called}
use Rattle.lucid_ops.specs.declared.op.Side.{Side}
use Rattle.lucid_ops.specs.declared.op.Side.TheVariants.{Left, Right, Single}
use Rattle.lucid_ops.specs.Row.{Row}
use Rattle.lucid_ops.specs.Codes.{operator_number}

-- a form's number among the forms, in the order in which they are declared
abbrev pub form_number : Form → ℕ
form_number Before = 0
form_number Between = 1
form_number Called = 2

-- the order of two rows: by their forms, and where these are the same by the bytes of their spellings
abbrev pub row_order : Row → Row → Ordering
row_order a b = ordering_then (nat_cmp (form_number a.form) (form_number b.form)) (slice_cmp nat_cmp a.spelling b.spelling)

-- each row stands before the next one, so that no two have the same form and the same spelling
abbrev pub rises : List Row → Bool
rises [] = true
rises (a ∷ []) = true
rises (a ∷ b ∷ rows) = is_lt (row_order a b) && rises (b ∷ rows)

-- the row has this form and this spelling
abbrev pub has : Form → List ℕ → Row → Bool
has form spelling r = nat_eq (form_number r.form) (form_number form) && same_bytes r.spelling spelling

-- A row of an operator in front of its one argument, of one between its two, and of one in front of its arguments in parentheses.
abbrev pub before : Op → (spelling : List ℕ) → (level : ℕ) → Row
before op spelling level = record { op = op; spelling = spelling; form = Before; level = level; side = Single; arity = 1 }

abbrev pub between : Op → (spelling : List ℕ) → (level : ℕ) → Side → Row
between op spelling level side = record { op = op; spelling = spelling; form = Between; level = level; side = side; arity = 2 }

abbrev pub called : Op → (spelling : List ℕ) → (arity : ℕ) → Row
called op spelling arity = record { op = op; spelling = spelling; form = Called; level = 12; side = Single; arity = arity }

-- The row of each operator of the language. The table is this language's own: what stands at one level binds equally, and the levels
-- between these are those of its other forms.
abbrev pub operator_row : Op → Row
operator_row Add = between Add (codes "+") 8 Left
operator_row Sub = between Sub (codes "-") 8 Left
operator_row Mul = between Mul (codes "*") 9 Left
operator_row Div = between Div (codes "div") 9 Left
operator_row Mod = between Mod (codes "mod") 9 Left
operator_row Pow = between Pow (codes "**") 10 Right
operator_row Neg = before Neg (codes "-") 11
operator_row Abs = before Abs (codes "abs") 11
operator_row Eq = between Eq (codes "eq") 6 Single
operator_row Ne = between Ne (codes "ne") 6 Single
operator_row Lt = between Lt (codes "<") 6 Single
operator_row Le = between Le (codes "<=") 6 Single
operator_row Gt = between Gt (codes ">") 6 Single
operator_row Ge = between Ge (codes ">=") 6 Single
operator_row Cmp = between Cmp (codes "cmp") 6 Single
operator_row Not = before Not (codes "not") 5
operator_row Head = before Head (codes "hd") 11
operator_row Tail = before Tail (codes "tl") 11
operator_row Cons = between Cons (codes "::") 7 Right
operator_row Append = between Append (codes "<>") 7 Right
operator_row Join = between Join (codes "^") 7 Right
operator_row Length = before Length (codes "length") 11
operator_row Substr = called Substr (codes "substr") 3
operator_row Nth = called Nth (codes "nth") 2
operator_row MakeWord = before MakeWord (codes "mkword") 11
operator_row MakeString = before MakeString (codes "mkstring") 11
operator_row IsInt = before IsInt (codes "isint") 11
operator_row IsWord = before IsWord (codes "isword") 11
operator_row IsString = before IsString (codes "isstring") 11
operator_row IsList = before IsList (codes "islist") 11
operator_row IsTruth = before IsTruth (codes "istruth") 11
operator_row IsNull = before IsNull (codes "isnull") 11
operator_row IsAtom = before IsAtom (codes "isatom") 11
operator_row IsEod = before IsEod (codes "iseod") 11
operator_row IsError = before IsError (codes "iserror") 11

-- The operators by form, and those of one form by the bytes of their spellings.
abbrev pub by_spelling : List Op
by_spelling =
    Neg ∷ Abs ∷ Head ∷ IsAtom ∷ IsEod ∷ IsError ∷ IsInt ∷ IsList ∷ IsNull ∷ IsString ∷ IsTruth ∷ IsWord ∷ Length ∷ MakeString ∷
    MakeWord ∷ Not ∷ Tail ∷ Mul ∷ Pow ∷ Add ∷ Sub ∷ Cons ∷ Lt ∷ Le ∷ Append ∷ Gt ∷ Ge ∷ Join ∷ Cmp ∷ Div ∷ Eq ∷ Mod ∷ Ne ∷ Nth ∷
    Substr ∷ []

-- The rows of the language, in this order.
abbrev pub standard_rows : List Row
standard_rows = map operator_row by_spelling

-- the operator of this form and this spelling, if there is one
abbrev pub operator_of : Form → List ℕ → Option Op
operator_of form spelling = option_map (λ r. r.op) (find (has form spelling) standard_rows)

-- An operator is found by the form and the spelling of its row, and by no others.
abbrev pub IsFoundByItsRow : Op → Type 0
IsFoundByItsRow op = (form : Form) (spelling : List ℕ) → (operator_of form spelling ≡ Some op) ↔ (((operator_row op).form ≡ form) × ((operator_row op).spelling ≡ spelling))

-- a row of this operator
abbrev pub is_of : Op → Row → Bool
is_of op r = nat_eq (operator_number r.op) (operator_number op)

-- The side to which operators and other forms of each level group, from level 0 on; there is one for a level, so that no level groups to
-- both sides. At levels 5 and 11, those of operators in front, and at 6 and 12 nothing groups without parentheses.
abbrev pub sides : List Side
sides = Left ∷ Right ∷ Left ∷ Left ∷ Left ∷ Single ∷ Single ∷ Right ∷ Left ∷ Left ∷ Right ∷ Single ∷ Single ∷ []

abbrev pub level_side : ℕ → Side
level_side level = get_or sides level Single

-- What a row says fits its form: an operator in front has one argument and groups to no side, one between has two. Both bind looser than
-- what is called.
abbrev pub fits_form : Form → Side → (level arity : ℕ) → Bool
fits_form Before Single level arity = nat_lt level 12 && nat_eq arity 1
fits_form Before _ level arity = false
fits_form Between side level arity = nat_lt level 12 && nat_eq arity 2
fits_form Called side level arity = nat_eq level 12

-- The row is the one that the table has of the operator. It fits its form, has from 1 to 3 arguments and a level from 1 to 12, and groups as
-- its level does.
pub record IsRowOf (op : Op) (r : Row) : Type 0 where
  pub found : find (is_of op) standard_rows ≡ Some r
  pub own : r.op ≡ op
  pub fits : IsTrue (fits_form r.form r.side r.level r.arity)
  pub some : 1 ≤ r.arity
  pub few : r.arity ≤ 3
  pub least : 1 ≤ r.level
  pub most : r.level ≤ 12
  pub side : r.side ≡ level_side r.level
