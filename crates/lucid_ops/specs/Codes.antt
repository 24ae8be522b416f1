-- The operators in a row, and each one's number among them: by it the logic stores an operator.
use Rattle.std.proofs.Common.{◌≡◌, ℕ, List, [], ◌∷◌, refl, get_or}
use Rattle.lucid_ops.specs.declared.op.Op.{Op}
use Rattle.lucid_ops.specs.declared.op.Op.TheVariants.{Add, Sub, Mul, Div, Mod, Pow, Neg, Abs, Eq, Ne, Lt, Le, Gt, Ge, Cmp, Not, Head, Tail, Cons, Append, Join, Length, Substr, Nth, MakeWord, MakeString, IsInt, IsWord, IsString, IsList, IsTruth, IsNull, IsAtom, IsEod, IsError}

-- the operators in the order in which they are declared
abbrev pub operators : List Op
operators = Add ∷ Sub ∷ Mul ∷ Div ∷ Mod ∷ Pow ∷ Neg ∷ Abs ∷ Eq ∷ Ne ∷ Lt ∷ Le ∷ Gt ∷ Ge ∷ Cmp ∷ Not ∷ Head ∷ Tail ∷ Cons ∷ Append ∷ Join ∷ Length ∷ Substr ∷ Nth ∷ MakeWord ∷ MakeString ∷ IsInt ∷ IsWord ∷ IsString ∷ IsList ∷ IsTruth ∷ IsNull ∷ IsAtom ∷ IsEod ∷ IsError ∷ []

-- an operator's number among them, from 0
abbrev pub operator_number : Op → ℕ
operator_number Add = 0
operator_number Sub = 1
operator_number Mul = 2
operator_number Div = 3
operator_number Mod = 4
operator_number Pow = 5
operator_number Neg = 6
operator_number Abs = 7
operator_number Eq = 8
operator_number Ne = 9
operator_number Lt = 10
operator_number Le = 11
operator_number Gt = 12
operator_number Ge = 13
operator_number Cmp = 14
operator_number Not = 15
operator_number Head = 16
operator_number Tail = 17
operator_number Cons = 18
operator_number Append = 19
operator_number Join = 20
operator_number Length = 21
operator_number Substr = 22
operator_number Nth = 23
operator_number MakeWord = 24
operator_number MakeString = 25
operator_number IsInt = 26
operator_number IsWord = 27
operator_number IsString = 28
operator_number IsList = 29
operator_number IsTruth = 30
operator_number IsNull = 31
operator_number IsAtom = 32
operator_number IsEod = 33
operator_number IsError = 34

-- an operator's number gives it back
pub operator_there : (o : Op) → get_or operators (operator_number o) Add ≡ o
operator_there Add = refl
operator_there Sub = refl
operator_there Mul = refl
operator_there Div = refl
operator_there Mod = refl
operator_there Pow = refl
operator_there Neg = refl
operator_there Abs = refl
operator_there Eq = refl
operator_there Ne = refl
operator_there Lt = refl
operator_there Le = refl
operator_there Gt = refl
operator_there Ge = refl
operator_there Cmp = refl
operator_there Not = refl
operator_there Head = refl
operator_there Tail = refl
operator_there Cons = refl
operator_there Append = refl
operator_there Join = refl
operator_there Length = refl
operator_there Substr = refl
operator_there Nth = refl
operator_there MakeWord = refl
operator_there MakeString = refl
operator_there IsInt = refl
operator_there IsWord = refl
operator_there IsString = refl
operator_there IsList = refl
operator_there IsTruth = refl
operator_there IsNull = refl
operator_there IsAtom = refl
operator_there IsEod = refl
operator_there IsError = refl
