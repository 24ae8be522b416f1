-- How the logic stores a plain value: as a tree of numbers that gives it back. Nothing here has a meaning of its own:
-- the model of `List` needs it, and so does a model of any type that holds plain values.
use Rattle.std.proofs.Common.{◌≡◌, ℕ, zero, suc, Bool, true, false, List, [], ◌∷◌, refl, ap, pos, negsuc}
use Rattle.std.specs.Coded.{Coded, code_by}
use base.Stored.{Gv, gnil, gnum, gcons}
use Rattle.lucid_value.specs.Plain.{PlainValue, int, truth, word, text, list, eod, fault, Items, no_items, item}
use denote.Struct.Codes.{itself}

-- bytes as a chain of numbers, back from it, and that they come back
abbrev pub bytes_code : List ℕ → Gv
bytes_code [] = gnil
bytes_code (b ∷ bs) = gcons (gnum b) (bytes_code bs)

abbrev pub bytes_back : Gv → List ℕ
bytes_back gnil = []
bytes_back (gnum n) = []
bytes_back (gcons gnil more) = []
bytes_back (gcons (gnum b) more) = b ∷ bytes_back more
bytes_back (gcons (gcons x y) more) = []

pub bytes_there : (bs : List ℕ) → bytes_back (bytes_code bs) ≡ bs
bytes_there [] = refl
bytes_there (b ∷ bs) = ap (λ cs. b ∷ cs) (bytes_there bs)

-- a truth as a number, and back
abbrev bool_code : Bool → ℕ
bool_code true = 1
bool_code false = 0

abbrev bool_back : ℕ → Bool
bool_back zero = false
bool_back (suc n) = true

-- a value as a number for its kind and its parts
abbrev mutual
  pub value_code : PlainValue → Gv
  value_code (int (pos n)) = gcons (gnum 0) (gnum n)
  value_code (int (negsuc n)) = gcons (gnum 1) (gnum n)
  value_code (truth true) = gcons (gnum 2) (gnum 1)
  value_code (truth false) = gcons (gnum 2) (gnum 0)
  value_code (word bs) = gcons (gnum 3) (bytes_code bs)
  value_code (text bs) = gcons (gnum 4) (bytes_code bs)
  value_code (list vs) = gcons (gnum 5) (items_code vs)
  value_code eod = gnum 0
  value_code fault = gnum 1

  pub items_code : Items → Gv
  items_code no_items = gnil
  items_code (item v vs) = gcons (value_code v) (items_code vs)

-- a value back from its code; trees that code none give any
abbrev mutual
  pub value_back : Gv → PlainValue
  value_back gnil = fault
  value_back (gnum zero) = eod
  value_back (gnum (suc n)) = fault
  value_back (gcons gnil more) = fault
  value_back (gcons (gcons x y) more) = fault
  value_back (gcons (gnum zero) gnil) = fault
  value_back (gcons (gnum zero) (gnum n)) = int (pos n)
  value_back (gcons (gnum zero) (gcons x y)) = fault
  value_back (gcons (gnum (suc zero)) gnil) = fault
  value_back (gcons (gnum (suc zero)) (gnum n)) = int (negsuc n)
  value_back (gcons (gnum (suc zero)) (gcons x y)) = fault
  value_back (gcons (gnum (suc (suc zero))) gnil) = fault
  value_back (gcons (gnum (suc (suc zero))) (gnum n)) = truth (bool_back n)
  value_back (gcons (gnum (suc (suc zero))) (gcons x y)) = fault
  value_back (gcons (gnum (suc (suc (suc zero)))) more) = word (bytes_back more)
  value_back (gcons (gnum (suc (suc (suc (suc zero))))) more) = text (bytes_back more)
  value_back (gcons (gnum (suc (suc (suc (suc (suc n)))))) more) = list (items_back more)

  pub items_back : Gv → Items
  items_back gnil = no_items
  items_back (gnum n) = no_items
  items_back (gcons x more) = item (value_back x) (items_back more)

-- each value comes back from its code
mutual
  pub value_there : (v : PlainValue) → value_back (value_code v) ≡ v
  value_there (int (pos n)) = refl
  value_there (int (negsuc n)) = refl
  value_there (truth true) = refl
  value_there (truth false) = refl
  value_there (word bs) = ap word (bytes_there bs)
  value_there (text bs) = ap text (bytes_there bs)
  value_there (list vs) = ap list (items_there vs)
  value_there eod = refl
  value_there fault = refl

  pub items_there : (vs : Items) → items_back (items_code vs) ≡ vs
  items_there no_items = refl
  items_there (item v vs) = λ i. item (value_there v i) (items_there vs i)

-- what the logic asks for at `PlainValue` and at `Items`
abbrev pub coded_value : Coded PlainValue
coded_value = code_by Gv itself value_code value_back value_there

abbrev pub coded_items : Coded Items
coded_items = code_by Gv itself items_code items_back items_there
