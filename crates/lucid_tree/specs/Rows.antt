-- What each form does at a time and a space: its row, as a plan of looks at its parts.
-- The rows of `first`, `next`, `fby`, `whenever` and `asa` are Wadge and Ashcroft's (Lucid, the Dataflow Programming Language,
-- 1985); those of `upon`, of `attime`, of the four forms over space, and what end of data and error do, are this language's own.
-- A plan says nothing of who looks: approximations, demands and held values all read the same plans.
use Rattle.std.specs.Prelude.{ℕ, zero, suc, pos, true, false, List, [], ◌∷◌, ◌++◌, Option, Some, None, nat_lt, nat_le, if◌then◌else◌}
use Rattle.lucid_value.specs.Plain.{PlainValue, int, truth, eod, fault}
use Rattle.lucid_tree.specs.declared.form.Form.TheVariants as forms
use Rattle.lucid_tree.specs.Tree.{Head, const, apply, stream}
use Rattle.lucid_ops.specs.Algebra.{algebra}

-- A look at a part, by its number, at a time and a space; approximations below `least` do not take it. Only what is demanded
-- reads `least`: a search has as many looks as its limit, and an advance none below its time, so values need no such number.
pub record Look : Type 0 where
  pub part : ℕ
  pub time : ℕ
  pub space : ℕ
  pub least : ℕ

-- A row gives a value, or nothing, or it looks at parts and goes on with their values.
pub data Plan : Type 0 where
  gives : PlainValue → Plan
  nothing : Plan
  looks : List Look → (List PlainValue → Plan) → Plan

-- the last time, and the last space
abbrev pub last : ℕ
last = 9223372036854775807

-- on with the first of the values
abbrev pub single : (PlainValue → Plan) → List PlainValue → Plan
single k [] = nothing
single k (v ∷ vs) = k v

-- one look, and on with its value
abbrev pub look : (part time space least : ℕ) → (PlainValue → Plan) → Plan
look i t s l k = looks (record { part = i; time = t; space = s; least = l } ∷ []) (single k)

-- the value of a part
abbrev pub gives_part : (part time space : ℕ) → Plan
gives_part i t s = look i t s 0 gives

-- on by a truth; what is no truth ends it
abbrev pub by_test : PlainValue → (on off : Plan) → Plan
by_test (truth true) on off = on
by_test (truth false) on off = off
by_test eod on off = gives eod
by_test _ on off = gives fault

-- on to a time or a space; what is none ends it
abbrev pub by_place : PlainValue → (ℕ → Plan) → Plan
by_place (int (pos n)) k = if nat_le n last then k n else gives fault
by_place eod k = gives eod
by_place _ k = gives fault

-- the second part of `and` and `or`: a truth or end of data as it is, else an error
abbrev pub only_truth : PlainValue → PlainValue
only_truth (truth b) = truth b
only_truth eod = eod
only_truth _ = fault

-- one plan at 0, and another one less further on
abbrev pub at_zero : ℕ → Plan → (ℕ → Plan) → Plan
at_zero zero a b = a
at_zero (suc n) a b = b n

-- a plan below the last time or space, an error there
abbrev pub below_last : ℕ → Plan → Plan
below_last t a = if nat_lt t last then a else gives fault

-- the looks at all arguments, from number i on
abbrev pub arguments : (left i time space : ℕ) → List Look
arguments zero i t s = []
arguments (suc n) i t s = record { part = i; time = t; space = s; least = 0 } ∷ arguments n (suc i) t s

-- part 0 at the time of the true value number n, from 0, of part 1 at the times from j on, of which `left` are left
abbrev pub find_true : (left j n space : ℕ) → Plan
find_true zero j n s = nothing
find_true (suc left) j n s =
    look 1 j s (suc j) (λ p. by_test p (at_zero n (gives_part 0 j s) (λ k. find_true left (suc j) k s)) (find_true left (suc j) n s))

-- part 0 at n and the number of true values of part 1 at the times from j on, of which `left` are left
abbrev pub count_true : (left j n space least : ℕ) → Plan
count_true zero j n s l = gives_part 0 n s
count_true (suc left) j n s l = look 1 j s l (λ p. by_test p (count_true left (suc j) (suc n) s l) (count_true left (suc j) n s l))

-- the row of a form at a time and a space, for the approximation m
abbrev pub plan : (m : ℕ) → Head → (time space : ℕ) → Plan
plan m (const v) t s = gives v
plan m (apply op n) t s = looks (arguments n 0 t s) (λ vs. gives (algebra op vs))
plan m (stream forms.If) t s = look 0 t s 0 (λ c. by_test c (gives_part 1 t s) (gives_part 2 t s))
plan m (stream forms.And) t s = look 0 t s 0 (λ a. by_test a (look 1 t s 0 (λ b. gives (only_truth b))) (gives (truth false)))
plan m (stream forms.Or) t s = look 0 t s 0 (λ a. by_test a (gives (truth true)) (look 1 t s 0 (λ b. gives (only_truth b))))
plan m (stream forms.First) t s = gives_part 0 0 s
plan m (stream forms.Next) t s = below_last t (gives_part 0 (suc t) s)
plan m (stream forms.Fby) t s = at_zero t (gives_part 0 0 s) (λ u. gives_part 1 u s)
plan m (stream forms.Whenever) t s = find_true m 0 t s
plan m (stream forms.Asa) t s = find_true m 0 0 s
plan m (stream forms.Upon) t s = if nat_le t m then count_true t 0 0 s t else nothing
plan m (stream forms.Attime) t s = look 1 t s 0 (λ y. by_place y (λ u. gives_part 0 u s))
plan m (stream forms.Initial) t s = gives_part 0 t 0
plan m (stream forms.Succ) t s = below_last s (gives_part 0 t (suc s))
plan m (stream forms.Sby) t s = at_zero s (gives_part 0 t 0) (λ r. gives_part 1 t r)
plan m (stream forms.Atspace) t s = look 1 t s 0 (λ y. by_place y (λ r. gives_part 0 t r))

-- what reads the parts: a part's number, a time and a space
abbrev pub Reader : Type 0 → Type 0
Reader A = (part time space : ℕ) → A

-- a value in front of values, where all are there
abbrev pub add_value : Option PlainValue → Option (List PlainValue) → Option (List PlainValue)
add_value (Some v) (Some vs) = Some (v ∷ vs)
add_value _ _ = None

-- the values that the looks read, where each reads one
abbrev pub all_values : Reader (Option PlainValue) → List Look → Option (List PlainValue)
all_values p [] = Some []
all_values p (l ∷ ls) = add_value (p l.part l.time l.space) (all_values p ls)

-- on with the values, where they are there
abbrev pub with_values : {A : Type 0} → Option (List PlainValue) → (none : A) → (List PlainValue → A) → A
with_values None a k = a
with_values (Some vs) a k = k vs

-- the value of a plan, where the parts have these
abbrev pub run : Plan → Reader (Option PlainValue) → Option PlainValue
run (gives v) p = Some v
run nothing p = None
run (looks ls k) p = with_values (all_values p ls) None (λ vs. run (k vs) p)

-- what the looks of an approximation m see
abbrev pub gather : {A : Type 0} → (m : ℕ) → Reader (List A) → List Look → List A
gather m see [] = []
gather m see (l ∷ ls) = (if nat_le l.least m then see l.part l.time l.space else []) ++ gather m see ls

-- what a plan sees at m, where `decide` gives the values on which it goes on
abbrev pub trace : {A : Type 0} → (m : ℕ) → Plan → (decide : Reader (Option PlainValue)) → Reader (List A) → List A
trace m (gives v) decide see = []
trace m nothing decide see = []
trace m (looks ls k) decide see = gather m see ls ++ with_values (all_values decide ls) [] (λ vs. trace m (k vs) decide see)
