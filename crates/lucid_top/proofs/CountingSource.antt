-- The counting program: its source spells its tree, whose names are not at fault; and what it has at the first times.
use Rattle.lucid_top.proofs.Common.{◌≡◌, ℕ, zero, suc, ◌<◌, List, [], ◌∷◌, length, drop, refl, arith, codes, digits, PlainValue, TextIsRead, TextsAreLongest, name, no_defs, defines, number, counting, Elements, empty, Derives, HasNoFault, all_sites, PlacedTerminal, Spells, SpellsDefs, Spelt, HasInputs, counting_source, pos, IsNonDecreasingBy}
use Rattle.lucid_value.specs.Plain.{int}
use Rattle.lucid_value.specs.Names.{reserved_words}
use Rattle.lucid_ops.specs.declared.op.Op.TheVariants as op
use Rattle.lucid_scan.specs.declared.token.TokenKind.TheVariants as kind
use Rattle.lucid_scan.specs.Tokens.{tokens_end}
use Rattle.lucid_tree.specs.WellMade.{depth}
use Rattle.lucid_tree.specs.Tree.{fby_of}
use Rattle.lucid_tree.specs.SamplePrograms.{integer, between}
use Rattle.lucid_tree.proofs.Growth.{meant-once}
use Rattle.lucid_fixed_point.proofs.Rules.{derives-means}
use Rattle.lucid_scope.specs.Sites.{site_at}
use Rattle.lucid_parse.specs.declared.operator.Operator.TheVariants as operator
use Rattle.lucid_tree.specs.declared.form.Form.TheVariants as stream
use Rattle.lucid_parse.specs.declared.terminal.Terminal.TheVariants as terminal
use Rattle.lucid_parse.specs.Grammar.{terminal_at, spells_const, spells_name, spells_infix, spells_block, spells_none, spells_def}
use Rattle.lucid_parse.specs.Terminals.{terminals_none}
use Rattle.lucid_top.proofs.Spelling.{ReadFrom, step}
use Rattle.lucid_print.proofs.Goods.{Good, where_good, end_good, equals_good, semicolon_good, name_good, operator_good, const_good}

-- its terminals, in order, each with its place; and those from a number on
abbrev pub counting_words : List PlacedTerminal
counting_words =
    terminal_at (terminal.Name (codes "x")) 0 ∷ terminal_at terminal.Where 2 ∷ terminal_at (terminal.Name (codes "x")) 8 ∷ terminal_at terminal.Equals 10 ∷ terminal_at (terminal.Const (int (pos 0))) 12 ∷ terminal_at (terminal.Operator (operator.Stream stream.Fby)) 14 ∷ terminal_at (terminal.Name (codes "x")) 18 ∷ terminal_at (terminal.Operator (operator.Data op.Add)) 20 ∷ terminal_at (terminal.Const (int (pos 1))) 22 ∷ terminal_at terminal.Semicolon 23 ∷ terminal_at terminal.End 25 ∷ []

abbrev words_from : ℕ → List PlacedTerminal
words_from k = drop k counting_words

-- the tokens from a place of the source on, and their terminals
abbrev Read : List ℕ → ℕ → List PlacedTerminal → Type 0
Read = ReadFrom counting_source

module _ (longest : TextsAreLongest) (read : TextIsRead) where
  name_x : Good (terminal.Name (codes "x"))
  unfolding reserved_words
  name_x = name_good (codes "x") refl

  zero_good : Good (terminal.Const (int (pos 0)))
  zero_good = const_good read (int (pos 0)) (kind.Int, codes "0", [], (refl, refl, omega arith), refl)

  one_good : Good (terminal.Const (int (pos 1)))
  one_good = const_good read (int (pos 1)) (kind.Int, codes "1", [], (refl, refl, omega arith), refl)

  -- from the end on, each token in front of those behind it
  at_28 : Read (codes "\n") 28 []
  at_28 = record { tokens = []; are_tokens = tokens_end (omega arith); are_words = terminals_none }

  at_24 : Read (codes " end\n") 24 (words_from 10)
  at_24 = step counting_source longest (codes " end\n") 24 1 terminal.End end_good 10 (codes "") (words_from 11) refl refl refl refl at_28

  at_23 : Read (codes "; end\n") 23 (words_from 9)
  at_23 = step counting_source longest (codes "; end\n") 23 0 terminal.Semicolon semicolon_good 32 (codes "end\n") (words_from 10) refl refl refl refl at_24

  at_21 : Read (codes " 1; end\n") 21 (words_from 8)
  unfolding digits
  at_21 = step counting_source longest (codes " 1; end\n") 21 1 (terminal.Const (int (pos 1))) one_good 59 (codes " end\n") (words_from 9) refl refl refl refl at_23

  at_19 : Read (codes " + 1; end\n") 19 (words_from 7)
  at_19 = step counting_source longest (codes " + 1; end\n") 19 1 (terminal.Operator (operator.Data op.Add)) (operator_good (operator.Data op.Add)) 32 (codes "1; end\n") (words_from 8) refl refl refl refl at_21

  at_17 : Read (codes " x + 1; end\n") 17 (words_from 6)
  at_17 = step counting_source longest (codes " x + 1; end\n") 17 1 (terminal.Name (codes "x")) name_x 32 (codes "+ 1; end\n") (words_from 7) refl refl refl refl at_19

  at_13 : Read (codes " fby x + 1; end\n") 13 (words_from 5)
  at_13 = step counting_source longest (codes " fby x + 1; end\n") 13 1 (terminal.Operator (operator.Stream stream.Fby)) (operator_good (operator.Stream stream.Fby)) 32 (codes "x + 1; end\n") (words_from 6) refl refl refl refl at_17

  at_11 : Read (codes " 0 fby x + 1; end\n") 11 (words_from 4)
  unfolding digits
  at_11 = step counting_source longest (codes " 0 fby x + 1; end\n") 11 1 (terminal.Const (int (pos 0))) zero_good 32 (codes "fby x + 1; end\n") (words_from 5) refl refl refl refl at_13

  at_9 : Read (codes " = 0 fby x + 1; end\n") 9 (words_from 3)
  at_9 = step counting_source longest (codes " = 0 fby x + 1; end\n") 9 1 terminal.Equals equals_good 32 (codes "0 fby x + 1; end\n") (words_from 4) refl refl refl refl at_11

  at_7 : Read (codes " x = 0 fby x + 1; end\n") 7 (words_from 2)
  at_7 = step counting_source longest (codes " x = 0 fby x + 1; end\n") 7 1 (terminal.Name (codes "x")) name_x 32 (codes "= 0 fby x + 1; end\n") (words_from 3) refl refl refl refl at_9

  at_1 : Read (codes " where x = 0 fby x + 1; end\n") 1 (words_from 1)
  at_1 = step counting_source longest (codes " where x = 0 fby x + 1; end\n") 1 1 terminal.Where where_good 32 (codes "x = 0 fby x + 1; end\n") (words_from 2) refl refl refl refl at_7

  at_0 : Read (codes "x where x = 0 fby x + 1; end\n") 0 (words_from 0)
  at_0 = step counting_source longest (codes "x where x = 0 fby x + 1; end\n") 0 0 (terminal.Name (codes "x")) name_x 32 (codes "where x = 0 fby x + 1; end\n") (words_from 1) refl refl refl refl at_1

-- x + 1
spells_sum : Spells 1 (terminal_at (terminal.Name (codes "x")) 18 ∷ terminal_at (terminal.Operator (operator.Data op.Add)) 20 ∷ terminal_at (terminal.Const (int (pos 1))) 22 ∷ []) (between 20 op.Add (name 18 (codes "x")) (integer 22 1))
spells_sum = spells_infix {at = 20} {xs = terminal_at (terminal.Name (codes "x")) 18 ∷ []} {ys = terminal_at (terminal.Const (int (pos 1))) 22 ∷ []} (terminal.Operator (operator.Data op.Add)) (operator.Data op.Add) refl (omega arith) spells_name spells_const

-- 0 fby x + 1
spells_right_side : Spells 0 (terminal_at (terminal.Const (int (pos 0))) 12 ∷ terminal_at (terminal.Operator (operator.Stream stream.Fby)) 14 ∷ terminal_at (terminal.Name (codes "x")) 18 ∷ terminal_at (terminal.Operator (operator.Data op.Add)) 20 ∷ terminal_at (terminal.Const (int (pos 1))) 22 ∷ []) (fby_of 14 (integer 12 0) (between 20 op.Add (name 18 (codes "x")) (integer 22 1)))
spells_right_side = spells_infix {at = 14} {xs = terminal_at (terminal.Const (int (pos 0))) 12 ∷ []} {ys = terminal_at (terminal.Name (codes "x")) 18 ∷ terminal_at (terminal.Operator (operator.Data op.Add)) 20 ∷ terminal_at (terminal.Const (int (pos 1))) 22 ∷ []} (terminal.Operator (operator.Stream stream.Fby)) (operator.Stream stream.Fby) refl (omega arith) spells_const spells_sum

-- x = 0 fby x + 1;
spells_definition : SpellsDefs (terminal_at (terminal.Name (codes "x")) 8 ∷ terminal_at terminal.Equals 10 ∷ terminal_at (terminal.Const (int (pos 0))) 12 ∷ terminal_at (terminal.Operator (operator.Stream stream.Fby)) 14 ∷ terminal_at (terminal.Name (codes "x")) 18 ∷ terminal_at (terminal.Operator (operator.Data op.Add)) 20 ∷ terminal_at (terminal.Const (int (pos 1))) 22 ∷ terminal_at terminal.Semicolon 23 ∷ []) (defines 8 (codes "x") (fby_of 14 (integer 12 0) (between 20 op.Add (name 18 (codes "x")) (integer 22 1))) no_defs)
spells_definition = spells_def 8 (codes "x") 10 23 {ds = []} {ys = terminal_at (terminal.Const (int (pos 0))) 12 ∷ terminal_at (terminal.Operator (operator.Stream stream.Fby)) 14 ∷ terminal_at (terminal.Name (codes "x")) 18 ∷ terminal_at (terminal.Operator (operator.Data op.Add)) 20 ∷ terminal_at (terminal.Const (int (pos 1))) 22 ∷ []} spells_none spells_right_side

spells_counting : Spells 0 counting_words counting
spells_counting = spells_block {at = 2} 25 {xs = terminal_at (terminal.Name (codes "x")) 0 ∷ []} {ds = terminal_at (terminal.Name (codes "x")) 8 ∷ terminal_at terminal.Equals 10 ∷ terminal_at (terminal.Const (int (pos 0))) 12 ∷ terminal_at (terminal.Operator (operator.Stream stream.Fby)) 14 ∷ terminal_at (terminal.Name (codes "x")) 18 ∷ terminal_at (terminal.Operator (operator.Data op.Add)) 20 ∷ terminal_at (terminal.Const (int (pos 1))) 22 ∷ terminal_at terminal.Semicolon 23 ∷ []} (omega arith) spells_name spells_definition

pub counting-spelt : TextsAreLongest → TextIsRead → Spelt counting_source counting
counting-spelt longest read =
    let r = at_0 longest read in
    let long : length counting_source ≡ 29 = refl in
    let deep : depth counting ≡ 4 = refl in
    record {
      tokens = r.tokens;
      scanned = record { short = omega (arith, long); listed = r.are_tokens };
      spelt = (counting_words, r.are_words, spells_counting);
      shallow = omega (arith, deep);
    }

-- no name is at fault, and none is free
pub counting-no-fault : HasNoFault counting
counting-no-fault zero d lt = refl
counting-no-fault (suc zero) d lt = refl
counting-no-fault (suc (suc k)) d lt = absurd (omega (arith, lt))

sites_rise : IsNonDecreasingBy site_at (all_sites counting)
sites_rise zero zero d le lt = omega arith
sites_rise zero (suc zero) d le lt = omega arith
sites_rise (suc zero) zero d le lt = absurd (omega (arith, le))
sites_rise (suc zero) (suc zero) d le lt = omega arith
sites_rise (suc (suc i)) j d le lt = absurd (omega (arith, le, lt))
sites_rise i (suc (suc j)) d le lt = absurd (omega (arith, lt))

pub counting-inputs : HasInputs counting []
counting-inputs = ∣ record { order = all_sites counting; permutes = record { moves = []; below = tt; is = refl }; rises = sites_rise; names = refl } ∣₁

-- its value at each of the first three times
pub counting-value : (b : Elements) (t : ℕ) (v : PlainValue) → t < 3 → Derives b counting empty t 0 v → v ≡ number t
counting-value b zero v lt d = meant-once b counting empty 0 0 v (number 0) (derives-means b counting empty 0 0 v d) (1, refl)
counting-value b (suc zero) v lt d = meant-once b counting empty 1 0 v (number 1) (derives-means b counting empty 1 0 v d) (2, refl)
counting-value b (suc (suc zero)) v lt d = meant-once b counting empty 2 0 v (number 2) (derives-means b counting empty 2 0 v d) (3, refl)
counting-value b (suc (suc (suc t))) v lt d = absurd (omega (arith, lt))
