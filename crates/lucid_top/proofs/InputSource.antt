-- The program that is an input: its source spells its tree, whose one free name is the input; what it has at the first time, and the first element.
use Rattle.lucid_top.proofs.Common.{◌≡◌, ℕ, zero, suc, List, [], ◌∷◌, length, Some, inl, inr, refl, ap, arith, codes, pos, PlainValue, TextsAreLongest, name, Elements, In, empty, Derives, HasNoFault, all_sites, PlacedTerminal, Spelt, HasInputs, IsNonDecreasingBy}
unfoldable use Rattle.lucid_value.specs.Elements.{element, line_value_of, value_read}
unfoldable use Rattle.lucid_value.specs.ListScan.{atom_value, integer_value}
use Rattle.lucid_value.specs.Names.{reserved_words}
use Rattle.lucid_value.specs.Plain.{int}
use Rattle.lucid_scan.specs.Tokens.{tokens_end}
use Rattle.lucid_tree.specs.Tree.{PlainTree}
use Rattle.lucid_tree.specs.WellMade.{depth}
use Rattle.lucid_tree.specs.Demand.{consults}
use Rattle.lucid_tree.proofs.Growth.{meant-once}
use Rattle.lucid_fixed_point.proofs.Rules.{derives-means}
use Rattle.lucid_scope.specs.Sites.{site_at}
use Rattle.lucid_parse.specs.declared.terminal.Terminal.TheVariants as terminal
use Rattle.lucid_parse.specs.Grammar.{terminal_at, spells_name}
use Rattle.lucid_parse.specs.Terminals.{terminals_none}
use Rattle.lucid_print.proofs.Goods.{Good, name_good}
use Rattle.lucid_top.specs.Witness.{input_source, two_lines}
use Rattle.lucid_top.proofs.Spelling.{ReadFrom, step}

abbrev pub input_program : PlainTree
input_program = name 0 (codes "a")

abbrev input_words : List PlacedTerminal
input_words = terminal_at (terminal.Name (codes "a")) 0 ∷ []

name_a : Good (terminal.Name (codes "a"))
unfolding reserved_words
name_a = name_good (codes "a") refl

at_1 : ReadFrom input_source (codes "\n") 1 []
at_1 = record { tokens = []; are_tokens = tokens_end (omega arith); are_words = terminals_none }

at_0 : TextsAreLongest → ReadFrom input_source (codes "a\n") 0 input_words
at_0 longest = step input_source longest (codes "a\n") 0 0 (terminal.Name (codes "a")) name_a 10 [] [] refl refl refl refl at_1

pub input-spelt : TextsAreLongest → Spelt input_source input_program
input-spelt longest =
    let r = at_0 longest in
    let long : length input_source ≡ 2 = refl in
    let deep : depth input_program ≡ 1 = refl in
    record {
      tokens = r.tokens;
      scanned = record { short = omega (arith, long); listed = r.are_tokens };
      spelt = (input_words, r.are_words, spells_name);
      shallow = omega (arith, deep);
    }

-- no name is at fault, and `a` is free
pub input-no-fault : HasNoFault input_program
input-no-fault zero d lt = refl
input-no-fault (suc k) d lt = absurd (omega (arith, lt))

sites_rise : IsNonDecreasingBy site_at (all_sites input_program)
sites_rise zero zero d le lt = omega arith
sites_rise (suc i) j d le lt = absurd (omega (arith, le, lt))
sites_rise i (suc j) d le lt = absurd (omega (arith, lt))

pub input-inputs : HasInputs input_program (codes "a" ∷ [])
input-inputs = ∣ record { order = all_sites input_program; permutes = record { moves = []; below = tt; is = refl }; rises = sites_rise; names = refl } ∣₁

-- its value at time 0 is the first element
pub input-value : (b : Elements) (v w : PlainValue) → b (codes "a") 0 ≡ Some w → Derives b input_program empty 0 0 v → v ≡ w
input-value b v w is d = meant-once b input_program empty 0 0 v w (derives-means b input_program empty 0 0 v d) (1, is)

-- which is all that is consulted there
pub input-consulted : (b : Elements) (m d j : ℕ) → In (codes "a", j) (consults b (suc m) d input_program empty 0 0) → j ≡ 0
input-consulted b m d j (inl is) = ap (λ (p : List ℕ × ℕ). p.1) is
input-consulted b m d j (inr is) = absurd is

-- the first element of the two lines that it is run over
pub first_is : element two_lines 0 ≡ int (pos 7)
unfolding element line_value_of value_read atom_value integer_value
first_is = refl
