-- What the machine has read begins a program: what is open can be closed.
use Rattle.lucid_parse.proofs.Common.{◌≡◌, ℕ, zero, suc, ◌+◌, List, [], ◌∷◌, ◌++◌, refl, sym, subst, arith, zero-le, append_assoc, append-nil, PlainTree, form, PlainTrees, no_trees, tree, count, PlacedTerminal, terminal_at, trees_and, arity_of, Spells, SpellsArgs, PlainFrame, PlainFocus, PlainItem, Begins}
use Rattle.std.specs.Prelude.{◌-◌}
use Rattle.lucid_value.specs.Plain.{eod}
use Rattle.lucid_tree.specs.Tree.{const}
use Rattle.lucid_parse.specs.declared.terminal.Terminal.TheVariants as terminal
use Rattle.lucid_parse.specs.Grammar
use Rattle.lucid_parse.proofs.Levels.{arity_positive}
use Rattle.lucid_parse.proofs.Complete.{count-and}
use Rattle.lucid_parse.proofs.Sound
use Rattle.lucid_parse.proofs.Sound.{Context, Means, looser}

begins_along : (ts us : List PlacedTerminal) → ts ≡ us → Begins ts → Begins us
begins_along ts us e h = subst Begins e h

pub begins_front : (xs ys : List PlacedTerminal) → Begins (xs ++ ys) → Begins xs
begins_front xs ys h = (ys ++ h.0, h.1, subst (λ l. Spells 0 l h.1) (append_assoc xs ys h.0) h.2)

-- a program begins with the tokens, when it begins with them and some more
short : (ts us more : List PlacedTerminal) → us ≡ ts ++ more → Begins us → Begins ts
short ts us more e h = begins_front ts more (begins_along us (ts ++ more) e h)

-- an operand of one terminal
one : List PlacedTerminal
one = terminal_at (terminal.Const eod) 0 ∷ []

spells_one_terminal : {allowed : ℕ} → Spells allowed one (form 0 (const eod) no_trees)
unfolding one
spells_one_terminal = Grammar.spells_const

-- so many more arguments
pub pad : ℕ → List PlacedTerminal
pad zero = []
pad (suc n) = terminal_at terminal.Comma 0 ∷ (one ++ pad n)

pub record Padded (xs : List PlacedTerminal) (all : PlainTrees) (n : ℕ) : Type 0 where
  pub args : PlainTrees
  pub spells : SpellsArgs (xs ++ pad n) args
  pub counts : count args ≡ n + count all

padded : (n : ℕ) (xs : List PlacedTerminal) (all : PlainTrees) → SpellsArgs xs all → Padded xs all n
unfolding pad one
padded zero xs all s = record { args = all; spells = subst (λ l. SpellsArgs l all) (sym (append-nil xs)) s; counts = omega arith }
padded (suc n) xs all s =
    let p = padded n (xs ++ terminal_at terminal.Comma 0 ∷ one) (trees_and all (form 0 (const eod) no_trees)) (Grammar.spells_more 0 s spells_one_terminal) in
    record {
      args = p.args;
      spells = subst (λ l. SpellsArgs l p.args) (append_assoc xs (terminal_at terminal.Comma 0 ∷ one) (pad n)) p.spells;
      counts = omega (arith, p.counts, count-and all (form 0 (const eod) no_trees));
    }

pub closing : {frames : List PlainFrame} {allowed : ℕ} {pre : List PlacedTerminal} {out : List PlainItem} → Context frames allowed pre out
    → (xs : List PlacedTerminal) (x : PlainTree) → Spells allowed xs x → Begins (pre ++ xs)
closing Sound.outermost xs x sx = ([], x, subst (λ l. Spells 0 l x) (sym (append-nil xs)) sx)
closing (Sound.in_left {at = at} terminal operator is low c sw) xs x sx =
    begins_along _ _ (simp append_assoc) (closing c _ _ (Grammar.spells_infix {at = at} terminal operator is low sw sx))
closing (Sound.in_before {at = at} terminal operator is low c) xs x sx =
    begins_along _ _ (simp append_assoc) (closing c _ _ (Grammar.spells_prefix {at = at} terminal operator is low sx))
closing (Sound.in_open open_at c) xs x sx =
    short _ _ (terminal_at terminal.Close 0 ∷ []) (simp append_assoc) (closing c _ _ (Grammar.spells_inner {p = open_at} 0 sx))
closing (Sound.in_test {at = at} c) xs x sx =
    short _ _ (terminal_at terminal.Then 0 ∷ (one ++ terminal_at terminal.Else 0 ∷ (one ++ terminal_at terminal.Fi 0 ∷ []))) (simp append_assoc)
    (closing c _ _ (Grammar.spells_if {at = at} 0 0 0 sx spells_one_terminal spells_one_terminal))
closing (Sound.in_yes {at = at} then_at c sw) xs x sx =
    short _ _ (terminal_at terminal.Else 0 ∷ (one ++ terminal_at terminal.Fi 0 ∷ [])) (simp append_assoc)
    (closing c _ _ (Grammar.spells_if {at = at} then_at 0 0 sw sx spells_one_terminal))
closing (Sound.in_no {at = at} then_at else_at c sw sv) xs x sx =
    short _ _ (terminal_at terminal.Fi 0 ∷ []) (simp append_assoc) (closing c _ _ (Grammar.spells_if {at = at} then_at else_at 0 sw sv sx))
closing (Sound.in_first {at = at} {n = n} open_at c) xs x sx =
    short _ _ (terminal_at terminal.Close 0 ∷ []) (simp append_assoc)
    (closing c _ _ (Grammar.spells_call {at = at} {p = open_at} 0 {n = n} (Grammar.spells_one sx)))
closing (Sound.in_more {at = at} {n = n} open_at comma_at c sa) xs x sx =
    short _ _ (terminal_at terminal.Close 0 ∷ []) (simp append_assoc)
    (closing c _ _ (Grammar.spells_call {at = at} {p = open_at} 0 {n = n} (Grammar.spells_more comma_at sa sx)))
closing (Sound.in_right {block = at} {at = def_at} {n = n} equals_at c sw sd) xs x sx =
    short _ _ (terminal_at terminal.Semicolon 0 ∷ terminal_at terminal.End 0 ∷ []) (simp append_assoc)
    (closing c _ _ (Grammar.spells_block {at = at} 0 zero-le sw (Grammar.spells_def def_at n equals_at 0 sd sx)))
closing (Sound.in_part {at = at} open_at word {operator = operator} is ctx) xs x sx =
    let all = padded (arity_of operator - 1) xs (tree x no_trees) (Grammar.spells_one sx) in
    short _ _ (pad (arity_of operator - 1) ++ terminal_at terminal.Close 0 ∷ []) (simp append_assoc)
    (closing ctx _ _ (Grammar.spells_called {at = at} {p = open_at} 0 word operator is (omega (arith, all.counts, arity_positive operator)) all.spells))
closing (Sound.in_parts {at = at} {more = more} open_at comma_at word {operator = operator} {all = before} is ctx sa n) xs x sx =
    let all = padded more _ (trees_and before x) (Grammar.spells_more comma_at sa sx) in
    short _ _ (pad more ++ terminal_at terminal.Close 0 ∷ []) (simp append_assoc)
    (closing ctx _ _ (Grammar.spells_called {at = at} {p = open_at} 0 word operator is (omega (arith, all.counts, n, count-and before x)) all.spells))
closing (Sound.in_current {block = at} {at = def_at} {n = n} is_at current_at c sw sd) xs x sx =
    short _ _ (terminal_at terminal.Semicolon 0 ∷ terminal_at terminal.End 0 ∷ []) (simp append_assoc)
    (closing c _ _ (Grammar.spells_block {at = at} 0 zero-le sw (Grammar.spells_current def_at n is_at current_at 0 sd sx)))
closing (Sound.in_function {block = at} {at = def_at} {n = n} open_at close_at equals_at c sw sd sn) xs x sx =
    short _ _ (terminal_at terminal.Semicolon 0 ∷ terminal_at terminal.End 0 ∷ []) (simp append_assoc)
    (closing c _ _ (Grammar.spells_block {at = at} 0 zero-le sw (Grammar.spells_function def_at n open_at close_at equals_at 0 sd sn sx)))

pub viable : (f : PlainFocus) (frames : List PlainFrame) (out : List PlainItem) (ts : List PlacedTerminal) → Means f frames out ts → Begins ts
viable f frames out ts (Sound.awaits c) = short _ _ one refl (closing c one _ spells_one_terminal)
viable f frames _ _ (Sound.holds (Sound.has {allowed = allowed} c h s)) = closing c _ _ (looser s allowed h)
viable f frames out _ (Sound.named {at = place} {n = n} c) = closing c _ _ (Grammar.spells_name {at = place} {n = n})
viable f frames _ _ (Sound.heads {block = at} c sx sd) =
    short _ _ (terminal_at terminal.End 0 ∷ []) (simp append_assoc) (closing c _ _ (Grammar.spells_block {at = at} 0 zero-le sx sd))
viable f frames _ _ (Sound.headed {block = at} {at = def_at} {n = n} c sx sd) =
    short _ _ (terminal_at terminal.Equals 0 ∷ (one ++ terminal_at terminal.Semicolon 0 ∷ terminal_at terminal.End 0 ∷ [])) (simp append_assoc)
    (closing c _ _ (Grammar.spells_block {at = at} 0 zero-le sx (Grammar.spells_def def_at n 0 0 sd spells_one_terminal)))
viable f frames out _ (Sound.opens {at = place} word operator is ctx) =
    let all = padded (arity_of operator - 1) one (tree (form 0 (const eod) no_trees) no_trees) (Grammar.spells_one spells_one_terminal) in
    short _ _ (terminal_at terminal.Open 0 ∷ ((one ++ pad (arity_of operator - 1)) ++ terminal_at terminal.Close 0 ∷ [])) (simp append_assoc)
    (closing ctx _ _ (Grammar.spells_called {at = place} {p = 0} 0 word operator is (omega (arith, all.counts, arity_positive operator)) all.spells))
viable f frames _ _ (Sound.frozen {block = at} {at = def_at} {n = n} is_at c sx sd) =
    short _ _ (terminal_at terminal.Current 0 ∷ (one ++ terminal_at terminal.Semicolon 0 ∷ terminal_at terminal.End 0 ∷ [])) (simp append_assoc)
    (closing c _ _ (Grammar.spells_block {at = at} 0 zero-le sx (Grammar.spells_current def_at n is_at 0 0 sd spells_one_terminal)))
viable f frames _ _ (Sound.no_names_yet {block = at} {at = def_at} {n = n} open_at c sx sd) =
    short _ _ (terminal_at (terminal.Name []) 0 ∷ terminal_at terminal.Close 0 ∷ terminal_at terminal.Equals
    0 ∷ (one ++ terminal_at terminal.Semicolon 0 ∷ terminal_at terminal.End 0 ∷ [])) (simp append_assoc)
    (closing c _ _ (Grammar.spells_block {at = at} 0 zero-le sx
    (Grammar.spells_function def_at n open_at 0 0 0 sd (Grammar.spells_first_name {at = 0} {n = []}) spells_one_terminal)))
viable f frames _ _ (Sound.more_names {block = at} {at = def_at} {n = n} open_at comma_at c sx sd sn) =
    short _ _ (terminal_at (terminal.Name []) 0 ∷ terminal_at terminal.Close 0 ∷ terminal_at terminal.Equals
    0 ∷ (one ++ terminal_at terminal.Semicolon 0 ∷ terminal_at terminal.End 0 ∷ [])) (simp append_assoc)
    (closing c _ _ (Grammar.spells_block {at = at} 0 zero-le sx
    (Grammar.spells_function def_at n open_at 0 0 0 sd (Grammar.spells_more_names comma_at 0 [] sn) spells_one_terminal)))
viable f frames _ _ (Sound.has_names {block = at} {at = def_at} {n = n} open_at c sx sd sn) =
    short _ _ (terminal_at terminal.Close 0 ∷ terminal_at terminal.Equals 0 ∷ (one ++ terminal_at terminal.Semicolon 0 ∷ terminal_at terminal.End 0 ∷ []))
    (simp append_assoc)
    (closing c _ _ (Grammar.spells_block {at = at} 0 zero-le sx (Grammar.spells_function def_at n open_at 0 0 0 sd sn spells_one_terminal)))
viable f frames _ _ (Sound.is_ready {block = at} {at = def_at} {n = n} open_at close_at c sx sd sn) =
    short _ _ (terminal_at terminal.Equals 0 ∷ (one ++ terminal_at terminal.Semicolon 0 ∷ terminal_at terminal.End 0 ∷ [])) (simp append_assoc)
    (closing c _ _ (Grammar.spells_block {at = at} 0 zero-le sx (Grammar.spells_function def_at n open_at close_at 0 0 sd sn spells_one_terminal)))
