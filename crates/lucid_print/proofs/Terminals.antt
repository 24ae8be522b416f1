-- The text of terminals: each terminal's own, and a blank between two or none.
use Rattle.lucid_print.proofs.Common.{◌≡◌, ℕ, List, [], ◌∷◌, ◌++◌, Some, None, Bool, true, false, cond, ◌&&◌, ◌||◌, refl, sym, ◌∙◌, ap, append_assoc, codes, cond-true, cond-false, Before, Between, Called, Operator, Data, PlainTerminal, as_form, style}
use Rattle.std.proofs.lemmas.Bool.{and_right}
use Rattle.lucid_parse.specs.declared.terminal.Terminal.TheVariants as terminal
use Rattle.lucid_ops.specs.declared.op.Op.TheVariants as op
use Rattle.lucid_ops.specs.declared.op.Form.{Form}
use Rattle.lucid_parse.specs.Operators.{row_of, level_of, left, right, head}
use Rattle.lucid_parse.specs.declared.operator.Operator.TheVariants.{Stream}
use Rattle.lucid_tree.specs.declared.form.Form.TheVariants as forms
use Rattle.lucid_parse.proofs.Levels.{stands}
use Rattle.lucid_parse.specs.Grammar.{operator_in, is_form}
use Rattle.lucid_print.specs.Styles as styles
use Rattle.lucid_print.specs.Styles.{row_style}
use Rattle.lucid_print.specs.Canonical.{constant_text}

-- the terminal of an operator
abbrev pub terminal_of : Operator → PlainTerminal
terminal_of (Data op.Sub) = terminal.Minus
terminal_of (Data op.Neg) = terminal.Minus
terminal_of (Stream forms.If) = terminal.If
terminal_of o = terminal.Operator o

-- an operator that a terminal is in a form has this form
pub stands_as : (wanted : Form) (s : PlainTerminal) (o : Operator) → operator_in wanted s ≡ Some o → as_form wanted o ≡ Some o
stands_as Between s o e = ap (λ f. cond (is_form Between f) (Some o) None) (stands Between s o e)
stands_as Before s o e = ap (λ f. cond (is_form Before f) (Some o) None) (stands Before s o e)
stands_as Called s o e = ap (λ f. cond (is_form Called f) (Some o) None) (stands Called s o e)

pub terminal_is : (wanted : Form) (o : Operator) → as_form wanted o ≡ Some o → operator_in wanted (terminal_of o) ≡ Some o
terminal_is Between (Data op.Sub) w = refl
terminal_is Before (Data op.Sub) w = cc
terminal_is Called (Data op.Sub) w = cc
terminal_is Between (Data op.Neg) w = cc
terminal_is Before (Data op.Neg) w = refl
terminal_is Called (Data op.Neg) w = cc
terminal_is wanted (Stream forms.If) w = cc
terminal_is wanted o w = w

abbrev pub terminal_text : PlainTerminal → List ℕ
terminal_text (terminal.Name n) = n
terminal_text (terminal.Const v) = constant_text v
terminal_text (terminal.Operator o) = (row_of o).spelling
terminal_text terminal.Minus = codes "-"
terminal_text terminal.Is = codes "is"
terminal_text terminal.Current = codes "current"
terminal_text terminal.Where = codes "where"
terminal_text terminal.End = codes "end"
terminal_text terminal.If = codes "if"
terminal_text terminal.Then = codes "then"
terminal_text terminal.Else = codes "else"
terminal_text terminal.Fi = codes "fi"
terminal_text terminal.Open = codes "("
terminal_text terminal.Close = codes ")"
terminal_text terminal.Comma = codes ","
terminal_text terminal.Semicolon = codes ";"
terminal_text terminal.Equals = codes "="

-- how the operators are written
operator_text : (o : Operator) → terminal_text (terminal_of o) ≡ (row_of o).spelling
operator_text (Data op.Sub) = refl
operator_text (Data op.Neg) = refl
operator_text (Stream forms.If) = refl
operator_text o = refl

style-row : (wanted : Form) (o : Operator) → as_form wanted o ≡ Some o → style (head o) ≡ row_style (Some wanted) (row_of o)
style-row wanted (Data p) w = ap (λ f. row_style f (row_of (Data p))) (stands wanted (terminal.Operator (Data p)) (Data p) w)
style-row wanted (Stream f) w = ap (λ x. row_style x (row_of (Stream f))) (stands wanted (terminal.Operator (Stream f)) (Stream f) w)

pub style-between : (o : Operator) → as_form Between o ≡ Some o
    → style (head o) ≡ styles.between (terminal_text (terminal_of o)) (level_of o) (left o) (right o)
style-between o w = style-row Between o w ∙ ap (λ s. styles.between s (level_of o) (left o) (right o)) (sym (operator_text o))

pub style-before : (o : Operator) → as_form Before o ≡ Some o → style (head o) ≡ styles.before (terminal_text (terminal_of o)) (level_of o)
style-before o w = style-row Before o w ∙ ap (λ s. styles.before s (level_of o)) (sym (operator_text o))

pub style-called : (o : Operator) → as_form Called o ≡ Some o → style (head o) ≡ styles.called (terminal_text (terminal_of o))
style-called o w = style-row Called o w ∙ ap styles.called (sym (operator_text o))

abbrev pub is_open : PlainTerminal → Bool
is_open terminal.Open = true
is_open _ = false

abbrev pub is_closer : PlainTerminal → Bool
is_closer terminal.Close = true
is_closer terminal.Comma = true
is_closer terminal.Semicolon = true
is_closer _ = false

abbrev pub is_callable : PlainTerminal → Bool
is_callable (terminal.Name n) = true
is_callable (terminal.Operator o) = is_form Called (row_of o).form
is_callable _ = false

-- the terminal of an operator is no parenthesis and no closer, and is called where the operator is
pub not_open : (o : Operator) → is_open (terminal_of o) ≡ false
not_open (Data op.Sub) = refl
not_open (Data op.Neg) = refl
not_open (Stream forms.If) = refl
not_open o = refl

pub not_closer : (o : Operator) → is_closer (terminal_of o) ≡ false
not_closer (Data op.Sub) = refl
not_closer (Data op.Neg) = refl
not_closer (Stream forms.If) = refl
not_closer o = refl

not_callable : (o : Operator) → is_form Called (row_of o).form ≡ false → is_callable (terminal_of o) ≡ false
not_callable (Data op.Sub) h = refl
not_callable (Data op.Neg) h = refl
not_callable (Stream forms.If) h = refl
not_callable o h = h

pub between_not_callable : (o : Operator) → as_form Between o ≡ Some o → is_callable (terminal_of o) ≡ false
between_not_callable o w = not_callable o (ap (is_form Called) (stands Between (terminal.Operator o) o w))

pub before_not_callable : (o : Operator) → as_form Before o ≡ Some o → is_callable (terminal_of o) ≡ false
before_not_callable o w = not_callable o (ap (is_form Called) (stands Before (terminal.Operator o) o w))

pub callable : (o : Operator) → as_form Called o ≡ Some o → is_callable (terminal_of o) ≡ true
callable (Data op.Sub) w = cc
callable (Data op.Neg) w = cc
callable (Stream forms.If) w = cc
callable o w = ap (is_form Called) (stands Called (terminal.Operator o) o w)

-- no blank stands between the two terminals
abbrev pub is_tight : PlainTerminal → PlainTerminal → Bool
is_tight l s = is_open l || (is_closer s || (is_open s && is_callable l))

abbrev pub gap : PlainTerminal → PlainTerminal → List ℕ
gap l s = cond (is_tight l s) [] (32 ∷ [])

-- the text of terminals behind a terminal
abbrev pub after : PlainTerminal → List PlainTerminal → List ℕ
after l [] = []
after l (s ∷ ss) = gap l s ++ (terminal_text s ++ after s ss)

abbrev pub last : PlainTerminal → List PlainTerminal → PlainTerminal
last l [] = l
last l (s ∷ ss) = last s ss

pub after-append : (l : PlainTerminal) (a b : List PlainTerminal) → after l (a ++ b) ≡ after l a ++ after (last l a) b
after-append l [] b = refl
after-append l (s ∷ a) b =
    ap (λ t. gap l s ++ (terminal_text s ++ t)) (after-append s a b)
    ∙ ap (λ t. gap l s ++ t) (sym (append_assoc (terminal_text s) (after s a) (after (last s a) b)))
    ∙ sym (append_assoc (gap l s) (terminal_text s ++ after s a) (after (last s a) b))

pub last-append : (l : PlainTerminal) (a b : List PlainTerminal) → last l (a ++ b) ≡ last (last l a) b
last-append l [] b = refl
last-append l (s ∷ a) b = last-append s a b

tight_is : (l s : PlainTerminal) (c : Bool) → is_open l ≡ false → is_closer s ≡ c → (is_open s && is_callable l) ≡ false → is_tight l s ≡ (c || false)
tight_is l s c o e t = ap (λ b. b || (is_closer s || (is_open s && is_callable l))) o ∙ ap (λ b. b || (is_open s && is_callable l)) e ∙ ap (λ b. c || b) t

-- a blank, or none
pub blank : (l s : PlainTerminal) → is_open l ≡ false → is_closer s ≡ false → (is_open s && is_callable l) ≡ false → gap l s ≡ 32 ∷ []
blank l s o c t = cond-false (is_tight l s) [] (32 ∷ []) (tight_is l s false o c t)

pub none : (l s : PlainTerminal) → is_open l ≡ false → is_closer s ≡ true → gap l s ≡ []
none l s o c =
    cond-true (is_tight l s) [] (32 ∷ [])
    (ap (λ b. b || (is_closer s || (is_open s && is_callable l))) o ∙ ap (λ b. b || (is_open s && is_callable l)) c)

-- a blank where the first terminal is never called
pub blank_behind : (l s : PlainTerminal) → is_open l ≡ false → is_callable l ≡ false → is_closer s ≡ false → gap l s ≡ 32 ∷ []
blank_behind l s o n c = blank l s o c (and_right (is_open s) (is_callable l) n)
