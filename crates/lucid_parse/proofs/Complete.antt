-- Terminals that spell a tree lead the machine over them, and_from it writes the tree.
use Rattle.lucid_parse.proofs.Common.{◌≡◌, ℕ, ◌+◌, ◌≤◌, ◌<◌, List, [], ◌∷◌, ◌++◌, Option, Some, None, true, false, option_and_then, refl, sym, ◌∙◌, ap, subst, arith, leb, zero-le, le_refl, leb-true, eq-eqb, ne_eqb, and_from, and_parts, nat_eq, PlainTree, PlainTrees, no_trees, tree, PlainDefs, no_defs, defines, defines_function, defines_current, count, Before, Between, Called, Defines, Frame, Item, Operator, PlainTerminal, PlacedTerminal, terminal_at, trees_and, def_before, defs_and, Parameter, names_of, places_of, Defined, Plain, Function, Current, Spells, SpellsArgs, SpellsDefs, SpellsNames, level_of, arity_of, left, right, operator_in, PlainFrame, PlainItem, PlainState, state, called_at, definition_in, takes, shift, inner_frames, inner_out, settle_at, settle, prefixed, begun, begin, step_named, step, feeds, finished, finish, written, written_parts, written_all, written_defs, with_parameters, le-leb, false_from_ne_true}
use Rattle.std.specs.Prelude.{◌-◌}
use Rattle.std.proofs.lemmas.Bool.{cond-false, cond-true}
use Rattle.lucid_parse.specs.declared.terminal.Terminal.TheVariants as terminal
use Rattle.lucid_parse.specs.declared.state.Defines.TheVariants as kind
use Rattle.lucid_parse.specs.declared.state.Frame.TheVariants as frame
use Rattle.lucid_parse.specs.declared.state.Focus.TheVariants as focus
use Rattle.lucid_parse.specs.declared.state.Item.TheVariants as item
use Rattle.lucid_parse.specs.Grammar
use Rattle.lucid_parse.specs.Grammar.{parameter}
use Rattle.lucid_parse.specs.Flat.{kind_of, listed, headed}
use Rattle.lucid_parse.proofs.Levels.{prefix_level_most, left_most, right_most, left_least, right_least, right_positive, level_positive, arity_positive, before_not_called, apart, apart_prefix, node-operator}
use Rattle.lucid_parse.specs.declared.operator.Operator.TheVariants.{Stream}
use Rattle.lucid_tree.specs.declared.form.Form.TheVariants as forms

-- the terminal leaves no operand of this level or a tighter one open, when it comes next
abbrev pub ClosesAs : ℕ → Option Operator → Type 0
ClosesAs level (Some operator) = left operator ≤ level
ClosesAs level None = Unit {0}

abbrev pub Closes : ℕ → PlainTerminal → Type 0
Closes level terminal.Open = ⊥
Closes level terminal = ClosesAs level (operator_in Between terminal)

ClosesAs-more : (o : Option Operator) (lesser level : ℕ) → lesser ≤ level → ClosesAs lesser o → ClosesAs level o
ClosesAs-more (Some operator) lesser level h c = omega arith
ClosesAs-more None lesser level h c = tt

Closes-more : (terminal : PlainTerminal) (lesser level : ℕ) → lesser ≤ level → Closes lesser terminal → Closes level terminal
Closes-more terminal.Open lesser level h c = c
Closes-more terminal lesser level h c = ClosesAs-more (operator_in Between terminal) lesser level h c

Closes-operator : (terminal : PlainTerminal) (operator : Operator) (level : ℕ) → operator_in Between terminal ≡ Some operator → left operator ≤ level
    → Closes level terminal
Closes-operator terminal.Open operator level e h = cc
Closes-operator terminal operator level e h = subst (λ o. ClosesAs level o) (sym e) h

-- where reading the terminals leads to: an operand of this level in a place that allows a level, as far as the next terminal shows
pub record Done (from : PlainState) (ts : List PlacedTerminal) (level allowed : ℕ) (frames : List PlainFrame) (out : List PlainItem) : Type 0 where
  pub after : PlainState
  pub reads : feeds from ts ≡ Some after
  pub next : (next_terminal : PlainTerminal) (at : ℕ) → Closes level next_terminal
      → step after next_terminal at ≡ settle next_terminal at level allowed frames out
  pub ends : finish after ≡ finished frames out

takes-true : (operator : Operator) (level allowed : ℕ) → left operator ≤ level → allowed ≤ level_of operator → takes operator level allowed ≡ true
takes-true operator level allowed h j = and_from _ _ (le-leb (left operator) level h) (le-leb allowed (level_of operator) j)

not_taken : (operator : Operator) (level allowed : ℕ) → (allowed ≤ level_of operator → ⊥) → takes operator level allowed ≡ false
not_taken operator level allowed h = false_from_ne_true (takes operator level allowed)
    (λ t. h (leb-true allowed (level_of operator) (and_parts (leb (left operator) level) (leb allowed (level_of operator)) t).1))

onward : {A B : Type 0} (f g : A → Option B) (w : Option B) (h : B) (o : Option A) → ((i : A) → f i ≡ Some h → g i ≡ w)
    → option_and_then f o ≡ Some h → option_and_then g o ≡ w
onward f g w h None k e = cc
onward f g w h (Some i) k e = k i e

pub feeds-append : (xs ys : List PlacedTerminal) (g h : PlainState) → feeds g xs ≡ Some h → feeds g (xs ++ ys) ≡ feeds h ys
feeds-append [] ys g h e = let same : g ≡ h = cc in ap (λ x. feeds x ys) same
feeds-append (x ∷ xs) ys g h e = onward (λ i. feeds i xs) (λ i. feeds i (xs ++ ys)) (feeds h ys) h (step g x.terminal x.at) (λ i f. feeds-append xs ys i h f) e

-- over some terminals, then one more, then the rest
through : (xs ys : List PlacedTerminal) (t : PlacedTerminal) (g a h : PlainState) (end : Option PlainState) → feeds g xs ≡ Some a
    → step a t.terminal t.at ≡ Some h → feeds h ys ≡ end → feeds g (xs ++ t ∷ ys) ≡ end
through xs ys t g a h end p q r = feeds-append xs (t ∷ ys) g a p ∙ ap (option_and_then (λ i. feeds i ys)) q ∙ r

settle_between : (terminal : PlainTerminal) (operator : Operator) (at level allowed : ℕ) (frames : List PlainFrame) (out : List PlainItem)
    → operator_in Between terminal ≡ Some operator
    → settle terminal at level allowed frames out ≡ shift operator at level allowed frames out
settle_between terminal operator at level allowed frames out e = ap (λ o. settle_at o terminal at level allowed frames out) e

-- an operator that may take its left operand does
pub shift-takes : {N V : Type 0} (operator : Operator) (at level allowed : ℕ) (frames : List (Frame N)) (out : List (Item N V))
    → takes operator level allowed ≡ true
    → shift operator at level allowed frames out ≡ Some (state (focus.Await (right operator)) (frame.Operator operator at allowed ∷ frames) out)
shift-takes operator at level allowed (frame.Operator waiting place outer ∷ frames) out e = cond-true _ _ _ e
shift-takes operator at level allowed [] out e = cond-true _ _ _ e
shift-takes operator at level allowed (f ∷ frames) out e = cond-true _ _ _ e

-- a terminal that closes an operator's level closes the operator first
shift_after_left : (operator following : Operator) (at place level allowed : ℕ) (frames : List PlainFrame) (out : List PlainItem)
    → left following ≤ level_of operator
    → shift following at level (right operator) (frame.Operator operator place allowed ∷ frames) out ≡ shift following at (level_of operator) allowed frames
    (out ++ item.Operator operator place ∷ [])
shift_after_left operator following at place level allowed frames out h =
    cond-false _ _ _ (not_taken following level (right operator) (apart operator following h))

shift_after_before : (t : PlainTerminal) (operator : Operator) (following : Operator) (at place level allowed : ℕ) (frames : List PlainFrame)
    (out : List PlainItem) → operator_in Before t ≡ Some operator → left following ≤ level_of operator
    → shift following at level (level_of operator) (frame.Operator operator place allowed ∷ frames) out ≡ shift following at (level_of operator) allowed frames
    (out ++ item.Operator operator place ∷ [])
shift_after_before t operator following at place level allowed frames out is h =
    cond-false _ _ _ (not_taken following level (level_of operator) (apart_prefix t operator following is h))

settle_as_left : (o : Option Operator) (terminal : PlainTerminal) (operator : Operator) (at place level allowed : ℕ) (frames : List PlainFrame)
    (out : List PlainItem) → ClosesAs (level_of operator) o
    → settle_at o terminal at level (right operator) (frame.Operator operator place allowed ∷ frames) out ≡ settle_at o terminal at (level_of operator) allowed
    frames (out ++ item.Operator operator place ∷ [])
settle_as_left (Some following) terminal operator at place level allowed frames out h = shift_after_left operator following at place level allowed frames out h
settle_as_left None terminal operator at place level allowed frames out h = refl

settle_after_left : (terminal : PlainTerminal) (operator : Operator) (at place level allowed : ℕ) (frames : List PlainFrame) (out : List PlainItem)
    → Closes (level_of operator) terminal
    → settle terminal at level (right operator) (frame.Operator operator place allowed ∷ frames) out ≡ settle terminal at (level_of operator) allowed frames
    (out ++ item.Operator operator place ∷ [])
settle_after_left terminal.Open operator at place level allowed frames out h = refl
settle_after_left terminal operator at place level allowed frames out h =
    settle_as_left (operator_in Between terminal) terminal operator at place level allowed frames out h

settle_as_before : (t : PlainTerminal) (o : Option Operator) (terminal : PlainTerminal) (operator : Operator) (at place level allowed : ℕ)
    (frames : List PlainFrame) (out : List PlainItem) → operator_in Before t ≡ Some operator
    → ClosesAs (level_of operator) o
    → settle_at o terminal at level (level_of operator) (frame.Operator operator place allowed ∷ frames) out ≡ settle_at o terminal at (level_of operator)
    allowed frames (out ++ item.Operator operator place ∷ [])
settle_as_before t (Some following) terminal operator at place level allowed frames out is h =
    shift_after_before t operator following at place level allowed frames out is h
settle_as_before t None terminal operator at place level allowed frames out is h = refl

settle_after_before : (t terminal : PlainTerminal) (operator : Operator) (at place level allowed : ℕ) (frames : List PlainFrame) (out : List PlainItem)
    → operator_in Before t ≡ Some operator → Closes (level_of operator) terminal
    → settle terminal at level (level_of operator) (frame.Operator operator place allowed ∷ frames) out ≡ settle terminal at (level_of operator) allowed frames
    (out ++ item.Operator operator place ∷ [])
settle_after_before t terminal.Open operator at place level allowed frames out is h = refl
settle_after_before t terminal operator at place level allowed frames out is h =
    settle_as_before t (operator_in Between terminal) terminal operator at place level allowed frames out is h

named_next : (terminal : PlainTerminal) (at place : ℕ) (n : List ℕ) (allowed : ℕ) (frames : List PlainFrame) (out : List PlainItem) → Closes 12 terminal
    → step_named terminal at place n allowed frames out ≡ settle terminal at 12 allowed frames (out ++ item.Name place n ∷ [])
named_next terminal.Open at place n allowed frames out h = absurd h
named_next _ at place n allowed frames out h = refl

pub begins : (terminal : PlainTerminal) (operator : Operator) (at allowed : ℕ) (frames : List PlainFrame) (out : List PlainItem)
    → operator_in Before terminal ≡ Some operator
    → begin terminal at allowed frames out ≡ prefixed (Some operator) at allowed frames out
begins (terminal.Name n) operator at allowed frames out e = cc
begins (terminal.Const v) operator at allowed frames out e = cc
begins terminal.If operator at allowed frames out e = cc
begins terminal.Open operator at allowed frames out e = cc
begins terminal operator at allowed frames out e =
    ap (λ c. begun c (operator_in Before terminal) at allowed frames out) (before_not_called terminal operator e) ∙ ap (λ o. prefixed o at allowed frames out) e

pub begins_called : (terminal : PlainTerminal) (operator : Operator) (at allowed : ℕ) (frames : List PlainFrame) (out : List PlainItem)
    → operator_in Called terminal ≡ Some operator
    → begin terminal at allowed frames out ≡ Some (state (focus.Opens (called_at operator at allowed)) frames out)
begins_called (terminal.Name n) operator at allowed frames out e = cc
begins_called (terminal.Const v) operator at allowed frames out e = cc
begins_called terminal.If operator at allowed frames out e = cc
begins_called terminal.Open operator at allowed frames out e = cc
begins_called terminal operator at allowed frames out e = ap (λ c. begun c (operator_in Before terminal) at allowed frames out) e

-- an operator before its operand, in a place that allows it
begins_before : (terminal : PlainTerminal) (operator : Operator) (at allowed : ℕ) (frames : List PlainFrame) (out : List PlainItem)
    → operator_in Before terminal ≡ Some operator → allowed ≤ level_of operator
    → begin terminal at allowed frames out ≡ Some (state (focus.Await (level_of operator)) (frame.Operator operator at allowed ∷ frames) out)
begins_before terminal operator at allowed frames out e h = begins terminal operator at allowed frames out e
    ∙ cond-true _ _ _ (le-leb allowed (level_of operator) h)

pub written_parts-and : (out : List PlainItem) (ts : PlainTrees) (t : PlainTree) → written_parts out (trees_and ts t) ≡ written (written_parts out ts) t
unfolding written
written_parts-and out no_trees t = refl
written_parts-and out (tree s ts) t = written_parts-and (written out s) ts t

pub written_all-and : (out : List PlainItem) (ts : PlainTrees) (t : PlainTree)
    → written_all out (trees_and ts t) ≡ written (written_all out ts) t ++ item.More ∷ []
unfolding written
written_all-and out no_trees t = refl
written_all-and out (tree s ts) t = written_all-and (written out s ++ item.More ∷ []) ts t

listed-parameters : (out : List PlainItem) (ps : List Parameter) → listed out (names_of ps) (places_of ps) ≡ with_parameters out ps
listed-parameters out [] = refl
listed-parameters out (p ∷ ps) = listed-parameters (out ++ item.Param p.at p.name ∷ []) ps

written_defs-one : (out : List PlainItem) (at : ℕ) (n : List ℕ) (h : Defined) (t : PlainTree)
    → written_defs out (def_before at n h t no_defs) ≡ written (headed out h) t ++ item.Def (kind_of h) at n ∷ []
unfolding written
written_defs-one out at n Plain t = refl
written_defs-one out at n (Function ps) t = ap (λ o. written o t ++ item.Def kind.Function at n ∷ []) (listed-parameters (out ++ item.NoNames ∷ []) ps)
written_defs-one out at n Current t = refl

pub written_defs-and : (out : List PlainItem) (ds : PlainDefs) (at : ℕ) (n : List ℕ) (h : Defined) (t : PlainTree)
    → written_defs out (defs_and ds at n h t) ≡ written (headed (written_defs out ds) h) t ++ item.Def (kind_of h) at n ∷ []
unfolding written
written_defs-and out no_defs at n h t = written_defs-one out at n h t
written_defs-and out (defines a m s ds) at n h t = written_defs-and (written out s ++ item.Def kind.Plain a m ∷ []) ds at n h t
written_defs-and out (defines_function a m ns ats s ds) at n h t =
    written_defs-and (written (listed (out ++ item.NoNames ∷ []) ns ats) s ++ item.Def kind.Function a m ∷ []) ds at n h t
written_defs-and out (defines_current a m s ds) at n h t = written_defs-and (written out s ++ item.Def kind.Current a m ∷ []) ds at n h t

pub with_parameters-and : (out : List PlainItem) (ps : List Parameter) (at : ℕ) (n : List ℕ)
    → with_parameters out (ps ++ parameter at n ∷ []) ≡ with_parameters out ps ++ item.Param at n ∷ []
with_parameters-and out [] at n = refl
with_parameters-and out (p ∷ ps) at n = with_parameters-and (out ++ item.Param p.at p.name ∷ []) ps at n

pub count-and : (ts : PlainTrees) (t : PlainTree) → count (trees_and ts t) ≡ count ts + 1
count-and no_trees t = refl
count-and (tree s ts) t = ap (λ n. n + 1) (count-and ts t)

-- a place that allows this level may lie inside what is open: an operator's operand is no place for a block
abbrev pub Fits : ℕ → List PlainFrame → Type 0
Fits level (frame.Operator operator place allowed ∷ frames) = 1 ≤ level
Fits level _ = Unit {0}

inner_frames_here : (frames : List PlainFrame) → Fits 0 frames → inner_frames frames ≡ frames
inner_frames_here (frame.Operator operator place allowed ∷ frames) h = absurd (omega arith)
inner_frames_here _ h = refl

inner_out_here : (frames : List PlainFrame) (out : List PlainItem) → Fits 0 frames → inner_out frames out ≡ out
inner_out_here (frame.Operator operator place allowed ∷ frames) out h = absurd (omega arith)
inner_out_here _ out h = refl

-- the terminals lead over an operand of the wanted level or a tighter one
pub record Operand (wanted : ℕ) (from : PlainState) (ts : List PlacedTerminal) (allowed : ℕ) (frames : List PlainFrame) (out : List PlainItem) : Type 0 where
  pub level : ℕ
  pub least : wanted ≤ level
  pub done : Done from ts level allowed frames out

-- the terminals lead over the arguments of a call, and_from the last one isn't in the list yet
pub record Arguments (all : PlainTrees) (at : ℕ) (n : List ℕ) (allowed : ℕ) (ts : List PlacedTerminal) (frames : List PlainFrame) (out : List PlainItem) : Type
    0 where
  pub last : List PlainItem
  pub is : last ++ item.More ∷ [] ≡ written_all out all
  pub level : ℕ
  pub done : Done (state (focus.Await 0) (frame.Arguments at n allowed ∷ frames) out) ts level 0 (frame.Arguments at n allowed ∷ frames) last

-- the terminals lead over the arguments of a called operator
pub record Parts (all : PlainTrees) (operator : Operator) (at allowed : ℕ) (ts : List PlacedTerminal) (frames : List PlainFrame) (out : List PlainItem) : Type 0
  where
    pub more : ℕ
    pub counts : more + count all ≡ arity_of operator
    pub level : ℕ
    pub done : Done (state (focus.Await 0) (frame.Operands (called_at operator at allowed) (arity_of operator - 1) ∷ frames) out) ts level 0
        (frame.Operands (called_at operator at allowed) more ∷ frames) (written_parts out all)

-- the same with an equal list of nodes
written_as : {wanted allowed : ℕ} {from : PlainState} {ts : List PlacedTerminal} {frames : List PlainFrame} {out into : List PlainItem} → out ≡ into
    → Operand wanted from ts allowed frames out → Operand wanted from ts allowed frames into
written_as {wanted} {allowed} {from} {ts} {frames} {out} {into} e h = subst (λ o. Operand wanted from ts allowed frames o) e h

joined : (wanted at allowed : ℕ) (terminal : PlainTerminal) (operator : Operator) (xs ys : List PlacedTerminal) (frames : List PlainFrame)
    (out ox oy : List PlainItem)
    → operator_in Between terminal ≡ Some operator → wanted ≤ level_of operator → allowed ≤ wanted
    → Operand (left operator) (state (focus.Await allowed) frames out) xs allowed frames ox
    → Operand (right operator) (state (focus.Await (right operator)) (frame.Operator operator at allowed ∷ frames) ox) ys (right operator)
    (frame.Operator operator at allowed ∷ frames) oy
    → Operand wanted (state (focus.Await allowed) frames out) (xs ++ terminal_at terminal at ∷ ys) allowed frames (oy ++ item.Operator operator at ∷ [])
joined wanted at allowed terminal operator xs ys frames out ox oy is low h l r = record {
  level = level_of operator;
  least = low;
  done = record {
    after = r.done.after;
    reads = through xs ys (terminal_at terminal at) (state (focus.Await allowed) frames out) l.done.after
        (state (focus.Await (right operator)) (frame.Operator operator at allowed ∷ frames) ox) (Some r.done.after)
        l.done.reads
        (l.done.next terminal at (Closes-operator terminal operator l.level is l.least) ∙ settle_between terminal operator at l.level allowed frames ox is
        ∙ shift-takes operator at l.level allowed frames ox (takes-true operator l.level allowed l.least (omega (arith, low, h))))
        r.done.reads;
    next = λ next place closes. r.done.next next place (Closes-more next (level_of operator) r.level (omega (arith, right_least operator, r.least)) closes)
        ∙ settle_after_left next operator place at r.level allowed frames oy closes;
    ends = r.done.ends;
  };
}

applied : (wanted at allowed : ℕ) (terminal : PlainTerminal) (operator : Operator) (xs : List PlacedTerminal) (frames : List PlainFrame)
    (out ox : List PlainItem)
    → operator_in Before terminal ≡ Some operator → wanted ≤ level_of operator → allowed ≤ wanted
    → Operand (level_of operator) (state (focus.Await (level_of operator)) (frame.Operator operator at allowed ∷ frames) out) xs (level_of operator)
    (frame.Operator operator at allowed ∷ frames) ox
    → Operand wanted (state (focus.Await allowed) frames out) (terminal_at terminal at ∷ xs) allowed frames (ox ++ item.Operator operator at ∷ [])
applied wanted at allowed terminal operator xs frames out ox is low h r = record {
  level = level_of operator;
  least = low;
  done = record {
    after = r.done.after;
    reads = ap (option_and_then (λ i. feeds i xs)) (begins_before terminal operator at allowed frames out is (omega (arith, low, h))) ∙ r.done.reads;
    next = λ next place closes. r.done.next next place (Closes-more next (level_of operator) r.level r.least closes)
        ∙ settle_after_before terminal next operator place at r.level allowed frames ox is closes;
    ends = r.done.ends;
  };
}

-- a finished operand that no operator can change
whole : (wanted allowed : ℕ) (from : PlainState) (ts : List PlacedTerminal) (frames : List PlainFrame) (out : List PlainItem) → wanted ≤ 12
    → feeds from ts ≡ Some (state (focus.Have 12 allowed) frames out) → Operand wanted from ts allowed frames out
whole wanted allowed from ts frames out top e = record {
  level = 12;
  least = top;
  done = record { after = state (focus.Have 12 allowed) frames out; reads = e; next = λ terminal at c. refl; ends = refl };
}

inner : (wanted allowed open_at close_at : ℕ) (xs : List PlacedTerminal) (frames : List PlainFrame) (out ox : List PlainItem) → wanted ≤ 12
    → Operand 0 (state (focus.Await 0) (frame.Parenthesis allowed ∷ frames) out) xs 0 (frame.Parenthesis allowed ∷ frames) ox
    → Operand wanted (state (focus.Await allowed) frames out) (terminal_at terminal.Open open_at ∷ (xs ++ terminal_at terminal.Close close_at ∷ [])) allowed
    frames ox
inner wanted allowed open_at close_at xs frames out ox top l =
    whole wanted allowed _ _ frames ox top
    (through xs [] (terminal_at terminal.Close close_at) (state (focus.Await 0) (frame.Parenthesis allowed ∷ frames) out) l.done.after
    (state (focus.Have 12 allowed) frames ox) _
    l.done.reads (l.done.next terminal.Close close_at tt) refl)

chosen_of : (wanted allowed at then_at else_at fi_at : ℕ) (xs ys zs : List PlacedTerminal) (frames : List PlainFrame) (out ox oy oz : List PlainItem)
    → wanted ≤ 12
    → Operand 0 (state (focus.Await 0) (frame.Test at allowed ∷ frames) out) xs 0 (frame.Test at allowed ∷ frames) ox
    → Operand 0 (state (focus.Await 0) (frame.Yes at allowed ∷ frames) ox) ys 0 (frame.Yes at allowed ∷ frames) oy
    → Operand 0 (state (focus.Await 0) (frame.No at allowed ∷ frames) oy) zs 0 (frame.No at allowed ∷ frames) oz
    → Operand wanted (state (focus.Await allowed) frames out)
    (terminal_at terminal.If at ∷ (xs ++ terminal_at terminal.Then
    then_at ∷ (ys ++ terminal_at terminal.Else else_at ∷ (zs ++ terminal_at terminal.Fi fi_at ∷ [])))) allowed frames (oz ++ item.Operator (Stream forms.If) at ∷ [])
chosen_of wanted allowed at then_at else_at fi_at xs ys zs frames out ox oy oz top a b c =
    whole wanted allowed _ _ frames _ top
    (through xs _ (terminal_at terminal.Then then_at) (state (focus.Await 0) (frame.Test at allowed ∷ frames) out) a.done.after
    (state (focus.Await 0) (frame.Yes at allowed ∷ frames) ox) _
    a.done.reads (a.done.next terminal.Then then_at tt)
    (through ys _ (terminal_at terminal.Else else_at) (state (focus.Await 0) (frame.Yes at allowed ∷ frames) ox) b.done.after
    (state (focus.Await 0) (frame.No at allowed ∷ frames) oy) _
    b.done.reads (b.done.next terminal.Else else_at tt)
    (through zs [] (terminal_at terminal.Fi fi_at) (state (focus.Await 0) (frame.No at allowed ∷ frames) oy) c.done.after
    (state (focus.Have 12 allowed) frames (oz ++ item.Operator (Stream forms.If) at ∷ [])) _
    c.done.reads (c.done.next terminal.Fi fi_at tt) refl)))

called : (wanted allowed at : ℕ) (n : List ℕ) (open_at close_at : ℕ) (xs : List PlacedTerminal) (args : PlainTrees) (frames : List PlainFrame)
    (out : List PlainItem) → wanted ≤ 12
    → Arguments args at n allowed xs frames (out ++ item.NoTrees ∷ [])
    → Operand wanted (state (focus.Await allowed) frames out)
    (terminal_at (terminal.Name n) at ∷ terminal_at terminal.Open open_at ∷ (xs ++ terminal_at terminal.Close close_at ∷ [])) allowed frames
    (written_all (out ++ item.NoTrees ∷ []) args ++ item.Call at n ∷ [])
called wanted allowed at n open_at close_at xs args frames out top a =
    whole wanted allowed _ _ frames _ top
    (through xs [] (terminal_at terminal.Close close_at) (state (focus.Await 0) (frame.Arguments at n allowed ∷ frames) (out ++ item.NoTrees ∷ [])) a.done.after
    (state (focus.Have 12 allowed) frames ((a.last ++ item.More ∷ []) ++ item.Call at n ∷ [])) _
    a.done.reads (a.done.next terminal.Close close_at tt)
    (ap (λ o. Some (state (focus.Have 12 allowed) frames (o ++ item.Call at n ∷ []))) a.is))

block_at : (at end_at : ℕ) (xs ds : List PlacedTerminal) (all : PlainDefs) (frames : List PlainFrame) (out ox : List PlainItem) → Fits 0 frames
    → Operand 0 (state (focus.Await 0) frames out) xs 0 frames ox
    → feeds (state (focus.Heads at) frames (ox ++ item.NoDefs ∷ [])) ds ≡ Some (state (focus.Heads at) frames (written_defs (ox ++ item.NoDefs ∷ []) all))
    → Operand 0 (state (focus.Await 0) frames out) (xs ++ terminal_at terminal.Where at ∷ (ds ++ terminal_at terminal.End end_at ∷ [])) 0 frames
    (written_defs (ox ++ item.NoDefs ∷ []) all ++ item.Block at ∷ [])
block_at at end_at xs ds all frames out ox fits l d = record {
  level = 0;
  least = zero-le;
  done = record {
    after = state (focus.Have 0 0) frames (written_defs (ox ++ item.NoDefs ∷ []) all ++ item.Block at ∷ []);
    reads = through xs _ (terminal_at terminal.Where at) (state (focus.Await 0) frames out) l.done.after
        (state (focus.Heads at) frames (ox ++ item.NoDefs ∷ [])) _
        l.done.reads
        (l.done.next terminal.Where at tt
        ∙ ap (λ f. Some (state (focus.Heads at) f (inner_out frames ox ++ item.NoDefs ∷ []))) (inner_frames_here frames fits)
        ∙ ap (λ o. Some (state (focus.Heads at) frames (o ++ item.NoDefs ∷ []))) (inner_out_here frames ox fits))
        (through ds [] (terminal_at terminal.End end_at) (state (focus.Heads at) frames (ox ++ item.NoDefs ∷ []))
        (state (focus.Heads at) frames (written_defs (ox ++ item.NoDefs ∷ []) all))
        (state (focus.Have 0 0) frames (written_defs (ox ++ item.NoDefs ∷ []) all ++ item.Block at ∷ [])) _
        d refl refl);
    next = λ terminal at c. refl;
    ends = refl;
  };
}

one_argument : (at : ℕ) (n : List ℕ) (allowed : ℕ) (xs : List PlacedTerminal) (x : PlainTree) (frames : List PlainFrame) (out : List PlainItem)
    → Operand 0 (state (focus.Await 0) (frame.Arguments at n allowed ∷ frames) out) xs 0 (frame.Arguments at n allowed ∷ frames) (written out x)
    → Arguments (tree x no_trees) at n allowed xs frames out
unfolding written
one_argument at n allowed xs x frames out l = record { last = written out x; is = refl; level = l.level; done = l.done }

more_arguments : (comma_at at : ℕ) (n : List ℕ) (allowed : ℕ) (xs ys : List PlacedTerminal) (all : PlainTrees) (y : PlainTree) (frames : List PlainFrame)
    (out : List PlainItem)
    → Arguments all at n allowed xs frames out
    → Operand 0 (state (focus.Await 0) (frame.Arguments at n allowed ∷ frames) (written_all out all)) ys 0 (frame.Arguments at n allowed ∷ frames)
    (written (written_all out all) y)
    → Arguments (trees_and all y) at n allowed (xs ++ terminal_at terminal.Comma comma_at ∷ ys) frames out
more_arguments comma_at at n allowed xs ys all y frames out a r = record {
  last = written (written_all out all) y;
  is = sym (written_all-and out all y);
  level = r.level;
  done = record {
    after = r.done.after;
    reads = through xs ys (terminal_at terminal.Comma comma_at) (state (focus.Await 0) (frame.Arguments at n allowed ∷ frames) out) a.done.after
        (state (focus.Await 0) (frame.Arguments at n allowed ∷ frames) (written_all out all)) _
        a.done.reads (a.done.next terminal.Comma comma_at tt ∙ ap (λ o. Some (state (focus.Await 0) (frame.Arguments at n allowed ∷ frames) o)) a.is)
        r.done.reads;
    next = r.done.next;
    ends = r.done.ends;
  };
}

-- whether a number is 0
is_zero : (n : ℕ) → n ≡ 0 → nat_eq n 0 ≡ true
is_zero n e = eq-eqb n 0 e

not_zero : (n : ℕ) → (n ≡ 0 → ⊥) → nat_eq n 0 ≡ false
not_zero n e = ne_eqb n 0 e

one_part : (operator : Operator) (at allowed : ℕ) (xs : List PlacedTerminal) (x : PlainTree) (frames : List PlainFrame) (out : List PlainItem)
    → Operand 0 (state (focus.Await 0) (frame.Operands (called_at operator at allowed) (arity_of operator - 1) ∷ frames) out) xs 0
    (frame.Operands (called_at operator at allowed) (arity_of operator - 1) ∷ frames) (written out x)
    → Parts (tree x no_trees) operator at allowed xs frames out
unfolding written
one_part operator at allowed xs x frames out l =
    record { more = arity_of operator - 1; counts = (let some = arity_positive operator in omega (arith, some)); level = l.level; done = l.done }

more_parts : (comma_at : ℕ) (operator : Operator) (at allowed : ℕ) (xs ys : List PlacedTerminal) (all : PlainTrees) (y : PlainTree) (frames : List PlainFrame)
    (out : List PlainItem) → count (trees_and all y) ≤ arity_of operator
    → (a : Parts all operator at allowed xs frames out)
    → Operand 0 (state (focus.Await 0) (frame.Operands (called_at operator at allowed) (a.more - 1) ∷ frames) (written_parts out all)) ys 0
    (frame.Operands (called_at operator at allowed) (a.more - 1) ∷ frames) (written (written_parts out all) y)
    → Parts (trees_and all y) operator at allowed (xs ++ terminal_at terminal.Comma comma_at ∷ ys) frames out
more_parts comma_at operator at allowed xs ys all y frames out fits a l =
    let some : a.more ≡ 0 → ⊥ = λ e. omega (arith, e, a.counts, fits, count-and all y) in
    let r = written_as (sym (written_parts-and out all y)) l in
    record {
      more = a.more - 1;
      counts = (let some_more : 0 < a.more = omega (arith, a.counts, fits, count-and all y) in omega (arith, some_more, a.counts, count-and all y));
      level = r.level;
      done = record {
        after = r.done.after;
        reads = through xs ys (terminal_at terminal.Comma comma_at)
            (state (focus.Await 0) (frame.Operands (called_at operator at allowed) (arity_of operator - 1) ∷ frames) out) a.done.after
            (state (focus.Await 0) (frame.Operands (called_at operator at allowed) (a.more - 1) ∷ frames) (written_parts out all)) _
            a.done.reads
            (a.done.next terminal.Comma comma_at tt
            ∙ cond-false (nat_eq a.more 0) None
            (Some (state (focus.Await 0) (frame.Operands (called_at operator at allowed) (a.more - 1) ∷ frames) (written_parts out all)))
            (not_zero a.more some))
            r.done.reads;
        next = r.done.next;
        ends = r.done.ends;
      };
    }

operated : (wanted allowed at open_at close_at : ℕ) (word : PlainTerminal) (operator : Operator) (xs : List PlacedTerminal) (args : PlainTrees)
    (frames : List PlainFrame) (out : List PlainItem) → wanted ≤ 12
    → operator_in Called word ≡ Some operator → count args ≡ arity_of operator
    → Parts args operator at allowed xs frames out
    → Operand wanted (state (focus.Await allowed) frames out)
    (terminal_at word at ∷ terminal_at terminal.Open open_at ∷ (xs ++ terminal_at terminal.Close close_at ∷ [])) allowed frames
    (written_parts out args ++ item.Operator operator at ∷ [])
operated wanted allowed at open_at close_at word operator xs args frames out top is all a =
    whole wanted allowed _ _ frames _ top
    (ap (option_and_then (λ i. feeds i (terminal_at terminal.Open open_at ∷ (xs ++ terminal_at terminal.Close close_at ∷ []))))
    (begins_called word operator at allowed frames out is)
    ∙ through xs [] (terminal_at terminal.Close close_at)
    (state (focus.Await 0) (frame.Operands (called_at operator at allowed) (arity_of operator - 1) ∷ frames) out) a.done.after
    (state (focus.Have 12 allowed) frames (written_parts out args ++ item.Operator operator at ∷ [])) _
    a.done.reads
    (a.done.next terminal.Close close_at tt
    ∙ cond-true (nat_eq a.more 0) (Some (state (focus.Have 12 allowed) frames (written_parts out args ++ item.Operator operator at ∷ []))) None
    (is_zero a.more (omega (arith, a.counts, all))))
    refl)

-- the right side of a definition
right_side : (semicolon_at def_at : ℕ) (n : List ℕ) (at : ℕ) (d : Defines) (ys : List PlacedTerminal) (y : PlainTree) (frames : List PlainFrame)
    (o : List PlainItem)
    → Operand 0 (state (focus.Await 0) (frame.RightSide d (definition_in at def_at n) ∷ frames) o) ys 0 (frame.RightSide d (definition_in at def_at n) ∷ frames)
    (written o y)
    → feeds (state (focus.Await 0) (frame.RightSide d (definition_in at def_at n) ∷ frames) o) (ys ++ terminal_at terminal.Semicolon semicolon_at ∷ []) ≡ Some
    (state (focus.Heads at) frames (written o y ++ item.Def d def_at n ∷ []))
right_side semicolon_at def_at n at d ys y frames o l =
    through ys [] (terminal_at terminal.Semicolon semicolon_at) (state (focus.Await 0) (frame.RightSide d (definition_in at def_at n) ∷ frames) o) l.done.after
    (state (focus.Heads at) frames (written o y ++ item.Def d def_at n ∷ [])) _ l.done.reads (l.done.next terminal.Semicolon semicolon_at tt) refl

-- a definition more, by what follows its name
one_def : (at def_at : ℕ) (n : List ℕ) (h : Defined) (ds rest : List PlacedTerminal) (all : PlainDefs) (y : PlainTree) (frames : List PlainFrame)
    (out : List PlainItem)
    → feeds (state (focus.Heads at) frames out) ds ≡ Some (state (focus.Heads at) frames (written_defs out all))
    → feeds (state (focus.Headed (definition_in at def_at n)) frames (written_defs out all)) rest ≡ Some
    (state (focus.Heads at) frames (written (headed (written_defs out all) h) y ++ item.Def (kind_of h) def_at n ∷ []))
    → feeds (state (focus.Heads at) frames out) (ds ++ terminal_at (terminal.Name n) def_at ∷ rest) ≡ Some
    (state (focus.Heads at) frames (written_defs out (defs_and all def_at n h y)))
one_def at def_at n h ds rest all y frames out d e =
    feeds-append ds _ _ _ d ∙ e ∙ ap (λ o. Some (state (focus.Heads at) frames o)) (sym (written_defs-and out all def_at n h y))

complete_names : {xs : List PlacedTerminal} {all : List Parameter} → SpellsNames xs all
    → (at def_at : ℕ) (n : List ℕ) (frames : List PlainFrame) (out : List PlainItem)
    → feeds (state (focus.Names (definition_in at def_at n)) frames out) xs ≡ Some
    (state (focus.Listed (definition_in at def_at n)) frames (with_parameters out all))
complete_names Grammar.spells_first_name at def_at n frames out = refl
complete_names (Grammar.spells_more_names comma_at a m {xs = xs} {all = all} sn) at def_at n frames out =
    feeds-append xs _ _ _ (complete_names sn at def_at n frames out)
    ∙ ap (λ o. Some (state (focus.Listed (definition_in at def_at n)) frames o)) (sym (with_parameters-and out all a m))

function_def : (open_at close_at equals_at semicolon_at a : ℕ) (n : List ℕ) (at : ℕ) (ns ys : List PlacedTerminal) (parameters : List Parameter) (y : PlainTree)
    (frames : List PlainFrame) (out : List PlainItem) → SpellsNames ns parameters
    → Operand 0 (state (focus.Await 0) (frame.RightSide kind.Function (definition_in at a n) ∷ frames) (with_parameters (out ++ item.NoNames ∷ []) parameters))
    ys 0
    (frame.RightSide kind.Function (definition_in at a n) ∷ frames) (written (with_parameters (out ++ item.NoNames ∷ []) parameters) y)
    → feeds (state (focus.Headed (definition_in at a n)) frames out)
    (terminal_at terminal.Open open_at ∷ (ns ++ terminal_at terminal.Close close_at ∷ terminal_at terminal.Equals
    equals_at ∷ (ys ++ terminal_at terminal.Semicolon semicolon_at ∷ [])))
    ≡ Some (state (focus.Heads at) frames (written (with_parameters (out ++ item.NoNames ∷ []) parameters) y ++ item.Def kind.Function a n ∷ []))
function_def open_at close_at equals_at semicolon_at a n at ns ys parameters y frames out s l =
    feeds-append ns _ _ _ (complete_names s at a n frames (out ++ item.NoNames ∷ []))
    ∙ right_side semicolon_at a n at kind.Function ys y frames (with_parameters (out ++ item.NoNames ∷ []) parameters) l

mutual
  unfolding written

  pub complete : {wanted : ℕ} {ts : List PlacedTerminal} {t : PlainTree} → Spells wanted ts t → wanted ≤ 12
      → (allowed : ℕ) (frames : List PlainFrame) (out : List PlainItem) → allowed ≤ wanted → Fits allowed frames
      → Operand wanted (state (focus.Await allowed) frames out) ts allowed frames (written out t)
  complete Grammar.spells_const top allowed frames out h fits = whole _ allowed _ _ frames _ top refl
  complete (Grammar.spells_name {at = at} {n = n}) top allowed frames out h fits = record {
    level = 12;
    least = top;
    done = record {
      after = state (focus.Named at n allowed) frames out;
      reads = refl;
      next = λ terminal place c. named_next terminal place at n allowed frames out c;
      ends = refl;
    };
  }
  complete (Grammar.spells_infix {level = wanted} {at = at} {xs = xs} {ys = ys} {x = x} {y = y} terminal operator is low sx sy) top allowed frames out h fits =
      written_as (ap (λ i. written (written out x) y ++ i ∷ []) (sym (node-operator operator at)))
      (joined wanted at allowed terminal operator xs ys frames out (written out x) (written (written out x) y) is low h
      (complete sx (left_most terminal operator is) allowed frames out (omega (arith, low, h, left_least operator)) fits)
      (complete sy (right_most terminal operator is) (right operator) (frame.Operator operator at allowed ∷ frames) (written out x) (le_refl _)
      (right_positive operator)))
  complete (Grammar.spells_prefix {level = wanted} {at = at} {xs = xs} {x = x} terminal operator is low sx) top allowed frames out h fits =
      written_as (ap (λ i. written out x ++ i ∷ []) (sym (node-operator operator at)))
      (applied wanted at allowed terminal operator xs frames out (written out x) is low h
      (complete sx (omega (arith, prefix_level_most terminal operator is)) (level_of operator) (frame.Operator operator at allowed ∷ frames) out (le_refl _)
      (level_positive operator)))
  complete (Grammar.spells_inner {level = wanted} {p = p} close_at {xs = xs} {x = x} sx) top allowed frames out h fits =
      inner wanted allowed p close_at xs frames out (written out x) top (complete sx zero-le 0 (frame.Parenthesis allowed ∷ frames) out zero-le tt)
  complete (Grammar.spells_if {level = wanted} {at = at} then_at else_at fi_at {xs = xs} {ys = ys} {zs = zs} {x = x} {y = y} {z = z} sx sy sz) top allowed
      frames out h fits =
      chosen_of wanted allowed at then_at else_at fi_at xs ys zs frames out (written out x) (written (written out x) y) (written (written (written out x) y) z)
      top
      (complete sx zero-le 0 (frame.Test at allowed ∷ frames) out zero-le tt)
      (complete sy zero-le 0 (frame.Yes at allowed ∷ frames) (written out x) zero-le tt)
      (complete sz zero-le 0 (frame.No at allowed ∷ frames) (written (written out x) y) zero-le tt)
  complete (Grammar.spells_call {level = wanted} {at = at} {p = p} close_at {n = n} {xs = xs} {args = args} sa) top allowed frames out h fits =
      called wanted allowed at n p close_at xs args frames out top (complete_args sa at n allowed frames (out ++ item.NoTrees ∷ []))
  complete (Grammar.spells_called {level = wanted} {at = at} {p = p} close_at word operator {xs = xs} {args = args} is all sa) top allowed frames out h fits =
      written_as (ap (λ i. written_parts out args ++ i ∷ []) (sym (node-operator operator at)))
      (operated wanted allowed at p close_at word operator xs args frames out top is all
      (complete_parts sa operator (omega (arith, all)) at allowed frames out))
  complete (Grammar.spells_block {level = wanted} {at = at} end_at {xs = xs} {ds = ds} {x = x} {all = all} low sx sd) top allowed frames out h fits =
      let zero_wanted : 0 ≡ wanted = omega (arith, low) in
      let zero_allowed : 0 ≡ allowed = omega (arith, low, h) in
      let o = written_defs (written out x ++ item.NoDefs ∷ []) all ++ item.Block at ∷ [] in
      let ts = xs ++ terminal_at terminal.Where at ∷ (ds ++ terminal_at terminal.End end_at ∷ []) in
      let fits_0 = subst (λ i. Fits i frames) (sym zero_allowed) fits in
      subst (λ i. Operand i (state (focus.Await allowed) frames out) ts allowed frames o) zero_wanted
      (subst (λ i. Operand 0 (state (focus.Await i) frames out) ts i frames o) zero_allowed
      (block_at at end_at xs ds all frames out (written out x) fits_0
      (complete sx zero-le 0 frames out zero-le fits_0)
      (complete_defs sd at frames (written out x ++ item.NoDefs ∷ []))))

  complete_args : {xs : List PlacedTerminal} {all : PlainTrees} → SpellsArgs xs all
      → (at : ℕ) (n : List ℕ) (allowed : ℕ) (frames : List PlainFrame) (out : List PlainItem) → Arguments all at n allowed xs frames out
  complete_args (Grammar.spells_one {xs = xs} {x = x} sx) at n allowed frames out =
      one_argument at n allowed xs x frames out (complete sx zero-le 0 (frame.Arguments at n allowed ∷ frames) out zero-le tt)
  complete_args (Grammar.spells_more comma_at {xs = xs} {ys = ys} {all = all} {y = y} sa sy) at n allowed frames out =
      let a = complete_args sa at n allowed frames out in
      more_arguments comma_at at n allowed xs ys all y frames out a
      (complete sy zero-le 0 (frame.Arguments at n allowed ∷ frames) (written_all out all) zero-le tt)

  complete_parts : {xs : List PlacedTerminal} {all : PlainTrees} → SpellsArgs xs all → (operator : Operator) → count all ≤ arity_of operator
      → (at allowed : ℕ) (frames : List PlainFrame) (out : List PlainItem) → Parts all operator at allowed xs frames out
  complete_parts (Grammar.spells_one {xs = xs} {x = x} sx) operator fits at allowed frames out =
      one_part operator at allowed xs x frames out (complete sx zero-le 0 (frame.Operands (called_at operator at allowed) (arity_of operator - 1) ∷ frames) out
      zero-le tt)
  complete_parts (Grammar.spells_more comma_at {xs = xs} {ys = ys} {all = all} {y = y} sa sy) operator fits at allowed frames out =
      let a = complete_parts sa operator (omega (arith, fits, count-and all y)) at allowed frames out in
      more_parts comma_at operator at allowed xs ys all y frames out fits a
      (complete sy zero-le 0 (frame.Operands (called_at operator at allowed) (a.more - 1) ∷ frames) (written_parts out all) zero-le tt)

  complete_defs : {ds : List PlacedTerminal} {all : PlainDefs} → SpellsDefs ds all → (at : ℕ) (frames : List PlainFrame) (out : List PlainItem)
      → feeds (state (focus.Heads at) frames out) ds ≡ Some (state (focus.Heads at) frames (written_defs out all))
  complete_defs Grammar.spells_none at frames out = refl
  complete_defs (Grammar.spells_def def_at n equals_at semicolon_at {ds = ds} {ys = ys} {all = all} {y = y} sd sy) at frames out =
      one_def at def_at n Plain ds (terminal_at terminal.Equals equals_at ∷ (ys ++ terminal_at terminal.Semicolon semicolon_at ∷ [])) all y frames out
      (complete_defs sd at frames out)
      (right_side semicolon_at def_at n at kind.Plain ys y frames (written_defs out all)
      (complete sy zero-le 0 (frame.RightSide kind.Plain (definition_in at def_at n) ∷ frames) (written_defs out all) zero-le tt))
  complete_defs (Grammar.spells_current def_at n is_at current_at semicolon_at {ds = ds} {ys = ys} {all = all} {y = y} sd sy) at frames out =
      one_def at def_at n Current ds (terminal_at terminal.Is is_at ∷ terminal_at terminal.Current
      current_at ∷ (ys ++ terminal_at terminal.Semicolon semicolon_at ∷ [])) all y frames out (complete_defs sd at frames out)
      (right_side semicolon_at def_at n at kind.Current ys y frames (written_defs out all)
      (complete sy zero-le 0 (frame.RightSide kind.Current (definition_in at def_at n) ∷ frames) (written_defs out all) zero-le tt))
  complete_defs (Grammar.spells_function def_at n open_at close_at equals_at semicolon_at {ds = ds} {ns = ns} {ys = ys} {all = all} {parameters = parameters}
      {y = y} sd sn sy) at frames out =
      one_def at def_at n (Function parameters) ds (terminal_at terminal.Open
      open_at ∷ (ns ++ terminal_at terminal.Close close_at ∷ terminal_at terminal.Equals
      equals_at ∷ (ys ++ terminal_at terminal.Semicolon semicolon_at ∷ []))) all y frames out
      (complete_defs sd at frames out)
      (function_def open_at close_at equals_at semicolon_at def_at n at ns ys parameters y frames (written_defs out all) sn
      (complete sy zero-le 0 (frame.RightSide kind.Function (definition_in at def_at n) ∷ frames)
      (with_parameters (written_defs out all ++ item.NoNames ∷ []) parameters) zero-le tt))
