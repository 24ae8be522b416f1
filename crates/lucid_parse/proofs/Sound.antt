-- Each state of the machine means a part of a derivation, so what it accepts is spelled, and what it has read begins a program.
use Rattle.lucid_parse.proofs.Common.{◌≡◌, ℕ, ◌+◌, ◌≤◌, List, [], ◌∷◌, ◌++◌, Option, Some, None, Bool, true, false, cond, option_and_then, inl, inr, refl, sym, ◌∙◌, ap, subst, arith, leb, zero-le, le_refl, append_assoc, append-nil, leb-true, eqb-true, eqb-false, and_parts, nat_eq, PlainTree, PlainTrees, PlainDefs, count, Before, Between, Called, Defines, CalledOperator, Definition, Operator, PlainTerminal, PlacedTerminal, terminal_at, Parameter, Plain, Function, Current, Spells, SpellsArgs, SpellsDefs, SpellsNames, level_of, arity_of, left, right, operator_in, head, PlainFrame, PlainFocus, PlainItem, PlainState, state, called_at, definition_in, takes, shift, inner_frames, inner_out, after_frame, close, settle_at, settle, prefixed, begun, begin, step_named, step_heads, step_headed, step_frozen, step_names, step_listed, step_ready, step_opens, step_at, step, feeds, finished, if_empty, finish_at, finish, start, written, written_parts, written_all, written_defs, with_parameters, node, cond_some, same_Some}
use Rattle.std.specs.Prelude.{◌-◌}
use Rattle.std.proofs.lemmas.Bool.{cases_Bool}
use Rattle.lucid_parse.specs.declared.terminal.Terminal.TheVariants as terminal
use Rattle.lucid_parse.specs.declared.state.Defines.TheVariants as kind
use Rattle.lucid_parse.specs.declared.state.Frame.TheVariants as frame
use Rattle.lucid_parse.specs.declared.state.Focus.TheVariants as focus
use Rattle.lucid_parse.specs.declared.state.Item.TheVariants as item
use Rattle.lucid_parse.specs.Grammar
use Rattle.lucid_parse.specs.Machine.{taken}
use Rattle.lucid_parse.proofs.Levels.{prefix_level_most, right_most, arity_positive, node-operator}
use Rattle.lucid_parse.proofs.Complete.{written_parts-and, written_all-and, written_defs-and, with_parameters-and, count-and}
use Rattle.lucid_parse.specs.declared.operator.Operator.TheVariants.{Stream}
use Rattle.lucid_tree.specs.declared.form.Form.TheVariants as forms

-- what was read up to where an operand of a level is awaited, and what was written
pub data Context : List PlainFrame → ℕ → List PlacedTerminal → List PlainItem → Type 0 where
  outermost : Context [] 0 [] []
  in_left : {at allowed : ℕ} {frames : List PlainFrame} {pre xs : List PlacedTerminal} {out : List PlainItem} {x : PlainTree} (terminal : PlainTerminal)
      (operator : Operator)
      → operator_in Between terminal ≡ Some operator → allowed ≤ level_of operator → Context frames allowed pre out → Spells (left operator) xs x
      → Context (frame.Operator operator at allowed ∷ frames) (right operator) (pre ++ (xs ++ terminal_at terminal at ∷ [])) (written out x)
  in_before : {at allowed : ℕ} {frames : List PlainFrame} {pre : List PlacedTerminal} {out : List PlainItem} (terminal : PlainTerminal) (operator : Operator)
      → operator_in Before terminal ≡ Some operator → allowed ≤ level_of operator → Context frames allowed pre out
      → Context (frame.Operator operator at allowed ∷ frames) (level_of operator) (pre ++ terminal_at terminal at ∷ []) out
  in_open : {allowed : ℕ} (open_at : ℕ) {frames : List PlainFrame} {pre : List PlacedTerminal} {out : List PlainItem} → Context frames allowed pre out
      → Context (frame.Parenthesis allowed ∷ frames) 0 (pre ++ terminal_at terminal.Open open_at ∷ []) out
  in_test : {at allowed : ℕ} {frames : List PlainFrame} {pre : List PlacedTerminal} {out : List PlainItem} → Context frames allowed pre out
      → Context (frame.Test at allowed ∷ frames) 0 (pre ++ terminal_at terminal.If at ∷ []) out
  in_yes : {at allowed : ℕ} (then_at : ℕ) {frames : List PlainFrame} {pre xs : List PlacedTerminal} {out : List PlainItem} {x : PlainTree}
      → Context frames allowed pre out → Spells 0 xs x
      → Context (frame.Yes at allowed ∷ frames) 0 (pre ++ (terminal_at terminal.If at ∷ (xs ++ terminal_at terminal.Then then_at ∷ []))) (written out x)
  in_no : {at allowed : ℕ} (then_at else_at : ℕ) {frames : List PlainFrame} {pre xs ys : List PlacedTerminal} {out : List PlainItem} {x y : PlainTree}
      → Context frames allowed pre out → Spells 0 xs x → Spells 0 ys y
      → Context (frame.No at allowed ∷ frames) 0
      (pre ++ (terminal_at terminal.If at ∷ (xs ++ terminal_at terminal.Then then_at ∷ (ys ++ terminal_at terminal.Else else_at ∷ []))))
      (written (written out x) y)
  in_first : {at allowed : ℕ} {n : List ℕ} (open_at : ℕ) {frames : List PlainFrame} {pre : List PlacedTerminal} {out : List PlainItem}
      → Context frames allowed pre out
      → Context (frame.Arguments at n allowed ∷ frames) 0 (pre ++ terminal_at (terminal.Name n) at ∷ terminal_at terminal.Open open_at ∷ [])
      (out ++ item.NoTrees ∷ [])
  in_more : {at allowed : ℕ} {n : List ℕ} (open_at comma_at : ℕ) {frames : List PlainFrame} {pre xs : List PlacedTerminal} {out : List PlainItem}
      {all : PlainTrees} → Context frames allowed pre out → SpellsArgs xs all
      → Context (frame.Arguments at n allowed ∷ frames) 0
      (pre ++ (terminal_at (terminal.Name n) at ∷ terminal_at terminal.Open open_at ∷ (xs ++ terminal_at terminal.Comma comma_at ∷ [])))
      (written_all (out ++ item.NoTrees ∷ []) all)
  in_part : {at allowed : ℕ} (open_at : ℕ) (word : PlainTerminal) {operator : Operator} {frames : List PlainFrame} {pre : List PlacedTerminal}
      {out : List PlainItem}
      → operator_in Called word ≡ Some operator → Context frames allowed pre out
      → Context (frame.Operands (called_at operator at allowed) (arity_of operator - 1) ∷ frames) 0
      (pre ++ terminal_at word at ∷ terminal_at terminal.Open open_at ∷ []) out
  in_parts : {at allowed more : ℕ} (open_at comma_at : ℕ) (word : PlainTerminal) {operator : Operator} {frames : List PlainFrame} {pre xs : List PlacedTerminal}
      {out : List PlainItem} {all : PlainTrees}
      → operator_in Called word ≡ Some operator → Context frames allowed pre out → SpellsArgs xs all
      → more + (count all + 1) ≡ arity_of operator
      → Context (frame.Operands (called_at operator at allowed) more ∷ frames) 0
      (pre ++ (terminal_at word at ∷ terminal_at terminal.Open open_at ∷ (xs ++ terminal_at terminal.Comma comma_at ∷ []))) (written_parts out all)
  in_right : {block at : ℕ} {n : List ℕ} (equals_at : ℕ) {frames : List PlainFrame} {pre xs ds : List PlacedTerminal} {out : List PlainItem} {x : PlainTree}
      {all : PlainDefs} → Context frames 0 pre out → Spells 0 xs x → SpellsDefs ds all
      → Context (frame.RightSide kind.Plain (definition_in block at n) ∷ frames) 0
      (pre ++ (xs ++ terminal_at terminal.Where block ∷ (ds ++ terminal_at (terminal.Name n) at ∷ terminal_at terminal.Equals equals_at ∷ [])))
      (written_defs (written out x ++ item.NoDefs ∷ []) all)
  in_current : {block at : ℕ} {n : List ℕ} (is_at current_at : ℕ) {frames : List PlainFrame} {pre xs ds : List PlacedTerminal} {out : List PlainItem}
      {x : PlainTree} {all : PlainDefs} → Context frames 0 pre out → Spells 0 xs x → SpellsDefs ds all
      → Context (frame.RightSide kind.Current (definition_in block at n) ∷ frames) 0
      (pre ++ (xs ++ terminal_at terminal.Where block ∷ (ds ++ terminal_at (terminal.Name n) at ∷ terminal_at terminal.Is is_at ∷ terminal_at terminal.Current
      current_at ∷ []))) (written_defs (written out x ++ item.NoDefs ∷ []) all)
  in_function : {block at : ℕ} {n : List ℕ} (open_at close_at equals_at : ℕ) {frames : List PlainFrame} {pre xs ds ns : List PlacedTerminal}
      {out : List PlainItem} {x : PlainTree} {all : PlainDefs} {parameters : List Parameter} → Context frames 0 pre out → Spells 0 xs x → SpellsDefs ds all
      → SpellsNames ns parameters
      → Context (frame.RightSide kind.Function (definition_in block at n) ∷ frames) 0
      (pre ++ (xs ++ terminal_at terminal.Where block ∷ (ds ++ terminal_at (terminal.Name n) at ∷ terminal_at terminal.Open
      open_at ∷ (ns ++ terminal_at terminal.Close close_at ∷ terminal_at terminal.Equals equals_at ∷ []))))
      (with_parameters (written_defs (written out x ++ item.NoDefs ∷ []) all ++ item.NoNames ∷ []) parameters)

-- an operand of a level was read in a place that allows a level
pub data Has : ℕ → ℕ → List PlainFrame → List PlainItem → List PlacedTerminal → Type 0 where
  has : {level allowed : ℕ} {frames : List PlainFrame} {pre xs : List PlacedTerminal} {out : List PlainItem} {x : PlainTree} → Context frames allowed pre out
      → allowed ≤ level → Spells level xs x
      → Has level allowed frames (written out x) (pre ++ xs)

-- a whole operand was read
pub data Inside : List PlainFrame → List PlainItem → List PlacedTerminal → Type 0 where
  inside : {frames : List PlainFrame} {pre xs : List PlacedTerminal} {out : List PlainItem} {x : PlainTree} → Context frames 0 pre out → Spells 0 xs x
      → Inside frames (written out x) (pre ++ xs)

-- what a state means of the terminals that were read
pub data Means : PlainFocus → List PlainFrame → List PlainItem → List PlacedTerminal → Type 0 where
  awaits : {allowed : ℕ} {frames : List PlainFrame} {ts : List PlacedTerminal} {out : List PlainItem} → Context frames allowed ts out
      → Means (focus.Await allowed) frames out ts
  holds : {level allowed : ℕ} {frames : List PlainFrame} {ts : List PlacedTerminal} {out : List PlainItem} → Has level allowed frames out ts
      → Means (focus.Have level allowed) frames out ts
  named : {at allowed : ℕ} {n : List ℕ} {frames : List PlainFrame} {ts : List PlacedTerminal} {out : List PlainItem} → Context frames allowed ts out
      → Means (focus.Named at n allowed) frames out (ts ++ terminal_at (terminal.Name n) at ∷ [])
  heads : {block : ℕ} {frames : List PlainFrame} {pre xs ds : List PlacedTerminal} {out : List PlainItem} {x : PlainTree} {all : PlainDefs}
      → Context frames 0 pre out → Spells 0 xs x → SpellsDefs ds all
      → Means (focus.Heads block) frames (written_defs (written out x ++ item.NoDefs ∷ []) all) (pre ++ (xs ++ terminal_at terminal.Where block ∷ ds))
  headed : {block at : ℕ} {n : List ℕ} {frames : List PlainFrame} {pre xs ds : List PlacedTerminal} {out : List PlainItem} {x : PlainTree} {all : PlainDefs}
      → Context frames 0 pre out → Spells 0 xs x → SpellsDefs ds all
      → Means (focus.Headed (definition_in block at n)) frames (written_defs (written out x ++ item.NoDefs ∷ []) all)
      (pre ++ (xs ++ terminal_at terminal.Where block ∷ (ds ++ terminal_at (terminal.Name n) at ∷ [])))
  opens : {at allowed : ℕ} (word : PlainTerminal) (operator : Operator) {frames : List PlainFrame} {ts : List PlacedTerminal} {out : List PlainItem}
      → operator_in Called word ≡ Some operator
      → Context frames allowed ts out
      → Means (focus.Opens (called_at operator at allowed)) frames out (ts ++ terminal_at word at ∷ [])
  frozen : {block at : ℕ} {n : List ℕ} (is_at : ℕ) {frames : List PlainFrame} {pre xs ds : List PlacedTerminal} {out : List PlainItem} {x : PlainTree}
      {all : PlainDefs} → Context frames 0 pre out → Spells 0 xs x → SpellsDefs ds all
      → Means (focus.Frozen (definition_in block at n)) frames (written_defs (written out x ++ item.NoDefs ∷ []) all)
      (pre ++ (xs ++ terminal_at terminal.Where block ∷ (ds ++ terminal_at (terminal.Name n) at ∷ terminal_at terminal.Is is_at ∷ [])))
  no_names_yet : {block at : ℕ} {n : List ℕ} (open_at : ℕ) {frames : List PlainFrame} {pre xs ds : List PlacedTerminal} {out : List PlainItem} {x : PlainTree}
      {all : PlainDefs} → Context frames 0 pre out → Spells 0 xs x → SpellsDefs ds all
      → Means (focus.Names (definition_in block at n)) frames (written_defs (written out x ++ item.NoDefs ∷ []) all ++ item.NoNames ∷ [])
      (pre ++ (xs ++ terminal_at terminal.Where block ∷ (ds ++ terminal_at (terminal.Name n) at ∷ terminal_at terminal.Open open_at ∷ [])))
  more_names : {block at : ℕ} {n : List ℕ} (open_at comma_at : ℕ) {frames : List PlainFrame} {pre xs ds ns : List PlacedTerminal} {out : List PlainItem}
      {x : PlainTree} {all : PlainDefs} {parameters : List Parameter} → Context frames 0 pre out → Spells 0 xs x → SpellsDefs ds all → SpellsNames ns parameters
      → Means (focus.Names (definition_in block at n)) frames
      (with_parameters (written_defs (written out x ++ item.NoDefs ∷ []) all ++ item.NoNames ∷ []) parameters)
      (pre ++ (xs ++ terminal_at terminal.Where block ∷ (ds ++ terminal_at (terminal.Name n) at ∷ terminal_at terminal.Open
      open_at ∷ (ns ++ terminal_at terminal.Comma comma_at ∷ []))))
  has_names : {block at : ℕ} {n : List ℕ} (open_at : ℕ) {frames : List PlainFrame} {pre xs ds ns : List PlacedTerminal} {out : List PlainItem} {x : PlainTree}
      {all : PlainDefs} {parameters : List Parameter} → Context frames 0 pre out → Spells 0 xs x → SpellsDefs ds all → SpellsNames ns parameters
      → Means (focus.Listed (definition_in block at n)) frames
      (with_parameters (written_defs (written out x ++ item.NoDefs ∷ []) all ++ item.NoNames ∷ []) parameters)
      (pre ++ (xs ++ terminal_at terminal.Where block ∷ (ds ++ terminal_at (terminal.Name n) at ∷ terminal_at terminal.Open open_at ∷ ns)))
  is_ready : {block at : ℕ} {n : List ℕ} (open_at close_at : ℕ) {frames : List PlainFrame} {pre xs ds ns : List PlacedTerminal} {out : List PlainItem}
      {x : PlainTree} {all : PlainDefs} {parameters : List Parameter} → Context frames 0 pre out → Spells 0 xs x → SpellsDefs ds all → SpellsNames ns parameters
      → Means (focus.Ready (definition_in block at n)) frames
      (with_parameters (written_defs (written out x ++ item.NoDefs ∷ []) all ++ item.NoNames ∷ []) parameters)
      (pre ++ (xs ++ terminal_at terminal.Where block ∷ (ds ++ terminal_at (terminal.Name n) at ∷ terminal_at terminal.Open
      open_at ∷ (ns ++ terminal_at terminal.Close close_at ∷ []))))

abbrev pub MeansAt : PlainState → List PlacedTerminal → Type 0
MeansAt g ts = Means g.focus g.frames g.out ts

-- a place that allows a level allows tighter forms
pub looser : {level : ℕ} {xs : List PlacedTerminal} {x : PlainTree} → Spells level xs x → (allowed : ℕ) → allowed ≤ level → Spells allowed xs x
looser Grammar.spells_const allowed h = Grammar.spells_const
looser Grammar.spells_name allowed h = Grammar.spells_name
looser (Grammar.spells_infix terminal operator is low sx sy) allowed h = Grammar.spells_infix terminal operator is (omega (arith, low, h)) sx sy
looser (Grammar.spells_prefix terminal operator is low sx) allowed h = Grammar.spells_prefix terminal operator is (omega (arith, low, h)) sx
looser (Grammar.spells_inner close_at sx) allowed h = Grammar.spells_inner close_at sx
looser (Grammar.spells_if then_at else_at fi_at sx sy sz) allowed h = Grammar.spells_if then_at else_at fi_at sx sy sz
looser (Grammar.spells_call close_at sa) allowed h = Grammar.spells_call close_at sa
looser (Grammar.spells_called close_at terminal operator is n sa) allowed h = Grammar.spells_called close_at terminal operator is n sa
looser (Grammar.spells_block end_at low sx sd) allowed h = Grammar.spells_block end_at (omega (arith, low, h)) sx sd

has_along : {level allowed : ℕ} {frames : List PlainFrame} {out : List PlainItem} {ts us : List PlacedTerminal} → ts ≡ us → Has level allowed frames out ts
    → Has level allowed frames out us
has_along {level} {allowed} {frames} {out} {ts} {us} e h = subst (λ l. Has level allowed frames out l) e h

has_out : {level allowed : ℕ} {frames : List PlainFrame} {out into : List PlainItem} {ts : List PlacedTerminal} → Has level allowed frames out ts → out ≡ into
    → Has level allowed frames into ts
has_out {level} {allowed} {frames} {out} {into} {ts} h e = subst (λ l. Has level allowed frames l ts) e h

-- an operator with its operands read is one operand
reduce : {place allowed : ℕ} {operator : Operator} {level outer : ℕ} {frames : List PlainFrame} {out : List PlainItem} {ts : List PlacedTerminal}
    → Has level outer (frame.Operator operator place allowed ∷ frames) out ts
    → Has (level_of operator) allowed frames (out ++ item.Operator operator place ∷ []) ts
unfolding written
reduce (has {xs = ys} {x = y} (in_left {at = place} {pre = pre} {xs = xs} {out = o} {x = x} terminal operator is low ctx sx) h sy) =
    has_along (simp append_assoc)
    (has_out (has ctx low (Grammar.spells_infix {at = place} terminal operator is (le_refl _) sx (looser sy (right operator) h)))
    (ap (λ i. written (written o x) y ++ i ∷ []) (node-operator operator place)))
reduce (has {xs = ys} {x = y} (in_before {at = place} {pre = pre} {out = o} terminal operator is low ctx) h sy) =
    has_along (simp append_assoc)
    (has_out (has ctx low (Grammar.spells_prefix {at = place} terminal operator is (le_refl _) (looser sy (level_of operator) h)))
    (ap (λ i. written o y ++ i ∷ []) (node-operator operator place)))

-- with no operator that waits for its last operand, a whole operand
inner_has : (frames : List PlainFrame) (level allowed : ℕ) (out : List PlainItem) (ts : List PlacedTerminal) → Has level allowed frames out ts
    → Inside (inner_frames frames) (inner_out frames out) ts
inner_has (frame.Operator operator place outer ∷ frames) level allowed out ts h =
    inner_has frames (level_of operator) outer (out ++ item.Operator operator place ∷ []) ts (reduce h)
inner_has [] level allowed out ts (has outermost h s) = inside outermost (looser s 0 zero-le)
inner_has (frame.Parenthesis outer ∷ frames) level allowed out ts (has (in_open open_at c) h s) = inside (in_open open_at c) (looser s 0 zero-le)
inner_has (frame.Test at outer ∷ frames) level allowed out ts (has (in_test c) h s) = inside (in_test c) (looser s 0 zero-le)
inner_has (frame.Yes at outer ∷ frames) level allowed out ts (has (in_yes then_at c x) h s) = inside (in_yes then_at c x) (looser s 0 zero-le)
inner_has (frame.No at outer ∷ frames) level allowed out ts (has (in_no then_at else_at c x y) h s) = inside (in_no then_at else_at c x y) (looser s 0 zero-le)
inner_has (frame.Arguments at n outer ∷ frames) level allowed out ts (has (in_first open_at c) h s) = inside (in_first open_at c) (looser s 0 zero-le)
inner_has (frame.Arguments at n outer ∷ frames) level allowed out ts (has (in_more open_at comma_at c a) h s) =
    inside (in_more open_at comma_at c a) (looser s 0 zero-le)
inner_has (frame.Operands called more ∷ frames) level allowed out ts (has (in_part open_at word is x) h s) =
    inside (in_part open_at word is x) (looser s 0 zero-le)
inner_has (frame.Operands called more ∷ frames) level allowed out ts (has (in_parts open_at comma_at word is x a n) h s) =
    inside (in_parts open_at comma_at word is x a n) (looser s 0 zero-le)
inner_has (frame.RightSide d this ∷ frames) level allowed out ts (has (in_right equals_at c x e) h s) = inside (in_right equals_at c x e) (looser s 0 zero-le)
inner_has (frame.RightSide d this ∷ frames) level allowed out ts (has (in_current is_at current_at c x e) h s) =
    inside (in_current is_at current_at c x e) (looser s 0 zero-le)
inner_has (frame.RightSide d this ∷ frames) level allowed out ts (has (in_function open_at close_at equals_at c x e ns) h s) =
    inside (in_function open_at close_at equals_at c x e ns) (looser s 0 zero-le)

to : {A : Type 0} {x y : A} (P : A → Type 0) → P x → x ≡ y → P y
to P h e = subst P e h

-- an operator that took its left operand
takes_means : (operator : Operator) (terminal : PlainTerminal) (at level allowed : ℕ) (frames : List PlainFrame) (out : List PlainItem)
    (ts : List PlacedTerminal) → operator_in Between terminal ≡ Some operator → takes operator level allowed ≡ true
    → Has level allowed frames out ts → MeansAt (state (focus.Await (right operator)) (frame.Operator operator at allowed ∷ frames) out)
    (ts ++ terminal_at terminal at ∷ [])
takes_means operator terminal at level allowed frames out ts is t (has {pre = pre} {xs = xs} ctx h sx) =
    let two = and_parts _ _ t in
    subst (Means _ _ _) (simp append_assoc)
    (awaits (in_left {at = at} terminal operator is (leb-true allowed (level_of operator) two.1) ctx
    (looser sx (left operator) (leb-true (left operator) level two.0))))

taken_means : (operator : Operator) (terminal : PlainTerminal) (at level allowed : ℕ) (frames : List PlainFrame) (out : List PlainItem)
    (ts : List PlacedTerminal) (other : Option PlainState) (g : PlainState) → operator_in Between terminal ≡ Some operator
    → Has level allowed frames out ts → (other ≡ Some g → MeansAt g (ts ++ terminal_at terminal at ∷ []))
    → taken operator at level allowed frames out other ≡ Some g → MeansAt g (ts ++ terminal_at terminal at ∷ [])
taken_means operator terminal at level allowed frames out ts other g is h otherwise e =
    elim (cases_Bool (takes operator level allowed)) [
      | inl t ↦ subst (λ x. MeansAt x (ts ++ terminal_at terminal at ∷ []))
          (same_Some _ _ (sym (ap (λ c. cond c (Some (state (focus.Await (right operator)) (frame.Operator operator at allowed ∷ frames) out)) other) t) ∙ e))
          (takes_means operator terminal at level allowed frames out ts is t h)
      | inr f ↦ otherwise (sym (ap (λ c. cond c (Some (state (focus.Await (right operator)) (frame.Operator operator at allowed ∷ frames) out)) other) f) ∙ e)
    ]

shift_means : (frames : List PlainFrame) (operator : Operator) (terminal : PlainTerminal) (at level allowed : ℕ) (out : List PlainItem)
    (ts : List PlacedTerminal) (g : PlainState) → operator_in Between terminal ≡ Some operator
    → Has level allowed frames out ts → shift operator at level allowed frames out ≡ Some g → MeansAt g (ts ++ terminal_at terminal at ∷ [])
shift_means (frame.Operator waiting place outer ∷ frames) operator terminal at level allowed out ts g is h e =
    taken_means operator terminal at level allowed (frame.Operator waiting place outer ∷ frames) out ts _ g is h
    (shift_means frames operator terminal at (level_of waiting) outer (out ++ item.Operator waiting place ∷ []) ts g is (reduce h)) e
shift_means [] operator terminal at level allowed out ts g is h e = taken_means operator terminal at level allowed [] out ts None g is h (λ f. cc) e
shift_means (f ∷ frames) operator terminal at level allowed out ts g is h e =
    taken_means operator terminal at level allowed (f ∷ frames) out ts None g is h (λ n. cc) e

along : {frames : List PlainFrame} {allowed : ℕ} {ts us : List PlacedTerminal} {out : List PlainItem} → ts ≡ us → Context frames allowed ts out
    → Context frames allowed us out
along {frames} {allowed} {ts} {us} {out} e h = subst (λ l. Context frames allowed l out) e h

with_out : {frames : List PlainFrame} {allowed : ℕ} {ts : List PlacedTerminal} {out into : List PlainItem} → Context frames allowed ts out → out ≡ into
    → Context frames allowed ts into
with_out {frames} {allowed} {ts} {out} {into} h e = subst (λ o. Context frames allowed ts o) e h

means_along : {f : PlainFocus} {frames : List PlainFrame} {out : List PlainItem} {ts us : List PlacedTerminal} → ts ≡ us → Means f frames out ts
    → Means f frames out us
means_along {f} {frames} {out} {ts} {us} e h = subst (λ l. Means f frames out l) e h

means_out : {f : PlainFocus} {frames : List PlainFrame} {out into : List PlainItem} {ts : List PlacedTerminal} → Means f frames out ts → out ≡ into
    → Means f frames into ts
means_out {f} {frames} {out} {into} {ts} h e = subst (λ l. Means f frames l ts) e h

context_most : {frames : List PlainFrame} {allowed : ℕ} {ts : List PlacedTerminal} {out : List PlainItem} → Context frames allowed ts out → allowed ≤ 12
context_most outermost = zero-le
context_most (in_left terminal operator is low c x) = right_most terminal operator is
context_most (in_before terminal operator is low c) = omega (arith, prefix_level_most terminal operator is)
context_most (in_open open_at c) = zero-le
context_most (in_test c) = zero-le
context_most (in_yes then_at c x) = zero-le
context_most (in_no then_at else_at c x y) = zero-le
context_most (in_first open_at c) = zero-le
context_most (in_more open_at comma_at c a) = zero-le
context_most (in_part open_at word is c) = zero-le
context_most (in_parts open_at comma_at word is c a n) = zero-le
context_most (in_right equals_at c x d) = zero-le
context_most (in_current is_at current_at c x d) = zero-le
context_most (in_function open_at close_at equals_at c x d ns) = zero-le

closed_open : (allowed at : ℕ) (frames : List PlainFrame) (out : List PlainItem) (ts : List PlacedTerminal) → Inside (frame.Parenthesis allowed ∷ frames) out ts
    → MeansAt (state (focus.Have 12 allowed) frames out) (ts ++ terminal_at terminal.Close at ∷ [])
closed_open allowed at frames out ts (inside (in_open open_at c) s) =
    holds (subst (Has _ _ _ _) (simp append_assoc) (has {level = 12} c (context_most c) (Grammar.spells_inner {p = open_at} at s)))

closed_test : (place allowed at : ℕ) (frames : List PlainFrame) (out : List PlainItem) (ts : List PlacedTerminal)
    → Inside (frame.Test place allowed ∷ frames) out ts
    → MeansAt (state (focus.Await 0) (frame.Yes place allowed ∷ frames) out) (ts ++ terminal_at terminal.Then at ∷ [])
closed_test place allowed at frames out ts (inside (in_test c) s) = awaits (along (simp append_assoc) (in_yes {at = place} at c s))

closed_yes : (place allowed at : ℕ) (frames : List PlainFrame) (out : List PlainItem) (ts : List PlacedTerminal)
    → Inside (frame.Yes place allowed ∷ frames) out ts
    → MeansAt (state (focus.Await 0) (frame.No place allowed ∷ frames) out) (ts ++ terminal_at terminal.Else at ∷ [])
closed_yes place allowed at frames out ts (inside (in_yes then_at c x) s) = awaits (along (simp append_assoc) (in_no {at = place} then_at at c x s))

closed_no : (place allowed at : ℕ) (frames : List PlainFrame) (out : List PlainItem) (ts : List PlacedTerminal)
    → Inside (frame.No place allowed ∷ frames) out ts
    → MeansAt (state (focus.Have 12 allowed) frames (out ++ item.Operator (Stream forms.If) place ∷ [])) (ts ++ terminal_at terminal.Fi at ∷ [])
unfolding written
closed_no place allowed at frames out ts (inside (in_no then_at else_at c x y) s) =
    holds (subst (Has _ _ _ _) (simp append_assoc) (has {level = 12} c (context_most c) (Grammar.spells_if {at = place} then_at else_at at x y s)))

argument_comma : (place : ℕ) (n : List ℕ) (allowed at : ℕ) (frames : List PlainFrame) (out : List PlainItem) (ts : List PlacedTerminal)
    → Inside (frame.Arguments place n allowed ∷ frames) out ts
    → MeansAt (state (focus.Await 0) (frame.Arguments place n allowed ∷ frames) (out ++ item.More ∷ [])) (ts ++ terminal_at terminal.Comma at ∷ [])
unfolding written
argument_comma place n allowed at frames out ts (inside (in_first open_at c) s) =
    awaits (along (simp append_assoc) (in_more {at = place} {n = n} open_at at c (Grammar.spells_one s)))
argument_comma place n allowed at frames out ts (inside {xs = ys} {x = y} (in_more open_at comma_at {out = o} {all = all} c a) s) =
    awaits (along (simp append_assoc)
    (with_out (in_more {at = place} {n = n} open_at at c (Grammar.spells_more comma_at a s)) (written_all-and (o ++ item.NoTrees ∷ []) all y)))

closed_args : (place : ℕ) (n : List ℕ) (allowed at : ℕ) (frames : List PlainFrame) (out : List PlainItem) (ts : List PlacedTerminal)
    → Inside (frame.Arguments place n allowed ∷ frames) out ts
    → MeansAt (state (focus.Have 12 allowed) frames ((out ++ item.More ∷ []) ++ item.Call place n ∷ [])) (ts ++ terminal_at terminal.Close at ∷ [])
unfolding written
closed_args place n allowed at frames out ts (inside (in_first open_at c) s) =
    holds
    (has_along (simp append_assoc) (has {level = 12} c (context_most c) (Grammar.spells_call {at = place} {p = open_at} at {n = n} (Grammar.spells_one s))))
closed_args place n allowed at frames out ts (inside {xs = ys} {x = y} (in_more open_at comma_at {out = o} {all = all} c a) s) =
    holds (has_along (simp append_assoc)
    (has_out (has {level = 12} c (context_most c) (Grammar.spells_call {at = place} {p = open_at} at {n = n} (Grammar.spells_more comma_at a s)))
    (ap (λ l. l ++ item.Call place n ∷ []) (written_all-and (o ++ item.NoTrees ∷ []) all y))))

closed_right : (this : Definition (List ℕ)) (at : ℕ) (defines : Defines) (frames : List PlainFrame) (out : List PlainItem) (ts : List PlacedTerminal)
    → Inside (frame.RightSide defines this ∷ frames) out ts
    → MeansAt (state (focus.Heads this.block) frames (out ++ item.Def defines this.at this.name ∷ [])) (ts ++ terminal_at terminal.Semicolon at ∷ [])
unfolding written
closed_right _ at defines frames out ts (inside {xs = ys} {x = y} (in_right {block = block} {at = def_at} {n = n} equals_at {out = o} {x = x} {all = all} c s d)
    t) =
    means_along (simp append_assoc)
    (means_out (heads {block = block} c s (Grammar.spells_def def_at n equals_at at d t))
    (written_defs-and (written o x ++ item.NoDefs ∷ []) all def_at n Plain y))
closed_right _ at defines frames out ts (inside {xs = ys} {x = y}
    (in_current {block = block} {at = def_at} {n = n} is_at current_at {out = o} {x = x} {all = all} c s d) t) =
    means_along (simp append_assoc)
    (means_out (heads {block = block} c s (Grammar.spells_current def_at n is_at current_at at d t))
    (written_defs-and (written o x ++ item.NoDefs ∷ []) all def_at n Current y))
closed_right _ at defines frames out ts (inside {xs = ys} {x = y}
    (in_function {block = block} {at = def_at} {n = n} open_at close_at equals_at {out = o} {x = x} {all = all} {parameters = parameters} c s d ns) t) =
    means_along (simp append_assoc)
    (means_out (heads {block = block} c s (Grammar.spells_function def_at n open_at close_at equals_at at d ns t))
    (written_defs-and (written o x ++ item.NoDefs ∷ []) all def_at n (Function parameters) y))

other_of : {A : Type 0} (b : Bool) (x y : A) → cond b None (Some x) ≡ Some y → (b ≡ false) × (x ≡ y)
other_of true x y e = cc
other_of false x y e = (refl, same_Some x y e)

part_comma : (called : CalledOperator) (more at : ℕ) (frames : List PlainFrame) (out : List PlainItem) (ts : List PlacedTerminal) → (more ≡ 0 → ⊥)
    → Inside (frame.Operands called more ∷ frames) out ts
    → MeansAt (state (focus.Await 0) (frame.Operands called (more - 1) ∷ frames) out) (ts ++ terminal_at terminal.Comma at ∷ [])
unfolding written
part_comma _ _ at frames out ts some (inside (in_part {at = place} open_at word {operator = operator} is x) s) =
    awaits
    (along (simp append_assoc) (in_parts {at = place} open_at at word {operator = operator} is x (Grammar.spells_one s)
    (omega (arith, some, arity_positive operator))))
part_comma _ more at frames out ts some (inside {xs = ys} {x = y}
    (in_parts {at = place} open_at comma_at word {operator = operator} {out = o} {all = all} is x a n) s) =
    awaits (along (simp append_assoc)
    (with_out (in_parts {at = place} {more = more - 1} open_at at word {operator = operator} is x (Grammar.spells_more comma_at a s)
    (omega (arith, some, n, count-and all y))) (written_parts-and o all y)))

part_close : (called : CalledOperator) (more at : ℕ) (frames : List PlainFrame) (out : List PlainItem) (ts : List PlacedTerminal) → more ≡ 0
    → Inside (frame.Operands called more ∷ frames) out ts
    → MeansAt (state (focus.Have 12 called.allowed) frames (out ++ item.Operator called.op called.at ∷ [])) (ts ++ terminal_at terminal.Close at ∷ [])
unfolding written
part_close _ _ at frames out ts none (inside (in_part {at = place} open_at word {operator = operator} is x) s) =
    holds (has_along (simp append_assoc)
    (has_out
    (has {level = 12} x (context_most x) (Grammar.spells_called {at = place} {p = open_at} at word operator is
    (omega (arith, none, arity_positive operator)) (Grammar.spells_one s)))
    (ap (λ i. out ++ i ∷ []) (node-operator operator place))))
part_close _ more at frames out ts none (inside {xs = ys} {x = y}
    (in_parts {at = place} open_at comma_at word {operator = operator} {out = o} {all = all} is x a n) s) =
    holds (has_along (simp append_assoc)
    (has_out
    (has {level = 12} x (context_most x) (Grammar.spells_called {at = place} {p = open_at} at word operator is (omega (arith, none, n, count-and all y))
    (Grammar.spells_more comma_at a s)))
    (ap (λ l. l ++ node (head operator) place ∷ []) (written_parts-and o all y)
    ∙ ap (λ i. written (written_parts o all) y ++ i ∷ []) (node-operator operator place))))

-- what closes a frame
after_means : (f : PlainFrame) (terminal : PlainTerminal) (at : ℕ) (frames : List PlainFrame) (out : List PlainItem) (ts : List PlacedTerminal) (g : PlainState)
    → Inside (f ∷ frames) out ts → after_frame f terminal frames out ≡ Some g → MeansAt g (ts ++ terminal_at terminal at ∷ [])
after_means (frame.Parenthesis allowed) terminal.Close at frames out ts g i e =
    to (λ x. MeansAt x (ts ++ terminal_at terminal.Close at ∷ [])) (closed_open allowed at frames out ts i) (same_Some _ _ e)
after_means (frame.Test place allowed) terminal.Then at frames out ts g i e =
    to (λ x. MeansAt x (ts ++ terminal_at terminal.Then at ∷ [])) (closed_test place allowed at frames out ts i) (same_Some _ _ e)
after_means (frame.Yes place allowed) terminal.Else at frames out ts g i e =
    to (λ x. MeansAt x (ts ++ terminal_at terminal.Else at ∷ [])) (closed_yes place allowed at frames out ts i) (same_Some _ _ e)
after_means (frame.No place allowed) terminal.Fi at frames out ts g i e =
    to (λ x. MeansAt x (ts ++ terminal_at terminal.Fi at ∷ [])) (closed_no place allowed at frames out ts i) (same_Some _ _ e)
after_means (frame.Arguments place n allowed) terminal.Comma at frames out ts g i e =
    to (λ x. MeansAt x (ts ++ terminal_at terminal.Comma at ∷ [])) (argument_comma place n allowed at frames out ts i) (same_Some _ _ e)
after_means (frame.Arguments place n allowed) terminal.Close at frames out ts g i e =
    to (λ x. MeansAt x (ts ++ terminal_at terminal.Close at ∷ [])) (closed_args place n allowed at frames out ts i) (same_Some _ _ e)
after_means (frame.Operands called more) terminal.Comma at frames out ts g i e =
    let o = other_of (nat_eq more 0) _ g e in
    to (λ x. MeansAt x (ts ++ terminal_at terminal.Comma at ∷ [])) (part_comma called more at frames out ts (eqb-false more 0 o.0) i) o.1
after_means (frame.Operands called more) terminal.Close at frames out ts g i e =
    let o = cond_some (nat_eq more 0) _ g e in
    to (λ x. MeansAt x (ts ++ terminal_at terminal.Close at ∷ [])) (part_close called more at frames out ts (eqb-true more 0 o.0) i) o.1
after_means (frame.RightSide d this) terminal.Semicolon at frames out ts g i e =
    to (λ x. MeansAt x (ts ++ terminal_at terminal.Semicolon at ∷ [])) (closed_right this at d frames out ts i) (same_Some _ _ e)
after_means _ _ at frames out ts g i e = cc

-- a terminal that is no operator, after an operand
close_means : (terminal : PlainTerminal) (at : ℕ) (frames : List PlainFrame) (out : List PlainItem) (ts : List PlacedTerminal) (g : PlainState)
    → Inside frames out ts → close terminal at frames out ≡ Some g → MeansAt g (ts ++ terminal_at terminal at ∷ [])
unfolding written
close_means terminal.Where at frames out ts g (inside c next) e =
    to (λ x. MeansAt x (ts ++ terminal_at terminal.Where at ∷ [])) (means_along (simp append_assoc) (heads {block = at} c next Grammar.spells_none))
    (same_Some _ _ e)
close_means terminal at [] out ts g i e = cc
close_means terminal at (f ∷ frames) out ts g i e = after_means f terminal at frames out ts g i e

settled : (o : Option Operator) (terminal : PlainTerminal) (at level allowed : ℕ) (frames : List PlainFrame) (out : List PlainItem) (ts : List PlacedTerminal)
    (g : PlainState) → operator_in Between terminal ≡ o
    → Has level allowed frames out ts → settle_at o terminal at level allowed frames out ≡ Some g → MeansAt g (ts ++ terminal_at terminal at ∷ [])
settled (Some operator) terminal at level allowed frames out ts g is h e = shift_means frames operator terminal at level allowed out ts g is h e
settled None terminal at level allowed frames out ts g is h e =
    close_means terminal at (inner_frames frames) (inner_out frames out) ts g (inner_has frames level allowed out ts h) e

settle_means : (terminal : PlainTerminal) (at level allowed : ℕ) (frames : List PlainFrame) (out : List PlainItem) (ts : List PlacedTerminal) (g : PlainState)
    → Has level allowed frames out ts → settle terminal at level allowed frames out ≡ Some g → MeansAt g (ts ++ terminal_at terminal at ∷ [])
settle_means terminal at level allowed frames out ts g h e = settled (operator_in Between terminal) terminal at level allowed frames out ts g refl h e

prefixed_means : (o : Option Operator) (terminal : PlainTerminal) (at allowed : ℕ) (frames : List PlainFrame) (out : List PlainItem) (ts : List PlacedTerminal)
    (g : PlainState) → operator_in Before terminal ≡ o
    → Context frames allowed ts out → prefixed o at allowed frames out ≡ Some g → MeansAt g (ts ++ terminal_at terminal at ∷ [])
prefixed_means None terminal at allowed frames out ts g is c e = cc
prefixed_means (Some operator) terminal at allowed frames out ts g is c e =
    let into = Some (state (focus.Await (level_of operator)) (frame.Operator operator at allowed ∷ frames) out) in
    elim (cases_Bool (leb allowed (level_of operator))) [
      | inl t ↦ to (λ x. MeansAt x (ts ++ terminal_at terminal at ∷ []))
          (awaits (in_before {at = at} terminal operator is (leb-true allowed (level_of operator) t) c))
          (same_Some _ _ (sym (ap (λ b. cond b into None) t) ∙ e))
      | inr f ↦ let no : None ≡ Some g = sym (ap (λ b. cond b into None) f) ∙ e in cc
    ]

begun_means : (o : Option Operator) (terminal : PlainTerminal) (at allowed : ℕ) (frames : List PlainFrame) (out : List PlainItem) (ts : List PlacedTerminal)
    (g : PlainState) → operator_in Called terminal ≡ o
    → Context frames allowed ts out → begun o (operator_in Before terminal) at allowed frames out ≡ Some g → MeansAt g (ts ++ terminal_at terminal at ∷ [])
begun_means (Some operator) terminal at allowed frames out ts g is c e =
    to (λ x. MeansAt x (ts ++ terminal_at terminal at ∷ [])) (opens {at = at} terminal operator is c) (same_Some _ _ e)
begun_means None terminal at allowed frames out ts g is c e = prefixed_means (operator_in Before terminal) terminal at allowed frames out ts g refl c e

-- a terminal that begins an operand
begin_means : (terminal : PlainTerminal) (at allowed : ℕ) (frames : List PlainFrame) (out : List PlainItem) (ts : List PlacedTerminal) (g : PlainState)
    → Context frames allowed ts out → begin terminal at allowed frames out ≡ Some g → MeansAt g (ts ++ terminal_at terminal at ∷ [])
unfolding written
begin_means (terminal.Name n) at allowed frames out ts g c e = to (λ x. MeansAt x (ts ++ terminal_at (terminal.Name n) at ∷ [])) (named c) (same_Some _ _ e)
begin_means (terminal.Const v) at allowed frames out ts g c e =
    to (λ x. MeansAt x (ts ++ terminal_at (terminal.Const v) at ∷ [])) (holds (has {level = 12} c (context_most c) (Grammar.spells_const {at = at} {v = v})))
    (same_Some _ _ e)
begin_means terminal.If at allowed frames out ts g c e =
    to (λ x. MeansAt x (ts ++ terminal_at terminal.If at ∷ [])) (awaits (in_test {at = at} c)) (same_Some _ _ e)
begin_means terminal.Open at allowed frames out ts g c e =
    to (λ x. MeansAt x (ts ++ terminal_at terminal.Open at ∷ [])) (awaits (in_open at c)) (same_Some _ _ e)
begin_means terminal at allowed frames out ts g c e = begun_means (operator_in Called terminal) terminal at allowed frames out ts g refl c e

named_has : (place : ℕ) (n : List ℕ) {allowed : ℕ} {frames : List PlainFrame} {out : List PlainItem} {ts : List PlacedTerminal} → Context frames allowed ts out
    → Has 12 allowed frames (out ++ item.Name place n ∷ []) (ts ++ terminal_at (terminal.Name n) place ∷ [])
unfolding written
named_has place n c = has {level = 12} c (context_most c) (Grammar.spells_name {at = place} {n = n})

named_means : (next : PlainTerminal) (at place : ℕ) (n : List ℕ) (allowed : ℕ) (frames : List PlainFrame) (out : List PlainItem) (ts : List PlacedTerminal)
    (g : PlainState)
    → Context frames allowed ts out → step_named next at place n allowed frames out ≡ Some g
    → MeansAt g ((ts ++ terminal_at (terminal.Name n) place ∷ []) ++ terminal_at next at ∷ [])
named_means terminal.Open at place n allowed frames out ts g c e =
    to (λ x. MeansAt x ((ts ++ terminal_at (terminal.Name n) place ∷ []) ++ terminal_at terminal.Open at ∷ []))
    (awaits (along (simp append_assoc) (in_first {at = place} {n = n} at c))) (same_Some _ _ e)
named_means terminal at place n allowed frames out ts g c e = settle_means terminal at 12 allowed frames (out ++ item.Name place n ∷ []) _ g (named_has _ _ c) e

heads_means : (next : PlainTerminal) (at block : ℕ) (frames : List PlainFrame) (out : List PlainItem) (pre xs ds : List PlacedTerminal) (x : PlainTree)
    (all : PlainDefs) (g : PlainState)
    → Context frames 0 pre out → Spells 0 xs x → SpellsDefs ds all
    → step_heads next at block frames (written_defs (written out x ++ item.NoDefs ∷ []) all) ≡ Some g
    → MeansAt g ((pre ++ (xs ++ terminal_at terminal.Where block ∷ ds)) ++ terminal_at next at ∷ [])
unfolding written
heads_means (terminal.Name n) at block frames out pre xs ds x all g c sx sd e =
    to (λ y. MeansAt y ((pre ++ (xs ++ terminal_at terminal.Where block ∷ ds)) ++ terminal_at (terminal.Name n) at ∷ []))
    (means_along (simp append_assoc) (headed {block = block} {at = at} {n = n} c sx sd)) (same_Some _ _ e)
heads_means terminal.End at block frames out pre xs ds x all g c sx sd e =
    to (λ y. MeansAt y ((pre ++ (xs ++ terminal_at terminal.Where block ∷ ds)) ++ terminal_at terminal.End at ∷ []))
    (holds (has_along (simp append_assoc) (has {level = 0} c zero-le (Grammar.spells_block {at = block} at zero-le sx sd)))) (same_Some _ _ e)
heads_means _ at block frames out pre xs ds x all g c sx sd e = cc

headed_means : (next : PlainTerminal) (at block def_at : ℕ) (n : List ℕ) (frames : List PlainFrame) (out : List PlainItem) (pre xs ds : List PlacedTerminal)
    (x : PlainTree) (all : PlainDefs) (g : PlainState)
    → Context frames 0 pre out → Spells 0 xs x → SpellsDefs ds all
    → step_headed next (definition_in block def_at n) frames (written_defs (written out x ++ item.NoDefs ∷ []) all) ≡ Some g
    → MeansAt g ((pre ++ (xs ++ terminal_at terminal.Where block ∷ (ds ++ terminal_at (terminal.Name n) def_at ∷ []))) ++ terminal_at next at ∷ [])
headed_means terminal.Equals at block def_at n frames out pre xs ds x all g c sx sd e =
    to
    (λ y. MeansAt y ((pre ++ (xs ++ terminal_at terminal.Where block ∷ (ds ++ terminal_at (terminal.Name n) def_at ∷ []))) ++ terminal_at terminal.Equals
    at ∷ [])) (awaits (along (simp append_assoc) (in_right {block = block} {at = def_at} {n = n} at c sx sd))) (same_Some _ _ e)
headed_means terminal.Is at block def_at n frames out pre xs ds x all g c sx sd e =
    to
    (λ y. MeansAt y ((pre ++ (xs ++ terminal_at terminal.Where block ∷ (ds ++ terminal_at (terminal.Name n) def_at ∷ []))) ++ terminal_at terminal.Is
    at ∷ [])) (means_along (simp append_assoc) (frozen {block = block} {at = def_at} {n = n} at c sx sd)) (same_Some _ _ e)
headed_means terminal.Open at block def_at n frames out pre xs ds x all g c sx sd e =
    to
    (λ y. MeansAt y ((pre ++ (xs ++ terminal_at terminal.Where block ∷ (ds ++ terminal_at (terminal.Name n) def_at ∷ []))) ++ terminal_at terminal.Open
    at ∷ [])) (means_along (simp append_assoc) (no_names_yet {block = block} {at = def_at} {n = n} at c sx sd)) (same_Some _ _ e)
headed_means _ at block def_at n frames out pre xs ds x all g c sx sd e = cc

frozen_means : (next : PlainTerminal) (at block def_at : ℕ) (n : List ℕ) (is_at : ℕ) (frames : List PlainFrame) (out : List PlainItem)
    (pre xs ds : List PlacedTerminal) (x : PlainTree) (all : PlainDefs) (g : PlainState)
    → Context frames 0 pre out → Spells 0 xs x → SpellsDefs ds all
    → step_frozen next (definition_in block def_at n) frames (written_defs (written out x ++ item.NoDefs ∷ []) all) ≡ Some g
    → MeansAt g
    ((pre ++ (xs ++ terminal_at terminal.Where block ∷ (ds ++ terminal_at (terminal.Name n) def_at ∷ terminal_at terminal.Is is_at ∷ []))) ++ terminal_at
    next at ∷ [])
frozen_means terminal.Current at block def_at n is_at frames out pre xs ds x all g c sx sd e =
    to
    (λ y.
    MeansAt y
    ((pre ++ (xs ++ terminal_at terminal.Where block ∷ (ds ++ terminal_at (terminal.Name n) def_at ∷ terminal_at terminal.Is is_at ∷ []))) ++ terminal_at
    terminal.Current at ∷ [])) (awaits (along (simp append_assoc) (in_current {block = block} {at = def_at} {n = n} is_at at c sx sd))) (same_Some _ _ e)
frozen_means _ at block def_at n is_at frames out pre xs ds x all g c sx sd e = cc

first_name_means : (next : PlainTerminal) (at block def_at : ℕ) (n : List ℕ) (open_at : ℕ) (frames : List PlainFrame) (out : List PlainItem)
    (pre xs ds : List PlacedTerminal) (x : PlainTree) (all : PlainDefs) (g : PlainState)
    → Context frames 0 pre out → Spells 0 xs x → SpellsDefs ds all
    → step_names next at (definition_in block def_at n) frames (written_defs (written out x ++ item.NoDefs ∷ []) all ++ item.NoNames ∷ []) ≡ Some g
    → MeansAt g
    ((pre ++ (xs ++ terminal_at terminal.Where block ∷ (ds ++ terminal_at (terminal.Name n) def_at ∷ terminal_at terminal.Open
    open_at ∷ []))) ++ terminal_at next at ∷ [])
first_name_means (terminal.Name name) at block def_at n open_at frames out pre xs ds x all g c sx sd e =
    to
    (λ y.
    MeansAt y
    ((pre ++ (xs ++ terminal_at terminal.Where block ∷ (ds ++ terminal_at (terminal.Name n) def_at ∷ terminal_at terminal.Open
    open_at ∷ []))) ++ terminal_at (terminal.Name name) at ∷ []))
    (means_along (simp append_assoc) (has_names {block = block} {at = def_at} {n = n} open_at c sx sd (Grammar.spells_first_name {at = at} {n = name})))
    (same_Some _ _ e)
first_name_means _ at block def_at n open_at frames out pre xs ds x all g c sx sd e = cc

next_name_means : (next : PlainTerminal) (at block def_at : ℕ) (n : List ℕ) (open_at comma_at : ℕ) (frames : List PlainFrame) (out : List PlainItem)
    (pre xs ds ns : List PlacedTerminal) (x : PlainTree) (all : PlainDefs) (parameters : List Parameter) (g : PlainState)
    → Context frames 0 pre out → Spells 0 xs x → SpellsDefs ds all → SpellsNames ns parameters
    → step_names next at (definition_in block def_at n) frames
    (with_parameters (written_defs (written out x ++ item.NoDefs ∷ []) all ++ item.NoNames ∷ []) parameters) ≡ Some g
    → MeansAt g
    ((pre ++ (xs ++ terminal_at terminal.Where block ∷ (ds ++ terminal_at (terminal.Name n) def_at ∷ terminal_at terminal.Open
    open_at ∷ (ns ++ terminal_at terminal.Comma comma_at ∷ [])))) ++ terminal_at next at ∷ [])
next_name_means (terminal.Name name) at block def_at n open_at comma_at frames out pre xs ds ns x all parameters g c sx sd sn e =
    to
    (λ y.
    MeansAt y
    ((pre ++ (xs ++ terminal_at terminal.Where block ∷ (ds ++ terminal_at (terminal.Name n) def_at ∷ terminal_at terminal.Open
    open_at ∷ (ns ++ terminal_at terminal.Comma comma_at ∷ [])))) ++ terminal_at (terminal.Name name) at ∷ []))
    (means_along (simp append_assoc)
    (means_out (has_names {block = block} {at = def_at} {n = n} open_at c sx sd (Grammar.spells_more_names comma_at at name sn))
    (with_parameters-and (written_defs (written out x ++ item.NoDefs ∷ []) all ++ item.NoNames ∷ []) parameters at name))) (same_Some _ _ e)
next_name_means _ at block def_at n open_at comma_at frames out pre xs ds ns x all parameters g c sx sd sn e = cc

listed_means : (next : PlainTerminal) (at block def_at : ℕ) (n : List ℕ) (open_at : ℕ) (frames : List PlainFrame) (out : List PlainItem)
    (pre xs ds ns : List PlacedTerminal) (x : PlainTree) (all : PlainDefs) (parameters : List Parameter) (g : PlainState)
    → Context frames 0 pre out → Spells 0 xs x → SpellsDefs ds all → SpellsNames ns parameters
    → step_listed next (definition_in block def_at n) frames
    (with_parameters (written_defs (written out x ++ item.NoDefs ∷ []) all ++ item.NoNames ∷ []) parameters) ≡ Some g
    → MeansAt g
    ((pre ++ (xs ++ terminal_at terminal.Where block ∷ (ds ++ terminal_at (terminal.Name n) def_at ∷ terminal_at terminal.Open
    open_at ∷ ns))) ++ terminal_at next at ∷ [])
listed_means terminal.Comma at block def_at n open_at frames out pre xs ds ns x all parameters g c sx sd sn e =
    to
    (λ y.
    MeansAt y
    ((pre ++ (xs ++ terminal_at terminal.Where block ∷ (ds ++ terminal_at (terminal.Name n) def_at ∷ terminal_at terminal.Open
    open_at ∷ ns))) ++ terminal_at terminal.Comma at ∷ []))
    (means_along (simp append_assoc) (more_names {block = block} {at = def_at} {n = n} open_at at c sx sd sn)) (same_Some _ _ e)
listed_means terminal.Close at block def_at n open_at frames out pre xs ds ns x all parameters g c sx sd sn e =
    to
    (λ y.
    MeansAt y
    ((pre ++ (xs ++ terminal_at terminal.Where block ∷ (ds ++ terminal_at (terminal.Name n) def_at ∷ terminal_at terminal.Open
    open_at ∷ ns))) ++ terminal_at terminal.Close at ∷ []))
    (means_along (simp append_assoc) (is_ready {block = block} {at = def_at} {n = n} open_at at c sx sd sn)) (same_Some _ _ e)
listed_means _ at block def_at n open_at frames out pre xs ds ns x all parameters g c sx sd sn e = cc

ready_means : (next : PlainTerminal) (at block def_at : ℕ) (n : List ℕ) (open_at close_at : ℕ) (frames : List PlainFrame) (out : List PlainItem)
    (pre xs ds ns : List PlacedTerminal) (x : PlainTree) (all : PlainDefs) (parameters : List Parameter) (g : PlainState)
    → Context frames 0 pre out → Spells 0 xs x → SpellsDefs ds all → SpellsNames ns parameters
    → step_ready next (definition_in block def_at n) frames
    (with_parameters (written_defs (written out x ++ item.NoDefs ∷ []) all ++ item.NoNames ∷ []) parameters) ≡ Some g
    → MeansAt g
    ((pre ++ (xs ++ terminal_at terminal.Where block ∷ (ds ++ terminal_at (terminal.Name n) def_at ∷ terminal_at terminal.Open
    open_at ∷ (ns ++ terminal_at terminal.Close close_at ∷ [])))) ++ terminal_at next at ∷ [])
ready_means terminal.Equals at block def_at n open_at close_at frames out pre xs ds ns x all parameters g c sx sd sn e =
    to
    (λ y.
    MeansAt y
    ((pre ++ (xs ++ terminal_at terminal.Where block ∷ (ds ++ terminal_at (terminal.Name n) def_at ∷ terminal_at terminal.Open
    open_at ∷ (ns ++ terminal_at terminal.Close close_at ∷ [])))) ++ terminal_at terminal.Equals at ∷ []))
    (awaits (along (simp append_assoc) (in_function {block = block} {at = def_at} {n = n} open_at close_at at c sx sd sn))) (same_Some _ _ e)
ready_means _ at block def_at n open_at close_at frames out pre xs ds ns x all parameters g c sx sd sn e = cc

opens_means : (next : PlainTerminal) (at place allowed : ℕ) (word : PlainTerminal) (operator : Operator) (frames : List PlainFrame) (out : List PlainItem)
    (ts : List PlacedTerminal) (g : PlainState)
    → operator_in Called word ≡ Some operator → Context frames allowed ts out → step_opens next (called_at operator place allowed) frames out ≡ Some g
    → MeansAt g ((ts ++ terminal_at word place ∷ []) ++ terminal_at next at ∷ [])
opens_means terminal.Open at place allowed word operator frames out ts g is c e =
    to (λ x. MeansAt x ((ts ++ terminal_at word place ∷ []) ++ terminal_at terminal.Open at ∷ []))
    (awaits (along (simp append_assoc) (in_part {at = place} at word {operator = operator} is c))) (same_Some _ _ e)
opens_means _ at place allowed word operator frames out ts g is c e = cc

-- a step keeps the meaning
pub step_means : (f : PlainFocus) (frames : List PlainFrame) (out : List PlainItem) (ts : List PlacedTerminal) (terminal : PlainTerminal) (at : ℕ)
    (g : PlainState)
    → Means f frames out ts → step_at f terminal at frames out ≡ Some g → MeansAt g (ts ++ terminal_at terminal at ∷ [])
step_means f frames out ts terminal at g (awaits c) e = begin_means terminal at _ frames out ts g c e
step_means f frames out ts terminal at g (holds h) e = settle_means terminal at _ _ frames out ts g h e
step_means f frames out _ terminal at g (named c) e = named_means terminal at _ _ _ frames out _ g c e
step_means f frames _ _ terminal at g (heads c sx sd) e = heads_means terminal at _ frames _ _ _ _ _ _ g c sx sd e
step_means f frames _ _ terminal at g (headed c sx sd) e = headed_means terminal at _ _ _ frames _ _ _ _ _ _ g c sx sd e
step_means f frames out _ terminal at g (opens called operator is c) e = opens_means terminal at _ _ called operator frames out _ g is c e
step_means f frames _ _ terminal at g (frozen is_at c sx sd) e = frozen_means terminal at _ _ _ is_at frames _ _ _ _ _ _ g c sx sd e
step_means f frames _ _ terminal at g (no_names_yet open_at c sx sd) e = first_name_means terminal at _ _ _ open_at frames _ _ _ _ _ _ g c sx sd e
step_means f frames _ _ terminal at g (more_names open_at comma_at c sx sd sn) e =
    next_name_means terminal at _ _ _ open_at comma_at frames _ _ _ _ _ _ _ _ g c sx sd sn e
step_means f frames _ _ terminal at g (has_names open_at c sx sd sn) e = listed_means terminal at _ _ _ open_at frames _ _ _ _ _ _ _ _ g c sx sd sn e
step_means f frames _ _ terminal at g (is_ready open_at close_at c sx sd sn) e =
    ready_means terminal at _ _ _ open_at close_at frames _ _ _ _ _ _ _ _ g c sx sd sn e

pub feeds_mean : (ts : List PlacedTerminal) (g h : PlainState) (pre : List PlacedTerminal) → MeansAt g pre → feeds g ts ≡ Some h → MeansAt h (pre ++ ts)
feeds_mean [] g h pre m e = to (λ x. MeansAt x (pre ++ [])) (subst (MeansAt g) (sym (append-nil pre)) m) (same_Some _ _ e)
feeds_mean (t ∷ ts) g h pre m e =
    onto (step g t.terminal t.at) refl e (λ i s f.
    subst (MeansAt h) (simp append_assoc) (feeds_mean ts i h (pre ++ t ∷ []) (step_means g.focus g.frames g.out pre t.terminal t.at i m s) f))
  where
    onto : (o : Option PlainState) → step g t.terminal t.at ≡ o → option_and_then (λ i. feeds i ts) o ≡ Some h
        → ((i : PlainState) → step g t.terminal t.at ≡ Some i → feeds i ts ≡ Some h → MeansAt h (pre ++ t ∷ ts)) → MeansAt h (pre ++ t ∷ ts)
    onto None s e k = cc
    onto (Some i) s e k = k i s e

pub start_means : MeansAt start []
start_means = awaits outermost

-- what the machine finishes on is spelled
abbrev pub Spelled : List PlacedTerminal → List PlainItem → Type 0
Spelled ts out = (t : PlainTree) × Spells 0 ts t × (out ≡ written [] t)

inside_means : (frames : List PlainFrame) (o out : List PlainItem) (ts : List PlacedTerminal) → Inside frames o ts → if_empty frames o ≡ Some out
    → Spelled ts out
inside_means [] o out ts (inside {x = x} outermost s) e = (x, s, sym (same_Some _ _ e))
inside_means (f ∷ frames) o out ts i e = cc

has_means : (level allowed : ℕ) (frames : List PlainFrame) (o out : List PlainItem) (ts : List PlacedTerminal) → Has level allowed frames o ts
    → finished frames o ≡ Some out → Spelled ts out
has_means level allowed frames o out ts h e = inside_means _ _ out ts (inner_has frames level allowed o ts h) e

finish_means : (f : PlainFocus) (frames : List PlainFrame) (o out : List PlainItem) (ts : List PlacedTerminal) → Means f frames o ts
    → finish_at f frames o ≡ Some out → Spelled ts out
finish_means f frames o out ts (awaits c) e = cc
finish_means f frames o out ts (holds h) e = has_means _ _ frames o out ts h e
finish_means f frames o out _ (named c) e = has_means _ _ frames _ out _ (named_has _ _ c) e
finish_means f frames _ out _ (heads c sx sd) e = cc
finish_means f frames _ out _ (headed c sx sd) e = cc
finish_means f frames _ out _ (opens word operator is c) e = cc
finish_means f frames _ out _ (frozen is_at c sx sd) e = cc
finish_means f frames _ out _ (no_names_yet open_at c sx sd) e = cc
finish_means f frames _ out _ (more_names open_at comma_at c sx sd sn) e = cc
finish_means f frames _ out _ (has_names open_at c sx sd sn) e = cc
finish_means f frames _ out _ (is_ready open_at close_at c sx sd sn) e = cc

-- soundness
pub sound : (ts : List PlacedTerminal) (g : PlainState) (out : List PlainItem) → feeds start ts ≡ Some g → finish g ≡ Some out → Spelled ts out
sound ts g out e f = finish_means g.focus g.frames g.out out ts (feeds_mean ts start g [] start_means e) f
