-- The machine looks at no name and no value: its steps over names and values that are read through two functions are its steps read so.
use Rattle.lucid_parse.proofs.Common.{◌≡◌, ℕ, List, [], ◌∷◌, ◌++◌, map, Option, Some, None, Bool, true, false, cond, refl, sym, ◌∙◌, ap, option_map, nat_eq, map-append, Form, Before, Between, Called, Terminal, CalledOperator, Definition, Frame, Item, Operator, level_of, operator_in, State, state, takes, shift, inner_frames, inner_out, after_frame, close, settle_at, settle, prefixed, begun, begin, step_named, step_heads, step_headed, step_frozen, step_names, step_listed, step_ready, step_opens, step_at, step, if_empty, finished, finish_at, finish, fill_terminal, fill_item, fill_state, nat_le}
use Rattle.lucid_parse.specs.declared.terminal.Terminal.TheVariants as terminal
use Rattle.lucid_parse.specs.declared.state.Frame.TheVariants as frame
use Rattle.lucid_parse.specs.declared.state.Focus.{Focus}
use Rattle.lucid_parse.specs.declared.state.Focus.TheVariants as focus
use Rattle.lucid_parse.specs.declared.state.Item.TheVariants as item
use Rattle.lucid_parse.specs.Machine.{close_top}
use Rattle.lucid_parse.specs.Fill.{fill_definition, fill_frame, fill_focus}
use Rattle.lucid_parse.specs.declared.operator.Operator.TheVariants.{Stream}
use Rattle.lucid_tree.specs.declared.form.Form.TheVariants as forms

module _ {M N V W : Type 0} (f : M → N) (g : V → W) where
  abbrev frames_of : List (Frame M) → List (Frame N)
  frames_of frames = map (fill_frame f) frames

  abbrev out_of : List (Item M V) → List (Item N W)
  out_of out = map (fill_item f g) out

  abbrev into : Option (State M V) → Option (State N W)
  into o = option_map (fill_state f g) o

  push : (out : List (Item M V)) (i : Item M V) → out_of out ++ fill_item f g i ∷ [] ≡ out_of (out ++ i ∷ [])
  push out i = sym (map-append (fill_item f g) out (i ∷ []))

  filled_cond : (b : Bool) (x y : Option (State M V)) (v w : Option (State N W)) → v ≡ into x → w ≡ into y → cond b v w ≡ into (cond b x y)
  filled_cond true x y v w e h = e
  filled_cond false x y v w e h = h

  filled_shift : (frames : List (Frame M)) (operator : Operator) (at level allowed : ℕ) (out : List (Item M V))
      → shift operator at level allowed (frames_of frames) (out_of out) ≡ into (shift operator at level allowed frames out)
  filled_shift (frame.Operator waiting place outer ∷ frames) operator at level allowed out =
      filled_cond (takes operator level allowed) _ _ _ _ refl
      (ap (shift operator at (level_of waiting) outer (frames_of frames)) (push out (item.Operator waiting place))
      ∙ filled_shift frames operator at (level_of waiting) outer (out ++ item.Operator waiting place ∷ []))
  filled_shift [] operator at level allowed out = filled_cond (takes operator level allowed) _ _ _ _ refl refl
  filled_shift (x ∷ frames) operator at level allowed out = filled_cond (takes operator level allowed) _ _ _ _ refl refl

  filled_inner_frames : (frames : List (Frame M)) → inner_frames (frames_of frames) ≡ frames_of (inner_frames frames)
  filled_inner_frames (frame.Operator operator place allowed ∷ frames) = filled_inner_frames frames
  filled_inner_frames [] = refl
  filled_inner_frames (x ∷ frames) = refl

  filled_inner_out : (frames : List (Frame M)) (out : List (Item M V)) → inner_out (frames_of frames) (out_of out) ≡ out_of (inner_out frames out)
  filled_inner_out (frame.Operator operator place allowed ∷ frames) out = ap (inner_out (frames_of frames)) (push out (item.Operator operator place))
      ∙ filled_inner_out frames (out ++ item.Operator operator place ∷ [])
  filled_inner_out [] out = refl
  filled_inner_out (x ∷ frames) out = refl

  -- a state whose output has one node more
  one_more : (x : Focus N) (frames : List (Frame N)) (out : List (Item M V)) (i : Item M V)
      → ◌≡◌ {A = Option (State N W)} (Some (state x frames (out_of out ++ fill_item f g i ∷ []))) (Some (state x frames (out_of (out ++ i ∷ []))))
  one_more x frames out i = ap (λ o. Some (state x frames o)) (push out i)

  filled_after : (x : Frame M) (terminal : Terminal M V) (frames : List (Frame M)) (out : List (Item M V))
      → after_frame (fill_frame f x) (fill_terminal f g terminal) (frames_of frames) (out_of out) ≡ into (after_frame x terminal frames out)
  filled_after (frame.Parenthesis allowed) terminal.Close frames out = refl
  filled_after (frame.Test place allowed) terminal.Then frames out = refl
  filled_after (frame.Yes place allowed) terminal.Else frames out = refl
  filled_after (frame.No place allowed) terminal.Fi frames out = one_more _ _ out (item.Operator (Stream forms.If) place)
  filled_after (frame.Arguments place n allowed) terminal.Comma frames out = one_more _ _ out item.More
  filled_after (frame.Arguments place n allowed) terminal.Close frames out =
      ap (λ o. Some (state (focus.Have 12 allowed) (frames_of frames) (o ++ item.Call place (f n) ∷ []))) (push out item.More)
      ∙ one_more _ _ (out ++ item.More ∷ []) (item.Call place n)
  filled_after (frame.Operands called more) terminal.Comma frames out = filled_cond (nat_eq more 0) _ _ _ _ refl refl
  filled_after (frame.Operands called more) terminal.Close frames out =
      filled_cond (nat_eq more 0) _ _ _ _ (one_more _ _ out (item.Operator called.op called.at)) refl
  filled_after (frame.RightSide d this) terminal.Semicolon frames out = one_more _ _ out (item.Def d this.at this.name)
  filled_after _ _ frames out = refl

  filled_close_top : (terminal : Terminal M V) (frames : List (Frame M)) (out : List (Item M V))
      → close_top (fill_terminal f g terminal) (frames_of frames) (out_of out) ≡ into (close_top terminal frames out)
  filled_close_top terminal [] out = refl
  filled_close_top terminal (x ∷ frames) out = filled_after x terminal frames out

  filled_close : (terminal : Terminal M V) (at : ℕ) (frames : List (Frame M)) (out : List (Item M V))
      → close (fill_terminal f g terminal) at (frames_of frames) (out_of out) ≡ into (close terminal at frames out)
  filled_close terminal.Where at frames out = one_more _ _ out item.NoDefs
  filled_close terminal at frames out = filled_close_top terminal frames out

  filled_settle_at : (o : Option Operator) (terminal : Terminal M V) (at level allowed : ℕ) (frames : List (Frame M)) (out : List (Item M V))
      → settle_at o (fill_terminal f g terminal) at level allowed (frames_of frames) (out_of out) ≡ into (settle_at o terminal at level allowed frames out)
  filled_settle_at (Some operator) terminal at level allowed frames out = filled_shift frames operator at level allowed out
  filled_settle_at None terminal at level allowed frames out =
      ap (λ l. close (fill_terminal f g terminal) at l (inner_out (frames_of frames) (out_of out))) (filled_inner_frames frames)
      ∙ ap (close (fill_terminal f g terminal) at (frames_of (inner_frames frames))) (filled_inner_out frames out)
      ∙ filled_close terminal at (inner_frames frames) (inner_out frames out)

  filled_operator : (wanted : Form) (terminal : Terminal M V) → operator_in wanted (fill_terminal f g terminal) ≡ operator_in wanted terminal
  filled_operator wanted (terminal.Operator operator) = refl
  filled_operator Between terminal.Minus = refl
  filled_operator Before terminal.Minus = refl
  filled_operator _ _ = refl

  filled_settle : (terminal : Terminal M V) (at level allowed : ℕ) (frames : List (Frame M)) (out : List (Item M V))
      → settle (fill_terminal f g terminal) at level allowed (frames_of frames) (out_of out) ≡ into (settle terminal at level allowed frames out)
  filled_settle terminal at level allowed frames out =
      ap (λ o. settle_at o (fill_terminal f g terminal) at level allowed (frames_of frames) (out_of out)) (filled_operator Between terminal)
      ∙ filled_settle_at (operator_in Between terminal) terminal at level allowed frames out

  filled_prefixed : (o : Option Operator) (at allowed : ℕ) (frames : List (Frame M)) (out : List (Item M V))
      → prefixed o at allowed (frames_of frames) (out_of out) ≡ into (prefixed o at allowed frames out)
  filled_prefixed None at allowed frames out = refl
  filled_prefixed (Some operator) at allowed frames out = filled_cond (nat_le allowed (level_of operator)) _ _ _ _ refl refl

  filled_begun : (o p : Option Operator) (at allowed : ℕ) (frames : List (Frame M)) (out : List (Item M V))
      → begun o p at allowed (frames_of frames) (out_of out) ≡ into (begun o p at allowed frames out)
  filled_begun (Some operator) p at allowed frames out = refl
  filled_begun None p at allowed frames out = filled_prefixed p at allowed frames out

  filled_begin : (terminal : Terminal M V) (at allowed : ℕ) (frames : List (Frame M)) (out : List (Item M V))
      → begin (fill_terminal f g terminal) at allowed (frames_of frames) (out_of out) ≡ into (begin terminal at allowed frames out)
  filled_begin (terminal.Name n) at allowed frames out = refl
  filled_begin (terminal.Const v) at allowed frames out = one_more _ _ out (item.Const at v)
  filled_begin terminal.If at allowed frames out = refl
  filled_begin terminal.Open at allowed frames out = refl
  filled_begin terminal at allowed frames out =
      ap (λ o. begun o (operator_in Before (fill_terminal f g terminal)) at allowed (frames_of frames) (out_of out)) (filled_operator Called terminal)
      ∙ ap (λ o. begun (operator_in Called terminal) o at allowed (frames_of frames) (out_of out)) (filled_operator Before terminal)
      ∙ filled_begun (operator_in Called terminal) (operator_in Before terminal) at allowed frames out

  filled_named : (terminal : Terminal M V) (at place : ℕ) (n : M) (allowed : ℕ) (frames : List (Frame M)) (out : List (Item M V))
      → step_named (fill_terminal f g terminal) at place (f n) allowed (frames_of frames) (out_of out) ≡ into
      (step_named terminal at place n allowed frames out)
  filled_named terminal.Open at place n allowed frames out = one_more _ _ out item.NoTrees
  filled_named terminal at place n allowed frames out =
      ap (settle (fill_terminal f g terminal) at 12 allowed (frames_of frames)) (push out (item.Name place n))
      ∙ filled_settle terminal at 12 allowed frames (out ++ item.Name place n ∷ [])

  filled_heads : (terminal : Terminal M V) (at block : ℕ) (frames : List (Frame M)) (out : List (Item M V))
      → step_heads (fill_terminal f g terminal) at block (frames_of frames) (out_of out) ≡ into (step_heads terminal at block frames out)
  filled_heads (terminal.Name n) at block frames out = refl
  filled_heads terminal.End at block frames out = one_more _ _ out (item.Block block)
  filled_heads _ at block frames out = refl

  filled_headed : (terminal : Terminal M V) (this : Definition M) (frames : List (Frame M)) (out : List (Item M V))
      → step_headed (fill_terminal f g terminal) (fill_definition f this) (frames_of frames) (out_of out) ≡ into (step_headed terminal this frames out)
  filled_headed terminal.Equals this frames out = refl
  filled_headed terminal.Is this frames out = refl
  filled_headed terminal.Open this frames out = one_more _ _ out item.NoNames
  filled_headed _ this frames out = refl

  filled_frozen : (terminal : Terminal M V) (this : Definition M) (frames : List (Frame M)) (out : List (Item M V))
      → step_frozen (fill_terminal f g terminal) (fill_definition f this) (frames_of frames) (out_of out) ≡ into (step_frozen terminal this frames out)
  filled_frozen terminal.Current this frames out = refl
  filled_frozen _ this frames out = refl

  filled_names : (terminal : Terminal M V) (at : ℕ) (this : Definition M) (frames : List (Frame M)) (out : List (Item M V))
      → step_names (fill_terminal f g terminal) at (fill_definition f this) (frames_of frames) (out_of out) ≡ into (step_names terminal at this frames out)
  filled_names (terminal.Name name) at this frames out = one_more _ _ out (item.Param at name)
  filled_names _ at this frames out = refl

  filled_listed : (terminal : Terminal M V) (this : Definition M) (frames : List (Frame M)) (out : List (Item M V))
      → step_listed (fill_terminal f g terminal) (fill_definition f this) (frames_of frames) (out_of out) ≡ into (step_listed terminal this frames out)
  filled_listed terminal.Comma this frames out = refl
  filled_listed terminal.Close this frames out = refl
  filled_listed _ this frames out = refl

  filled_ready : (terminal : Terminal M V) (this : Definition M) (frames : List (Frame M)) (out : List (Item M V))
      → step_ready (fill_terminal f g terminal) (fill_definition f this) (frames_of frames) (out_of out) ≡ into (step_ready terminal this frames out)
  filled_ready terminal.Equals this frames out = refl
  filled_ready _ this frames out = refl

  filled_opens : (terminal : Terminal M V) (called : CalledOperator) (frames : List (Frame M)) (out : List (Item M V))
      → step_opens (fill_terminal f g terminal) called (frames_of frames) (out_of out) ≡ into (step_opens terminal called frames out)
  filled_opens terminal.Open called frames out = refl
  filled_opens _ called frames out = refl

  filled_step_at : (x : Focus M) (terminal : Terminal M V) (at : ℕ) (frames : List (Frame M)) (out : List (Item M V))
      → step_at (fill_focus f x) (fill_terminal f g terminal) at (frames_of frames) (out_of out) ≡ into (step_at x terminal at frames out)
  filled_step_at (focus.Await allowed) terminal at frames out = filled_begin terminal at allowed frames out
  filled_step_at (focus.Named place n allowed) terminal at frames out = filled_named terminal at place n allowed frames out
  filled_step_at (focus.Have level allowed) terminal at frames out = filled_settle terminal at level allowed frames out
  filled_step_at (focus.Heads block) terminal at frames out = filled_heads terminal at block frames out
  filled_step_at (focus.Headed this) terminal at frames out = filled_headed terminal this frames out
  filled_step_at (focus.Frozen this) terminal at frames out = filled_frozen terminal this frames out
  filled_step_at (focus.Names this) terminal at frames out = filled_names terminal at this frames out
  filled_step_at (focus.Listed this) terminal at frames out = filled_listed terminal this frames out
  filled_step_at (focus.Ready this) terminal at frames out = filled_ready terminal this frames out
  filled_step_at (focus.Opens called) terminal at frames out = filled_opens terminal called frames out

  pub filled_step : (h : State M V) (terminal : Terminal M V) (at : ℕ)
      → step (fill_state f g h) (fill_terminal f g terminal) at ≡ option_map (fill_state f g) (step h terminal at)
  filled_step h terminal at = filled_step_at h.focus terminal at h.frames h.out

  filled_if_empty : (frames : List (Frame M)) (out : List (Item M V))
      → if_empty (frames_of frames) (out_of out) ≡ option_map (map (fill_item f g)) (if_empty frames out)
  filled_if_empty [] out = refl
  filled_if_empty (x ∷ frames) out = refl

  filled_finished : (frames : List (Frame M)) (out : List (Item M V))
      → finished (frames_of frames) (out_of out) ≡ option_map (map (fill_item f g)) (finished frames out)
  filled_finished frames out =
      ap (λ l. if_empty l (inner_out (frames_of frames) (out_of out))) (filled_inner_frames frames)
      ∙ ap (if_empty (frames_of (inner_frames frames))) (filled_inner_out frames out)
      ∙ filled_if_empty (inner_frames frames) (inner_out frames out)

  filled_finish_at : (x : Focus M) (frames : List (Frame M)) (out : List (Item M V))
      → finish_at (fill_focus f x) (frames_of frames) (out_of out) ≡ option_map (map (fill_item f g)) (finish_at x frames out)
  filled_finish_at (focus.Named place n allowed) frames out = ap (finished (frames_of frames)) (push out (item.Name place n))
      ∙ filled_finished frames (out ++ item.Name place n ∷ [])
  filled_finish_at (focus.Have level allowed) frames out = filled_finished frames out
  filled_finish_at _ frames out = refl

  pub filled_finish : (h : State M V) → finish (fill_state f g h) ≡ option_map (map (fill_item f g)) (finish h)
  filled_finish h = filled_finish_at h.focus h.frames h.out
