-- Whether a judgment follows, by what was looked at.
use Rattle.lucid_cert.proofs.CheckCommon.{◌≡◌, ◌↔◌, ℕ, ◌+◌, ◌<◌, true, false, List, [], ◌∷◌, length, Option, Some, get_or, refl, sym, ap, ◌∙◌, ◌⊎◌, inl, inr, subst, arith, ◌==◌, Result, Ok, Err, IfOk, IsErrAnd, slice_get, same_Some, slice_get-get_or, PlainValue, Head, plan, Elements, AllDiffer, Context, context_of, Tag, World, Inputs, streams, stream_at, table_of, row_at, Node, Input, Table, PlainJudgment, plain_judgment, JudgmentRow, fed, used, of_part, by_onward, FollowsIn, HasHead, row_onward, MayBe, judgments_of, contexts_in, IsSameCheck, TellsElement, ReadsFor, nothing_read, element_read, Check, CheckFault, NoMemory, eq-eqb, IfErr, eqb-true}
use Rattle.std.proofs.Common.{Bool}
use Rattle.lucid_tree.specs.Levels.{element_of}
use Rattle.lucid_inputs.specs.Reading.{GivesElement}
use Rattle.lucid_equations.specs.Rows.{node_at, node_by}
use Rattle.lucid_equations.specs.declared.rows.Node.TheVariants.{Freeze, Refer, Call}
use Rattle.lucid_demand_steps.proofs.Places.{reads_its_element}
use Rattle.lucid_cert_rules.specs.Follows.{given, HasForm}
use Rattle.lucid_cert_rules.specs.RestPlans.{IsForm}
use Rattle.lucid_cert_rules.specs.Checking.{PassesOn}
use Rattle.lucid_cert_rules.proofs.GivenBy.{form_gives, input_gives, passes_gives, follows_where}
use Rattle.lucid_cert.specs.Checks.{HasRow}
use Rattle.lucid_cert.specs.CheckReads.{TellsSame, ReadsElement}
use Rattle.lucid_cert.proofs.Drawing.{stream_there}
use Rattle.lucid_cert.proofs.Using.{item_at}

module _ (T : Table) (cs : List (Option Context)) (js : List PlainJudgment) (i : ℕ) (j : PlainJudgment) (there : slice_get js i ≡ Some j) where
  same : (t : PlainJudgment) → slice_get js i ≡ Some t → t ≡ j
  same t e = same_Some t j (sym e ∙ there)

  never : {A : Type 0} → (A → ⊥) → (false ≡ true) ↔ A
  never none = (λ e. absurd (cc), λ f. absurd (none f))

  module _ (n : Node) (c : Context) (form : HasForm T cs j c) (row : row_at T j.node ≡ Some n) (is : node_at T j.node ≡ node_by T n) where
    -- what its node gives from its uses
    abbrev pub Gives : Elements → Type 0
    Gives b = given T b (used cs js i) j.node c j.time j.space j.uses ≡ Some j.value

    by_given : (b : Elements) (it : Bool) → (it ≡ true) ↔ Gives b → (it ≡ true) ↔ FollowsIn T b cs js i
    by_given b it h = follows_where T b cs js i j c it there form h

    -- another equation of what is given
    by_equation : (b : Elements) (it : Bool) (o : Option PlainValue) → given T b (used cs js i) j.node c j.time j.space j.uses ≡ o
        → (it ≡ true) ↔ (o ≡ Some j.value) → (it ≡ true) ↔ FollowsIn T b cs js i
    by_equation b it o e h = by_given b it (λ x. e ∙ h.0 x, λ x. h.1 (sym e ∙ x))

    -- it is of another node than an input
    pub no_input_tells : ((k : ℕ) → n ≡ Input k → ⊥) → (k t : ℕ) → TellsElement T cs js i k t → ⊥
    no_input_tells other k t e = other k (same_Some n (Input k)
        (sym row ∙ (ap (λ (x : PlainJudgment). row_at T x.node) (sym (same e.judgment e.there)) ∙ e.row)))

    -- of a form:
    pub form_follows : (b : Elements) (it : Bool) → IsForm n
        → ((id : ℕ) (f : Head) → row_at T id ≡ Some n → HasHead T n f
        → (it ≡ true) ↔ (fed (of_part T (used cs js i) id c) (plan (j.time + length j.uses) f j.time j.space) j.uses ≡ Some
        j.value)) → (it ≡ true) ↔ FollowsIn T b cs js i
    form_follows b it is_form h =
        let g = form_gives T b (used cs js i) j.node n row is c j.time j.space j.uses is_form in
        by_equation b it (fed (of_part T (used cs js i) j.node c) (plan (j.time + length j.uses) g.head j.time j.space) j.uses) g.gives
        (h j.node g.head row g.has)

    -- of a frozen time, a reference or a call:
    pub passes_follows : (b : Elements) (it : Bool) → PassesOn n
        → (it ≡ true) ↔ (by_onward b (used cs js i) (row_onward T n c j.time) j.space j.uses ≡ Some j.value) → (it ≡ true) ↔ FollowsIn T b cs js i
    passes_follows b it passes h =
        by_equation b it (by_onward b (used cs js i) (row_onward T n c j.time) j.space j.uses)
        (passes_gives T b (used cs js i) j.node n c j.time j.space j.uses passes row is) h

  -- Of an input:
  module _ (k : ℕ) (c : Context) (form : HasForm T cs j c) (row : row_at T j.node ≡ Some (Input k)) (is : node_at T j.node ≡ node_by T (Input k)) where
    pub tells_its_element : j.uses ≡ [] → TellsElement T cs js i k j.time
    tells_its_element none = record { judgment = j; there = there; context = c; form = form; row = row; no_uses = none; is_time = refl }

    -- with a use it doesn't follow,
    used_input : (b : Elements) (us : List ℕ) → (us ≡ [] → ⊥) → by_onward b (used cs js i) (element_of (get_or T.inputs k []) j.time) j.space us ≡ Some j.value
        → ⊥
    used_input b [] some e = absurd (some refl)
    used_input b (u ∷ us) some e = absurd (cc)

    pub used_input_tells : (j.uses ≡ [] → ⊥) → (q t : ℕ) → TellsElement T cs js i q t → ⊥
    used_input_tells some q t e = some (ap (λ (x : PlainJudgment). x.uses) (sym (same e.judgment e.there)) ∙ e.no_uses)

    pub used_input_follows : (j.uses ≡ [] → ⊥) → (b : Elements) → (false ≡ true) ↔ FollowsIn T b cs js i
    used_input_follows some b =
        by_equation (Input k) c form row is b false (by_onward b (used cs js i) (element_of (get_or T.inputs k []) j.time) j.space j.uses)
        (input_gives T b (used cs js i) j.node k c j.time j.space j.uses row is) (never (used_input b j.uses some))

    -- and without where its value is the element.
    one_input_follows : j.uses ≡ [] → AllDiffer T.inputs → k < length T.inputs → (new : Inputs) → length (streams new) ≡ length T.inputs
        → (it : Bool) (v : PlainValue) → GivesElement (stream_at new k) j.time v
        → (it ≡ true) ↔ (v ≡ j.value) → (b : Elements) → MayBe T new b → (it ≡ true) ↔ FollowsIn T b cs js i
    one_input_follows none differ below new count it v gives same_value b may =
        by_equation (Input k) c form row is b it (Some v)
        (input_gives T b (used cs js i) j.node k c j.time j.space j.uses row is
        ∙ (ap (λ (us : List ℕ). by_onward b (used cs js i) (element_of (get_or T.inputs k []) j.time) j.space us) none ∙ element))
        (λ e. ap Some (same_value.0 e), λ e. same_value.1 (same_Some v j.value e))
      where
        element : b (get_or T.inputs k []) j.time ≡ Some v
        element = may (get_or T.inputs k []) j.time v (reads_its_element T.inputs (streams new) k j.time (get_or T.inputs k []) (stream_at new k) v differ
            (slice_get-get_or T.inputs k [] below) (stream_there new k (omega (arith, below, count))) gives)

    pub input_follows : j.uses ≡ [] → AllDiffer T.inputs → k < length T.inputs → (new : Inputs) → length (streams new) ≡ length T.inputs
        → (result : Result Bool CheckFault) → TellsSame new k j.time j.value result
        → IfOk result (λ it. (b : Elements) → MayBe T new b → (it ≡ true) ↔ FollowsIn T b cs js i)
    input_follows none differ below new count (Err e) h = tt
    input_follows none differ below new count (Ok it) h = one_input_follows none differ below new count it h.0 h.1 h.2

-- whether there are uses, by their number
pub no_uses : (slice us : List ℕ) → slice ≡ us → true ≡ (length slice == 0) → us ≡ []
no_uses slice [] e h = refl
no_uses slice (u ∷ us) e h = absurd (omega (arith, eqb-true (length slice) 0 (sym h), ap length e))

pub some_uses : (slice us : List ℕ) → slice ≡ us → false ≡ (length slice == 0) → us ≡ [] → ⊥
some_uses slice us e h none = let f : length slice ≡ 0 = ap length (e ∙ none) in let g = eq-eqb (length slice) 0 f in absurd (cc)

-- what a node is that is no input, and whether it is told by another one
pub is_form : (n : Node) → ((k : ℕ) → n ≡ Input k → ⊥) → ((a : ℕ) → n ≡ Freeze a → ⊥) → ((m l : ℕ) → n ≡ Refer m l → ⊥) → ((m q l : ℕ) → n ≡ Call m q l → ⊥)
    → IsForm n
is_form (Input k) a b c d = a k refl
is_form (Freeze e) a b c d = b e refl
is_form (Refer m l) a b c d = c m l refl
is_form (Call m q l) a b c d = d m q l refl
is_form n a b c d = tt

pub passes : (n : Node) → ((a : ℕ) × (n ≡ Freeze a)) ⊎ (((m : ℕ) × (l : ℕ) × (n ≡ Refer m l)) ⊎ ((m : ℕ) × (q : ℕ) × (l : ℕ) × (n ≡ Call m q l))) → PassesOn n
passes n (inl e) = subst PassesOn (sym e.1) tt
passes n (inr (inl e)) = subst PassesOn (sym e.2) tt
passes n (inr (inr e)) = subst PassesOn (sym e.3) tt

pub form_no_input : (n : Node) → IsForm n → (k : ℕ) → n ≡ Input k → ⊥
form_no_input n h k e = subst IsForm e h

pub passes_no_input : (n : Node) → PassesOn n → (k : ℕ) → n ≡ Input k → ⊥
passes_no_input n h k e = subst PassesOn e h

-- a refusal for want of memory
pub no_memory_alone : (r : Result Bool CheckFault) → IsErrAnd r (λ e. e ≡ NoMemory) → IfErr r (λ e. e ≡ NoMemory)
no_memory_alone (Ok x) h = tt
no_memory_alone (Err e) h = h

pub no_answer : (r : Result Bool CheckFault) (P : Bool → Type 0) → IsErrAnd r (λ e. e ≡ NoMemory) → IfOk r P
no_answer (Ok x) P h = absurd h
no_answer (Err e) P h = tt

pub same_check : (c : Check) → IsSameCheck c c
same_check c = record { program = refl; judgments = refl; contexts = refl }

-- The same of a check.
module _ (c : Check) (i : ℕ) (d : JudgmentRow) (below : i < length (judgments_of c)) (n : Node) (tag : Tag)
    (h : HasRow (table_of c.program.now) c (plain_judgment (get_or c.judgments.now i d)) n tag) where
  abbrev T : Table
  T = table_of c.program.now

  abbrev j : PlainJudgment
  j = plain_judgment (get_or c.judgments.now i d)

  at : slice_get (judgments_of c) i ≡ Some j
  at = item_at c.judgments.now i d below

  abbrev Follows : Elements → Type 0
  Follows b = FollowsIn T b (contexts_in c) (judgments_of c) i

  pub by_form : IsForm n → (b : Elements) (it : Bool)
      → ((id : ℕ) (f : Head) → row_at T id ≡ Some n → HasHead T n f
      → (it ≡ true) ↔ (fed (of_part T (used (contexts_in c) (judgments_of c) i) id (context_of c.tags tag)) (plan (j.time + length j.uses) f j.time j.space)
      j.uses ≡ Some j.value)) → (it ≡ true) ↔ Follows b
  by_form is_form b it = form_follows T (contexts_in c) (judgments_of c) i j at n (context_of c.tags tag) h.form h.row h.meaning b it is_form

  pub by_passing : PassesOn n → (b : Elements) (it : Bool)
      → (it ≡ true) ↔ (by_onward b (used (contexts_in c) (judgments_of c) i) (row_onward T n (context_of c.tags tag) j.time) j.space j.uses ≡ Some j.value)
      → (it ≡ true) ↔ Follows b
  by_passing passes b it = passes_follows T (contexts_in c) (judgments_of c) i j at n (context_of c.tags tag) h.form h.row h.meaning b it passes

  pub reads_nothing : ((k : ℕ) → n ≡ Input k → ⊥) → (old : Inputs) (w : World) (r : Result Bool CheckFault) → IfErr r (λ e. e ≡ NoMemory)
      → ReadsFor T (contexts_in c) (judgments_of c) i old old w w r
  reads_nothing other old w r own = nothing_read (no_input_tells T (contexts_in c) (judgments_of c) i j at n (context_of c.tags tag) h.form h.row h.meaning
      other) refl refl own

  module _ (k : ℕ) (is : n ≡ Input k) where
    input_row : row_at T j.node ≡ Some (Input k)
    input_row = h.row ∙ ap Some is

    input_node : node_at T j.node ≡ node_by T (Input k)
    input_node = h.meaning ∙ ap (node_by T) is

    pub by_used_input : (j.uses ≡ [] → ⊥) → (b : Elements) → (false ≡ true) ↔ Follows b
    by_used_input some b = used_input_follows T (contexts_in c) (judgments_of c) i j at k (context_of c.tags tag) h.form input_row input_node some b

    pub used_reads_nothing : (j.uses ≡ [] → ⊥) → (old : Inputs) (w : World) → ReadsFor T (contexts_in c) (judgments_of c) i old old w w (Ok false)
    used_reads_nothing some old w = nothing_read (used_input_tells T (contexts_in c) (judgments_of c) i j at k (context_of c.tags tag) h.form input_row
        input_node some) refl refl tt

    pub by_input : j.uses ≡ [] → AllDiffer T.inputs → (old new : Inputs) → length (streams old) ≡ length T.inputs
        → (before after : World) (r : Result Bool CheckFault) → ReadsElement old new k j.time before after r
        → TellsSame new k j.time j.value r → IfOk r (λ it. (b : Elements) → MayBe T new b → (it ≡ true) ↔ Follows b)
    by_input none differ old new count before after r reads same =
        input_follows T (contexts_in c) (judgments_of c) i j at k (context_of c.tags tag) h.form input_row input_node none differ
        (omega (arith, reads.there, count)) new (reads.reads.count ∙ count) r same

    pub reads_its_input : j.uses ≡ [] → (old new : Inputs) (before after : World) (r : Result Bool CheckFault) → ReadsElement old new k j.time before after r
        → ReadsFor T (contexts_in c) (judgments_of c) i old new before after r
    reads_its_input none old new before after r reads =
        element_read k j.time (tells_its_element T (contexts_in c) (judgments_of c) i j at k (context_of c.tags tag) h.form input_row input_node none) reads
