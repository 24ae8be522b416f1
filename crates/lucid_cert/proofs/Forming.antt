-- How a judgment in the making begins, has one more use, and ends; and that it stays what it is while others are made.
use Rattle.lucid_cert.proofs.Common.{◌≡◌, ℕ, ◌+◌, ◌<◌, ◌≤◌, true, List, [], ◌∷◌, ◌++◌, map, length, Option, Some, None, get_or, refl, sym, ap, ◌∙◌, subst, arith, length-append, eq-eqb, IfSome, slice_get, AllByRecursion, option_and_then, map-append, slice_get-get_or, slice_get_within, PlainValue, Head, Elements, goes_to, AllDiffer, plan, Context, KeepsKnown, context_of, number_of, stream_at, streams, Inputs, node_at, node_by, part_number, parts, row_at, Node, Input, Table, PlainJudgment, Onward, given, is_context, of_part, used, AreFedAlike, CanGoOn, HasHead, IsForm, LooksInside, Stands, by_then, rest_plan, IsOfContext, PassesOn, going, row_onward, Position, Rest, MayBe, gives_only, plain_look, told, stream_there, Trace, gone, GivesBy, IsForming, IsJudgmentAt, IsPassing, IsWaiting, MayJudge, Spot, WaitsFor, spot_at, Making, Next}
use Rattle.lucid_tags.specs.Contexts.{same_context}
use Rattle.lucid_tags.specs.EqualityDecides.{same_context_is_equality}
use Rattle.lucid_inputs.specs.Reading.{GivesElement}
use Rattle.lucid_demand_steps.proofs.Places.{reads_its_element}
use Rattle.lucid_cert_rules.specs.Follows.{by_onward}
use Rattle.lucid_cert_rules.specs.Checking.{IsWithin}
use Rattle.lucid_cert_rules.specs.declared.rest.Look.{Look}
use Rattle.lucid_cert_rules.specs.declared.rest.Rest.TheVariants as rest
use Rattle.lucid_cert_rules.proofs.ContextTags.{keeps_tag}
use Rattle.lucid_cert_rules.proofs.GivenBy.{form_gives, input_gives, passes_gives}
use Rattle.lucid_cert.proofs.Using.{told_there}
use Rattle.lucid_cert.specs.Traces.{begun}
use Rattle.lucid_cert.specs.Makers.{values_for}
use Rattle.lucid_cert.specs.declared.making.Next.TheVariants as next
use Rattle.lucid_cert.proofs.Growing.{both_hold, earlier_still, in_known, look_still, stays_known, there_is, told_still, use_has}
use Rattle.lucid_cert.proofs.Tracing.{ends, push_length, traced_by}

-- A judgment of a node in a known context at a point is a use of it.
pub is_used : (known : List Context) (js : List PlainJudgment) (at : Position) (s u : ℕ) → IsOfContext known at.context → (h : IsJudgmentAt js (spot_at at s) u)
    → used (map Some known) js (length js) at.node (context_of known at.context) at.time s u ≡ Some h.judgment.value
is_used known js at s u there h =
    use_has (map Some known) js (length js) at.node (context_of known at.context) at.time s u h.judgment.value (record {
      earlier = slice_get_within js u h.judgment h.there;
      judgment = h.judgment;
      there = h.there;
      is = both_hold _ _ (eq-eqb h.judgment.node at.node node)
          (both_hold _ _ (ap (λ (o : Option Context). is_context o (context_of known at.context)) context ∙ same)
          (both_hold _ _ (eq-eqb h.judgment.time at.time time) (eq-eqb h.judgment.space s space)));
      value = refl;
    })
  where
    node : h.judgment.node ≡ at.node
    node = ap (λ (x : Spot). x.node) h.its_spot

    time : h.judgment.time ≡ at.time
    time = ap (λ (x : Spot). x.time) h.its_spot

    space : h.judgment.space ≡ s
    space = ap (λ (x : Spot). x.space) h.its_spot

    context : get_or (map Some known) h.judgment.context None ≡ Some (context_of known at.context)
    context = ap (λ (n : ℕ). get_or (map Some known) n None) (ap (λ (x : Spot). x.context) h.its_spot) ∙ in_known known (number_of at.context) there.known_tag

    same : same_context (context_of known at.context) (context_of known at.context) ≡ true
    same = (same_context_is_equality (context_of known at.context) (context_of known at.context)).1 refl

module _ (T : Table) (known : List Context) (js : List PlainJudgment) (at : Position) (space : ℕ) (node : Node) (row : row_at T at.node ≡ Some node)
    (meaning : node_at T at.node ≡ node_by T node) where
  -- It begins as its form's plan does.
  pub forming_begins : (r : Rest) → IsForm node → ((f : Head) → HasHead T node f → (m most : ℕ) → at.time + most ≤ m
      → AreFedAlike most (plan m f at.time space) (rest_plan m [] r)) → Stands 0 r
      → LooksInside (length (parts node)) r → IsForming T known js at space [] r
  forming_begins r form begins stands inside =
      record {
        node = node;
        row = row;
        meaning = meaning;
        form = form;
        trace = λ f has. begun r (begins f has) stands;
        stands = stands;
        earlier = tt;
        inside = inside;
      }

-- With one more use, of the look that stands next, it goes on as that does.
module _ (T : Table) (known : List Context) (js : List PlainJudgment) (at : Position) (space : ℕ) (uses : List ℕ) (l : Look)
    (f : IsForming T known js at space uses (rest.Look l)) (u : ℕ) (v : PlainValue) (r : Rest)
    (p : ℕ) (part : part_number T at.node l.part ≡ Some p) (context : IsOfContext known at.context)
    (it : IsJudgmentAt js (spot_at (record at { node = p; time = l.time }) l.space) u) (is : v ≡ told js u) where
  its_value : values_for T known js at (plain_look l) u ≡ Some v
  its_value =
      ap (option_and_then (λ n. used (map Some known) js (length js) n (context_of known at.context) l.time l.space u)) part
      ∙ (is_used known js (record at { node = p; time = l.time }) l.space u context it ∙ ap Some (sym (is ∙ told_there js u it.judgment it.there)))

  more_told : map (told js) uses ++ v ∷ [] ≡ map (told js) (uses ++ u ∷ [])
  more_told = ap (λ (x : PlainValue). map (told js) uses ++ x ∷ []) is ∙ sym (map-append (told js) uses (u ∷ []))

  pub forming_goes : ((m k most : ℕ) (ws : List PlainValue) → CanGoOn k l → k + 1 + most ≤ m
      → AreFedAlike most (by_then m ws l.then l.part l.time l.space v) (rest_plan m (ws ++ v ∷ []) r))
      → ((k : ℕ) → CanGoOn k l → Stands (k + 1) r) → LooksInside (length (parts f.node)) r → IsForming T known js at space (uses ++ u ∷ []) r
  forming_goes goes stands inside = record {
    node = f.node;
    row = f.row;
    meaning = f.meaning;
    form = f.form;
    trace = λ h has. subst (λ (vs : List PlainValue). Trace (λ m. plan m h at.time space) at.time (values_for T known js at) (uses ++ u ∷ []) vs r) more_told
        (gone uses (map (told js) uses) l u v r (f.trace h has) its_value goes stands);
    stands = subst (λ k. Stands k r) (sym (push_length uses u)) (stands (length uses) f.stands);
    earlier = all_and uses f.earlier;
    inside = inside;
  }
    where
      all_and : (us : List ℕ) → AllByRecursion (λ x. x < length js) us → AllByRecursion (λ x. x < length js) (us ++ u ∷ [])
      all_and [] h = (slice_get_within js u it.judgment it.there, tt)
      all_and (x ∷ us) h = (h.0, all_and us h.1)

-- Where it gives a value by itself, its node gives that from its uses.
pub forming_ends : (T : Table) (known : List Context) (js : List PlainJudgment) (at : Position) (space : ℕ) (uses : List ℕ) (r : Rest) (v : PlainValue)
    → IsForming T known js at space uses r
    → ((m : ℕ) → gives_only (rest_plan m (map (told js) uses) r) v) → (b : Elements) → GivesBy T b known js at space uses v
forming_ends T known js at space uses r v f gives b =
    let g = form_gives T b (used (map Some known) js (length js)) at.node f.node f.row f.meaning (context_of known at.context) at.time space uses f.form in
    g.gives ∙ ends (λ m. plan m g.head at.time space) at.time (values_for T known js at) (f.trace g.head g.has) v (gives (at.time + length uses))

-- What passes on has one use, whose value it has.
pub passing_ends : (T : Table) (known : List Context) (js : List PlainJudgment) (at : Position) (space : ℕ) (uses : List ℕ) (on : Position) (u : ℕ)
    (v : PlainValue) → IsPassing T known at space uses on
    → IsJudgmentAt js (spot_at on space) u → v ≡ told js u → (b : Elements) → GivesBy T b known js at space (uses ++ u ∷ []) v
passing_ends T known js at space uses on u v p it is b =
    ap (λ (us : List ℕ). given T b (used (map Some known) js (length js)) at.node (context_of known at.context) at.time space (us ++ u ∷ [])) p.no_uses
    ∙ (passes_gives T b (used (map Some known) js (length js)) at.node p.node (context_of known at.context) at.time space (u ∷ []) p.passes p.row p.meaning
    ∙ (ap (λ (o : Onward). by_onward b (used (map Some known) js (length js)) o space (u ∷ [])) (sym p.goes)
    ∙ (is_used known js on space u p.may.context it ∙ ap Some (sym (is ∙ told_there js u it.judgment it.there)))))

-- While others are made it stays what it is.
module _ (T : Table) (old new : List Context) (keeps : KeepsKnown old new) (js more : List PlainJudgment) where
  pub may_still : (at : Position) (space : ℕ) → MayJudge T old at space → MayJudge T new at space
  may_still at space m = record { within = m.within; context = keeps_tag old new at.context keeps m.context; space_in_range = m.space_in_range }

  values_still : (at : Position) → IsOfContext old at.context → (l : _) (u : ℕ) (v : PlainValue) → values_for T old js at l u ≡ Some v
      → values_for T new (js ++ more) at l u ≡ Some v
  values_still at there l u v e =
      let same = keeps.same at.context there.known_tag in
      subst (λ (c : Context). of_part T (used (map Some new) (js ++ more) (length (js ++ more))) at.node c l u ≡ Some v) (sym same)
      (look_still T (map Some old) (map Some new) js more (length js) (length (js ++ more)) at.node (context_of old at.context) l u v
      (stays_known old new keeps) (omega (arith, length-append js more)) e)

  pub forming_still : (at : Position) (space : ℕ) (uses : List ℕ) (r : Rest) → IsOfContext old at.context → IsForming T old js at space uses r
      → IsForming T new (js ++ more) at space uses r
  forming_still at space uses r there f = record {
    node = f.node;
    row = f.row;
    meaning = f.meaning;
    form = f.form;
    trace = λ h has. subst (λ (vs : List PlainValue). Trace (λ m. plan m h at.time space) at.time (values_for T new (js ++ more) at) uses vs r)
        (sym (told_still js more uses f.earlier))
        (traced_by (λ m. plan m h at.time space) at.time (values_for T old js at) (values_for T new (js ++ more) at) (values_still at there) (f.trace h has));
    stands = f.stands;
    earlier = earlier_still js more uses f.earlier;
    inside = f.inside;
  }

  pub passing_still : (at : Position) (space : ℕ) (uses : List ℕ) (on : Position) → IsOfContext old at.context → IsPassing T old at space uses on
      → IsPassing T new at space uses on
  passing_still at space uses on there p = record {
    node = p.node;
    row = p.row;
    meaning = p.meaning;
    passes = p.passes;
    no_uses = p.no_uses;
    goes =
        ap (λ (c : Context). goes_to tt (record { number = on.node; context = c }) on.time) (keeps.same on.context p.may.context.known_tag)
        ∙ (p.goes ∙ ap (λ (c : Context). row_onward T p.node c at.time) (sym (keeps.same at.context there.known_tag)));
    may = may_still on space p.may;
  }

  waits_still : (w : Making) (n : Next) → IsOfContext old w.at.context → WaitsFor T old js w n → WaitsFor T new (js ++ more) w n
  waits_still w (next.Look l) there h = (forming_still w.at w.space w.uses.items (rest.Look l) there h.0, h.1, h.2)
  waits_still w (next.Position on references) there h = (passing_still w.at w.space w.uses.items on there h.0, h.1)

  pub waiting_still : (w : Making) → IsWaiting T old js w → IsWaiting T new (js ++ more) w
  waiting_still w h = record { may = may_still w.at w.space h.may; waits = waits_still w w.next h.may.context h.waits }

-- An input gives its element, which was read.
pub input_given : (T : Table) (known : List Context) (js : List PlainJudgment) (at : Position) (space k : ℕ) → row_at T at.node ≡ Some (Input k)
    → node_at T at.node ≡ node_by T (Input k) → AllDiffer T.inputs
    → k < length T.inputs → (new : Inputs) → length (streams new) ≡ length T.inputs → (v : PlainValue) → GivesElement (stream_at new k) at.time v
    → (b : Elements) → MayBe T new b → GivesBy T b known js at space [] v
input_given T known js at space k row meaning differ below new count v gives b may =
    input_gives T b (used (map Some known) js (length js)) at.node k (context_of known at.context) at.time space [] row meaning
    ∙ may (get_or T.inputs k []) at.time v (reads_its_element T.inputs (streams new) k at.time (get_or T.inputs k []) (stream_at new k) v differ
    (slice_get-get_or T.inputs k [] below)
    (stream_there new k (omega (arith, below, count))) gives)

-- What passes on waits for what it goes on with.
pub passing_begins : (T : Table) (old new : List Context) → KeepsKnown old new → (at : Position) (space : ℕ) (node : Node) → row_at T at.node ≡ Some node
    → node_at T at.node ≡ node_by T node → PassesOn node
    → MayJudge T old at space → (o : Option Position) (on : Position) → o ≡ Some on → going new o ≡ row_onward T node (context_of old at.context) at.time
    → IfSome o (λ p. IsOfContext new p.context)
    → IfSome o (IsWithin T) → (uses : List ℕ) → uses ≡ [] → IsPassing T new at space uses on
passing_begins T old new keeps at space node row meaning passes may o on is goes there within uses none = record {
  node = node;
  row = row;
  meaning = meaning;
  passes = passes;
  no_uses = none;
  goes =
      ap (going new) (sym is) ∙ (goes ∙ ap (λ (c : Context). row_onward T node c at.time) (sym (keeps.same at.context may.context.known_tag)));
  may = record {
    within = subst (λ (x : Option Position). IfSome x (IsWithin T)) is within;
    context = subst (λ (x : Option Position). IfSome x (λ p. IsOfContext new p.context)) is there;
    space_in_range = may.space_in_range;
  };
}

-- What a rest gives is given by the same rest; the judgment of a look's part, and where it is looked for.
pub look_forming : (T : Table) (known : List Context) (js : List PlainJudgment) (at : Position) (space : ℕ) (uses : List ℕ) (r : Rest) (l : Look)
    → r ≡ rest.Look l → IsForming T known js at space uses r
    → IsForming T known js at space uses (rest.Look l)
look_forming T known js at space uses r l e f = subst (IsForming T known js at space uses) e f

-- the part of a look is there
pub part_there : (T : Table) (known : List Context) (js : List PlainJudgment) (at : Position) (space : ℕ) (uses : List ℕ) (l : Look)
    → IsForming T known js at space uses (rest.Look l)
    → (p : ℕ) × (part_number T at.node l.part ≡ Some p)
part_there T known js at space uses l f =
    let p = there_is (parts f.node) l.part f.inside.part in
    (p.0, ap (option_and_then (λ (n : Node). slice_get (parts n) l.part)) f.row ∙ p.1)
