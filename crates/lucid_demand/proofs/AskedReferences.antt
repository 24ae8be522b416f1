-- Asking for a reference: what it gives, by what each call leaves.
use Rattle.lucid_demand.proofs.Common.{ℕ, suc, inl, inr, List, [], ◌∷◌, Option, None, sym, ap, ◌∙◌, subst, IsTrue, Value, plain, In, Elements, Context, Key, IsKnown, KeepsKnown, space_of, Task, TaskRow, value_at, IsTouched, Table, PlainTask, DatonAt, plain_task, plain_key, node_of, rank, moved, aim_of_task, IsReference, RefersTo, passed, passed_contexts, StandsFor, EngineView, holding, MayHave, stays, IsEntered, IsWanted, Remembers, task_as_tags_grow, Evaluating, cost, DemandIn, plain_aim, IsAim, Enters, SetsPart, MayAskFor, MayRefer, AsksIn, FindsAim, IsTurned, Aim, DemandFault, TooDeep, NoMemory}
use Rattle.std.proofs.Common.{◌≡◌, ◌<◌, ◌⊎◌, Some}
use Rattle.std.specs.Prelude.{IfOk, IfSome, Result, Ok, Err, length, option_map}
use Rattle.lucid_tree.specs.Levels.{nowhere}
use Rattle.lucid_tasks.specs.declared.Part.{Part}
use Rattle.lucid_tasks.specs.Rows as rows
use Rattle.lucid_demand_steps.specs.Demands.{table_of, Answers}
use Rattle.lucid_demand_steps.specs.Decisions.{leads_nowhere, too_deep_for}
use Rattle.lucid_demand_steps.proofs.Seeing.{key_as_tags_grow}
use Rattle.lucid_demand_steps.proofs.Standing.{standing-is_seen}
use Rattle.lucid_demand_steps.proofs.References.{references-stand}
use Rattle.lucid_demand_steps.proofs.Answering.{held-answers}
use Rattle.lucid_demand_steps.proofs.NewRows.{StandsBelow, body-stands, body-is_wanted, body-remembers}
use Rattle.lucid_demand_steps.specs.Parts.{GoesTo}
use Rattle.lucid_demand_steps.proofs.FoundAims.{body_task, aim_refers, aim_goes, refers_to_one, refers_nowhere}
use Rattle.lucid_demand.specs.Naming.{MayAskBody}
use Rattle.lucid_demand.proofs.TouchedKeys.{found_is_held, absent_is_no_stay}
use Rattle.lucid_demand.proofs.GrownTags.{way_is_entered}
use Rattle.lucid_demand.proofs.AskedParts.{EntersWay, may_ask_grown, may_ask_entered, may_ask_touched, costs_grown, asked_given, asked_refused, asked_too_deep, asked_turned, asked_from, only_set, given_sets}

-- what is so of what a call gives, where it gave that
at_ok : {A E : Type 0} (r : Result A E) (P : A → Type 0) (a : A) → r ≡ Ok a → IfOk r P → P a
at_ok r P a is h = subst (λ z. IfOk z P) is h

-- What a look-up leaves, and what was found.
pub record LooksUp (mid looked : Evaluating) (key : Key) (found : Option Value) : Type 0 where
  pub value : found ≡ value_at mid.engine.stored key
  pub touched : IsTouched mid.engine.stored looked.engine.stored key
  pub only : looked ≡ record mid { engine = record mid.engine { stored = looked.engine.stored } }

-- the same, seen so
pub seen_so : (mid o looked : Evaluating) (key : Key) (found : Option Value) → o ≡ looked → LooksUp mid looked key found → LooksUp mid o key found
seen_so mid o looked key found view l = subst (λ z. LooksUp mid z key found) (sym view) l

-- The body of an aim that was found is one of the table's nodes, where the engine is seen so.
pub aim_body_there : {F : Type 0} (old mid o looked : Evaluating) (x : Task) (result : Result (Option Aim) F) → FindsAim old mid x result → (a : Aim)
    → result ≡ Ok (Some a) → looked ≡ record mid { engine = record mid.engine { stored = looked.engine.stored } } → o ≡ looked
    → (depth : ℕ) (body : Task) → body ≡ body_task a depth → body.node < length o.engine.table.nodes
aim_body_there old mid o looked x result finds a is only view depth body is_body =
    subst (λ (z : Task). z.node < length o.engine.table.nodes) (sym is_body)
    (subst (λ T. a.body < length T.nodes) (sym (ap (λ (e : Evaluating). e.engine.table) view ∙ ap (λ (e : Evaluating). e.engine.table) only
    ∙ ap (λ (e : Evaluating). e.engine.table) finds.only))
    ((at_ok result (λ z. IfSome z (IsAim old.engine.table mid.engine.known (space_of x.tag))) (Some a) is finds.there).body))

module _ {F : Type 0} (old mid : Evaluating) (part : Option Part) (x : Task) (result : Result (Option Aim) F) (finds : FindsAim old mid x result)
    (reference : IsReference (node_of old.engine.table (plain_task old.engine.known x))) (i : DemandIn) (may : MayRefer i.demand old i.world part x) where
  abbrev T : Table
  T = table_of i.demand

  abbrev n : ℕ
  n = rank T (plain_task old.engine.known x)

  same_table : old.engine.table ≡ T
  same_table = may.owns.since.goes_on.table

  may_mid : MayAskFor i.demand mid i.world part x n
  may_mid = subst (λ z. MayAskFor i.demand z i.world part x n) (sym finds.only)
      (may_ask_entered i.demand old i.world part x n may mid.engine.known finds.keeps (finds.one_for_one may.owns.contexts)
      (subst (λ z. (c : Context) → In c mid.engine.known → In c old.engine.known ⊎ Enters z (plain_task old.engine.known x) c) same_table finds.entered))

  same_cost : cost i.demand mid ≡ cost i.demand old
  same_cost = ap (cost i.demand) finds.only ∙ costs_grown i.demand old i.world part x n may mid.engine.known finds.keeps

  is_reference : IsReference (node_of T (plain_task old.engine.known x))
  is_reference = subst (λ z. IsReference (node_of z (plain_task old.engine.known x))) same_table reference

  aim_of : (o : Option Aim) → result ≡ Ok o → plain_aim T mid.engine.known o ≡ aim_of_task T (plain_task mid.engine.known x)
  aim_of o is = subst (λ z. plain_aim z mid.engine.known o ≡ aim_of_task z (plain_task mid.engine.known x)) same_table
      (at_ok result (λ a. plain_aim old.engine.table mid.engine.known a ≡ aim_of_task old.engine.table (plain_task old.engine.known x)) o is
      (finds.aim reference)
      ∙ ap (aim_of_task old.engine.table) (sym (task_as_tags_grow old.engine.known mid.engine.known x finds.keeps may.tag)))

  -- There was no memory for its context.
  pub aim_refused : (res : Result (Option Value) DemandFault) → res ≡ Err NoMemory → AsksIn i.demand old mid i.world part res
  aim_refused res is = subst (λ r. AsksIn i.demand old mid i.world part r) (sym is) (asked_refused i.demand old mid i.world part x n may_mid same_cost mid.rows)

  -- It leads nowhere.
  pub nowhere_refused : result ≡ Ok None → AsksIn i.demand old mid i.world part (Err TooDeep)
  nowhere_refused is =
      let none : aim_of_task T (plain_task mid.engine.known x) ≡ nowhere = sym (aim_of None is) in
      asked_too_deep i.demand old mid i.world part x n may_mid same_cost (leads_nowhere is_reference none)
      (λ k r. absurd (refers_nowhere T (plain_task mid.engine.known x) k none r))

  -- It leads to a daton, whose key was looked up.
  module _ (a : Aim) (is : result ≡ Ok (Some a)) (looked : Evaluating) (found : Option Value) (looks : LooksUp mid looked a.key found) where
    may_looked : MayAskFor i.demand looked i.world part x n
    may_looked = subst (λ z. MayAskFor i.demand z i.world part x n) (sym looks.only)
        (may_ask_touched i.demand mid i.world part x n may_mid looked.engine.stored a.key looks.touched)

    same_cost_looked : cost i.demand looked ≡ cost i.demand old
    same_cost_looked = ap (cost i.demand) looks.only ∙ same_cost

    same_known : looked.engine.known ≡ mid.engine.known
    same_known = ap (λ (e : Evaluating). e.engine.known) looks.only

    abbrev its : PlainTask
    its = plain_task looked.engine.known x

    abbrev daton : DatonAt
    daton = plain_key looked.engine.known a.key

    aim_is : plain_aim T looked.engine.known (Some a) ≡ aim_of_task T its
    aim_is = subst (λ k. plain_aim T k (Some a) ≡ aim_of_task T (plain_task k x)) (sym same_known) (aim_of (Some a) is)

    aim_there : IsAim T looked.engine.known (space_of x.tag) a
    aim_there = subst (λ k. IsAim T k (space_of x.tag) a) (sym same_known)
        (subst (λ z. IsAim z mid.engine.known (space_of x.tag) a) same_table
        (at_ok result (λ o. IfSome o (IsAim old.engine.table mid.engine.known (space_of x.tag))) (Some a) is finds.there))

    refers : RefersTo T its daton
    refers = aim_refers T looked.engine.known its a aim_is aim_there

    -- what was found is held
    held_is : holding looked.engine daton.0 daton.1 ≡ option_map plain found
    held_is = subst (λ (z : Evaluating). holding z.engine (plain_key z.engine.known a.key).0 (plain_key z.engine.known a.key).1 ≡ option_map plain found)
        (sym looks.only)
        (found_is_held i.demand mid.engine i.world looked.engine.stored a.key may_mid.owns looks.touched found
        (subst (λ (k : List Context). a.key.tag.number < length k) same_known aim_there.key_known) looks.value)

    -- There was no memory for a copy of what is held.
    pub look_refused : (res : Result (Option Value) DemandFault) → res ≡ Err NoMemory → AsksIn i.demand old looked i.world part res
    look_refused res is_so = subst (λ r. AsksIn i.demand old looked i.world part r) (sym is_so)
        (asked_refused i.demand old looked i.world part x n may_looked same_cost_looked looked.rows)

    -- What is held is given, and the policy has its turn.
    pub look_given : (v : Value) → found ≡ Some v → (rs : List (Option TaskRow)) → rows.Gives looked.rows rs part v → (new : Evaluating)
        → IsTurned looked.engine new.engine → new.rows ≡ rs
        → (o : Option Value) → o ≡ rows.returned part v → AsksIn i.demand old new i.world part (Ok o)
    look_given v has rs gives new turned same o told = subst (λ r. AsksIn i.demand old new i.world part (Ok r)) (sym told)
        (asked_turned i.demand old (record { engine = looked.engine; rows = rs }) new i.world part (rows.returned part v)
        (asked_given i.demand old looked i.world part x n may_looked same_cost_looked rs v answers gives) turned same)
      where
        held : holding looked.engine daton.0 daton.1 ≡ Some (plain v)
        held = held_is ∙ ap (option_map plain) has

        -- nothing is held under a policy that empties
        not_emptied : IsTrue i.demand.first.empties → ⊥
        not_emptied empties = let both : None ≡ Some (plain v) = sym (may_looked.nothing empties daton.0 daton.1) ∙ held in absurd (cc)

        answers : (b : Elements) → MayHave looked.engine b → Answers i.demand b (holding looked.engine) looked.engine.stored.lost its (plain v)
        answers b z =
            let stock = may_looked.owns.stock.stock b z in
            held-answers i.demand b (holding looked.engine) looked.engine.stored.lost its daton (plain v) refers held not_emptied stock.right stock.closed

    -- Nothing was found.
    module _ (none : found ≡ None) where
      no_stay : stays i.demand daton.0 daton.1 ≡ None
      no_stay = absent_is_no_stay i.demand looked.engine i.world daton may_looked.owns (held_is ∙ ap (option_map plain) none)

      -- It would look one reference too deep.
      pub look_too_deep : x.depth ≡ 0 → AsksIn i.demand old looked i.world part (Err TooDeep)
      look_too_deep zero = asked_too_deep i.demand old looked i.world part x n may_looked same_cost_looked (too_deep_for refers zero)
          (λ k r. subst (λ z. stays i.demand z.0 z.1 ≡ None) (refers_to_one T its daton k refers r) no_stay)

      -- Its body moves on.
      module _ (depth : ℕ) (limit : x.depth ≡ suc depth) (body : Task) (is_body : body ≡ body_task a depth) (known : List Context)
          (way : EntersWay looked.engine.table looked.engine.known known body) where
        goes : GoesTo T its daton (plain_task looked.engine.known body)
        goes = subst (λ z. GoesTo T its daton (plain_task looked.engine.known z)) (sym is_body)
            (aim_goes T looked.engine.known its a aim_is aim_there depth limit)

        body_tag : IsKnown looked.engine.known body.tag
        body_tag = subst (λ (z : Task). IsKnown looked.engine.known z.tag) (sym is_body) aim_there.known_tag

        abbrev later : Evaluating
        later = record { engine = record looked.engine { known = known }; rows = looked.rows }

        entered : (b : Elements) → MayHave looked.engine b → (c : Context) → In c known → In c looked.engine.known ⊎ IsEntered i.demand b c
        entered b z c k = elim (way.entered c k) [
          | inl o ↦ inl o
          | inr j ↦ way_is_entered i.demand b looked.engine.known body c may_looked.demand.in_range body_tag
              (standing-is_seen i.demand b (daton ∷ []) (plain_task looked.engine.known body) its
              (references-stand T its (plain_task looked.engine.known body) daton goes) ((may_looked.wanted b z).seen))
              (suc body.node) (subst (λ t. In c (passed_contexts t (suc body.node) (plain_task looked.engine.known body))) may_looked.owns.since.goes_on.table
              j)
        ]

        may_later : MayAskFor i.demand later i.world part x n
        may_later = may_ask_grown i.demand looked i.world part x n may_looked known way.keeps (way.contexts may_looked.owns.contexts) entered

        same_cost_later : cost i.demand later ≡ cost i.demand old
        same_cost_later = costs_grown i.demand looked i.world part x n may_looked known way.keeps ∙ same_cost_looked

        -- There was no memory for a context on its way.
        pub body_refused : (rs : List (Option TaskRow)) (res : Result (Option Value) DemandFault) → res ≡ Err NoMemory
            → AsksIn i.demand old (record { engine = record looked.engine { known = known }; rows = rs }) i.world part res
        body_refused rs res is_so = subst (λ r. AsksIn i.demand old (record { engine = record looked.engine { known = known }; rows = rs }) i.world part r)
            (sym is_so)
            (asked_refused i.demand old later i.world part x n may_later same_cost_later rs)

        may_ask_body : (y : Task) → plain_task known y ≡ passed looked.engine.table (plain_task looked.engine.known body) → IsKnown known y.tag
            → MayAskBody i.demand later i.world part x y a.key
        may_ask_body y ends tag = record {
          least = n;
          may = may_later;
          stands = by_plain (λ k z t. StandsFor T (k ∷ []) t z) below.stands;
          still = ap (moved T) last ∙ below.still;
          lower = by_plain (λ k z t. rank T t < n) below.lower;
          tag = tag;
          key_tag = way.keeps.known a.key.tag aim_there.key_known;
          wanted = λ b z. by_plain (λ k q t. IsWanted i.demand b t)
              (body-is_wanted i.demand b its (passed T (plain_task looked.engine.known body)) daton below no_stay (may_looked.wanted b z));
          remembers = λ b z. by_plain (λ q u t. Remembers i.demand b t q)
              (body-remembers i.demand may_looked.demand.in_range b its (plain_task looked.engine.known body) daton ((may_looked.wanted b z).seen) goes no_stay);
        }
          where
            last : plain_task known y ≡ passed T (plain_task looked.engine.known body)
            last = subst (λ t. plain_task known y ≡ passed t (plain_task looked.engine.known body)) may_looked.owns.since.goes_on.table ends

            below : StandsBelow T its (passed T (plain_task looked.engine.known body)) daton
            below = body-stands T may_looked.demand.in_range its (plain_task looked.engine.known body) daton goes

            -- the key, the reference and the last task are seen as before
            by_plain : (P : DatonAt → PlainTask → PlainTask → Type 0) → P daton its (passed T (plain_task looked.engine.known body))
                → P (plain_key known a.key) (plain_task known x) (plain_task known y)
            by_plain P p =
                subst (λ t. P (plain_key known a.key) (plain_task known x) t) (sym last)
                (subst (λ z. P (plain_key known a.key) z (passed T (plain_task looked.engine.known body)))
                (sym (task_as_tags_grow looked.engine.known known x way.keeps may_looked.tag))
                (subst (λ k. P k its (passed T (plain_task looked.engine.known body)))
                (sym (key_as_tags_grow looked.engine.known known a.key way.keeps aim_there.key_known)) p))

        -- It may be asked for, and is.
        pub body_asked : (y : Task) → plain_task known y ≡ passed looked.engine.table (plain_task looked.engine.known body) → IsKnown known y.tag
            → (new : Evaluating) (res : Result (Option Value) DemandFault)
            → (MayAskBody i.demand later i.world part x y a.key → AsksIn i.demand later new i.world part res) → AsksIn i.demand old new i.world part res
        body_asked y ends tag new res asks = asked_from i.demand old later new i.world part res same_cost_later (asks (may_ask_body y ends tag))

-- What it does to the row of a part, whoever asks.
module _ {F : Type 0} (old mid looked : Evaluating) (x : Task) (result : Result (Option Aim) F) (finds : FindsAim old mid x result) (key : Key)
    (found : Option Value) (looks : LooksUp mid looked key found) where
  engine_is : looked.engine ≡ record old.engine { known = mid.engine.known; stored = looked.engine.stored }
  engine_is = ap (λ (e : Evaluating). e.engine) looks.only ∙ ap (λ (e : Evaluating). record e.engine { stored = looked.engine.stored }) finds.only

  same_rows : looked.rows ≡ old.rows
  same_rows = ap (λ (e : Evaluating). e.rows) looks.only ∙ ap (λ (e : Evaluating). e.rows) finds.only

  keeps_known : KeepsKnown old.engine.known looked.engine.known
  keeps_known = subst (λ (e : EngineView). KeepsKnown old.engine.known e.known) (sym engine_is) finds.keeps

  -- It has what is held, and the policy had its turn;
  pub held_sets : (part : Option Part) (v : Value) (rs : List (Option TaskRow)) → rows.Gives looked.rows rs part v → (new : Evaluating)
      → IsTurned looked.engine new.engine → new.rows ≡ rs → IfSome part (SetsPart old new)
  held_sets part v rs gives new t same =
      given_sets old new looked.rows same_rows
      (only_set new.engine old.engine mid.engine.known new.engine.stored new.engine.noted
      (t.only ∙ ap (λ (e : EngineView). record e { stored = new.engine.stored; noted = new.engine.noted }) engine_is))
      (subst (λ (e : EngineView). KeepsKnown old.engine.known e.known) (sym t.only) keeps_known) part v
      (subst (λ r. rows.Gives looked.rows r part v) (sym same) gives)

  -- or its body was asked for.
  pub body_sets : (part : Option Part) (known : List Context) → KeepsKnown looked.engine.known known → (new : Evaluating)
      → IfSome part (SetsPart (record { engine = record looked.engine { known = known }; rows = looked.rows }) new) → IfSome part (SetsPart old new)
  body_sets None known more new s = tt
  body_sets (Some p) known more new s = record {
    state = s.state;
    row = s.row ∙ ap (λ rs. option_map (rows.with_part p.index s.state) (rows.row_at rs p.slot)) same_rows;
    others = λ q there ne. s.others q (subst (λ rs. rows.IsRow rs q) (sym same_rows) there) ne ∙ ap (λ rs. rows.row_at rs q) same_rows;
    only = s.only ∙ ap (λ (e : EngineView). record e { known = new.engine.known; stored = new.engine.stored; noted = new.engine.noted }) engine_is;
    keeps = record {
      known = λ tag h. s.keeps.known tag (more.known tag (keeps_known.known tag h));
      same = λ tag h. s.keeps.same tag (more.known tag (keeps_known.known tag h)) ∙ more.same tag (keeps_known.known tag h) ∙ keeps_known.same tag h;
    };
  }
