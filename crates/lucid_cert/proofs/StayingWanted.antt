-- What each step makes of what waits.
use Rattle.lucid_cert.proofs.Common.{◌≡◌, ℕ, ◌+◌, ◌-◌, ◌<◌, ◌≤◌, List, [], ◌∷◌, ◌++◌, Some, None, ◌⊎◌, inl, inr, sym, ap, ◌∙◌, subst, arith, true≢false, Result, Ok, Err, OnOk, IsErrOf, Bool, true, false, IsTrue, ◌↔◌, cases_lt, PlainValue, Elements, nowhere, Context, IsKnown, KeepsKnown, context_of, IsInRange, row_at, Node, Input, Table, PlainTask, task_val, PassesOn, going, row_onward, by_then, least_of, rest_plan, AreFedAlike, CanGoOn, Stands, Position, Rest, told, DemandFault, TooDeep, HasUse, AreFollowing, IsJudgmentAt, MayJudge, IsSoundMaker, IsWaiting, Wants, Grows, spot_at, table_in, judgments_of, IsWanted, HasCome, MayWait, AllMayWait, AreWanted, StaysWanted, task_at, references_of, Maker, Making}
use Rattle.lucid_cert_rules.specs.declared.rest.Look.{Look}
use Rattle.lucid_cert_rules.specs.declared.rest.Rest.TheVariants as rest
use Rattle.lucid_cert.specs.declared.making.Next.TheVariants as next
use Rattle.lucid_cert.proofs.Wanting.{passed_is_wanted, passed_nowhere, input_too_deep}
use Rattle.lucid_cert.proofs.LookingOn.{look_too_deep}
use Rattle.lucid_cert.proofs.Keeping.{each_more}
use Rattle.lucid_cert.proofs.WaitingOn.{all_wait_on, next_is_wanted, look_wants, use_goes_on}

module _ (T : Table) (b : Elements) (root : PlainTask) where
  -- One more waits.
  pub one_more_waits : (known : List Context) (ws more : List Making) (w : Making) → more ≡ ws ++ w ∷ [] → MayWait T b root known w
      → AllMayWait T b root known ws → AllMayWait T b root known more
  one_more_waits known ws more w is h all = subst (λ (xs : List Making). AllMayWait T b root known xs) (sym is) (each_more (MayWait T b root known) ws w all h)

  -- It waits for a look.
  pub waits_for_look : (known : List Context) (w : Making) (l : Look) → IsWanted T b root (task_at known w.at w.space w.limit)
      → HasCome T b (task_at known w.at w.space w.limit) (rest.Look l)
      → MayWait T b root known (record w { next = next.Look l })
  waits_for_look known w l own come = record { own = own; next = come }

  -- It waits for what it goes on with, in contexts that may be more.
  module _ (range : IsInRange T) (old new : List Context) (keeps : KeepsKnown old new) (w : Making) (space : ℕ) (may : MayJudge T old w.at space) (n : Node)
      (there : row_at T w.at.node ≡ Some n)
      (passes : PassesOn n) (own : IsWanted T b root (task_at old w.at w.space w.limit)) where
    same : task_at old w.at w.space w.limit ≡ task_at new w.at w.space w.limit
    same = ap (λ (c : Context). record (task_at old w.at w.space w.limit) { context = c }) (sym (keeps.same w.at.context may.context.known_tag))

    context : context_of old w.at.context ≡ context_of new w.at.context
    context = sym (keeps.same w.at.context may.context.known_tag)

    own_now : IsWanted T b root (task_at new w.at w.space w.limit)
    own_now = subst (λ (x : PlainTask). IsWanted T b root x) same own

    pub waits_on : (on : Position) → going new (Some on) ≡ row_onward T n (context_of old w.at.context) w.at.time → references_of n ≤ w.limit
        → MayWait T b root new (record w { next = next.Position on (references_of n) })
    waits_on on goes few = record {
      own = own_now;
      next = passed_is_wanted T b root (task_at new w.at w.space w.limit) own_now range new on n there passes
          (goes ∙ ap (λ (c : Context). row_onward T n c w.at.time) context) few;
    }

    pub goes_nowhere : nowhere ≡ row_onward T n (context_of old w.at.context) w.at.time → task_val T b root ≡ None
    goes_nowhere goes = passed_nowhere T b root (task_at old w.at w.space w.limit) own range n there passes goes

-- ---- of certificates in the making

not_deep : {P : Type 0} → ◌≡◌ {A = Result (Unit {0}) DemandFault} (Ok tt) (Err TooDeep) → P
not_deep e = absurd (cc)

module _ (b : Elements) (root : PlainTask) where
  -- the same wait, where more contexts are known
  pub waits_later : (old new : Maker) → IsSoundMaker old → new.waiting.items ≡ old.waiting.items → table_in new ≡ table_in old → KeepsKnown old.tags new.tags
      → AreWanted b root old → AreWanted b root new
  waits_later old new sound is table keeps all =
      subst (λ (ws : List Making). AllMayWait (table_in new) b root new.tags ws) (sym is)
      (subst (λ (T : Table). AllMayWait T b root new.tags old.waiting.items) (sym table)
      (all_wait_on (table_in old) b root old.tags new.tags (judgments_of old) keeps old.waiting.items sound.waits all))

  -- what is wanted is, where more contexts are known
  pub wanted_later : (T : Table) (old new : List Context) (keeps : KeepsKnown old new) (at : Position) (s m : ℕ) → IsKnown old at.context
      → IsWanted T b root (task_at old at s m)
      → IsWanted T b root (task_at new at s m)
  wanted_later T old new keeps at s m known h =
      subst (λ (c : Context). IsWanted T b root (record (task_at old at s m) { context = c })) (sym (keeps.same at.context known)) h

  module _ (old new : Maker) where
    pub stays_ok : AreWanted b root new → StaysWanted b root old new (Ok tt)
    stays_ok all = record { waits = all; deep = λ e. not_deep e }

    pub stays_deep : task_val (table_in old) b root ≡ None → StaysWanted b root old new (Err TooDeep)
    stays_deep none = record { waits = tt; deep = λ e. none }

    -- a refusal that isn't too deep
    pub stays_refused : (result : Result (Unit {0}) DemandFault) → OnOk result (AreWanted b root new) → (IsErrOf result TooDeep → ⊥)
        → StaysWanted b root old new result
    stays_refused result waits deep = record { waits = waits; deep = λ e. absurd (deep e) }

  -- over two steps
  pub stays_then : (old mid new : Maker) (result : Result (Unit {0}) DemandFault) → table_in mid ≡ table_in old → StaysWanted b root mid new result
      → StaysWanted b root old new result
  stays_then old mid new result table s = record {
    waits = s.waits;
    deep = λ e. subst (λ (T : Table). task_val T b root ≡ None) table (s.deep e);
  }

  -- A look waits, or is too deep.
  module _ (old new : Maker) (range : IsInRange (table_in old)) (w : Making) (l : Look)
      (own : IsWanted (table_in old) b root (task_at old.tags w.at w.space w.limit))
      (come : HasCome (table_in old) b (task_at old.tags w.at w.space w.limit) (rest.Look l)) where
    pub look_stays : (MayWait (table_in old) b root old.tags (record w { next = next.Look l }) → AreWanted b root old → AreWanted b root new)
        → AreWanted b root old
        → StaysWanted b root old new (Ok tt)
    look_stays wait all = stays_ok old new (wait (waits_for_look (table_in old) b root old.tags w l own come) all)

    pub look_refused : (allowed : Bool) → (IsTrue allowed ↔ (least_of l.then l.time ≤ w.limit)) → allowed ≡ false → StaysWanted b root old new (Err TooDeep)
    look_refused allowed is off = stays_deep old new
        (look_too_deep (table_in old) range b (task_at old.tags w.at w.space w.limit) l come root own (high (cases_lt w.limit (least_of l.then l.time))))
      where
        high : (w.limit < least_of l.then l.time) ⊎ (least_of l.then l.time ≤ w.limit) → w.limit < least_of l.then l.time
        high (inl h) = h
        high (inr h) = let t : true ≡ false = sym (is.1 h) ∙ off in absurd (true≢false t)

  -- What passes on waits for what it goes on with, or is too deep.
  module _ (old mid new : Maker) (sound : IsSoundMaker old) (range : IsInRange (table_in old)) (keeps : KeepsKnown old.tags mid.tags)
      (table : table_in mid ≡ table_in old)
      (waiting : mid.waiting.items ≡ old.waiting.items) (w : Making) (may : MayJudge (table_in old) old.tags w.at w.space) (n : Node)
      (there : row_at (table_in old) w.at.node ≡ Some n)
      (passes : PassesOn n) (own : IsWanted (table_in old) b root (task_at old.tags w.at w.space w.limit)) where
    pub on_stays : (on : Position) (references : ℕ) → going mid.tags (Some on) ≡ row_onward (table_in old) n (context_of old.tags w.at.context) w.at.time
        → references ≡ references_of n → references ≤ w.limit
        → (MayWait (table_in mid) b root mid.tags (record w { next = next.Position on references }) → AreWanted b root mid → AreWanted b root new)
        → AreWanted b root old
        → StaysWanted b root old new (Ok tt)
    on_stays on references goes is few wait all =
        let h : MayWait (table_in old) b root mid.tags (record w { next = next.Position on (references_of n) }) =
        waits_on (table_in old) b root range old.tags mid.tags keeps w w.space may n there passes own on goes (omega (arith, is, few)) in
        stays_ok old new (wait
        (subst (λ (T : Table). MayWait T b root mid.tags (record w { next = next.Position on references })) (sym table)
        (subst (λ (r : ℕ). MayWait (table_in old) b root mid.tags (record w { next = next.Position on r })) (sym is) h))
        (waits_later old mid sound waiting table keeps all))

    pub nowhere_refused : nowhere ≡ row_onward (table_in old) n (context_of old.tags w.at.context) w.at.time → StaysWanted b root old new (Err TooDeep)
    nowhere_refused goes = stays_deep old new (goes_nowhere (table_in old) b root range old.tags mid.tags keeps w w.space may n there passes own goes)

  -- An input with no reference left is too deep.
  pub input_refused : (old new : Maker) → IsInRange (table_in old) → (at : Position) (space limit k : ℕ) → row_at (table_in old) at.node ≡ Some (Input k)
      → limit ≡ 0
      → IsWanted (table_in old) b root (task_at old.tags at space limit) → StaysWanted b root old new (Err TooDeep)
  input_refused old new range at space limit k there none own =
      stays_deep old new (input_too_deep (table_in old) b root (task_at old.tags at space limit) own range k there none)

  -- The judgment that is wanted next begins, once the one that wants it waits.
  module _ (old mid new : Maker) (range : IsInRange (table_in old)) (grows : Grows (table_in old) old.tags (judgments_of old) mid) (w : Making) (at : Position)
      (s r : ℕ) (known : IsKnown old.tags at.context)
      (is : IsWaiting (table_in old) old.tags (judgments_of old) w) (wants : Wants (table_in old) w at s r) (result : Result (Unit {0}) DemandFault) where
    pub next_stays : (MayWait (table_in old) b root old.tags w → AreWanted b root old → AreWanted b root mid)
        → (IsInRange (table_in mid) → IsWanted (table_in mid) b root (task_at mid.tags at s (w.limit - r)) → AreWanted b root mid
        → StaysWanted b root mid new result)
        → MayWait (table_in old) b root old.tags w → AreWanted b root old → StaysWanted b root old new result
    next_stays wait begin may all =
        let next = wanted_later (table_in old) old.tags mid.tags grows.keeps at s (w.limit - r) known
        (next_is_wanted (table_in old) range b root old.tags (judgments_of old) w at s r is may wants) in
        stays_then old mid new result grows.table
        (begin (subst IsInRange (sym grows.table) range) (subst (λ (T : Table). IsWanted T b root (task_at mid.tags at s (w.limit - r))) (sym grows.table) next)
        (wait may all))

  -- With a use of what a look wants, its judgment goes on.
  module _ (old new : Maker) (range : IsInRange (table_in old)) (follow : AreFollowing b old) (w more : Making) (number : ℕ) (has : HasUse w number more)
      (l : Look) (looks : more.next ≡ next.Look l)
      (is : IsWaiting (table_in old) old.tags (judgments_of old) w)
      (it : (at : Position) (s r : ℕ) → Wants (table_in old) w at s r → IsJudgmentAt (judgments_of old) (spot_at at s) number)
      (v : PlainValue) (same : v ≡ told (judgments_of old) number) (r : Rest)
      (goes : (m k most : ℕ) (vs : List PlainValue) → CanGoOn k l → k + 1 + most ≤ m
      → AreFedAlike most (by_then m vs l.then l.part l.time l.space v) (rest_plan m (vs ++ v ∷ []) r))
      (stands : (k : ℕ) → CanGoOn k l → Stands (k + 1) r) (result : Result (Unit {0}) DemandFault) where
    its_task : task_at old.tags w.at w.space w.limit ≡ task_at old.tags more.at more.space more.limit
    its_task =
        ap (λ (p : Position). task_at old.tags p w.space w.limit) (sym has.at)
        ∙ (ap (λ (q : ℕ). task_at old.tags more.at q w.limit) (sym has.space) ∙ ap (λ (q : ℕ). task_at old.tags more.at more.space q) (sym has.limit))

    pub use_stays : (IsWanted (table_in old) b root (task_at old.tags more.at more.space more.limit)
        → HasCome (table_in old) b (task_at old.tags more.at more.space more.limit) r → AreWanted b root old
        → StaysWanted b root old new result) → MayWait (table_in old) b root old.tags w → AreWanted b root old → StaysWanted b root old new result
    use_stays go may all =
        let it_looks : w.next ≡ next.Look l = sym has.next ∙ looks in
        let wants = look_wants (table_in old) old.tags (judgments_of old) w l it_looks is in
        let come = use_goes_on (table_in old) range b root old.tags (judgments_of old) w l wants.0 l.space number v r it_looks may follow wants.2 wants.1
        (it wants.0 l.space 0 wants.1) same goes stands in
        go (subst (λ (x : PlainTask). IsWanted (table_in old) b root x) its_task may.own)
        (subst (λ (x : PlainTask). HasCome (table_in old) b x r) its_task come) all
