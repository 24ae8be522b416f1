-- All that wait may wait: as contexts become known, with one more, and with one fewer. What one wants next is wanted, and with it it goes on.
use Rattle.lucid_cert.proofs.Common.{◌≡◌, ℕ, ◌+◌, ◌-◌, ◌≤◌, List, [], ◌∷◌, ◌++◌, map, length, Option, Some, refl, sym, ap, ◌∙◌, subst, arith, get_or, slice_get, option_map, option_and_then, slice_get-get_or, PlainValue, slice_get-push_same, Elements, Context, IsKnown, KeepsKnown, context_of, number_of, NodeMeans, IsInRange, equations_of, node_at, part_number, parts, Node, Table, PlainTask, look_task, PlainJudgment, context_in, by_then, rest_plan, CanGoOn, Stands, AreFedAlike, Position, Rest, told, plain_look, Each, IsJudgmentAt, spot_at, Spot, MayJudge, IsWaiting, WaitsFor, Wants, WantsBy, FollowAmong, IsWanted, HasCome, MayWait, AllMayWait, task_at, Making, Next}
use Rattle.lucid_cert_rules.specs.declared.rest.Look.{Look}
use Rattle.lucid_cert_rules.specs.declared.rest.Rest.TheVariants as rest
use Rattle.lucid_cert.specs.Wanted.{MayWant}
use Rattle.lucid_cert.specs.declared.making.Next.TheVariants as next
use Rattle.lucid_cert.proofs.Using.{told_there}
use Rattle.lucid_cert.proofs.Growing.{in_known}
use Rattle.lucid_cert.proofs.LookingOn.{look_is_wanted, has_come_on}
use Rattle.lucid_cert.proofs.MeantSoFar.{judgment_means}

-- ---- lists

-- the last of a list
pub each_last : {A : Type 0} (P : A → Type 0) (xs : List A) (x : A) → Each P (xs ++ x ∷ []) → P x
each_last P xs x all = all (length xs) x (slice_get-push_same xs x)

-- ---- more contexts

module _ (T : Table) (b : Elements) (root : PlainTask) (old new : List Context) (js : List PlainJudgment) (keeps : KeepsKnown old new) where
  same_task : (at : Position) (s m space : ℕ) → MayJudge T old at space → task_at old at s m ≡ task_at new at s m
  same_task at s m space may = ap (λ (c : Context). record (task_at old at s m) { context = c }) (sym (keeps.same at.context may.context.known_tag))

  want_on : (w : Making) (n : Next) → MayJudge T old w.at w.space → WaitsFor T old js w n → MayWant T b root old w n → MayWant T b root new w n
  want_on w (next.Look l) may f h = subst (λ (x : PlainTask). HasCome T b x (rest.Look l)) (same_task w.at w.space w.limit w.space may) h
  want_on w (next.Position on references) may f h =
      subst (λ (x : PlainTask). IsWanted T b root x) (same_task on w.space (w.limit - references) w.space f.0.may) h

  wait_on : (w : Making) → IsWaiting T old js w → MayWait T b root old w → MayWait T b root new w
  wait_on w is h = record {
    own = subst (λ (x : PlainTask). IsWanted T b root x) (same_task w.at w.space w.limit w.space is.may) h.own;
    next = want_on w w.next is.may is.waits h.next;
  }

  -- All that may wait still may.
  pub all_wait_on : (ws : List Making) → Each (IsWaiting T old js) ws → AllMayWait T b root old ws → AllMayWait T b root new ws
  all_wait_on ws are all i w e = wait_on w (are i w e) (all i w e)

-- ---- what is wanted next

module _ (T : Table) (range : IsInRange T) (b : Elements) (root : PlainTask) (known : List Context) (js : List PlainJudgment) (w : Making) where
  abbrev pub own_task : PlainTask
  own_task = task_at known w.at w.space w.limit

  -- the task of a look's part
  part_task : (l : Look) (k : ℕ) → part_number T w.at.node l.part ≡ Some k
      → look_task T own_task (plain_look l) ≡ Some (record
      { node = k; context = context_of known w.at.context; time = l.time; space = l.space; limit = w.limit })
  part_task l k e = ap (option_map (λ (n : ℕ). record { node = n; context = context_of known w.at.context; time = l.time; space = l.space; limit = w.limit })) e

  module _ (at : Position) (s r : ℕ) where
    wanted_by : (n : Next) → WaitsFor T known js w n → MayWant T b root known w n → IsWanted T b root own_task → WantsBy T w n at s r
        → IsWanted T b root (task_at known at s (w.limit - r))
    wanted_by (next.Look l) f h own by =
        let y : PlainTask = record { node = at.node; context = context_of known w.at.context; time = l.time; space = l.space; limit = w.limit } in
        let part = look_is_wanted T range b own_task l h root own f.1 y (part_task l at.node by.0) in
        let limit : w.limit ≡ w.limit - r = omega (arith, by.4) in
        let same : y ≡ task_at known at s (w.limit - r) =
        ap (λ (c : Context). record y { context = c }) (ap (context_of known) (sym by.1))
        ∙ (ap (λ (t : ℕ). record (task_at known at l.space w.limit) { time = t }) (sym by.2)
        ∙ (ap (λ (q : ℕ). task_at known at q w.limit) (sym by.3) ∙ ap (λ (m : ℕ). task_at known at s m) limit)) in
        subst (λ (x : PlainTask). IsWanted T b root x) same part
    wanted_by (next.Position on references) f h own by =
        let e : task_at known on w.space (w.limit - references) ≡ task_at known at s (w.limit - r) =
        ap (λ (p : Position). task_at known p w.space (w.limit - references)) (sym by.0)
        ∙ (ap (λ (q : ℕ). task_at known at q (w.limit - references)) (sym by.1) ∙ ap (λ (q : ℕ). task_at known at s (w.limit - q)) (sym by.2)) in
        subst (λ (x : PlainTask). IsWanted T b root x) e h

    pub next_is_wanted : IsWaiting T known js w → MayWait T b root known w → Wants T w at s r → IsWanted T b root (task_at known at s (w.limit - r))
    next_is_wanted is h wants = wanted_by w.next is.waits h.next h.own wants.by

    -- A judgment of what is wanted has the value that its node means.
    pub use_means : FollowAmong T b known js → IsKnown known at.context → (number : ℕ) → IsJudgmentAt js (spot_at at s) number
        → NodeMeans (equations_of T) b (node_at T at.node) (context_of known at.context) at.time s (told js number)
    use_means follow may number is =
        let j = is.judgment in
        let node : j.node ≡ at.node = ap (λ (x : Spot). x.node) is.its_spot in
        let context : j.context ≡ number_of at.context = ap (λ (x : Spot). x.context) is.its_spot in
        let time : j.time ≡ at.time = ap (λ (x : Spot). x.time) is.its_spot in
        let space : j.space ≡ s = ap (λ (x : Spot). x.space) is.its_spot in
        let there : context_in (map Some known) j.context ≡ Some (context_of known at.context) =
        ap (context_in (map Some known)) context ∙ in_known known (number_of at.context) may in
        let P0 : ℕ → Type 0 = λ n. NodeMeans (equations_of T) b (node_at T n) (context_of known at.context) j.time j.space j.value in
        let P1 : ℕ → Type 0 = λ t. NodeMeans (equations_of T) b (node_at T at.node) (context_of known at.context) t j.space j.value in
        let P2 : ℕ → Type 0 = λ q. NodeMeans (equations_of T) b (node_at T at.node) (context_of known at.context) at.time q j.value in
        let P3 : PlainValue → Type 0 = λ v. NodeMeans (equations_of T) b (node_at T at.node) (context_of known at.context) at.time s v in
        subst P3 (sym (told_there js number j is.there))
        (subst P2 space
        (subst P1 time (subst P0 node (judgment_means T range b (map Some known) js follow number j (context_of known at.context) is.there there))))

  -- With the value of such a judgment the plan goes on from a look.
  pub use_goes_on : (l : Look) (at : Position) (s number : ℕ) (v : PlainValue) (r : Rest) → w.next ≡ next.Look l → MayWait T b root known w
      → FollowAmong T b known js → IsKnown known at.context
      → Wants T w at s 0 → IsJudgmentAt js (spot_at at s) number → v ≡ told js number
      → ((m k most : ℕ) (vs : List PlainValue) → CanGoOn k l → k + 1 + most ≤ m
      → AreFedAlike most (by_then m vs l.then l.part l.time l.space v) (rest_plan m (vs ++ v ∷ []) r))
      → ((k : ℕ) → CanGoOn k l → Stands (k + 1) r) → HasCome T b own_task r
  use_goes_on l at s number v r is h follow may wants it same goes stands =
      let come : HasCome T b own_task (rest.Look l) = subst (λ (n : Next). MayWant T b root known w n) is h.next in
      let by : WantsBy T w (next.Look l) at s 0 = subst (λ (n : Next). WantsBy T w n at s 0) is wants.by in
      let means = use_means at s 0 follow may number it in
      let P0 : Context → Type 0 = λ c. NodeMeans (equations_of T) b (node_at T at.node) c at.time s (told js number) in
      let P1 : ℕ → Type 0 = λ t. NodeMeans (equations_of T) b (node_at T at.node) (context_of known w.at.context) t s (told js number) in
      let P2 : ℕ → Type 0 = λ q. NodeMeans (equations_of T) b (node_at T at.node) (context_of known w.at.context) l.time q (told js number) in
      let P3 : PlainValue → Type 0 = λ x. NodeMeans (equations_of T) b (node_at T at.node) (context_of known w.at.context) l.time l.space x in
      has_come_on T range b own_task l come (record {
        node = at.node;
        context = context_of known w.at.context;
        time = l.time;
        space = l.space;
        limit = w.limit;
      }) v r (part_task l at.node by.0)
      (subst P3 (sym same) (subst P2 by.3 (subst P1 by.2 (subst P0 (ap (context_of known) by.1) means)))) goes stands

-- A look wants its part, in a known context.
module _ (T : Table) (known : List Context) (js : List PlainJudgment) (w : Making) where
  pub look_wants : (l : Look) → w.next ≡ next.Look l → IsWaiting T known js w → (at : Position) × (Wants T w at l.space 0) × (IsKnown known at.context)
  look_wants l is waits =
      let f : WaitsFor T known js w (next.Look l) = subst (λ (n : Next). WaitsFor T known js w n) is waits.waits in
      let part = slice_get-get_or (parts f.0.node) l.part 0 f.0.inside.part in
      let number : part_number T w.at.node l.part ≡ Some (get_or (parts f.0.node) l.part 0) =
      ap (λ (o : Option Node). option_and_then (λ n. slice_get (parts n) l.part) o) f.0.row ∙ part in
      let at : Position = record { node = get_or (parts f.0.node) l.part 0; context = w.at.context; time = l.time } in
      let by : WantsBy T w (next.Look l) at l.space 0 = (number, refl, refl, refl, refl) in
      (at, record { by = subst (λ (n : Next). WantsBy T w n at l.space 0) (sym is) by }, waits.may.context.known_tag)
