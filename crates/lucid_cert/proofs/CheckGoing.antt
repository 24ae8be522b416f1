-- The loop over judgments.
use Rattle.lucid_cert.proofs.CheckCommon.{◌≡◌, ◌↔◌, ℕ, ◌+◌, ◌<◌, true, false, List, [], ◌∷◌, length, Option, Some, refl, sym, ap, ◌∙◌, subst, Result, Ok, Err, IfOk, IsErrAnd, Elements, Context, root, World, Inputs, streams, table_of, Table, AreAskable, PlainJudgment, Why, contexts, FollowsIn, IsOfRoot, MayBe, Checked, judgments_of, contexts_in, IsSoundCheck, IsSameCheck, ReadsFor, Check, CheckFault, Wrong}
use Rattle.std.proofs.Common.{Bool}
use Rattle.lucid_inputs.specs.Laws.{PlacesDiffer}
use Rattle.lucid_demand_steps.proofs.Reading.{inputs_apart}
use Rattle.lucid_cert_rules.specs.declared.rows.ContextRow.{ContextRow}
use Rattle.lucid_cert_rules.specs.Follows.{contexts_behind}
use Rattle.lucid_cert.proofs.Drawing.{nothing_yet}
use Rattle.lucid_cert.proofs.Judging.{FollowSoFar, LooksAt, none_so_far, one_follows, one_is_wrong, one_refused, all_right, not_the_root}

-- A check of this certificate against this table, of which the judgments below a number follow.
pub record GoesOn (T : Table) (w : Why) (old : Inputs) (before : World) (n : ℕ) (c : Check) (now : Inputs) (mid : World) : Type 0 where
  pub sound : IsSoundCheck c
  pub table : table_of c.program.now ≡ T
  pub judgments : judgments_of c ≡ w.judgments
  pub contexts : contexts_in c ≡ contexts T w
  pub so_far : FollowSoFar T w old before n now mid

-- None is looked at yet.
pub begins : (T : Table) (w : Why) (old : Inputs) (before : World) (c : Check) (rows : List ContextRow) → IsSoundCheck c → table_of c.program.now ≡ T
    → judgments_of c ≡ w.judgments
    → contexts_in c ≡ contexts_behind (length T.places) (Some root ∷ []) rows → rows ≡ w.contexts → AreAskable (streams old) before → GoesOn T w old before 0 c old before
unfolding contexts
begins T w old before c rows sound table js cs rows_are ask = record {
  sound = sound;
  table = table;
  judgments = js;
  contexts = cs ∙ ap (contexts_behind (length T.places) (Some root ∷ [])) rows_are;
  so_far = none_so_far T w old before (nothing_yet T (contexts T w) w.judgments old before ask);
}

-- the refusal is that of the call
pub refused_with : (r : Result (Unit {0}) CheckFault) (f : CheckFault) → IsErrAnd r (λ e. e ≡ f) → (P : Result (Unit {0}) CheckFault → Type 0) → P (Err f) → P r
refused_with (Ok x) f h P p = absurd h
refused_with (Err e) f h P p = subst (λ z. P (Err z)) (sym h) p

module _ (T : Table) (w : Why) (old : Inputs) (before : World) (n : ℕ) (c : Check) (now : Inputs) (mid : World) (g : GoesOn T w old before n c now mid)
    (differ : PlacesDiffer) where
  -- what is said of the check is said of the certificate
  by_check : (P : Table → List (Option Context) → List PlainJudgment → Type 0) → P (table_of c.program.now) (contexts_in c) (judgments_of c)
      → P T (contexts T w) w.judgments
  by_check P h =
      subst (λ x. P T (contexts T w) x) g.judgments (subst (λ x. P T x (judgments_of c)) g.contexts (subst (λ x. P x (contexts_in c) (judgments_of c)) g.table h))

  module _ (d : Check) (next : Inputs) (after : World) (sound : IsSoundCheck d) (same : IsSameCheck c d) (result : Result Bool CheckFault)
      (follows : IfOk result (λ it. (b : Elements) → MayBe (table_of c.program.now) next b
      → (it ≡ true) ↔ FollowsIn (table_of c.program.now) b (contexts_in c) (judgments_of c) n))
      (reads : ReadsFor (table_of c.program.now) (contexts_in c) (judgments_of c) n now next mid after result) where
    looks : LooksAt T w old before n now next mid after result
    looks = by_check (λ U cs js. ReadsFor U cs js n now next mid after result) reads

    decided : IfOk result (λ it. (b : Elements) → MayBe T next b → (it ≡ true) ↔ FollowsIn T b (contexts T w) w.judgments n)
    decided = by_check (λ U cs js. IfOk result (λ it. (b : Elements) → MayBe U next b → (it ≡ true) ↔ FollowsIn U b cs js n)) follows

    -- it follows, and the next one is looked at;
    pub goes_on : result ≡ Ok true → GoesOn T w old before (n + 1) d next after
    goes_on e = record {
      sound = sound;
      table = ap table_of same.program ∙ g.table;
      judgments = same.judgments ∙ g.judgments;
      contexts = same.contexts ∙ g.contexts;
      so_far = one_follows T w old before n now next mid after (inputs_apart differ now) g.so_far
          (subst (λ r. LooksAt T w old before n now next mid after r) e looks)
          (λ b m. (subst (λ r. IfOk r (λ it. (b : Elements) → MayBe T next b → (it ≡ true) ↔ FollowsIn T b (contexts T w) w.judgments n)) e decided b m).0 refl);
    }

    -- it doesn't;
    pub stops : n < length w.judgments → result ≡ Ok false → Checked T w old next before after (Err (Wrong n))
    stops lt e = one_is_wrong T w old before n now next mid after (inputs_apart differ now) g.so_far lt
        (subst (λ r. LooksAt T w old before n now next mid after r) e looks)
        (λ b m f.
        not_both ((subst (λ r. IfOk r (λ it. (b : Elements) → MayBe T next b → (it ≡ true) ↔ FollowsIn T b (contexts T w) w.judgments n)) e decided b m).1 f))
      where
        not_both : false ≡ true → ⊥
        not_both q = cc

    -- or it can't be looked at.
    pub is_refused : n < length w.judgments → (f : CheckFault) → result ≡ Err f → Checked T w old next before after (Err f)
    is_refused lt f e = one_refused T w old before n now next mid after (inputs_apart differ now) g.so_far lt f
        (subst (λ r. LooksAt T w old before n now next mid after r) e looks)

-- All judgments follow, and the last is told to be the root's or not.
module _ (T : Table) (w : Why) (old : Inputs) (before : World) (n k : ℕ) (c : Check) (now : Inputs) (mid : World) (g : GoesOn T w old before n c now mid)
    (all : n ≡ length w.judgments) (count : length w.judgments ≡ k + 1)
    (it : Bool) (root : (it ≡ true) ↔ IsOfRoot (table_of c.program.now) (contexts_in c) (judgments_of c) k) where
  so_far : FollowSoFar T w old before (length w.judgments) now mid
  so_far = subst (λ m. FollowSoFar T w old before m now mid) all g.so_far

  of_root : (it ≡ true) ↔ IsOfRoot T (contexts T w) w.judgments k
  of_root =
      subst (λ x. (it ≡ true) ↔ IsOfRoot T (contexts T w) x k) g.judgments
      (subst (λ x. (it ≡ true) ↔ IsOfRoot T x (judgments_of c) k) g.contexts
      (subst (λ x. (it ≡ true) ↔ IsOfRoot x (contexts_in c) (judgments_of c) k) g.table root))

  pub is_right : it ≡ true → Checked T w old now before mid (Ok tt)
  is_right e = all_right T w old before now mid so_far k count (of_root.0 e)

  pub is_not_the_root : it ≡ false → Checked T w old now before mid (Err (Wrong k))
  is_not_the_root e = not_the_root T w old before now mid so_far k count (λ h. not_both (of_root.1 h))
    where
      not_both : it ≡ true → ⊥
      not_both q = cc
