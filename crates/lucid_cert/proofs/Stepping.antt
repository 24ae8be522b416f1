-- Where a judgment that waits wants its next use, and what that use makes of it.
use Rattle.lucid_cert.proofs.Common.{◌≡◌, ℕ, ◌+◌, ◌<◌, ◌≤◌, List, [], ◌∷◌, ◌++◌, length, Some, get_or, refl, sym, ap, ◌∙◌, subst, arith, slice_get, AllByRecursion, option_and_then, same_Some, slice_get-get_or, slice_get_within, PlainValue, Elements, Context, number_of, Tag, EachBelow, part_number, parts, row_at, Node, Table, PlainJudgment, IsOfContext, AreFedAlike, CanGoOn, LooksInside, Stands, by_then, rest_plan, Position, Rest, told, GivesBy, IsForming, IsJudgmentAt, IsPassing, IsWaiting, MayJudge, WaitsFor, Wants, WantsBy, spot_at, HasUse, Making, Next}
use Rattle.lucid_tree.specs.Rows.{last}
use Rattle.lucid_cert_rules.specs.RestPlans.{IsAfter, IsAtPoint, IsLookOf, IsSmall, MayGoOn}
use Rattle.lucid_cert_rules.specs.declared.rest.Look.{Look}
use Rattle.lucid_equations.proofs.PartsRead.{each-lower}
use Rattle.lucid_cert_rules.specs.declared.rest.Rest.TheVariants as rest
use Rattle.lucid_cert_rules.specs.declared.rest.Then.{Then}
use Rattle.lucid_cert_rules.specs.declared.rest.Then.TheVariants as then
use Rattle.lucid_cert.specs.declared.making.Next.TheVariants as next
use Rattle.lucid_cert.proofs.Forming.{forming_goes, part_there, passing_ends}

-- a look's space is one, and a look at a time may go on
space_there : (x : Then) (t s : ℕ) → IsAtPoint x t s → s ≤ last
space_there (then.Find w) t s h = h
space_there (then.Count seen until) t s h = h.1
space_there (then.Argument op) t s h = h.1
space_there then.Give t s h = h.1
space_there then.Judge t s h = h.1
space_there (then.Decide f) t s h = h.1

small_there : (k : ℕ) (x : Then) (i t : ℕ) → IsAfter k x i t → t ≤ last → IsSmall x i t
small_there k (then.Find w) i t h l = omega (arith, l)
small_there k (then.Count seen until) i t h l = h
small_there k (then.Argument op) i t h l = h.1
small_there k then.Give i t h l = tt
small_there k then.Judge i t h l = tt
small_there k (then.Decide f) i t h l = h

module _ (T : Table) (known : List Context) (js : List PlainJudgment) (w : Making) (h : IsWaiting T known js w) where
  -- It waits for a look.
  module _ (l : Look) (e : w.next ≡ next.Look l) where
    waits_so : WaitsFor T known js w (next.Look l)
    waits_so = subst (WaitsFor T known js w) e h.waits

    pub its_form : IsForming T known js w.at w.space w.uses.items (rest.Look l)
    its_form = waits_so.0

    pub its_time : l.time ≤ last
    its_time = waits_so.2

    pub its_space : l.space ≤ last
    its_space = space_there l.then l.time l.space its_form.inside.point

    pub may_look : MayGoOn l
    may_look = small_there (length w.uses.items) l.then l.part l.time its_form.stands its_time

    module _ (n : Node) (row : row_at T w.at.node ≡ Some n) where
      same_node : its_form.node ≡ n
      same_node = same_Some its_form.node n (sym its_form.row ∙ row)

      pub part_below : l.part < length (parts n)
      part_below = subst (λ (x : Node). l.part < length (parts x)) same_node its_form.inside.part

      pub part_found : (ps : List ℕ) → ps ≡ parts n → slice_get (parts n) l.part ≡ Some (get_or ps l.part 0)
      part_found ps e =
          ap (λ (qs : List ℕ). slice_get qs l.part) (sym e) ∙ slice_get-get_or ps l.part 0 (subst (λ (qs : List ℕ). l.part < length qs) (sym e) part_below)

      pub look_wanted : (at : Position) → slice_get (parts n) l.part ≡ Some at.node → at.context ≡ w.at.context → at.time ≡ l.time → Wants T w at l.space 0
      look_wanted at part context time = record {
        by = subst (λ (x : Next). WantsBy T w x at l.space 0) (sym e)
            (ap (option_and_then (λ (x : Node). slice_get (parts x) l.part)) row ∙ part, context, time, refl, refl);
      }

      pub look_may : (at : Position) → EachBelow w.at.node (parts n) → slice_get (parts n) l.part ≡ Some at.node → at.context ≡ w.at.context → at.time ≡ l.time
          → MayJudge T known at l.space
      look_may at below part context time = record {
        within = record {
          node = omega (arith, each-lower w.at.node (parts n) l.part at.node below part, h.may.within.node);
          time = omega (arith, time, its_time);
        };
        context = subst (λ c. IsOfContext known c) (sym context) h.may.context;
        space_in_range = its_space;
      }

    -- The judgment that it uses, and what it goes on with.
    module _ (u : ℕ) (it : (at : Position) (s r : ℕ) → Wants T w at s r → IsJudgmentAt js (spot_at at s) u) where
      part : (p : ℕ) × (part_number T w.at.node l.part ≡ Some p)
      part = part_there T known js w.at w.space w.uses.items l its_form

      look_judgment : IsJudgmentAt js (spot_at (record (w.at) { node = part.0; time = l.time }) l.space) u
      look_judgment =
          it (record (w.at) { node = part.0; time = l.time }) l.space 0
          (record {
            by = subst (λ (x : Next). WantsBy T w x (record (w.at) { node = part.0; time = l.time }) l.space 0) (sym e) (part.1, refl, refl, refl, refl);
          })

      pub look_used : (v : PlainValue) (r : Rest) → v ≡ told js u
          → ((m k most : ℕ) (ws : List PlainValue) → CanGoOn k l → k + 1 + most ≤ m
          → AreFedAlike most (by_then m ws l.then l.part l.time l.space v) (rest_plan m (ws ++ v ∷ []) r))
          → ((k : ℕ) → CanGoOn k l → Stands (k + 1) r) → ((n : ℕ) → l.time ≤ last → IsLookOf n l → LooksInside n r)
          → IsForming T known js w.at w.space (w.uses.items ++ u ∷ []) r
      look_used v r is goes stands inside =
          forming_goes T known js w.at w.space w.uses.items l its_form u v r part.0 part.1 h.may.context look_judgment is goes stands
          (inside (length (parts its_form.node)) its_time its_form.inside)

  -- It waits for what it goes on with.
  module _ (on : Position) (references : ℕ) (e : w.next ≡ next.Position on references) where
    passes_so : WaitsFor T known js w (next.Position on references)
    passes_so = subst (WaitsFor T known js w) e h.waits

    pub its_passing : IsPassing T known w.at w.space w.uses.items on
    its_passing = passes_so.0

    pub its_references : references ≤ w.limit
    its_references = passes_so.1

    pub on_wanted : Wants T w on w.space references
    on_wanted = record { by = subst (λ (x : Next). WantsBy T w x on w.space references) (sym e) (refl, refl, refl) }

    module _ (u : ℕ) (it : (at : Position) (s r : ℕ) → Wants T w at s r → IsJudgmentAt js (spot_at at s) u) where
      pub passing_used : (v : PlainValue) → v ≡ told js u → (b : Elements) → GivesBy T b known js w.at w.space (w.uses.items ++ u ∷ []) v
      passing_used v is b = passing_ends T known js w.at w.space w.uses.items on u v its_passing (it on w.space references on_wanted) is b

      pub one_use : AllByRecursion (λ x. x < length js) (w.uses.items ++ u ∷ [])
      one_use =
          let j = it on w.space references on_wanted in
          subst (λ (us : List ℕ). AllByRecursion (λ x. x < length js) (us ++ u ∷ [])) (sym its_passing.no_uses) (slice_get_within js u j.judgment j.there, tt)

  -- Whatever it waits for, the judgment that it uses is there.
  its_use : (n : Next) → w.next ≡ n → (u : ℕ) → ((at : Position) (s r : ℕ) → Wants T w at s r → IsJudgmentAt js (spot_at at s) u) → u < length js
  its_use (next.Look l) e u it = let j = look_judgment l e u it in slice_get_within js u j.judgment j.there
  its_use (next.Position on references) e u it = let j = it on w.space references (on_wanted on references e) in slice_get_within js u j.judgment j.there

  pub use_there : (u : ℕ) → ((at : Position) (s r : ℕ) → Wants T w at s r → IsJudgmentAt js (spot_at at s) u) → u < length js
  use_there u it = its_use w.next refl u it

-- what is said of it with one more use
pub with_its_use : (P : Position → ℕ → List ℕ → Type 0) (old new : Making) (u : ℕ) → HasUse old u new → P old.at old.space (old.uses.items ++ u ∷ [])
    → P new.at new.space new.uses.items
with_its_use P old new u h p =
    subst (λ a. P a new.space new.uses.items) (sym h.at)
    (subst (λ s. P old.at s new.uses.items) (sym h.space) (subst (λ us. P old.at old.space us) (sym h.uses) p))

-- A judgment wants one spot.
one_wanted : (T : Table) (w : Making) (n : Next) (a c : Position) (s x r y : ℕ) → WantsBy T w n a s r → WantsBy T w n c x y → spot_at a s ≡ spot_at c x
one_wanted T w (next.Look l) a c s x r y p q =
    let node = same_Some a.node c.node (sym p.0 ∙ q.0) in
    let context = ap (λ (t : Tag). number_of t) (p.1 ∙ sym q.1) in
    let time = p.2 ∙ sym q.2 in
    let space = p.3 ∙ sym q.3 in (λ i. record { node = node i; context = context i; time = time i; space = space i })
one_wanted T w (next.Position on references) a c s x r y p q =
    ap (λ (z : Position). spot_at z s) (p.0 ∙ sym q.0) ∙ ap (λ (z : ℕ). spot_at c z) (p.1 ∙ sym q.1)

pub judgment_wanted : (T : Table) (js : List PlainJudgment) (w : Making) (a : Position) (s r u : ℕ) → Wants T w a s r → IsJudgmentAt js (spot_at a s) u
    → (c : Position) (x y : ℕ) → Wants T w c x y
    → IsJudgmentAt js (spot_at c x) u
judgment_wanted T js w a s r u p j c x y q = subst (λ z. IsJudgmentAt js z u) (one_wanted T w w.next a c s x r y p.by q.by) j
