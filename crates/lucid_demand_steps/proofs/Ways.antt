-- What a form means and needs, by a way along its plan whose values are those that the parts mean. The limit of the plan may be
-- below those at which the parts have their values.
use Rattle.lucid_demand_steps.proofs.Common.{◌≡◌, ℕ, ◌≤◌, max, Option, Some, refl, subst, arith, IsTrue, PlainValue, Head, In, Look, Plan, gives, plan, Reads, ReadsAtSome, LeadsTo, Elements, nothing_held, referred, reader-up, leads-maps, leads-runs, Context, PlainNode, row, PlainNodes, part_of, Equations, Daton, node_val, NodeMeans, node_visits, IsNeeded, reads_parts, visits_parts, parts-keep, add-zero}
use Rattle.std.specs.Prelude.{Bool}
use Rattle.lucid_tree.specs.Rows.{Reader, trace}
use Rattle.lucid_tree.specs.Levels.{below}
use Rattle.lucid_tree.proofs.Plans.{Within, same_value}
use Rattle.lucid_tree.proofs.RunsMeant.{plan-up}
use Rattle.lucid_tree.proofs.Ways.{leads-within, GoesFurther, one_for_all}
use Rattle.lucid_tree.proofs.RestsTraced.{seen_on_the_way}
use Rattle.lucid_equations.specs.Values.{node_value}
use Rattle.lucid_equations.proofs.NodeWalks.{needed-visited}
use Rattle.lucid_equations.proofs.Needs.{GoneTo, gone-to}
use Rattle.lucid_equations.proofs.FormNeeds.{part-there, seen-needed}

-- a plan that goes on where another gives a value gives it too
gives_too : (v : PlainValue) (q : Plan) → Within (gives v) q → q ≡ gives v
gives_too v q same_value = refl

-- all that the part of a look needs there passes a test
abbrev pub NeedsPass : Equations → Elements → PlainNodes → Context → (Daton × ℕ → Bool) → Look → Type 0
NeedsPass p b es c test l = (e : PlainNode) → part_of es l.part ≡ Some e → (d : Daton × ℕ) → IsNeeded p b e c l.time l.space d → IsTrue (test d)

module _ (p : Equations) (b : Elements) (m : ℕ) (f : Head) (es : PlainNodes) (c : Context) (t s : ℕ) where
  abbrev reads : ℕ → Reader (Option PlainValue)
  reads n = reads_parts p (nothing_held b) n es c

  abbrev HasWith : (Look → Type 0) → ℕ → Look → PlainValue → Type 0
  HasWith Q n l w = Reads (reads n) l w × Q l

  -- A way whose values are each of some limit is one of a limit at least the plan's, and along the plan of that limit.
  pub one_limit : (Q : Look → Type 0) (v : PlainValue) → LeadsTo (λ l w. ReadsAtSome reads l w × Q l) (plan m f t s) (gives v)
      → (n : ℕ) × LeadsTo (HasWith Q n) (plan n f t s) (gives v)
  one_limit Q v way = (n, on (leads-within (HasWith Q n) (plan m f t s) (plan n f t s) (gives v) (plan-up m n (omega arith) f t s) there))
    where
      up : (i k : ℕ) → i ≤ k → (l : Look) (w : PlainValue) → HasWith Q i l w → HasWith Q k l w
      up i k h l w a = (reader-up reads (parts-keep p (nothing_held b) es c) i k h l.part l.time l.space w a.0, a.1)

      one : (k : ℕ) × LeadsTo (HasWith Q k) (plan m f t s) (gives v)
      one = one_for_all (HasWith Q) up (plan m f t s) (gives v)
          (leads-maps (λ l w. ReadsAtSome reads l w × Q l) (λ l w. (k : ℕ) × HasWith Q k l w) (λ l w h. (h.0.0, (h.0.1, h.1))) (plan m f t s) (gives v) way)

      n : ℕ
      n = max m one.0

      there : LeadsTo (HasWith Q n) (plan m f t s) (gives v)
      there = leads-maps (HasWith Q one.0) (HasWith Q n) (up one.0 n (omega arith)) (plan m f t s) (gives v) one.1

      on : GoesFurther (HasWith Q n) (plan n f t s) (gives v) → LeadsTo (HasWith Q n) (plan n f t s) (gives v)
      on g = subst (λ q. LeadsTo (HasWith Q n) (plan n f t s) q) (gives_too v g.rest g.within) g.way

  -- Where the values on the way are those that the parts mean, a form whose plan of some limit comes to a value means it,
  pub ways_give_meanings : (v : PlainValue) → LeadsTo (ReadsAtSome reads) (plan m f t s) (gives v) → NodeMeans p b (row f es) c t s v
  ways_give_meanings v way =
      let one = one_limit (λ l. Unit {0}) v (leads-maps (ReadsAtSome reads) (λ l w. ReadsAtSome reads l w × Unit {0}) (λ l w h. (h, tt)) (plan m f t s)
      (gives v) way) in (
        one.0,
        leads-runs (reads one.0) (plan one.0 f t s) (gives v)
            (leads-maps (HasWith (λ l. Unit {0}) one.0) (Reads (reads one.0)) (λ l w h. h.0) (plan one.0 f t s) (gives v) one.1),
      )

  -- what a look has at a limit and needs
  abbrev HasAndPasses : (Daton × ℕ → Bool) → ℕ → Look → Type 0
  HasAndPasses test n l = ((w : PlainValue) × Reads (reads n) l w) × NeedsPass p b es c test l

  needs-pass : (test : Daton × ℕ → Bool) (n : ℕ) (d : Daton × ℕ) (l : Look) (w : PlainValue) → Reads (reads n) l w → NeedsPass p b es c test l
      → (g : GoneTo d.0 d.1 (node_visits p b n 0 (row f es) c t s)) → In (referred d.0 g.position g.time d.1) (visits_parts p b n 0 es c l.part l.time l.space)
      → IsTrue (test d)
  needs-pass test n d l w r h g i =
      let e = part-there p b n (below (node_value p) (nothing_held b) n) es c l.part l.time l.space w r in
      h e.0 e.1 d (seen-needed p b n es c l.part l.time l.space w e.0 d g.position g.time e.1 r i)

  -- along the plan of one limit
  needs_of_one : (n : ℕ) (v : PlainValue) (test : Daton × ℕ → Bool) → LeadsTo (HasWith (NeedsPass p b es c test) n) (plan n f t s) (gives v)
      → (d : Daton × ℕ) → IsNeeded p b (row f es) c t s d → IsTrue (test d)
  needs_of_one n v test way d needed =
      let value : node_val p b n (row f es) c t s ≡ Some v =
      leads-runs (reads n) (plan n f t s) (gives v)
      (leads-maps (HasWith (NeedsPass p b es c test) n) (Reads (reads n)) (λ l w h. h.0) (plan n f t s) (gives v) way) in
      let g = gone-to d.0 d.1 (node_visits p b n 0 (row f es) c t s) (needed-visited p b n (row f es) c t s v d value needed) in
      let traced : In (referred d.0 g.position g.time d.1) (trace n (plan n f t s) (reads n) (visits_parts p b n 0 es c)) =
      subst (λ z. In (referred d.0 g.position g.time d.1) (trace n (plan z f t s) (reads z) (visits_parts p b n 0 es c))) (add-zero n) g.there in
      let full = leads-maps (HasWith (NeedsPass p b es c test) n) (λ l w. Reads (reads n) l w × HasAndPasses test n l) (λ l w h. (h.0, ((w, h.0), h.1)))
      (plan n f t s) (gives v) way in
      let seen = seen_on_the_way n (reads n) (visits_parts p b n 0 es c) (HasAndPasses test n) (plan n f t s) v full (referred d.0 g.position g.time d.1)
      traced in
      needs-pass test n d seen.0 seen.1.0.0 seen.1.0.1 seen.1.1 g seen.2

  -- and what it needs, the looks on that way need.
  pub needs_are_of_the_way : (v : PlainValue) (test : Daton × ℕ → Bool)
      → LeadsTo (λ l w. ReadsAtSome reads l w × NeedsPass p b es c test l) (plan m f t s) (gives v)
      → (d : Daton × ℕ) → IsNeeded p b (row f es) c t s d → IsTrue (test d)
  needs_are_of_the_way v test way d needed =
      let one = one_limit (NeedsPass p b es c test) v way in
      needs_of_one one.0 v test one.1 d needed
