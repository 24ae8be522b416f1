-- What a form reads, visits and needs, step by step along its plan.
use Rattle.lucid_equations.proofs.Common.{◌≡◌, ℕ, suc, ◌+◌, ◌≤◌, List, [], ◌∷◌, Some, refl, sym, ◌∙◌, subst, add-zero, inl, arith, PlainValue, Head, In, Inside, Look, Plan, gives, looks, plan, trace, Elements, Given, nothing_held, below, referred, below-grows, Context, row, PlainNodes, Equations, Daton, node_value, node_val, node_hval, node_visits, IsNeeded, HeldIsMeant, reads_parts, visits_parts}
use Rattle.lucid_tree.specs.Rests.{Reads, ReadsAtSome, LeadsTo}
use Rattle.lucid_tree.specs.PlanLaws.{NeverLose, NeverDiffers}
use Rattle.lucid_tree.proofs.Ways.{leads-maps, leads-runs}
use Rattle.lucid_tree.proofs.RestsTraced.{next_seen, next_seen_on, seen_on_the_way}
use Rattle.lucid_equations.specs.Looks.{NeedsWithin}
use Rattle.lucid_equations.proofs.NodeGrowth.{part_at-grows, node_value-grows, node-meant_once}
use Rattle.lucid_equations.proofs.NodeMeant.{node_hval-meant}
use Rattle.lucid_equations.proofs.NodeWalks.{needed-visited}
use Rattle.lucid_equations.proofs.Moving.{part-read}
use Rattle.lucid_equations.proofs.Needs.{GoneTo, gone-to}
use Rattle.lucid_equations.proofs.FormNeeds.{part-there, seen-needed, look-visited}

module _ (p : Equations) where
  pub parts-keep : (g : Given Daton) (es : PlainNodes) (c : Context) → NeverLose (λ n. reads_parts p g n es c)
  parts-keep g es c n i t s = part_at-grows p n (below (node_value p) g n) (below (node_value p) g (suc n))
      (below-grows (node_value p) (node_value-grows p) g n) es c i t s

  pub parts-agree : (g : Given Daton) → HeldIsMeant p g → (m : ℕ) (es : PlainNodes) (c : Context)
      → NeverDiffers (λ n. reads_parts p (nothing_held g.element) n es c) (reads_parts p g m es c)
  parts-agree g h m es c l v w n r =
      let e = part-there p g.element m (below (node_value p) g m) es c l.part l.time l.space w r in
      let here : node_hval p g m e.0 c l.time l.space ≡ Some w = sym (part-read p m (below (node_value p) g m) es l.part e.0 e.1 c l.time l.space) ∙ r in
      let there : node_val p g.element n.0 e.0 c l.time l.space ≡ Some v =
      sym (part-read p n.0 (below (node_value p) (nothing_held g.element) n.0) es l.part e.0 e.1 c l.time l.space) ∙ n.1 in
      node-meant_once p g.element e.0 c l.time l.space v w (n.0, there) (node_hval-meant p g h m e.0 c l.time l.space w here)

module _ (p : Equations) (b : Elements) (m : ℕ) (f : Head) (es : PlainNodes) (c : Context) (t s : ℕ) where
  pub next-visited : (d : ℕ) (ls : List Look) (k : List PlainValue → Plan)
      → LeadsTo (Reads (reads_parts p (nothing_held b) (m + d) es c)) (plan m f t s) (looks ls k) → (l : Look) → In l ls
      → Inside (visits_parts p b m d es c l.part l.time l.space) (node_visits p b m d (row f es) c t s)
  next-visited d ls k a l i = next_seen m (reads_parts p (nothing_held b) (m + d) es c) (visits_parts p b m d es c) (m + d) (omega arith) f t s ls k a l i

  pub next-visited_on : (ls : List Look) (k : List PlainValue → Plan)
      → LeadsTo (ReadsAtSome (λ n. reads_parts p (nothing_held b) n es c)) (plan m f t s) (looks ls k)
      → (d : ℕ) × ((a : ℕ) → d ≤ a → (l : Look) → In l ls → Inside (visits_parts p b m a es c l.part l.time l.space) (node_visits p b m a (row f es) c t s))
  next-visited_on ls k w =
      let on = next_seen_on (λ n. reads_parts p (nothing_held b) n es c) (parts-keep p (nothing_held b) es c) (λ i u r. (i, u, r) ∷ []) m f t s ls k w in
      (on.0, λ a h l i. look-visited p b m a f es c t s l.part l.time l.space (on.1 a h l i (l.part, l.time, l.space) (inl refl)))

  -- what a look has and needs
  abbrev HasAndNeeds : List (Daton × ℕ) → Look → Type 0
  HasAndNeeds xs l = ((w : PlainValue) × Reads (reads_parts p (nothing_held b) m es c) l w) × NeedsWithin p b es c xs l

  pub need-on_the_way : (v : PlainValue) (xs : List (Daton × ℕ))
      → LeadsTo (λ l w. Reads (reads_parts p (nothing_held b) m es c) l w × NeedsWithin p b es c xs l) (plan m f t s) (gives v) → (d : Daton × ℕ)
      → IsNeeded p b (row f es) c t s d → In d xs
  need-on_the_way v xs way d n =
      let reads = reads_parts p (nothing_held b) m es c in
      let value : node_val p b m (row f es) c t s ≡ Some v =
      leads-runs reads (plan m f t s) (gives v) (leads-maps (λ l w. Reads reads l w × NeedsWithin p b es c xs l) (Reads reads) (λ l w h. h.0) (plan m f t s)
      (gives v) way) in
      let g = gone-to d.0 d.1 (node_visits p b m 0 (row f es) c t s) (needed-visited p b m (row f es) c t s v d value n) in
      let traced : In (referred d.0 g.position g.time d.1) (trace m (plan m f t s) reads (visits_parts p b m 0 es c)) =
      subst (λ z. In (referred d.0 g.position g.time d.1) (trace m (plan z f t s) (reads_parts p (nothing_held b) z es c) (visits_parts p b m 0 es c)))
      (add-zero m) g.there in
      let both = leads-maps (λ l w. Reads reads l w × NeedsWithin p b es c xs l) (λ l w. Reads reads l w × HasAndNeeds xs l) (λ l w h. (h.0, ((w, h.0), h.1)))
      (plan m f t s) (gives v) way in
      let seen = seen_on_the_way m reads (visits_parts p b m 0 es c) (HasAndNeeds xs) (plan m f t s) v both (referred d.0 g.position g.time d.1) traced in
      needs-of seen.0 seen.1.0.0 seen.1.0.1 seen.1.1 g seen.2
    where
      needs-of : (l : Look) (w : PlainValue) → Reads (reads_parts p (nothing_held b) m es c) l w → NeedsWithin p b es c xs l
          → (g : GoneTo d.0 d.1 (node_visits p b m 0 (row f es) c t s))
          → In (referred d.0 g.position g.time d.1) (visits_parts p b m 0 es c l.part l.time l.space) → In d xs
      needs-of l w r h g i =
          let e = part-there p b m (below (node_value p) (nothing_held b) m) es c l.part l.time l.space w r in
          h e.0 e.1 d (seen-needed p b m es c l.part l.time l.space w e.0 d g.position g.time e.1 r i)
