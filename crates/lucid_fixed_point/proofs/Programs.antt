-- The families of three programs solve their equations, and so tell their values.
use Rattle.lucid_fixed_point.proofs.Common.{◌≡◌, ℕ, zero, suc, Bool, true, false, List, [], ◌∷◌, refl, sym, subst, ◌∙◌, PlainValue, truth, Stream, Streams, Map, Meanings, operator, with_stream, with_map, Within, PointsWithin, meanings, HaveValues, empty, chosen, same_name, no_map, no_stream, with_arguments, not, codes, None, algebra, const, apply, fby, call, PlainTree, tree, no_trees, no_defs, Solves, by_family, all_by_family, fby_of}
use Rattle.lucid_ops.specs.declared.op.Op.TheVariants.{Not}
use Rattle.lucid_fixed_point.specs.Programs.{named, not_of, always, inner, flipped, turns, two_names, two_names_mean, a_function, a_function_means, first_flipped, nested, nested_means, flipped_from, held, even, TwoNamesTakeTurns, TheFunctionTakesTurns, TheNestedIsTrue}
use Rattle.lucid_fixed_point.proofs.Monotone.{chosen-within}
use Rattle.lucid_fixed_point.proofs.Operators.{operates-as-the-book}
use Rattle.lucid_fixed_point.proofs.Families.{derived-by-family}

-- `not` of a value
abbrev negated : PlainValue → PlainValue
negated w = algebra Not (w ∷ [])

flipped-negated : (t : ℕ) (w : PlainValue) → flipped t (negated w) ≡ negated (flipped t w)
flipped-negated zero w = refl
flipped-negated (suc t) w = flipped-negated t (negated w)

record Turned (t : ℕ) : Type 0 where
  from_true : flipped t (truth true) ≡ truth (even t)
  from_false : flipped t (truth false) ≡ truth (not (even t))

not-not : (c : Bool) → not (not c) ≡ c
not-not true = refl
not-not false = refl

turned : (t : ℕ) → Turned t
turned zero = record { from_true = refl; from_false = refl }
turned (suc t) =
    let h = turned t in
    record { from_true = h.from_false; from_false = subst (λ c. flipped t (truth true) ≡ truth c) (sym (not-not (even t))) h.from_true }

twice : (t : ℕ) (c : Bool) → even t ≡ c → flipped t (truth c) ≡ truth true
twice t true e = subst (λ c. flipped t (truth true) ≡ truth c) e (turned t).from_true
twice t false e = subst (λ c. flipped t (truth false) ≡ truth (not c)) e (turned t).from_false

-- What gives the first value of X and the later ones of Y lies in a stream, and what gives `not` of X.
fby-lies : (a : Streams) (x : Stream) → ((s : ℕ) (v : PlainValue) → a 0 0 s v → x 0 s v) → ((t s : ℕ) (v : PlainValue) → a 1 t s v → x (suc t) s v)
    → Within (operator fby a) x
fby-lies a x h k zero s v d = h s v (((operates-as-the-book a).fby_begins s v).0 d)
fby-lies a x h k (suc t) s v d = k t s v (((operates-as-the-book a).fby_goes_on t s v).0 d)

argument-negated : (a : Streams) (t s : ℕ) (vs : List PlainValue) (v : PlainValue) → HaveValues a 1 0 t s vs → algebra Not vs ≡ v
    → (w : PlainValue) × a 0 t s w × (negated w ≡ v)
argument-negated a t s [] v h e = absurd h
argument-negated a t s (w ∷ ws) v h e = (w, h.0, subst (λ xs. algebra Not (w ∷ xs) ≡ v) h.1 e)

not-has : (a : Streams) (t s : ℕ) (v : PlainValue) → operator (apply Not 1) a t s v → (w : PlainValue) × a 0 t s w × (negated w ≡ v)
not-has a t s v d = let o = ((operates-as-the-book a).data_is Not 1 t s v).0 d in argument-negated a t s o.0 v o.1 o.2

constant-is : (a : Streams) (c : PlainValue) (t s : ℕ) (v : PlainValue) → operator (const c) a t s v → c ≡ v
constant-is a c t s v d = ((operates-as-the-book a).constant_is c t s v).0 d

-- What one name means in front of the others.
chosen-map-lies : (c : Bool) (f g h k : Map) (a : Streams) → Within (f a) (h a) → Within (g a) (k a) → Within (chosen c f g a) (chosen c h k a)
chosen-map-lies true f g h k a l m = l
chosen-map-lies false f g h k a l m = m

stream-lies : (n : List ℕ) (a x : Stream) (q r : Meanings) → Within a x → PointsWithin q r → PointsWithin (with_stream n a q) (with_stream n x r)
stream-lies n a x q r h k =
    record {
      streams = λ m. chosen-within (same_name m n) a (q.stream m) x (r.stream m) h (k.streams m);
      maps = λ m b. chosen-map-lies (same_name m n) no_map (q.map m) no_map (r.map m) b (λ t s v d. d) (k.maps m b);
    }

map-lies : (n : List ℕ) (f g : Map) (q r : Meanings) → ((a : Streams) → Within (f a) (g a)) → PointsWithin q r → PointsWithin (with_map n f q) (with_map n g r)
map-lies n f g q r h k =
    record {
      streams = λ m. chosen-within (same_name m n) no_stream (q.stream m) no_stream (r.stream m) (λ t s v d. d) (k.streams m);
      maps = λ m b. chosen-map-lies (same_name m n) f (q.map m) g (r.map m) b (h b) (k.maps m b);
    }

same-points : (r : Meanings) → PointsWithin r r
same-points r = record { streams = λ n t s v d. d; maps = λ n a t s v d. d }

-- x = true fby y; y = not x
two-names-x : (a : Streams) → ((t s : ℕ) (v : PlainValue) → a 0 t s v → truth true ≡ v) → ((t s : ℕ) (v : PlainValue) → a 1 t s v → turns false t s v)
    → Within (operator fby a) (turns true)
two-names-x a h k = fby-lies a (turns true) (h 0) k

turned-negated : (a : Streams) → ((t s : ℕ) (v : PlainValue) → a 0 t s v → turns true t s v) → Within (operator (apply Not 1) a) (turns false)
turned-negated a h t s v d =
    let o = not-has a t s v d in subst (λ w. flipped t (truth false) ≡ w) o.2 (subst (λ w. flipped t (truth false) ≡ negated w) (h t s o.0 o.1) (flipped-negated t (truth true)))

two-names-solved : (r : Meanings) → Solves two_names_mean two_names r
two-names-solved r t =
    let q : Meanings = two_names_mean no_defs None r in (
      stream-lies (codes "x") (by_family two_names_mean (fby_of 0 always (named (codes "y"))) q) (turns true) (with_stream (codes "y") (by_family two_names_mean (not_of (named (codes "x"))) q) r) (with_stream (codes "y") (turns false) r)
          (two-names-x (all_by_family two_names_mean (tree always (tree (named (codes "y")) no_trees)) q) (λ t s v. constant-is (λ i. no_stream) (truth true) t s v) (λ t s v d. d))
          (stream-lies (codes "y") (by_family two_names_mean (not_of (named (codes "x"))) q) (turns false) r r
          (turned-negated (all_by_family two_names_mean (tree (named (codes "x")) no_trees) q) (λ t s v d. d)) (same-points r)),
      tt,
      ((tt, (tt, tt)), ((tt, tt), tt)),
    )

pub two-names-take-turns : TwoNamesTakeTurns
two-names-take-turns b t s v d =
    let h : flipped t (truth true) ≡ v = derived-by-family two_names_mean b two_names (two-names-solved (meanings b empty)) t s v d in sym (turned t).from_true ∙ h

-- f(x) = x fby f(not x)
flipped-lies : (a : Streams) (b : Streams) → ((s : ℕ) (v : PlainValue) → b 0 0 s v → a 0 0 s v) → ((t s : ℕ) (v : PlainValue) → b 1 t s v → (w : PlainValue) × a 0 0 s w × (flipped t (negated w) ≡ v))
    → Within (operator fby b) (first_flipped a)
flipped-lies a b h k = fby-lies b (first_flipped a) (λ s v d. (v, h s v d, refl)) k

negated-first : (a b : Streams) → ((s : ℕ) (v : PlainValue) → b 0 0 s v → a 0 0 s v) → (t s : ℕ) (v : PlainValue)
    → first_flipped (λ i. operator (apply Not 1) b) t s v → (w : PlainValue) × a 0 0 s w × (flipped t (negated w) ≡ v)
negated-first a b h t s v d =
    let o = not-has b 0 s d.0 d.1 in (o.0, h s o.0 o.1, subst (λ w. flipped t w ≡ v) (sym o.2) d.2)

a-function-solved : (r : Meanings) → Solves a_function_means a_function r
a-function-solved r t =
    let q : Meanings = with_map (codes "f") first_flipped r in
    let x : PlainTree = named (codes "x") in
    let right : PlainTree = fby_of 0 x (call 0 (codes "f") (tree (not_of x) no_trees)) in (
      map-lies (codes "f") (λ a. by_family a_function_means right (with_arguments (codes "x" ∷ []) a q)) first_flipped r r
          (λ a. flipped-lies a (all_by_family a_function_means (tree x (tree (call 0 (codes "f") (tree (not_of x) no_trees)) no_trees)) (with_arguments (codes "x" ∷ []) a q)) (λ s v d. d)
          (λ t s v d. negated-first a (all_by_family a_function_means (tree x no_trees) (with_arguments (codes "x" ∷ []) a q)) (λ s v d. d) t s v d))
          (same-points r),
      (tt, tt),
      ((λ a. (tt, (((tt, tt), tt), tt))), tt),
    )

pub the-function-takes-turns : TheFunctionTakesTurns
the-function-takes-turns b t s v d =
    let h = derived-by-family a_function_means b a_function (a-function-solved (meanings b empty)) t s v d in
    let w : truth true ≡ h.0 = constant-is (λ i. no_stream) (truth true) 0 s h.0 h.1 in sym (turned t).from_true ∙ subst (λ x. flipped t x ≡ v) (sym w) h.2

-- m where n is current x; m = n fby not m; end
inner-solved : (q : Meanings) → Solves nested_means inner q
inner-solved q u =
    let x : Stream = q.stream (codes "x") in
    let rest : Meanings = with_stream (codes "m") (flipped_from x u) q in
    let p : Meanings = with_stream (codes "n") (held x u) rest in
    let right : PlainTree = fby_of 0 (named (codes "n")) (not_of (named (codes "m"))) in (
      stream-lies (codes "n") (held x u) (held x u) (with_stream (codes "m") (by_family nested_means right p) q) rest (λ t s v d. d)
          (stream-lies (codes "m") (by_family nested_means right p) (flipped_from x u) q q
          (fby-lies (all_by_family nested_means (tree (named (codes "n")) (tree (not_of (named (codes "m"))) no_trees)) p) (flipped_from x u) (λ s v d. (v, d, refl))
          (λ t s v d. let o = not-has (all_by_family nested_means (tree (named (codes "m")) no_trees) p) t s v d in
          let g : flipped_from x u t s o.0 = o.1 in
          (g.0, g.1, flipped-negated t g.0 ∙ subst (λ w. negated w ≡ v) (sym g.2) o.2)))
          (same-points q)),
      tt,
      (tt, ((tt, ((tt, tt), tt)), tt)),
    )

nested-solved : (r : Meanings) → Solves nested_means nested r
nested-solved r t =
    let q : Meanings = with_stream (codes "x") (turns true) r in
    let right : PlainTree = fby_of 0 always (not_of (named (codes "x"))) in (
      stream-lies (codes "x") (by_family nested_means right q) (turns true) r r
          (fby-lies (all_by_family nested_means (tree always (tree (not_of (named (codes "x"))) no_trees)) q) (turns true)
          (λ s v. constant-is (λ i. no_stream) (truth true) 0 s v)
          (λ t s v d. turned-negated (all_by_family nested_means (tree (named (codes "x")) no_trees) q) (λ t s v d. d) t s v d))
          (same-points r),
      inner-solved q,
      ((tt, ((tt, tt), tt)), tt),
    )

pub nested-is-true : TheNestedIsTrue
nested-is-true b t s v d =
    let h : flipped_from (turns true) t t s v = derived-by-family nested_means b nested (nested-solved (meanings b empty)) t s v d in
    let w : truth (even t) ≡ h.0 = sym (turned t).from_true ∙ h.1 in sym (twice t (even t) refl) ∙ subst (λ x. flipped t x ≡ v) (sym w) h.2
