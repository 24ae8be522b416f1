-- What stands in a log: the parameters of a function follow one another, and each row of a name goes with what is in scope from it on.
use Rattle.lucid_compile.proofs.Common.{◌≡◌, ℕ, zero, suc, ◌+◌, ◌<◌, ◌&&◌, IsTrue, length, List, [], ◌∷◌, ◌++◌, get_or, slice_get, nat_eq, nat_lt, Some, inl, inr, refl, sym, ap, ◌∙◌, subst, arith, append_assoc, PlainTree, form, name, call, block, PlainTrees, no_trees, tree, PlainDefs, no_defs, defines, defines_function, defines_current, In, is_shaped, are_shaped, defs_are_shaped, in_body, Note, FunctionStand, Log, with_stand, with_function, opened_block, opened_function, with_parameters, added, added_all, added_defs, EachRow, Begins, first_true, second_true, in_either, current_right, note, parameter_number, plain_right, Kind, parameter_notes}
use Rattle.std.proofs.lemmas.List.{append-nil}
use Rattle.lucid_lists.proofs.Lists.{slice_get-append_left as some-left}
use Rattle.lucid_compile.specs.Static.{Static, outermost, in_block, in_function}
use Rattle.lucid_compile.proofs.Opening.{slice-past}
use Rattle.lucid_compile.proofs.Growing.{begins-itself, begins-then, each-one}
use Rattle.lucid_compile.proofs.Shapes.{as_many}

-- a function's parameter
abbrev pub parameter_stand : Static → (index at : ℕ) → Note
parameter_stand k i at = note at k (parameter_number i)

pub parameters-names : (k : Static) (i : ℕ) (ats : List ℕ) (l : Log) → (with_parameters k i ats l).names ≡ l.names ++ parameter_notes k i ats
parameters-names k i [] l = sym (append-nil l.names)
parameters-names k i (at ∷ ats) l =
    let s : Note = parameter_stand k i at in
    parameters-names k (suc i) ats (with_stand s l) ∙ append_assoc l.names (s ∷ []) (parameter_notes k (suc i) ats)

stand-of : (k : Static) (i : ℕ) (ats : List ℕ) (j : ℕ) → j < length ats
    → slice_get (parameter_notes k i ats) j ≡ Some (parameter_stand k (i + j) (get_or ats j 0))
stand-of k i [] j h = absurd (omega (arith, h))
stand-of k i (at ∷ ats) zero h =
    let e : i ≡ i + 0 = omega arith in
    ap (λ n. Some (parameter_stand k n at)) e
stand-of k i (at ∷ ats) (suc j) h =
    let e : suc i + j ≡ i + suc j = omega arith in
    stand-of k (suc i) ats j (omega (arith, h)) ∙ ap (λ n. Some (parameter_stand k n (get_or ats j 0))) e

-- the names of a log begin those of a later one
mutual
  more-tree : (k : Static) (e : PlainTree) (l : Log) → Begins l.names (added k e l).names
  more-tree k (form at f es) l = more-trees k es l
  more-tree k (name at x) l = begins-itself l.names
  more-tree k (call at x es) l = more-trees k es l
  more-tree k (block at e ds) l =
      let b : Log = added (in_block ds k) e (opened_block ds k l) in
      begins-then l.names b.names _ (more-tree (in_block ds k) e (opened_block ds k l)) (more-defs (in_block ds k) k ds b)

  more-trees : (k : Static) (es : PlainTrees) (l : Log) → Begins l.names (added_all k es l).names
  more-trees k no_trees l = begins-itself l.names
  more-trees k (tree e es) l = begins-then l.names (added k e l).names _ (more-tree k e l) (more-trees k es (added k e l))

  more-defs : (k o : Static) (ds : PlainDefs) (l : Log) → Begins l.names (added_defs k o ds l).names
  more-defs k o no_defs l = begins-itself l.names
  more-defs k o (defines at x e ds) l =
      let s : Note = note at k (plain_right e) in
      let c : Log = added k e l in
      begins-then l.names c.names _ (more-tree k e l) (begins-then c.names (with_stand s c).names _ (s ∷ [], refl) (more-defs k o ds (with_stand s c)))
  more-defs k o (defines_function at x ns ats e ds) l =
      let h : Static = in_body ns ats k in
      let b : Log = with_parameters h 0 ats (opened_function ns ats k l) in
      let f : FunctionStand = record { at = at; first = length l.names; names = ns; places = ats; right = e; home = k } in
      let c : Log = added h e b in
      begins-then l.names b.names _ (parameter_notes h 0 ats, parameters-names h 0 ats (opened_function ns ats k l))
      (begins-then b.names c.names _ (more-tree h e b) (more-defs k o ds (with_function f c)))
  more-defs k o (defines_current at x e ds) l =
      let s : Note = note at k (current_right e) in
      let c : Log = added o e l in
      begins-then l.names c.names _ (more-tree o e l) (begins-then c.names (with_stand s c).names _ (s ∷ [], refl) (more-defs k o ds (with_stand s c)))

-- a function's parameters stand at the numbers from its first one on
pub record FunctionFits (ss : List Note) (f : FunctionStand) : Type 0 where
  pub stand : (i : ℕ) → i < length f.places → slice_get ss (f.first + i) ≡ Some (parameter_stand (in_body f.names f.places f.home) i (get_or f.places i 0))
  pub counts : length f.names ≡ length f.places

fits-more : (ss qs : List Note) (f : FunctionStand) → Begins ss qs → FunctionFits ss f → FunctionFits qs f
fits-more ss qs f m h = record { stand = λ i b. ap (λ l. slice_get l (f.first + i)) m.1 ∙ some-left ss m.0 (f.first + i) _ (h.stand i b); counts = h.counts }

abbrev pub LogFits : Log → Type 0
LogFits l = (f : FunctionStand) → In f l.functions → FunctionFits l.names f

-- the same functions, with more names
fits-on : (a b : Log) → b.functions ≡ a.functions → Begins a.names b.names → LogFits a → LogFits b
fits-on a b same m h = λ f i. fits-more a.names b.names f m (h f (subst (In f) same i))

pub parameters-calls : (k : Static) (i : ℕ) (ats : List ℕ) (l : Log) → (with_parameters k i ats l).calls ≡ l.calls
parameters-calls k i [] l = refl
parameters-calls k i (at ∷ ats) l = parameters-calls k (suc i) ats _

pub parameters-nodes : (k : Static) (i : ℕ) (ats : List ℕ) (l : Log) → (with_parameters k i ats l).nodes ≡ l.nodes
parameters-nodes k i [] l = refl
parameters-nodes k i (at ∷ ats) l = parameters-nodes k (suc i) ats _

pub parameters-functions : (k : Static) (i : ℕ) (ats : List ℕ) (l : Log) → (with_parameters k i ats l).functions ≡ l.functions
parameters-functions k i [] l = refl
parameters-functions k i (at ∷ ats) l = parameters-functions k (suc i) ats _

-- a function that was just added, whose parameters stand behind some names
own-fits : (ss : List Note) (f : FunctionStand) → f.first ≡ length ss → length f.names ≡ length f.places
    → FunctionFits (ss ++ parameter_notes (in_body f.names f.places f.home) 0 f.places) f
own-fits ss f first counts =
    let k : Static = in_body f.names f.places f.home in
    record {
      stand = λ i b.
          let n : 0 + i ≡ i = omega arith in
          ap (λ m. slice_get (ss ++ parameter_notes k 0 f.places) (m + i)) first ∙ slice-past ss (parameter_notes k 0 f.places) i ∙ stand-of k 0 f.places i b
          ∙ ap (λ m. Some (parameter_stand k m (get_or f.places i 0))) n;
      counts = counts;
    }

mutual
  pub fits-tree : (k : Static) (e : PlainTree) (l : Log) → IsTrue (is_shaped e) → LogFits l → LogFits (added k e l)
  fits-tree k (form at f es) l t h = fits-trees k es l (second_true _ (are_shaped es) t) h
  fits-tree k (name at x) l t h = h
  fits-tree k (call at x es) l t h = fits-trees k es l t h
  fits-tree k (block at e ds) l t h =
      fits-defs (in_block ds k) k ds (added (in_block ds k) e (opened_block ds k l)) (second_true (is_shaped e) _ t)
      (fits-tree (in_block ds k) e (opened_block ds k l) (first_true (is_shaped e) _ t) h)

  fits-trees : (k : Static) (es : PlainTrees) (l : Log) → IsTrue (are_shaped es) → LogFits l → LogFits (added_all k es l)
  fits-trees k no_trees l t h = h
  fits-trees k (tree e es) l t h = fits-trees k es (added k e l) (second_true (is_shaped e) _ t) (fits-tree k e l (first_true (is_shaped e) _ t) h)

  fits-defs : (k o : Static) (ds : PlainDefs) (l : Log) → IsTrue (defs_are_shaped ds) → LogFits l → LogFits (added_defs k o ds l)
  fits-defs k o no_defs l t h = h
  fits-defs k o (defines at x e ds) l t h =
      let s : Note = note at k (plain_right e) in
      let c : Log = added k e l in
      fits-defs k o ds (with_stand s c) (second_true (is_shaped e) _ t)
      (fits-on c (with_stand s c) refl (s ∷ [], refl) (fits-tree k e l (first_true (is_shaped e) _ t) h))
  fits-defs k o (defines_function at x ns ats e ds) l t h =
      let y : Static = in_body ns ats k in
      let front : IsTrue ((nat_lt 0 (length ns) && nat_eq (length ats) (length ns)) && is_shaped e) = first_true _ (defs_are_shaped ds) t in
      let shape : IsTrue (is_shaped e) = second_true (nat_lt 0 (length ns) && nat_eq (length ats) (length ns)) _ front in
      let count : length ats ≡ length ns = as_many (length ats) (length ns) (second_true (nat_lt 0 (length ns)) _ (first_true _ (is_shaped e) front)) in
      let rest : IsTrue (defs_are_shaped ds) = second_true ((nat_lt 0 (length ns) && nat_eq (length ats) (length ns)) && is_shaped e) _ t in
      let f : FunctionStand = record { at = at; first = length l.names; names = ns; places = ats; right = e; home = k } in
      let u : Log = opened_function ns ats k l in
      let b : Log = with_parameters y 0 ats u in
      let c : Log = added y e b in
      let own : FunctionFits b.names f = subst (λ ss. FunctionFits ss f) (sym (parameters-names y 0 ats u)) (own-fits l.names f refl (sym count)) in
      let all : FunctionFits c.names f = fits-more b.names c.names f (more-tree y e b) own in
      let before : LogFits c = fits-tree y e b shape
      (fits-on l b (parameters-functions y 0 ats u) (parameter_notes y 0 ats, parameters-names y 0 ats u) h) in
      fits-defs k o ds (with_function f c) rest (λ g i. elim (in_either g c.functions (f ∷ []) i) [
        | inl j ↦ before g j
        | inr j ↦ (elim j [ inl q ↦ subst (FunctionFits c.names) (sym q) all | inr z ↦ absurd z ])
      ])
  fits-defs k o (defines_current at x e ds) l t h =
      let s : Note = note at k (current_right e) in
      let c : Log = added o e l in
      fits-defs k o ds (with_stand s c) (second_true (is_shaped e) _ t)
      (fits-on c (with_stand s c) refl (s ∷ [], refl) (fits-tree o e l (first_true (is_shaped e) _ t) h))

-- a row's entry goes with what is in scope from it on: a parameter is one of its function's; a call stands elsewhere
abbrev pub IsParameter : (index : ℕ) → Static → Type 0
IsParameter i outermost = ⊥
IsParameter i (in_block ds k) = ⊥
IsParameter i (in_function d ns ats k) = i < length ats

abbrev pub IsAtHome : Kind → Static → Type 0
IsAtHome (plain_right e) k = Unit {0}
IsAtHome (current_right e) k = Unit {0}
IsAtHome (parameter_number i) k = IsParameter i k
IsAtHome _ k = ⊥

abbrev pub StandIsAtHome : Note → Type 0
StandIsAtHome s = IsAtHome s.kind s.home

-- the rest of a function's parameters
parameters-home : (ns : List (List ℕ)) (ats : List ℕ) (k : Static) (i : ℕ) (rest : List ℕ) (l : Log) → i + length rest ≡ length ats
    → EachRow StandIsAtHome l.names → EachRow StandIsAtHome (with_parameters (in_body ns ats k) i rest l).names
parameters-home ns ats k i [] l count h = h
parameters-home ns ats k i (at ∷ rest) l count h =
    let s : Note = parameter_stand (in_body ns ats k) i at in
    let within : i < length ats = omega (arith, count) in
    parameters-home ns ats k (suc i) rest (with_stand s l) (omega (arith, count)) (each-one StandIsAtHome l.names s h within)

mutual
  pub home-tree : (k : Static) (e : PlainTree) (l : Log) → EachRow StandIsAtHome l.names → EachRow StandIsAtHome (added k e l).names
  home-tree k (form at f es) l h = home-trees k es l h
  home-tree k (name at x) l h = h
  home-tree k (call at x es) l h = home-trees k es l h
  home-tree k (block at e ds) l h = home-defs (in_block ds k) k ds (added (in_block ds k) e (opened_block ds k l))
      (home-tree (in_block ds k) e (opened_block ds k l) h)

  home-trees : (k : Static) (es : PlainTrees) (l : Log) → EachRow StandIsAtHome l.names → EachRow StandIsAtHome (added_all k es l).names
  home-trees k no_trees l h = h
  home-trees k (tree e es) l h = home-trees k es (added k e l) (home-tree k e l h)

  home-defs : (k o : Static) (ds : PlainDefs) (l : Log) → EachRow StandIsAtHome l.names → EachRow StandIsAtHome (added_defs k o ds l).names
  home-defs k o no_defs l h = h
  home-defs k o (defines at x e ds) l h =
      let s : Note = note at k (plain_right e) in
      let c : Log = added k e l in
      home-defs k o ds (with_stand s c) (each-one StandIsAtHome c.names s (home-tree k e l h) tt)
  home-defs k o (defines_function at x ns ats e ds) l h =
      let y : Static = in_body ns ats k in
      let b : Log = with_parameters y 0 ats (opened_function ns ats k l) in
      let f : FunctionStand = record { at = at; first = length l.names; names = ns; places = ats; right = e; home = k } in
      home-defs k o ds (with_function f (added y e b)) (home-tree y e b (parameters-home ns ats k 0 ats (opened_function ns ats k l) (omega arith) h))
  home-defs k o (defines_current at x e ds) l h =
      let s : Note = note at k (current_right e) in
      let c : Log = added o e l in
      home-defs k o ds (with_stand s c) (each-one StandIsAtHome c.names s (home-tree o e l h) tt)
