-- What each reader makes of the marks that it takes, and that this goes on from some marks to more.
use Rattle.std.specs.Prelude.{◌≡◌, ◌<◌, ◌≤◌, ◌↔◌, ℕ, List, [], ◌++◌, ◌∷◌, map, fold, All, None, Result, Ok, Err, IsOk, IsErr, OnOk, MatchOption, Vec, refl}
use Rattle.std.specs.Global.{Global}
use Rattle.std.proofs.Common.{sym, ap, subst, ◌∙◌, append_assoc}
use Rattle.std.proofs.lemmas.List.{append-nil, map-append}
use Rattle.std.proofs.lemmas.List.Sums.{fold-append}
use Rattle.std.proofs.lemmas.List.Elements.{All-nil, All-cons, All-head, All-tail, All-append}
use Rattle.std.specs.declared.alloc.AllocError.{AllocError}
use Rattle.std.specs.declared.convert.Infallible.{Infallible}
use Rattle.lucid_tree.specs.Tree.{PlainTree}
use Rattle.lucid_cycles.specs.declared.edge.Edge.{Edge}
use Rattle.lucid_cycles.specs.declared.edge.Edges.{Edges}
use Rattle.lucid_cycles.specs.declared.edge.Ask.{Ask}
use Rattle.lucid_cycles.specs.declared.names.Names.{Names}
use Rattle.lucid_cycles.specs.declared.names.Survey.{Survey}
use Rattle.lucid_cycles.specs.Judged.{outside, plain_names, most_names, IsFirstOutside}
use Rattle.lucid_cycles.specs.Judgments.{names_of}
use Rattle.lucid_cycles.specs.declared.line.Definition.{Definition}
use Rattle.lucid_cycles.specs.Graph.{numbered}
use Rattle.lucid_cycles.specs.Walks.{Marks, no_marks, both, Goes, lesser, with_name, listed_names, asked}

-- the places of definitions
abbrev pub places_of : List Definition → List ℕ
places_of ds = map (λ d. d.at) ds

-- Names are added, and the least place of what isn't judged is kept.
pub record Surveys (s : Survey) (m : Marks) (r : Result (Unit {0}) Infallible) (t : Survey) : Type 0 where
  pub names : t.names ≡ fold with_name s.names (places_of m.definitions)
  pub outside : t.outside ≡ fold lesser s.outside m.outside

surveys-none : (s : Survey) → Surveys s no_marks (Ok tt) s
surveys-none s = record { names = refl; outside = refl }

surveys-more : (s t u : Survey) (m n : Marks) (r : Result (Unit {0}) Infallible) → Surveys s m (Ok tt) t → Surveys t n r u → Surveys s (both m n) r u
surveys-more s t u m n r h k = record {
  names = k.names ∙ ap (λ x. fold with_name x (places_of n.definitions)) h.names
      ∙ sym (fold-append with_name s.names (places_of m.definitions) (places_of n.definitions))
      ∙ ap (fold with_name s.names) (sym (map-append (λ (d : Definition). d.at) m.definitions n.definitions));
  outside = k.outside ∙ ap (λ x. fold lesser x n.outside) h.outside ∙ sym (fold-append lesser s.outside m.outside n.outside);
}

pub surveys-goes : Goes Surveys
surveys-goes = record { none = surveys-none; more = surveys-more; stops = λ s t m n e r f h. elim e [ ] }

-- the table has the program's names
pub record HasNames (e : PlainTree) (m : Names) : Type 0 where
  pub count : m.count ≡ names_of e
  pub listed : listed_names m ≡ plain_names e

-- The survey of a program: its names where they have room, and else more than there is room for; and the first place of what isn't judged.
pub record IsSurvey (e : PlainTree) (s : Survey) : Type 0 where
  pub names : names_of e ≤ most_names → HasNames e s.names
  pub many : most_names < names_of e → most_names < s.names.count
  pub outside : MatchOption s.outside (outside e ≡ []) (λ at. IsFirstOutside e at)

-- nothing is said where it fails
on-err : {E : Type 0} (P : Type 0) (r : Result (Unit {0}) E) → IsErr r → OnOk r P
on-err P (Ok x) f = absurd (let k = f in cc)
on-err P (Err e) f = tt

-- Definitions are appended.
abbrev pub Finds : Vec Definition Global → Marks → Result (Unit {0}) AllocError → Vec Definition Global → Type 0
Finds s m r t = OnOk r (t.items ≡ s.items ++ m.definitions)

finds-none : (s : Vec Definition Global) → Finds s no_marks (Ok tt) s
finds-none s = sym (append-nil s.items)

finds-more : (s t u : Vec Definition Global) (m n : Marks) (r : Result (Unit {0}) AllocError) → Finds s m (Ok tt) t → Finds t n r u → Finds s (both m n) r u
finds-more s t u m n (Ok x) h k = k ∙ ap (λ l. l ++ n.definitions) h ∙ append_assoc s.items m.definitions n.definitions
finds-more s t u m n (Err e) h k = tt

pub finds-goes : Goes Finds
finds-goes = record { none = finds-none; more = finds-more; stops = λ s t m n e r f h. on-err _ r f }

-- Edges are appended, these names by their numbers.
pub record Collected (s : Edges) (m : Marks) (t : Edges) : Type 0 where
  pub names : t.names ≡ s.names
  pub found : t.found.items ≡ s.found.items ++ map (numbered (listed_names s.names.now)) m.edges

abbrev pub Collects : Edges → Marks → Result (Unit {0}) AllocError → Edges → Type 0
Collects s m r t = OnOk r (Collected s m t)

collects-none : (s : Edges) → Collects s no_marks (Ok tt) s
collects-none s = record { names = refl; found = sym (append-nil s.found.items) }

collects-more : (s t u : Edges) (m n : Marks) (r : Result (Unit {0}) AllocError) → Collects s m (Ok tt) t → Collects t n r u → Collects s (both m n) r u
collects-more s t u m n (Ok x) h k =
    let f = numbered (listed_names s.names.now) in record {
      names = k.names ∙ h.names;
      found = k.found ∙ ap (λ l. l ++ map (numbered (listed_names t.names.now)) n.edges) h.found
          ∙ ap (λ o. (s.found.items ++ map f m.edges) ++ map (numbered (listed_names o.now)) n.edges) h.names
          ∙ append_assoc s.found.items (map f m.edges) (map f n.edges) ∙ ap (λ l. s.found.items ++ l) (sym (map-append f m.edges n.edges));
    }
collects-more s t u m n (Err e) h k = tt

pub collects-goes : Goes Collects
collects-goes = record { none = collects-none; more = collects-more; stops = λ s t m n e r f h. on-err _ r f }

-- what is of all items of two lists is of all of each
pub all-left : {X : Type 0} (P : X → Type 0) (xs ys : List X) → All P (xs ++ ys) → All P xs
all-left P [] ys h = All-nil P
all-left P (x ∷ xs) ys h = All-cons P x xs (All-head P x (xs ++ ys) h) (all-left P xs ys (All-tail P x (xs ++ ys) h))

pub all-right : {X : Type 0} (P : X → Type 0) (xs ys : List X) → All P (xs ++ ys) → All P ys
all-right P [] ys h = h
all-right P (x ∷ xs) ys h = all-right P xs ys (All-tail P x (xs ++ ys) h)

-- It is told whether all edges have what is asked.
pub record Answers (s : Ask) (m : Marks) (r : Result (Unit {0}) (Unit {0})) (t : Ask) : Type 0 where
  pub same : t ≡ s
  pub tells : IsOk r ↔ All (asked s) m.edges

answers-none : (s : Ask) → Answers s no_marks (Ok tt) s
answers-none s = record { same = refl; tells = ((λ k. All-nil (asked s)), (λ a. refl)) }

answers-more : (s t u : Ask) (m n : Marks) (r : Result (Unit {0}) (Unit {0})) → Answers s m (Ok tt) t → Answers t n r u → Answers s (both m n) r u
answers-more s t u m n r h k =
    let q : IsOk r ↔ All (asked s) n.edges = subst (λ z. IsOk r ↔ All (asked z) n.edges) h.same k.tells in record {
      same = k.same ∙ h.same;
      tells = (
        (λ o. All-append (asked s) m.edges n.edges (h.tells.0 refl) (q.0 o)),
        (λ a. q.1 (all-right (asked s) m.edges n.edges a)),
      );
    }

-- not all of the first have it, so not all of both
not-all : (P : Edge → Type 0) (xs ys : List Edge) (r : Result (Unit {0}) (Unit {0})) → IsErr r → (All P xs → ⊥) → IsOk r ↔ All P (xs ++ ys)
not-all P xs ys (Ok x) f n = absurd (let k = f in cc)
not-all P xs ys (Err e) f n = ((λ o. absurd (let k = o in cc)), (λ a. absurd (n (all-left P xs ys a))))

answers-stops : (s t : Ask) (m n : Marks) (e : Unit {0}) (r : Result (Unit {0}) (Unit {0})) → IsErr r → Answers s m (Err e) t → Answers s (both m n) r t
answers-stops s t m n e r f h = record { same = h.same; tells = not-all (asked s) m.edges n.edges r f (λ a. let k = h.tells.1 a in cc) }

pub answers-goes : Goes Answers
answers-goes = record { none = answers-none; more = answers-more; stops = answers-stops }
