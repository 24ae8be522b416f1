-- Laws of more elements: nothing that was known changes. A program reads its inputs as it goes, so what is known of it on the way is
-- said over fewer elements than what is known at the end. Each law is over all tables p, contexts and points.
use Rattle.std.specs.Prelude.{◌≡◌, ℕ, List, Option, Some, ◌↔◌}
use Rattle.std.specs.List.{filter_map}
use Rattle.lucid_value.specs.Plain.{PlainValue}
use Rattle.lucid_tree.specs.Members.{Inside}
use Rattle.lucid_tree.specs.Levels.{Elements, look_up_of}
use Rattle.lucid_tags.specs.Contexts.{Context}
use Rattle.lucid_equations.specs.Nodes.{PlainNode, Equations}
use Rattle.lucid_equations.specs.Datons.{Daton}
use Rattle.lucid_equations.specs.Values.{node_hval, node_val, NodeMeans}
use Rattle.lucid_equations.specs.Visits.{node_visits, IsNeeded}
use Rattle.lucid_equations.specs.Laws.{HeldIsMeant}

-- More elements are known, and none differs.
abbrev pub Extends : (fewer more : Elements) → Type 0
Extends b b' = (n : List ℕ) (j : ℕ) (v : PlainValue) → b n j ≡ Some v → b' n j ≡ Some v

-- A defined approximation stays, whatever is held.
abbrev pub MoreElementsKeepValues : Type 0
MoreElementsKeepValues =
    (p : Equations) (b b' : Elements) → Extends b b'
    → (held : Daton → (space : ℕ) → Option PlainValue) (m : ℕ) (e : PlainNode) (c : Context) (t s : ℕ) (v : PlainValue)
    → node_hval p (record { element = b; held = held }) m e c t s ≡ Some v → node_hval p (record { element = b'; held = held }) m e c t s ≡ Some v

-- So what is meant stays meant, and what is held of it too.
abbrev pub MoreElementsKeepMeanings : Type 0
MoreElementsKeepMeanings =
    (p : Equations) (b b' : Elements) → Extends b b' → (e : PlainNode) (c : Context) (t s : ℕ) (v : PlainValue)
    → NodeMeans p b e c t s v → NodeMeans p b' e c t s v

abbrev pub MoreElementsKeepHeldMeant : Type 0
MoreElementsKeepHeldMeant =
    (p : Equations) (b b' : Elements) → Extends b b' → (held : Daton → (space : ℕ) → Option PlainValue)
    → HeldIsMeant p (record { element = b; held = held }) → HeldIsMeant p (record { element = b'; held = held })

-- What was visited is visited still, at each limit and with each added number.
abbrev pub MoreElementsVisitMore : Type 0
MoreElementsVisitMore =
    (p : Equations) (b b' : Elements) → Extends b b' → (m d : ℕ) (e : PlainNode) (c : Context) (t s : ℕ)
    → Inside (node_visits p b m d e c t s) (node_visits p b' m d e c t s)

-- What was consulted is consulted still.
abbrev pub MoreElementsConsultMore : Type 0
MoreElementsConsultMore =
    (p : Equations) (b b' : Elements) → Extends b b' → (m d : ℕ) (e : PlainNode) (c : Context) (t s : ℕ)
    → Inside (filter_map look_up_of (node_visits p b m d e c t s)) (filter_map look_up_of (node_visits p b' m d e c t s))

-- A defined approximation visits the very same, in the same order.
abbrev pub MoreElementsVisitTheSame : Type 0
MoreElementsVisitTheSame =
    (p : Equations) (b b' : Elements) → Extends b b' → (m : ℕ) (e : PlainNode) (c : Context) (t s : ℕ) (v : PlainValue)
    → node_val p b m e c t s ≡ Some v → node_visits p b' m 0 e c t s ≡ node_visits p b m 0 e c t s

-- So a node that has a meaning needs the same datons.
abbrev pub MoreElementsNeedTheSame : Type 0
MoreElementsNeedTheSame =
    (p : Equations) (b b' : Elements) → Extends b b' → (e : PlainNode) (c : Context) (t s : ℕ) (v : PlainValue)
    → NodeMeans p b e c t s v → (d : Daton × ℕ) → IsNeeded p b' e c t s d ↔ IsNeeded p b e c t s d
