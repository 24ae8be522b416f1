-- Names that are asked for one behind the other.
use Rattle.lucid_top.proofs.Common.{◌≡◌, ℕ, ◌+◌, ◌<◌, ◌≤◌, ◌⊎◌, List, [], ◌∷◌, ◌++◌, length, length-map, map, drop, Some, Ok, inl, inr, sym, ap, subst, slice_get, take_more, take-append-drop, slice_get_within, get_or_from_slice_get, ◌∙◌, arith, le_refl, append_assoc, take_all, take-append-le, cases_lt, IsErrOf, World}
use Rattle.std.proofs.Common.{take}
use denote.Ref.{Bor}
use Rattle.std.proofs.lemmas.List.{append-nil}
use Rattle.std.proofs.Math.Seq.{take-append-add, take-append_seam}
use Rattle.lucid_ports.specs.World.{AsksName}
use Rattle.lucid_ports.specs.declared.fault.PortFault.TheVariants.{NoMemory}
use Rattle.lucid_top.specs.Names.{AsksFront}

pub none_asked : (names : List (List ℕ)) (w v : World) → v.asked ≡ w.asked → AsksFront names w v
none_asked names w v e = (0, e ∙ sym (append-nil w.asked))

pub all_asked : (names : List (List ℕ)) (w v : World) → v.asked ≡ w.asked ++ names → AsksFront names w v
all_asked names w v e = (length names, e ∙ ap (λ l. w.asked ++ l) (sym (take_all (length names) names (le_refl (length names)))))

-- by one call
pub asked_one : (name : List ℕ) {lacks : Type 0} (w v : World) → AsksName name lacks w v → AsksFront (name ∷ []) w v
asked_one name w v a = elim a.asked [
  | inl e ↦ (1, e)
  | inr e ↦ none_asked (name ∷ []) w v e.1
]

-- which succeeds
pub one_asked : {T : Type 0} (name : List ℕ) (x : T) (w v : World) → AsksName name (IsErrOf {T = T} (Ok x) NoMemory) w v → v.asked ≡ w.asked ++ name ∷ []
one_asked name x w v a = elim a.asked [
  | inl e ↦ e
  | inr e ↦ absurd (cc e.0)
]

-- nothing more is asked for
pub asked_still : (names : List (List ℕ)) (u v w : World) → AsksFront names u v → w.asked ≡ v.asked → AsksFront names u w
asked_still names u v w a e = (a.0, e ∙ a.1)

-- other names are asked for behind these
pub asked_then : (xs ys : List (List ℕ)) (u v w : World) → v.asked ≡ u.asked ++ xs → AsksFront ys v w → AsksFront (xs ++ ys) u w
asked_then xs ys u v w e a = (
  length xs + a.0,
  a.1 ∙ ap (λ l. l ++ take a.0 ys) e ∙ append_assoc u.asked xs (take a.0 ys) ∙ ap (λ l. u.asked ++ l) (sym (take-append-add xs ys a.0)),
)

-- or could be
pub front_more : (xs ys : List (List ℕ)) (u w : World) → AsksFront xs u w → AsksFront (xs ++ ys) u w
front_more xs ys u w a = by (cases_lt a.0 (length xs))
  where
    by : (a.0 < length xs) ⊎ (length xs ≤ a.0) → AsksFront (xs ++ ys) u w
    by (inl lt) = (a.0, a.1 ∙ ap (λ l. u.asked ++ l) (sym (take-append-le a.0 xs ys (omega (arith, lt)))))
    by (inr ge) = (length xs, a.1 ∙ ap (λ l. u.asked ++ l) (take_all a.0 xs ge ∙ sym (take-append_seam xs ys)))

-- one name more of a list, and one that may be asked for
next_front : (files : List (List ℕ)) (i : ℕ) (name : List ℕ) → slice_get files i ≡ Some name → take (i + 1) files ≡ take i files ++ name ∷ []
next_front files i name is =
    take_more files i name (slice_get_within files i name is) ∙ ap (λ x. take i files ++ x ∷ []) (get_or_from_slice_get files i name name is)

pub asked_more : (files : List (List ℕ)) (i : ℕ) (name : List ℕ) (u v w : World) → slice_get files i ≡ Some name → v.asked ≡ u.asked ++ take i files
    → w.asked ≡ v.asked ++ name ∷ [] → w.asked ≡ u.asked ++ take (i + 1) files
asked_more files i name u v w is e f =
    f ∙ ap (λ l. l ++ name ∷ []) e ∙ append_assoc u.asked (take i files) (name ∷ []) ∙ ap (λ l. u.asked ++ l) (sym (next_front files i name is))

pub asked_next : (files : List (List ℕ)) (i : ℕ) (name : List ℕ) (u v w : World) {lacks : Type 0} → slice_get files i ≡ Some name
    → v.asked ≡ u.asked ++ take i files → AsksName name lacks v w → AsksFront files u w
asked_next files i name u v w is e a =
    let one = asked_then (take i files) (name ∷ []) u v w e (asked_one name v w a) in
    let more : AsksFront (take (i + 1) files) u w = subst (λ l. AsksFront l u w) (sym (next_front files i name is)) one in
    subst (λ l. AsksFront l u w) (take-append-drop (i + 1) files) (front_more (take (i + 1) files) (drop (i + 1) files) u w more)

-- all files are asked for, once the last is
pub all_reached : (files : List (Bor (List ℕ))) (i : ℕ) (u v : World) → length files ≤ i → v.asked ≡ u.asked ++ take i (map (λ file. file.now) files)
    → v.asked ≡ u.asked ++ map (λ file. file.now) files
all_reached files i u v le e =
    let long = length-map files (λ file. file.now) in
    e ∙ ap (λ l. u.asked ++ l) (take_all i (map (λ file. file.now) files) (omega (arith, le, long)))
