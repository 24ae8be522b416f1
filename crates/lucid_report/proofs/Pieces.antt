-- Parts of a line written one behind the other.
use Rattle.lucid_report.proofs.Common.{◌≡◌, ℕ, ◌+◌, ◌≤◌, ◌<◌, List, [], ◌∷◌, ◌++◌, length, get_or, Option, Some, None, Err, refl, ap, sym, subst, ◌∙◌, drop, arith, Failed, with_all, rises_from, Told, line_of, WritesWhole, WritesFront, append_assoc, take-append-le, take-append-drop, take_more, decimal}
use Rattle.std.proofs.Common.{take, Result}
use Rattle.std.proofs.lemmas.List.{length-append}
use Rattle.lucid_ports.specs.declared.fault.PortFault.{PortFault}
use Rattle.lucid_ports.specs.declared.fault.PortFault.TheVariants.{NoMemory}
use Rattle.lucid_ports.specs.Writing.{with_front}
use Rattle.lucid_ports.proofs.WritingLemmas.{all_all, front_all}
use Rattle.lucid_report.specs.declared.report.Part.{Part}
use Rattle.lucid_report.specs.declared.report.Part.TheVariants.{Text, Number}
use Rattle.lucid_report.specs.Telling.{WritesLine}

-- a call that stopped so
abbrev pub stopped : {T : Type 0} → PortFault → Result T PortFault
stopped fault = Err fault

-- a front of a piece is one of the piece with another behind it
front_longer : (n : ℕ) (a b : List ℕ) (o : Option (List ℕ)) → n ≤ length a → with_front n a o ≡ with_front n (a ++ b) o
front_longer n a b None h = refl
front_longer n a b (Some bytes) h = ap (λ front. Some (bytes ++ front)) (sym (take-append-le n a b h))

front_more : (a b : List ℕ) (old new : Told) → WritesFront a old new → WritesFront (a ++ b) old new
front_more a b old new front = (front.0, omega (arith, front.1, length-append a b), front.2 ∙ front_longer front.0 a b old.bytes front.1)

-- a whole piece and a front of the next
front_next : (a b : List ℕ) (old mid new : Told) → WritesWhole a old mid → WritesFront b mid new → WritesFront (a ++ b) old new
front_next a b old mid new whole front =
    (length a + front.0, omega (arith, front.1, length-append a b), front.2 ∙ ap (with_front front.0 b) whole ∙ front_all front.0 a b old.bytes)

-- parts, and further ones
line_of-append : (xs ys : List Part) → line_of (xs ++ ys) ≡ line_of xs ++ line_of ys
line_of-append [] ys = refl
line_of-append (Text t ∷ xs) ys = ap (λ rest. t.now ++ rest) (line_of-append xs ys) ∙ sym (append_assoc t.now (line_of xs) (line_of ys))
line_of-append (Number n ∷ xs) ys = ap (λ rest. decimal n ++ rest) (line_of-append xs ys) ∙ sym (append_assoc (decimal n) (line_of xs) (line_of ys))

line_of_more : (xs : List Part) (i : ℕ) (d : Part) → i < length xs → line_of (take (i + 1) xs) ≡ line_of (take i xs) ++ line_of (get_or xs i d ∷ [])
line_of_more xs i d h = ap line_of (take_more xs i d h) ∙ line_of-append (take i xs) (get_or xs i d ∷ [])

-- one part more is written
pub more_parts : (xs : List Part) (i : ℕ) (d : Part) (old mid new : Told) → i < length xs → WritesWhole (line_of (take i xs)) old mid
    → WritesWhole (line_of (get_or xs i d ∷ [])) mid new → WritesWhole (line_of (take (i + 1) xs)) old new
more_parts xs i d old mid new h before after =
    after ∙ ap (with_all (line_of (get_or xs i d ∷ []))) before ∙ all_all (line_of (take i xs)) (line_of (get_or xs i d ∷ [])) old.bytes
    ∙ ap (λ line. with_all line old.bytes) (sym (line_of_more xs i d h))

-- a line of which a part is written in front
front_in_part : (xs : List Part) (i : ℕ) (d : Part) (old mid new : Told) → i < length xs → WritesWhole (line_of (take i xs)) old mid
    → WritesFront (line_of (get_or xs i d ∷ [])) mid new → WritesFront (line_of xs) old new
front_in_part xs i d old mid new lt before front =
    let more : WritesFront (line_of (take (i + 1) xs)) old new =
    subst (λ line. WritesFront line old new) (sym (line_of_more xs i d lt))
    (front_next (line_of (take i xs)) (line_of (get_or xs i d ∷ [])) old mid new before front) in
    let parts : line_of xs ≡ line_of (take (i + 1) xs) ++ line_of (drop (i + 1) xs) =
    ap line_of (sym (take-append-drop (i + 1) xs)) ∙ line_of-append (take (i + 1) xs) (drop (i + 1) xs) in
    subst (λ line. WritesFront line old new) (sym parts) (front_more (line_of (take (i + 1) xs)) (line_of (drop (i + 1) xs)) old new more)

pub stops_in_part : (T : Type 0) (xs : List Part) (i : ℕ) (d : Part) (old mid new : Told) (fault : PortFault) → i < length xs
    → WritesWhole (line_of (take i xs)) old mid → old.faults ≤ mid.faults → mid.faults ≤ new.faults
    → WritesLine (line_of (get_or xs i d ∷ [])) (stopped {T = T} fault) mid new → WritesLine (line_of xs) (stopped {T = T} fault) old new
stops_in_part T xs i d old mid new Failed lt before le ge line =
    (front_in_part xs i d old mid new lt before line.0, rises_from old.faults mid.faults new.faults le ge line.1)
stops_in_part T xs i d old mid new NoMemory lt before le ge line = front_in_part xs i d old mid new lt before line
