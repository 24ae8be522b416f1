-- What a run has written so far.
use Rattle.lucid_test_programs.proofs.Common.{◌≡◌, ℕ, ◌+◌, suc, ◌<◌, ◌≤◌, List, [], ◌++◌, length, Option, Some, sym, ◌∙◌, ap, subst, add-one, true, arith, PlainValue, eod, PlainTree, empty, val, with_front, with_all, Writes, Vec, Global, length-append}
use Rattle.lucid_tree.specs.Levels.{Elements}
use Rattle.lucid_tree.specs.Output.{line}
use Rattle.lucid_ports.specs.declared.run.RunFault.{RunFault}
use Rattle.lucid_ports.specs.declared.run.RunFault.TheVariants.{WriteFault, NoMemory}
use Rattle.lucid_ports.specs.declared.run.Summary.{Summary}
use Rattle.lucid_ports.proofs.WritingLemmas.{with_nothing, all_all, front_all}
use Rattle.lucid_ports.proofs.FaultLemmas.{rises_from}
use Rattle.lucid_test_programs.specs.declared.running.Line.{Line}
use Rattle.lucid_test_programs.specs.declared.running.Line.TheVariants.{Bytes, End}
use Rattle.lucid_test_programs.specs.Runs.{no_lines, one_more, WritesFront, EndsAt, Finishes, Stops}
use Rattle.lucid_test_programs.specs.WritingLines.{HasLine, IsLineAt, FrontOf, StopsLine}
use Rattle.lucid_test_programs.proofs.Pieces.{all-front}

-- no line is written yet
pub writes_none : (b : Elements) (n : ℕ) (p : PlainTree) (old : Option (List ℕ)) → Writes b n p 0 old old
writes_none b n p old = record { bytes = []; lines = no_lines; written = with_nothing old }

writes_more : (b : Elements) (n : ℕ) (p : PlainTree) (k : ℕ) (old mid new : Option (List ℕ)) (v : PlainValue) → Writes b n p k old mid
    → val b n p empty k 0 ≡ Some v → (v ≡ eod → ⊥) → new ≡ with_all (line v) mid → Writes b n p (k + 1) old new
writes_more b n p k old mid new v before is some after =
    let next : Writes b n p (suc k) old new = record {
      bytes = before.bytes ++ line v;
      lines = one_more before.lines v is some;
      written = after ∙ ap (with_all (line v)) before.written ∙ all_all before.bytes (line v) old;
    } in
    subst (λ j. Writes b n p j old new) (sym (add-one k)) next

-- one line more is written
pub writes_more_line : (b : Elements) (n : ℕ) (p : PlainTree) (k : ℕ) (old mid new : Option (List ℕ)) (bytes : List ℕ) → Writes b n p k old mid
    → HasLine b n p k bytes → new ≡ with_all bytes mid → Writes b n p (k + 1) old new
writes_more_line b n p k old mid new bytes before has after =
    writes_more b n p k old mid new has.v before has.is has.goes_on (after ∙ ap (λ piece. with_all piece mid) has.shown)

-- the lines so far are a front of themselves
pub front_so_far : (b : Elements) (n : ℕ) (p : PlainTree) (k c : ℕ) (old new : Option (List ℕ)) → Writes b n p k old new → k ≤ c
    → WritesFront b n p c old new
front_so_far b n p k c old new before within = record {
  times = k;
  bytes = before.bytes;
  lines = before.lines;
  within = within;
  front = length before.bytes;
  fits = omega arith;
  written = before.written ∙ all-front before.bytes old;
}

-- the lines so far and a front of the next are a front of all these
pub front_of_next : (b : Elements) (n : ℕ) (p : PlainTree) (k c : ℕ) (old mid new : Option (List ℕ)) (v : PlainValue)
    → Writes b n p k old mid → k < c → val b n p empty k 0 ≡ Some v → (v ≡ eod → ⊥) → FrontOf (line v) mid new → WritesFront b n p c old new
front_of_next b n p k c old mid new v before within is some front = record {
  times = suc k;
  bytes = before.bytes ++ line v;
  lines = one_more before.lines v is some;
  within = omega arith;
  front = length before.bytes + front.0;
  fits = omega (arith, front.1, length-append before.bytes (line v));
  written = front.2 ∙ ap (with_front front.0 (line v)) before.written ∙ front_all front.0 before.bytes (line v) old;
}

-- a run that stops while it writes a line
pub stops_in_line : (b : Elements) (n : ℕ) (p : PlainTree) (k c : ℕ) (old mid new : Option (List ℕ)) (f g h : ℕ) (bytes : List ℕ) (fault : RunFault)
    → Writes b n p k old mid → k < c → f ≤ g → g ≤ h → HasLine b n p k bytes → StopsLine bytes mid new g h fault → Stops b n p c old new f h fault
stops_in_line b n p k c old mid new f g h bytes WriteFault before within i j has stops = (
  front_of_next b n p k c old mid new has.v before within has.is has.goes_on (subst (λ piece. FrontOf piece mid new) has.shown stops.0),
  rises_from f g h i j
      stops.1,
)
stops_in_line b n p k c old mid new f g h bytes NoMemory before within i j has stops =
    front_of_next b n p k c old mid new has.v before within has.is has.goes_on (subst (λ piece. FrontOf piece mid new) has.shown stops)
stops_in_line b n p k c old mid new f g h bytes _ before within i j has stops = absurd stops

-- what stands at the time, where it is a line
line_standing : (b : Elements) (n : ℕ) (p : PlainTree) (k t : ℕ) (l : Line) (bytes : Vec ℕ Global) → t ≡ k → IsLineAt b n p t l → l ≡ Bytes bytes
    → HasLine b n p k bytes.items
line_standing b n p k t l bytes at stands is = subst (λ j. HasLine b n p j bytes.items) at (subst (IsLineAt b n p t) is stands)

pub more_stands : (b : Elements) (n : ℕ) (p : PlainTree) (k t : ℕ) (old mid new : Option (List ℕ)) (l : Line) (bytes : Vec ℕ Global) (piece : List ℕ)
    → Writes b n p k old mid → t ≡ k → IsLineAt b n p t l → l ≡ Bytes bytes → piece ≡ bytes.items → new ≡ with_all piece mid → Writes b n p (k + 1) old new
more_stands b n p k t old mid new l bytes piece before at stands is same after =
    writes_more_line b n p k old mid new bytes.items before (line_standing b n p k t l bytes at stands is) (after ∙ ap (λ x. with_all x mid) same)

pub stop_stands : (b : Elements) (n : ℕ) (p : PlainTree) (k c t : ℕ) (old mid new : Option (List ℕ)) (f g h : ℕ) (l : Line) (bytes : Vec ℕ Global)
    (piece : List ℕ)
    (fault : RunFault) → Writes b n p k old mid → k < c → f ≤ g → g ≤ h → t ≡ k → IsLineAt b n p t l → l ≡ Bytes bytes → piece ≡ bytes.items
    → StopsLine piece mid new g h fault → Stops b n p c old new f h fault
stop_stands b n p k c t old mid new f g h l bytes piece fault before within i j at stands is same stops =
    stops_in_line b n p k c old mid new f g h bytes.items fault before within i j (line_standing b n p k t l bytes at stands is)
    (subst (λ x. StopsLine x mid new g h fault) same stops)

-- end of data stands at the time
pub ends_of : (b : Elements) (n : ℕ) (p : PlainTree) (k c t : ℕ) (old new : Option (List ℕ)) (l : Line) (summary : Summary) → Writes b n p k old new
    → k < c → t ≡ k → IsLineAt b n p t l → l ≡ End → summary.lines ≡ k → summary.ended ≡ true
    → (summary.held ≡ 0) × (summary.lost ≡ 0) × (summary.cleared ≡ 0) → Finishes b n p c summary old new
ends_of b n p k c t old new l summary before within at stands is lines ended nothing = record {
  writes = subst (λ j. Writes b n p j old new) (sym lines) before;
  ends = subst (λ e. EndsAt b n p e summary.lines c) (sym ended) (subst (λ j. EndsAt b n p true j c) (sym lines)
      (within, subst (λ j. val b n p empty j 0 ≡ Some eod) at (subst (IsLineAt b n p t) is stands)));
  held = nothing.0;
  lost = nothing.1;
  cleared = nothing.2;
}
