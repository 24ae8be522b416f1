-- What one piece after another does to a stream that is read on.
use Rattle.lucid_inputs.proofs.Common.{cond, ◌≡◌, ℕ, ◌+◌, ◌-◌, ◌<◌, ◌≤◌, true, false, List, [], ◌∷◌, ◌++◌, length, take, drop, Option, None, Some, IfSome, option_map, refl, sym, ap, subst, ◌∙◌, arith, append_assoc, add-one, le_refl, IsTrue, ◌==◌, StartsWith, concat, append-nil, length-append, sum_by-append, PlainValue, line_value_of, lines_of, Contents, World, advanced, Stream, Fits, FitsPlace, all_bytes, line_ends, ReadsOn, IsWithin, Step, step_bytes, Takes, takes_part, takes_line, last_element, line_with, with_end, with_line, with_part, max, take-append-drop}
use Rattle.std.specs.Prelude.{Bool}
use Rattle.lucid_value.specs.Lines.{end_of_line}
use Rattle.lucid_ports.specs.World.{KeepsOthers}
use Rattle.lucid_ports.proofs.WorldLemmas.{KeepsOthers-trans}
use Rattle.lucid_ports.proofs.ContentsLemmas.{both_consumed}
use Rattle.lucid_inputs.specs.Steps.{step_end}
use Rattle.lucid_inputs.proofs.LineLemmas.{end_past}
use Rattle.lucid_inputs.proofs.StreamLemmas.{fits_part, fits_line, fits_end, elements_are}

-- consuming changes none of all bytes
pub all_bytes-advanced : (n : ℕ) (c : Contents) → all_bytes (advanced n c) ≡ all_bytes c
all_bytes-advanced n c = append_assoc c.consumed (take n c.left) (drop n c.left) ∙ ap (λ r. c.consumed ++ r) (take-append-drop n c.left)

-- What a stream whose end isn't met does in a step, where the contents are told.
pub record StepTold (index : ℕ) (old new : Stream) (c : Contents) (taken : ℕ) : Type 0 where
  pub bound : length old.elements ≤ index → new.consumed ≤ max old.consumed (end_of_line (all_bytes c) index)
  pub fits : Fits new (advanced taken c)

-- What it does whatever is told.
pub record StepDone (old new : Stream) (before after : Option Contents) : Type 0 where
  pub place : new.place ≡ old.place
  pub more : List PlainValue
  pub elements : new.elements ≡ old.elements ++ more
  pub taken : ℕ
  pub consumed : new.consumed ≡ old.consumed + taken
  pub contents : after ≡ option_map (advanced taken) before
  -- it gets on
  pub gets_on : (new.ended ≡ false → 0 < taken) × (IsTrue new.ended → taken ≡ 0)
  pub told : (index : ℕ) → IfSome before (λ c. Fits old c → StepTold index old new c taken)

-- bytes without the last of them hold few line ends
few_ends : (c : Contents) (old : Stream) (xs : List ℕ) (index : ℕ) → old.ended ≡ false → Fits old c → line_ends xs ≡ 0 → length old.elements ≤ index
    → line_ends (c.consumed ++ xs) ≤ index
few_ends c old xs index e f plain few = omega (arith, sum_by-append (λ b. cond (b == 10) 1 0) c.consumed xs, elements_are old c e f, plain)

-- the byte that follows some bytes with few line ends isn't past the line that is wanted
byte_wanted : (c : Contents) (xs : List ℕ) (m : ℕ) (index : ℕ) → line_ends (c.consumed ++ xs) ≤ index → StartsWith c.left (xs ++ m ∷ [])
    → length c.consumed + length xs + 1 ≤ end_of_line (all_bytes c) index
byte_wanted c xs m index few front =
    let behind = drop (length (xs ++ m ∷ [])) c.left in
    let left : c.left ≡ xs ++ m ∷ behind =
    sym (take-append-drop (length (xs ++ m ∷ [])) c.left) ∙ ap (λ r. r ++ behind) front ∙ append_assoc xs (m ∷ []) behind in
    let all : all_bytes c ≡ (c.consumed ++ xs) ++ m ∷ behind = ap (λ r. c.consumed ++ r) left ∙ sym (append_assoc c.consumed xs (m ∷ behind)) in
    let far = end_past (c.consumed ++ xs) m behind index few in
    let same = ap (λ bytes. end_of_line bytes index) all in
    let next = ap (λ n. length (concat (take n (lines_of ((c.consumed ++ xs) ++ m ∷ behind))))) (add-one index) in
    omega (arith, far, same, next, length-append c.consumed xs)

-- some bytes, the last of them apart
split_last : (b : ℕ) (bs : List ℕ) → (front : List ℕ) × (last : ℕ) × (b ∷ bs ≡ front ++ last ∷ [])
split_last b [] = ([], b, refl)
split_last b (c ∷ cs) = let r = split_last c cs in (b ∷ r.0, r.1, ap (λ l. b ∷ l) r.2)

none_advanced : (c : Contents) → c ≡ advanced 0 c
none_advanced c = ap (λ bytes. record { consumed = bytes; left = c.left }) (sym (append-nil c.consumed))

none_consumed : (o : Option Contents) → o ≡ option_map (advanced 0) o
none_consumed None = refl
none_consumed (Some c) = ap Some (none_advanced c)

end_told : (index : ℕ) (old : Stream) (before : Option Contents) → old.ended ≡ false → IfSome before (λ c. c.left ≡ [])
    → IfSome before (λ c. Fits old c → StepTold index old (with_end old) c 0)
end_told index old None going none = tt
end_told index old (Some c) going none = λ f. record {
  bound = λ few. omega arith;
  fits = subst (λ d. Fits (with_end old) d) (none_advanced c) (fits_end old c going f none);
}

end_done : (old : Stream) (before : Option Contents) → old.ended ≡ false → IfSome before (λ c. c.left ≡ []) → StepDone old (with_end old) before before
end_done old before going none = record {
  place = refl;
  more = last_element old.partial;
  elements = refl;
  taken = 0;
  consumed = omega arith;
  contents = none_consumed before;
  gets_on = (λ e. cc, λ t. refl);
  told = λ index. end_told index old before going none;
}

part_bound : (c : Contents) (old : Stream) (xs : List ℕ) (index : ℕ) → old.ended ≡ false → Fits old c → 0 < length xs → StartsWith c.left xs
    → line_ends xs ≡ 0 → length old.elements ≤ index → old.consumed + length xs ≤ end_of_line (all_bytes c) index
part_bound c old [] index going f some front plain few = absurd (omega arith)
part_bound c old (b ∷ bs) index going f some front plain few =
    let r = split_last b bs in
    let none : line_ends r.0 ≡ 0 = omega (arith, plain, ap line_ends r.2, sum_by-append (λ x. cond (x == 10) 1 0) r.0 (r.1 ∷ [])) in
    let wanted = byte_wanted c r.0 r.1 index (few_ends c old r.0 index going f none few) (subst (λ l. StartsWith c.left l) r.2 front) in
    omega (arith, wanted, f.consumed, ap length r.2, length-append r.0 (r.1 ∷ []))

part_told : (index : ℕ) (old : Stream) (before : Option Contents) (xs : List ℕ) → old.ended ≡ false → 0 < length xs
    → IfSome before (λ c. StartsWith c.left xs) → line_ends xs ≡ 0 → IfSome before (λ c. Fits old c → StepTold index old (with_part xs old) c (length xs))
part_told index old None xs going some front plain = tt
part_told index old (Some c) xs going some front plain = λ f. record {
  bound = λ few. let far = part_bound c old xs index going f some front plain few in omega arith;
  fits = fits_part old c xs going f front plain;
}

part_done : (old : Stream) (before : Option Contents) (xs : List ℕ) → old.ended ≡ false → 0 < length xs
    → IfSome before (λ c. StartsWith c.left xs) → line_ends xs ≡ 0 → StepDone old (with_part xs old) before (option_map (advanced (length xs)) before)
part_done old before xs going some front plain = record {
  place = refl;
  more = [];
  elements = sym (append-nil old.elements);
  taken = length xs;
  consumed = refl;
  contents = refl;
  gets_on = (λ e. some, λ t. cc);
  told = λ index. part_told index old before xs going some front plain;
}

line_told : (index : ℕ) (old : Stream) (before : Option Contents) (xs : List ℕ) → old.ended ≡ false
    → IfSome before (λ c. StartsWith c.left (xs ++ 10 ∷ [])) → line_ends xs ≡ 0
    → IfSome before (λ c. Fits old c → StepTold index old (with_line xs old) c (length (xs ++ 10 ∷ [])))
line_told index old None xs going front plain = tt
line_told index old (Some c) xs going front plain = λ f. record {
  bound = λ few.
      let wanted = byte_wanted c xs 10 index (few_ends c old xs index going f plain few) front in
      omega (arith, wanted, f.consumed);
  fits = fits_line old c xs going f front plain;
}

line_done : (old : Stream) (before : Option Contents) (xs : List ℕ) → old.ended ≡ false → IfSome before (λ c. StartsWith c.left (xs ++ 10 ∷ []))
    → line_ends xs ≡ 0 → StepDone old (with_line xs old) before (option_map (advanced (length (xs ++ 10 ∷ []))) before)
line_done old before xs going front plain = record {
  place = refl;
  more = line_value_of (line_with old.partial xs) ∷ [];
  elements = refl;
  taken = length (xs ++ 10 ∷ []);
  consumed = omega (arith, length-append xs (10 ∷ []));
  contents = refl;
  gets_on = (λ e. omega (arith, length-append xs (10 ∷ [])), λ t. cc);
  told = λ index. line_told index old before xs going front plain;
}

takes_done : (old new : Stream) (before : Option Contents) (bytes : List ℕ) → old.ended ≡ false → 0 < length bytes
    → IfSome before (λ c. StartsWith c.left bytes) → Takes bytes old new → StepDone old new before (option_map (advanced (length bytes)) before)
takes_done old new before bytes going some front (takes_part plain is) =
    subst (λ n. StepDone old n before (option_map (advanced (length bytes)) before)) (sym is) (part_done old before bytes going some front plain)
takes_done old new before bytes going some front (takes_line xs joined plain is) =
    let these = subst (λ b. IfSome before (λ c. StartsWith c.left b)) joined front in
    let done = subst (λ n. StepDone old n before (option_map (advanced (length (xs ++ 10 ∷ []))) before)) (sym is)
    (line_done old before xs going these plain) in
    subst (λ b. StepDone old new before (option_map (advanced (length b)) before)) (sym joined) done

pub step_done : (old new : Stream) (before after : Option Contents) → old.ended ≡ false → Step old new before after → StepDone old new before after
step_done old new before after going (step_end none same is) =
    subst (λ n. StepDone old n before after) (sym is) (subst (λ a. StepDone old (with_end old) before a) (sym same) (end_done old before going none))
step_done old new before after going (step_bytes bytes some front moved takes) =
    subst (λ a. StepDone old new before a) (sym moved) (takes_done old new before bytes going some front takes)

-- nothing is read yet
pub reads_none : (index : ℕ) (s : Stream) (w : World) → FitsPlace s (w.place s.place) → ReadsOn index s s w w
reads_none index s w f = record {
  place = refl;
  more = [];
  elements = sym (append-nil s.elements);
  ended = λ t. refl;
  taken = 0;
  consumed = omega arith;
  contents = none_consumed (w.place s.place).contents;
  reached = refl;
  others = record { names = λ name. refl; asked = refl; others = λ k other. refl; faults = le_refl _ };
  bound = own_bound (w.place s.place).contents;
  fits = f;
}
  where
    own_bound : (o : Option Contents) → IfSome o (λ c. s.consumed ≤ max s.consumed (end_of_line (all_bytes c) index))
    own_bound None = tt
    own_bound (Some c) = omega arith

bound_further : (index : ℕ) (old mid new : Stream) (o p : Option Contents) (n t : ℕ) → p ≡ option_map (advanced n) o → length mid.elements ≤ index
    → IfSome o (λ c. mid.consumed ≤ max old.consumed (end_of_line (all_bytes c) index)) → IfSome p (λ c. Fits mid c)
    → IfSome p (λ c. Fits mid c → StepTold index mid new c t) → IfSome o (λ c. new.consumed ≤ max old.consumed (end_of_line (all_bytes c) index))
bound_further index old mid new None p n t moved few bound fits told = tt
bound_further index old mid new (Some c) p n t moved few bound fits told =
    let f = subst (λ q. IfSome q (λ d. Fits mid d)) moved fits in
    let step = subst (λ q. IfSome q (λ d. Fits mid d → StepTold index mid new d t)) moved told f in
    let next = step.bound few in
    let same = ap (λ bytes. end_of_line bytes index) (all_bytes-advanced n c) in
    omega (arith, next, same, bound)

fits_further : (index : ℕ) (mid new : Stream) (p q : Option Contents) (t : ℕ) → q ≡ option_map (advanced t) p → IfSome p (λ c. Fits mid c)
    → IfSome p (λ c. Fits mid c → StepTold index mid new c t) → IfSome q (λ c. Fits new c)
fits_further index mid new None q t moved fits told = subst (λ r. IfSome r (λ c. Fits new c)) (sym moved) tt
fits_further index mid new (Some c) q t moved fits told = subst (λ r. IfSome r (λ d. Fits new d)) (sym moved) (told fits).fits

-- one step more
pub reads_further : (index : ℕ) (old mid new : Stream) (w0 w1 w2 : World) → ReadsOn index old mid w0 w1 → mid.ended ≡ false
    → length mid.elements ≤ index → StepDone mid new (w1.place mid.place).contents (w2.place mid.place).contents → w2.reached ≡ w1.reached
    → KeepsOthers mid.place w1 w2 → ReadsOn index old new w0 w2
reads_further index old mid new w0 w1 w2 r going few d reached others =
    let moved = subst (λ p. (w2.place p).contents ≡ option_map (advanced d.taken) (w1.place p).contents) r.place d.contents in
    let told = subst (λ p. IfSome (w1.place p).contents (λ c. Fits mid c → StepTold index mid new c d.taken)) r.place (d.told index) in
    record {
      place = d.place ∙ r.place;
      more = r.more ++ d.more;
      elements = d.elements ∙ ap (λ es. es ++ d.more) r.elements ∙ append_assoc old.elements r.more d.more;
      ended = λ t. let same = ap (λ s. s.ended) (r.ended t) in cc;
      taken = r.taken + d.taken;
      consumed = omega (arith, d.consumed, r.consumed);
      contents = both_consumed r.taken d.taken (r.taken + d.taken) _ _ _ r.contents refl moved;
      reached = reached ∙ r.reached;
      others = KeepsOthers-trans old.place w0 w1 w2 r.others (subst (λ p. KeepsOthers p w1 w2) r.place others);
      bound = bound_further index old mid new _ _ r.taken d.taken r.contents few r.bound r.fits told;
      fits = fits_further index mid new _ _ d.taken moved r.fits told;
    }

-- no more than `most` bytes after a step
pub step_within : (old new : Stream) (before after : Option Contents) (most : ℕ) → StepDone old new before after → old.consumed < most
    → new.consumed ≤ most → IsWithin new most
step_within old new before after most d less within = record {
  consumed = within;
  ended = λ t. let none = d.gets_on.1 t in omega (arith, d.consumed, none);
}

smaller_at : (m : Bool) (new old taken most : ℕ) → new ≡ old + taken → (m ≡ false → 0 < taken) → (m ≡ true → taken ≡ 0) → old < most
    → (most - new) + cond m 0 1 < (most - old) + 1
smaller_at true new old taken most sum on none less = let same = none refl in omega arith
smaller_at false new old taken most sum on none less = let some = on refl in omega arith

-- fewer bytes may be read after a step, or the end is met
pub step_smaller : (old new : Stream) (before after : Option Contents) (most : ℕ) → StepDone old new before after → old.ended ≡ false → old.consumed < most
    → (most - new.consumed) + cond new.ended 0 1 < (most - old.consumed) + cond old.ended 0 1
step_smaller old new before after most d going less =
    let smaller = smaller_at new.ended new.consumed old.consumed d.taken most d.consumed d.gets_on.0 d.gets_on.1 less in
    rw going smaller
