-- A run that never began, and one that ended for want of memory in place of another fault: what is promised of runs holds of them.
use Rattle.lucid_top.proofs.Common.{◌≡◌, ℕ, ◌≤◌, ◌<◌, [], length, Option, Some, Err, inl, inr, refl, ap, sym, subst, ◌∙◌, arith, IsSomeAnd, le_refl, Contents, Rises, Summary, RunFault, Elements, Subject, RunView, HasElements, Ran, Figures, Stop, Outcome, Program, program_subject, program_counted, run_result, RanSo, ConsumesNothing}
use Rattle.std.proofs.Common.{Result}
use Rattle.lucid_ports.specs.declared.run.RunFault.TheVariants as fault
use Rattle.lucid_ports.proofs.WritingLemmas.{with_nothing}
use Rattle.lucid_session.specs.Subject.{no_lines}
use Rattle.lucid_report.specs.declared.stop.Stop.TheVariants as stop

-- what is promised of the result of a run
abbrev pub RanWith : Program → RunView → Result Summary RunFault → Type 0
RanWith p r result = (b : Elements) → HasElements r b → Ran (program_subject p) b r result × Figures (program_counted p) b r result

-- the outcome of that result
pub ran_with : (p : Program) (r : RunView) (o : Outcome) (result : Result Summary RunFault) → run_result o ≡ Some result → RanWith p r result → RanSo p r o
ran_with p r o result is h b has =
    subst (λ x. IsSomeAnd x (λ y. Ran (program_subject p) b r y × Figures (program_counted p) b r y)) (sym is) (h b has)

not_below_zero : (t : ℕ) → t < 0 → ⊥
not_below_zero t h = absurd (omega arith)

unread : (S : Subject) (b : Elements) (r : RunView) → r.out_after.bytes ≡ r.out_before.bytes → ConsumesNothing r → Rises r.before.faults r.after.faults
    → Ran S b r (Err fault.ReadFault)
unread S b r silent nothing rises = record {
  out = record {
    whole = 0;
    within = omega arith;
    bytes = [];
    output = no_lines;
    front = [];
    begun = inl refl;
    written = silent ∙ with_nothing r.out_before.bytes;
  };
  cut_off = inl refl;
  done = tt;
  deep = tt;
  exact = λ empties t h. elim h [
    | inl below ↦ absurd (not_below_zero t below)
    | inr at ↦ elim at.1 [ inl ended ↦ absurd ended | inr begun ↦ absurd (begun refl) ]
  ];
  stops = λ early defined quiet. absurd (quiet.no_read_failed rises);
  complete = λ deep quiet. absurd (quiet.no_read_failed rises);
  consumed = record { added = 0; none = λ _. refl; holds = λ d le k n q is old new x y. inl (nothing k n q is old new x y) };
  within = λ k n q is old new x y. inl (nothing k n q is old new x y);
  too_large = tt;
}

unmade : (S : Subject) (b : Elements) (r : RunView) → r.out_after.bytes ≡ r.out_before.bytes → ConsumesNothing r → Ran S b r (Err fault.NoMemory)
unmade S b r silent nothing = record {
  out = record {
    whole = 0;
    within = omega arith;
    bytes = [];
    output = no_lines;
    front = [];
    begun = inl refl;
    written = silent ∙ with_nothing r.out_before.bytes;
  };
  cut_off = inl refl;
  done = tt;
  deep = tt;
  exact = λ empties t h. elim h [
    | inl below ↦ absurd (not_below_zero t below)
    | inr at ↦ elim at.1 [ inl ended ↦ absurd ended | inr begun ↦ absurd (begun refl) ]
  ];
  stops = λ early defined quiet. refl;
  complete = λ deep quiet. refl;
  consumed = record { added = 0; none = λ _. refl; holds = λ d le k n q is old new x y. inl (nothing k n q is old new x y) };
  within = λ k n q is old new x y. inl (nothing k n q is old new x y);
  too_large = tt;
}

pub never_read : (p : Program) (r : RunView) → r.out_after.bytes ≡ r.out_before.bytes → ConsumesNothing r → Rises r.before.faults r.after.faults
    → RanWith p r (Err fault.ReadFault)
never_read p r silent nothing rises b has =
    (unread (program_subject p) b r silent nothing rises, record { held = λ _. tt; deep = λ _. tt; cleared = tt })

pub never_made : (p : Program) (r : RunView) → r.out_after.bytes ≡ r.out_before.bytes → ConsumesNothing r → RanWith p r (Err fault.NoMemory)
never_made p r silent nothing b has = (unmade (program_subject p) b r silent nothing, record { held = λ _. tt; deep = λ _. tt; cleared = tt })

-- a fault of which no memory was left to tell
for_memory : (S : Subject) (b : Elements) (r : RunView) (f : RunFault) → Ran S b r (Err f) → Ran S b r (Err fault.NoMemory)
for_memory S b r f x = record {
  out = x.out;
  cut_off = inr (inr refl);
  done = tt;
  deep = tt;
  exact = x.exact;
  stops = λ early defined quiet. refl;
  complete = λ deep quiet. refl;
  consumed = x.consumed;
  within = x.within;
  too_large = tt;
}

pub want_of_memory : (p : Program) (r : RunView) (f : RunFault) → RanWith p r (Err f) → RanWith p r (Err fault.NoMemory)
want_of_memory p r f h b has =
    (for_memory (program_subject p) b r f (h b has).0, record { held = λ _. tt; deep = λ _. tt; cleared = tt })

-- a place that tells the same tells the same number of bytes consumed
pub same_contents : (x : Option Contents) (old new : Contents) → x ≡ Some old → x ≡ Some new → length new.consumed ≤ length old.consumed
same_contents x old new a b = let same : old ≡ new = cc (a, b) in
    subst (λ c. length new.consumed ≤ length c.consumed) (sym same) (le_refl (length new.consumed))

-- want of memory before the run
pub no_memory : (p : Program) (r : RunView) (o : Outcome) (s : Stop) → o ≡ Err s → s ≡ stop.NoMemory → r.out_after.bytes ≡ r.out_before.bytes
    → ConsumesNothing r → RanSo p r o
no_memory p r o s is memory silent nothing =
    ran_with p r o (Err fault.NoMemory) (ap run_result is ∙ ap (λ (x : Stop). run_result (Err x)) memory) (never_made p r silent nothing)
