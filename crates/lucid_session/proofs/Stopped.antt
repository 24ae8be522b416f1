-- A run for which there was no memory before it did anything.
use Rattle.lucid_session.proofs.Common.{◌≡◌, length, Option, refl, ap, ◌∙◌, inl, inr, arith, Err, Elements, with_nothing, Subject, no_lines, RunView, Ran, Causes, Counted, Figures}
use Rattle.std.proofs.Common.{[], Some}
use Rattle.lucid_ports.specs.declared.run.RunFault.TheVariants.{NoMemory}

-- two contents of one place are the same
pub same_some : {A : Type 0} (o p : Option A) (x y : A) → p ≡ o → o ≡ Some x → p ≡ Some y → x ≡ y
same_some o p x y same a b = cc

-- Nothing was done: the places and the output are as they were.
pub record DidNothing (r : RunView) : Type 0 where
  pub after : r.after ≡ r.before
  pub out_after : r.out_after ≡ r.out_before

-- Then it has written the lines of no time,
pub ran_nothing : (S : Subject) (b : Elements) (r : RunView) → DidNothing r → Ran S b r (Err NoMemory)
ran_nothing S b r did = record {
  out = record {
    whole = 0;
    within = omega arith;
    bytes = [];
    output = no_lines;
    front = [];
    begun = inl refl;
    written = ap (λ o. o.bytes) did.out_after ∙ with_nothing r.out_before.bytes;
  };
  cut_off = inl refl;
  done = tt;
  deep = tt;
  exact = λ e t w. elim w [ inl lt ↦ absurd (omega arith) | inr at ↦ elim at.1 [ inl ended ↦ absurd ended | inr begun ↦ absurd (begun refl) ] ];
  stops = λ early defined quiet. refl;
  complete = λ deep quiet. refl;
  consumed = record {
    added = 0;
    none = λ e. refl;
    holds = λ d le k n q is old new before after.
        inl
        (omega (
          arith,
          ap (λ c. length c.consumed) (same_some (r.before.place q).contents (r.after.place q).contents old new
              (ap (λ w. (w.place q).contents) did.after) before after),
        ));
  };
  within = λ k n q is old new before after.
      inl
      (omega (
        arith,
        ap (λ c. length c.consumed) (same_some (r.before.place q).contents (r.after.place q).contents old new
            (ap (λ w. (w.place q).contents) did.after) before after),
      ));
  too_large = tt;
}

-- its figures say nothing,
pub figures_nothing : {K E : Type 0} (C : Counted K E) (b : Elements) (r : RunView) → Figures C b r (Err NoMemory)
figures_nothing C b r = record { held = λ k. tt; deep = λ k. tt; cleared = tt }

-- and nothing failed.
pub causes_nothing : (r : RunView) → DidNothing r → Causes r (Err NoMemory)
causes_nothing r did = record {
  read = λ e. cc;
  write = λ e. cc;
  no_other_read = inr (ap (λ w. w.faults) did.after);
  no_other_write = inr (ap (λ o. o.faults) did.out_after);
  read_late = λ good. ap (λ w. w.late) did.after;
  write_late = λ good. ap (λ o. o.late) did.out_after;
  read_count = omega (arith, ap (λ w. w.faults) did.after);
  write_count = omega (arith, ap (λ o. o.faults) did.out_after);
  too_large = tt;
  held = tt;
}
