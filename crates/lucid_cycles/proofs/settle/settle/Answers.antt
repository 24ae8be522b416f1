use Rattle.lucid_cycles.proofs.Common.{◌≡◌, ℕ, ◌<◌, ◌≤◌, [], ◌∷◌, length, length-append, refl, sym, ap, subst, ◌∙◌, arith, rules, IsLeastEnough, potential, IsRound, AreLeastAdded}
use Rattle.lucid_cycles.proofs.Settling.{settling-begins, settling-more, small-for, low-for, made-levels, settled-enough}
use Rattle.lucid_cycles.proofs.settle.settle.Goals as goal

pub loop-last-init : goal.loop-last-init
loop-last-init c =
    settling-begins c.args.edges.now c.max-factor.result c.args.names c.new-levels.result.items c.in_ok-last.last.items c.new-levels.ensures.items
    (search rules)

pub loop-last-preserved : goal.loop-last-preserved
loop-last-preserved c =
    settling-more c.args.edges.now c.max-factor.result c.args.names c.loop-last.levels.items c.push.new.self.items c.loop-last.last.items
    c.in_ok-next.next.items c.loop-last.last c.in-Some.field-0
    (omega (arith, c.max-factor.ensures, c.requires.names)) c.requires.small refl c.in_ok-push.ensures.items
    (omega (arith, c.loop-last.levels.ok, c.len.ensures, c.loop-last-test.true)) c.loop-last.invariant
    (subst (λ p. IsRound c.args.edges.now c.max-factor.result p c.in_ok-next.next.items) c.deref.ensures.value c.in_ok-next.ensures)
    (subst (λ p. potential p c.in-Some.field-0 < potential c.in_ok-next.next.items c.in-Some.field-0) c.deref-in-loop-last.ensures.value
    (subst (λ p. potential c.deref-in-loop-last.result.now c.in-Some.field-0 < potential p c.in-Some.field-0) c.deref-in-loop-last-2.ensures.value
    c.in-Some.ensures))

pub round-requires : goal.round-requires
round-requires c = record {
  small = small-for c.args.edges.now c.max-factor.result c.args.names c.loop-last.levels.items c.loop-last.last.items c.deref.result.now c.loop-last.invariant
      c.deref.ensures.value c.requires.small;
  factor = omega (arith, c.max-factor.ensures, c.requires.names);
  low = low-for c.args.edges.now c.max-factor.result c.args.names c.loop-last.levels.items c.loop-last.last.items c.deref.result.now c.loop-last.invariant
      c.deref.ensures.value c.requires.names;
}

pub risen-requires : goal.risen-requires
risen-requires c =
    let round : IsRound c.args.edges.now c.max-factor.result c.deref.result.now c.in_ok-next.next.items = c.in_ok-next.ensures in record {
      same = ap length c.deref-in-loop-last-2.ensures.value ∙ round.same ∙ ap length (c.deref.ensures.value ∙ sym c.deref-in-loop-last.ensures.value);
      few = omega (arith, ap length c.deref-in-loop-last.ensures.value, c.loop-last.invariant.each, c.requires.names);
    }

pub added-add-requires : goal.added-add-requires
added-add-requires c = record {
  small = small-for c.args.edges.now c.max-factor.result c.args.names c.loop-last.levels.items c.loop-last.last.items c.deref-in_default.result.now
      c.loop-last.invariant c.deref-in_default.ensures.value c.requires.small;
  factor = omega (arith, c.max-factor.ensures, c.requires.names);
  low = low-for c.args.edges.now c.max-factor.result c.args.names c.loop-last.levels.items c.loop-last.last.items c.deref-in_default.result.now
      c.loop-last.invariant c.deref-in_default.ensures.value c.requires.names;
}

pub cycle-requires : goal.cycle-requires
cycle-requires c =
    let whole : c.deref-2.result.now ≡ c.push-2.new.self.items = c.deref-2.ensures.value in record {
      count = c.requires.names;
      factor = omega (arith, c.max-factor.ensures);
      many = omega (
        arith,
        ap length whole,
        ap length c.in_ok-push-2.ensures.items,
        length-append c.loop-last.levels.items (c.loop-last.last ∷ []),
        c.loop-last.levels.ok,
        c.len.ensures,
        c.loop-last-test.false,
        c.loop-last.invariant.few,
      );
      levels = made-levels c.args.edges.now c.max-factor.result c.args.names c.loop-last.levels.items c.deref-2.result.now c.loop-last.last.items
          c.loop-last.last c.loop-last.invariant refl (whole ∙ c.in_ok-push-2.ensures.items);
    }

pub returns-in_default : goal.returns-in_default
returns-in_default c =
    let round : IsRound c.args.edges.now c.max-factor.result c.loop-last.last.items c.in_ok-next.next.items =
    subst (λ p. IsRound c.args.edges.now c.max-factor.result p c.in_ok-next.next.items) c.deref.ensures.value c.in_ok-next.ensures in
    let still : (k : ℕ) → potential c.in_ok-next.next.items k ≤ potential c.loop-last.last.items k =
    λ k. omega (
      arith,
      c.in_default.ensures k,
      ap (λ p. potential p k) c.deref-in-loop-last.ensures.value,
      ap (λ p. potential p k)
          c.deref-in-loop-last-2.ensures.value,
    ) in
    let added : AreLeastAdded c.max-factor.result c.loop-last.last.items c.added-add.result c.args.edges.now =
    subst (λ p. AreLeastAdded c.max-factor.result p c.added-add.result c.args.edges.now) c.deref-in_default.ensures.value c.added-add.ensures in
    subst (λ p. IsLeastEnough c.args.edges.now c.args.names c.max-factor.result c.added-add.result p) (sym c.from_vec-potentials.ensures)
    (settled-enough c.args.edges.now c.max-factor.result c.args.names c.added-add.result c.loop-last.levels.items c.loop-last.last.items c.in_ok-next.next.items
    (omega (arith, c.max-factor.ensures)) c.loop-last.invariant round still added)
