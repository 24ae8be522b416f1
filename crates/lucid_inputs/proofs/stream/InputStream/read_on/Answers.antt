use Rattle.lucid_inputs.proofs.Common.{◌≡◌, false, refl, ◌∙◌, rules, arith, length-map, element_of}
use Rattle.std.proofs.lemmas.Bool.{not-true}
use Rattle.lucid_inputs.proofs.StepLemmas.{reads_none, reads_further, step_done, step_smaller, step_within}
use Rattle.lucid_inputs.proofs.stream.InputStream.read_on.Goals as goal

pub pieces-init : goal.pieces-init
pieces-init g c = record { on = reads_none _ _ _ c.requires.fits; faults = refl; late = λ good. refl; within = c.requires.within }

pub pieces-preserved : goal.pieces-preserved
pieces-preserved g c =
    let going : c.pieces.self.ended ≡ false = first_of (cc (c.pieces-test.true), grind (arith, not-true, c.pieces-test.true)) in
    let done = step_done _ _ _ _ going c.in_ok-read_piece.ensures.ok in
    let few = length-map c.pieces.self.elements.items element_of in
    record {
      on = reads_further _ _ _ _ _ _ _ c.pieces.invariant.on going (omega (arith, few, c.pieces.self.elements.ok.0, c.len.ensures, c.if-len-index.true)) done
          c.in_ok-read_piece.ensures.reached c.in_ok-read_piece.ensures.others;
      faults = search rules;
      late = λ good. c.in_ok-read_piece.ensures.late (c.pieces.invariant.faults ∙ good) ∙ c.pieces.invariant.late good;
      within = step_within _ _ _ _ _ done c.if-self-most.true c.in_ok-read_piece.ensures.most;
    }

pub returns-in_err-read_piece-clause-late : goal.returns-in_err-read_piece-clause-late
returns-in_err-read_piece-clause-late g c good = c.in_err-read_piece.ensures.late (c.pieces.invariant.faults ∙ good) ∙ c.pieces.invariant.late good

pub pieces-smaller : goal.pieces-smaller
pieces-smaller g c =
    let going : c.pieces.self.ended ≡ false = first_of (cc (c.pieces-test.true), grind (arith, not-true, c.pieces-test.true)) in
    let done = step_done _ _ _ _ going c.in_ok-read_piece.ensures.ok in
    step_smaller _ _ _ _ _ done going c.if-self-most.true
