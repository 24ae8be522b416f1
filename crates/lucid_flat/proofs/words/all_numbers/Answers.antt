use Rattle.lucid_flat.proofs.Common.{[], ◌∷◌, Some, length, sym, ap, ◌∙◌, arith, length-append}
use Rattle.lucid_flat.proofs.NumberLemmas.{few_none, few_past, fewer_words, front_pushed, few_all}
use Rattle.lucid_flat.proofs.words.all_numbers.Goals as goal

pub returns-in_default : goal.returns-in_default
returns-in_default c = sym (few_none _ _ _ c.loop-rest.invariant.read (sym c.loop-rest-test.ensures) (sym c.in_default.ensures))

pub returns-then-len : goal.returns-then-len
returns-then-len c = sym (few_past _ _ _ _ c.in-Some.n c.loop-rest.invariant.read (sym c.in-Some.ensures) (omega (arith, c.loop-rest.numbers.ok.0)))

pub loop-rest-smaller : goal.loop-rest-smaller
loop-rest-smaller c = fewer_words _ _ c.in-Some.n (sym c.in-Some.ensures)

pub loop-rest-preserved : goal.loop-rest-preserved
loop-rest-preserved c =
    let more = c.in_ok-push.ensures.items in record {
      read = front_pushed _ _ _ _ _ c.in-Some.n c.loop-rest.invariant.read (sym c.in-Some.ensures) more;
      few = omega (arith, ap length more, length-append c.loop-rest.numbers.items (c.in-Some.n ∷ []), c.loop-rest.numbers.ok.0);
    }

pub returns : goal.returns
returns c = ap Some c.from_vec.ensures ∙ sym (few_all _ _ _ c.loop-rest.invariant.read (sym c.loop-rest-test.ensures) c.loop-rest.invariant.few)
