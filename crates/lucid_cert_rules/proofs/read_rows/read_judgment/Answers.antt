use Rattle.lucid_cert_rules.proofs.Common.{ℕ, List, Option, Some, sym, ap, ◌∙◌, subst, arith, option_copied, plain, Value, words_left, IsValueOf, IsTailOf}
use denote.Ref.{Bor}
use Rattle.lucid_cert_rules.proofs.RowsTaken.{none_taken, one_taken, few_more, all_taken}
use Rattle.lucid_cert_rules.proofs.RowLemmas.{judgment_by, no_front, no_uses, no_words, no_value, tail_is}
use Rattle.lucid_cert_rules.proofs.read_rows.read_judgment.Goals as goal

pub returns-in_default : goal.returns-in_default
returns-in_default c = no_front c.args.tail.now c.in_default.ensures

pub returns-in_default-next_number : goal.returns-in_default-next_number
returns-in_default-next_number c =
    no_uses c.args.tail.now c.in-Some.front (words_left (option_copied c.in-Some.words)) c.in-Some.ensures
    (none_taken c.in-Some.front.count c.loop-rest.uses.items _ _ c.loop-rest.invariant.read
    (omega (arith, c.loop-rest-test.true, c.len.ensures, c.loop-rest.uses.ok.0)) c.in_default-next_number.ensures.taken)

pub loop-rest-preserved : goal.loop-rest-preserved
loop-rest-preserved c =
    let low = c.loop-rest-test.true in
    let more = c.in_ok-push.ensures.items in record {
      read =
          one_taken c.in-Some.front.count c.loop-rest.uses.items c.push.new.self.items c.in-Some-next_number.number _ _ _ c.loop-rest.invariant.read
          (omega (arith, low, c.len.ensures, c.loop-rest.uses.ok.0)) c.in-Some-next_number.ensures.taken more;
      few = few_more c.in-Some.front.count c.loop-rest.uses.items c.push.new.self.items c.in-Some-next_number.number
          (omega (arith, low, c.len.ensures, c.loop-rest.uses.ok.0)) more;
    }

pub returns-in_default-rest : goal.returns-in_default-rest
returns-in_default-rest c =
    let all = all_taken c.in-Some.front.count c.loop-rest.uses.items _ _ c.loop-rest.invariant.read
    (omega (arith, c.loop-rest-test.false, c.len.ensures, c.loop-rest.uses.ok.0)) in
    no_words c.args.tail.now c.in-Some.front (words_left (option_copied c.in-Some.words)) c.loop-rest.uses.items c.in-Some.ensures
    (all ∙ ap (λ (o : Option (Bor (List ℕ))). Some (c.loop-rest.uses.items, words_left (option_copied o))) c.in_default-rest.is)

pub returns-in_default-2 : goal.returns-in_default-2
returns-in_default-2 c =
    let all = all_taken c.in-Some.front.count c.loop-rest.uses.items _ _ c.loop-rest.invariant.read
    (omega (arith, c.loop-rest-test.false, c.len.ensures, c.loop-rest.uses.ok.0)) in
    let P : Option Value → Type 0 = IsValueOf c.in-Some-rest.text.now in
    no_value c.args.tail.now c.in-Some.front (words_left (option_copied c.in-Some.words)) c.loop-rest.uses.items c.in-Some-rest.text.now c.in-Some.ensures
    (all ∙ ap (λ (o : Option (Bor (List ℕ))). Some (c.loop-rest.uses.items, words_left (option_copied o))) c.in-Some-rest.is)
    (subst P c.in_default-2.is c.in_ok-value.ensures)

pub returns : goal.returns
returns c =
    let all = all_taken c.in-Some.front.count c.loop-rest.uses.items _ _ c.loop-rest.invariant.read
    (omega (arith, c.loop-rest-test.false, c.len.ensures, c.loop-rest.uses.ok.0)) in
    let P : Option Value → Type 0 = IsValueOf c.in-Some-rest.text.now in
    let Q : List ℕ → Type 0 = λ us. IsTailOf c.args.tail.now (Some (judgment_by c.in-Some.front us (plain c.in-Some-2.value))) in
    subst Q (sym c.from_vec.ensures)
    (tail_is c.args.tail.now c.in-Some.front (words_left (option_copied c.in-Some.words)) c.loop-rest.uses.items c.in-Some-rest.text.now c.in-Some-2.value
    c.in-Some.ensures
    (all ∙ ap (λ (o : Option (Bor (List ℕ))). Some (c.loop-rest.uses.items, words_left (option_copied o))) c.in-Some-rest.is)
    (subst P c.in-Some-2.is c.in_ok-value.ensures))
