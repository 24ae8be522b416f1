use Rattle.lucid_texts.proofs.Common.{◌≡◌, ◌<◌, sym, ap, ◌∙◌, arith, decimal, bytes_eq-Decides, number_of, parse-decimal}
use Rattle.lucid_texts.proofs.WordLemmas.{number_of_none, number_of-decimal}
use Rattle.lucid_texts.proofs.words.digits_of.Goals as goal

pub returns-then-n-bound : goal.returns-then-n-bound
returns-then-n-bound c =
    sym (number_of_none c.args.bound _ (λ n h e.
    let p = parse-decimal 64 n c.args.text.now c.parse.result (omega (arith, h)) (omega (arith, h)) e c.parse.ensures.value.0 in
    let s : n ≡ c.in-Ok.n = cc (p, c.in-Ok.is) in omega (arith, s, h)))

pub returns-then-eq : goal.returns-then-eq
returns-then-eq c =
    let e = sym ((bytes_eq-Decides c.format.result.now c.args.text.now).0 (sym c.if-eq.ensures)) ∙ c.format.ensures.text in
    let low : c.in-Ok.n < c.args.bound = omega arith in sym (ap (number_of c.args.bound) e ∙ number_of-decimal c.args.bound c.in-Ok.n (omega arith) low)

pub returns-else-eq : goal.returns-else-eq
returns-else-eq c =
    sym (number_of_none c.args.bound _ (λ n h e.
    let p = parse-decimal 64 n c.args.text.now c.parse.result (omega (arith, h)) (omega (arith, h)) e c.parse.ensures.value.0 in
    let s : n ≡ c.in-Ok.n = cc (p, c.in-Ok.is) in
    let same = (bytes_eq-Decides c.format.result.now c.args.text.now).1 (c.format.ensures.text ∙ (ap decimal (sym s) ∙ sym e)) in
    cc (same, c.if-eq.ensures)))

pub returns-in-Err : goal.returns-in-Err
returns-in-Err c =
    sym (number_of_none c.args.bound _ (λ n h e.
    let p = parse-decimal 64 n c.args.text.now c.parse.result (omega (arith, h)) (omega (arith, h)) e c.parse.ensures.value.0 in cc (p, c.in-Err.is)))
