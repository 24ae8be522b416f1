use Rattle.lucid_top.proofs.Common.{◌≡◌, List, [], drop, map, Some, sym, ap, ◌∙◌, string_bytes, plain_given, file_given, drop_of_length-le}
use Rattle.lucid_words.specs.declared.Given.{Given as Word}
use Rattle.lucid_top.proofs.Naming.{given_here, given_later}
use Rattle.lucid_top.proofs.files.file_given.Goals as goal

pub returns-then-same : goal.returns-then-same
returns-then-same c =
    ap Some (c.as_str.ensures.value ∙ ap (λ (w : Word). string_bytes w.file) c.word-item.is)
    ∙ given_here c.args.given.now c.loop-word.word-index c.word-item.result c.args.name.now c.loop-word-test.true
    (c.same.ensures.0 c.if-same.true ∙ ap (λ (w : Word). w.name) c.word-item.is) c.loop-word.invariant

pub loop-word-preserved : goal.loop-word-preserved
loop-word-preserved c =
    given_later c.args.given.now c.loop-word.word-index c.word-item.result c.args.name.now c.loop-word-test.true
    (λ same. absurd (cc (c.same.ensures.1 (same ∙ sym (ap (λ (w : Word). w.name) c.word-item.is)), c.if-same.false))) c.loop-word.invariant

pub returns : goal.returns
returns c =
    let none : drop c.loop-word.word-index c.args.given.now ≡ [] = drop_of_length-le c.args.given.now c.loop-word-test.false in
    sym (ap (λ (ws : List Word). file_given (map plain_given ws) c.args.name.now) none) ∙ c.loop-word.invariant
