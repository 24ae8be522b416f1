use Rattle.lucid_explain_command.proofs.Common.{ℕ, ◌+◌, ◌≡◌, List, [], ◌∷◌, ◌++◌, map, take, sym, ap, ◌∙◌, subst, Text, Given, plain_given}
use Rattle.std.proofs.lemmas.List.{map_more}
use Rattle.lucid_explain_command.specs.Errors.{plain_input, Adds}
use Rattle.lucid_explain_command.proofs.ReadAgain.{adds_none, adds_both, adds_of}
use Rattle.lucid_explain_command.proofs.again.inputs_again.Goals as goal

pub loop-word-init : goal.loop-word-init
loop-word-init g c =
    let files = g.F.Outlook.files c.args.outlook.now in
    let P : List (Text × List ℕ) → Type 0 = λ z. Adds files [] [] z in
    subst P (ap (map plain_input) (sym c.new-inputs.ensures.items)) (adds_none files [])

pub loop-word-preserved : goal.loop-word-preserved
loop-word-preserved g c =
    let files = g.F.Outlook.files c.args.outlook.now in
    let given = c.args.given.now in
    let i = c.loop-word.word-index in
    let front = map plain_given (take i given) in
    let word = c.word-item.result in
    let whole : map plain_given (take (i + 1) given) ≡ front ++ plain_given word ∷ [] = map_more plain_given given i word c.loop-word-test.true
    ∙ ap (λ (w : Given). front ++ plain_given w ∷ []) (sym c.word-item.is) in
    let after = map plain_input c.add_word.new.inputs.items in
    adds_of files (front ++ plain_given word ∷ []) (map plain_given (take (i + 1) given)) [] after (sym whole)
    (adds_both files front (plain_given word ∷ []) [] (map plain_input c.loop-word.inputs.items) after c.loop-word.invariant c.in_ok-add_word.ensures)
