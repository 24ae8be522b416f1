use Rattle.lucid_explain_command.proofs.Common.{◌+◌, ◌≡◌, List, [], ◌∷◌, ◌++◌, map, take, sym, ap, ◌∙◌, string_bytes, map-append, Text, Given, plain_given, given_file}
use Rattle.std.proofs.lemmas.List.{map_more}
use Rattle.lucid_explain_command.specs.Errors.{plain_file, as_named}
use Rattle.lucid_explain_command.proofs.ReadAgain.{adds_none, adds_both, adds_of}
use Rattle.lucid_explain_command.proofs.again.add_given.Goals as goal

pub loop-word-init : goal.loop-word-init
loop-word-init g c = adds_none (g.F.Outlook.files c.args.outlook.now) (map plain_file c.args.files.now.items)

pub loop-word-preserved : goal.loop-word-preserved
loop-word-preserved g c =
    let files = g.F.Outlook.files c.args.outlook.now in
    let given = c.args.given.now in
    let i = c.loop-word.word-index in
    let front = map given_file (map plain_given (take i given)) in
    let whole : map given_file (map plain_given (take (i + 1) given)) ≡ front ++ c.deref.result.now ∷ [] =
    ap (λ (z : List (Text × Text)). map given_file z) (map_more plain_given given i c.word-item.result c.loop-word-test.true)
    ∙ map-append given_file (map plain_given (take i given)) _
    ∙ ap (λ (z : Text). front ++ z ∷ []) (ap (λ (w : Given). string_bytes w.file) (sym c.word-item.is) ∙ sym c.deref.ensures) in
    let all : map as_named (map given_file (map plain_given (take (i + 1) given))) ≡ map as_named front ++ as_named c.deref.result.now ∷ [] =
    ap (λ (z : List Text). map as_named z) whole ∙ map-append as_named front (c.deref.result.now ∷ []) in
    let before = map plain_file c.args.files.now.items in
    let after = map plain_file c.add_again.new.files.items in
    adds_of files (map as_named front ++ as_named c.deref.result.now ∷ []) (map as_named (map given_file (map plain_given (take (i + 1) given)))) before after
    (sym all)
    (adds_both files (map as_named front) (as_named c.deref.result.now ∷ []) before (map plain_file c.loop-word.files.items) after c.loop-word.invariant
    c.in_ok-add_again.ensures)
