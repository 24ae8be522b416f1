use Rattle.std.proofs.Common.{◌-◌, ◌++◌, [], ◌∷◌, codes, ◌∙◌, ap}
use Rattle.std.specs.String.{string_bytes}
use Rattle.std.proofs.lemmas.Result.{on_ok_weaker}
use Rattle.lucid_make.specs.Source.{name_of}
use Rattle.lucid_make.proofs.Lines.{joined_pieces}
use Rattle.lucid_make.proofs.write_definition.Goals as goal

-- the format writes the pieces of the line
pub returns : goal.returns
returns c =
    let name = name_of c.args.number in
    let before = name_of (c.args.number - 1) in
    let line = joined_pieces name before (codes " = ") (codes " fby (") (codes " + ") (codes ") mod 1000;") (10 ∷ []) in
    on_ok_weaker c.writeln.result (λ wrote. wrote ∙ ap (λ bs. string_bytes c.args.source.now ++ bs) line) c.writeln.ensures.bytes
