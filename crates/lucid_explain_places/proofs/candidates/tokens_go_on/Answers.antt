use Rattle.std.proofs.Common.{length, subst, eq-eqb}
use Rattle.lucid_parse.specs.declared.refusal.ParseRefusal.{ParseRefusal}
use Rattle.lucid_parse.specs.Spelled.{IsSourceRefused}
use Rattle.lucid_explain_places.proofs.Begun.{begun_ends}
use Rattle.lucid_explain_places.proofs.candidates.tokens_go_on.Goals as goal

pub returns-in-Some-Syntax-clause-no : goal.returns-in-Some-Syntax-clause-no
returns-in-Some-Syntax-clause-no c = λ g.
    let P : ParseRefusal → Type 0 = λ why. IsSourceRefused c.args.bytes.now c.args.tokens.now why in
    let refused = subst P c.in-Some-Syntax.field-0-is c.in-Some-Syntax.ensures in
    eq-eqb c.in-Some-Syntax.at (length c.args.bytes.now)
    (begun_ends c.args.bytes.now c.args.tokens.now refused.0 c.in-Some-Syntax.at c.tokens_are_unique.ensures c.terminals_are_unique.ensures c.requires.scanned
    refused.1 refused.2.1 g)
