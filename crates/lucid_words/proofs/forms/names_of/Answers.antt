use Rattle.lucid_words.proofs.Common.{◌≡◌, ap, Err, false, err_from_is_err_and, is_name}
use Rattle.lucid_words.specs.declared.WordsRefusal.TheVariants.{Usage}
use Rattle.lucid_value.specs.declared.bytes.MakeRefusal.{MakeRefusal}
use Rattle.lucid_value.specs.declared.bytes.MakeRefusal.TheVariants.{NotThat, NoMemory}
use Rattle.lucid_words.specs.Refusal.{refusal_for}
use Rattle.lucid_words.proofs.Each.{one_fails, false_from_not}
use Rattle.lucid_words.proofs.forms.names_of.Goals as goal

-- usage comes from bytes that are no name alone
not_that : (refusal : MakeRefusal) → refusal_for refusal ≡ Usage → refusal ≡ NotThat
not_that NotThat usage = λ _. NotThat
not_that NoMemory usage = cc

pub returns-in_err-name : goal.returns-in_err-name
returns-in_err-name c =
    let p = err_from_is_err_and c.from_residual.result c.from_residual.ensures.1 in
    rw (p.1, p.2) (λ usage.
    let fails : is_name c.as_bytes.result.now ≡ false = false_from_not _ (c.in_err-name.ensures.refused.0 (ap Err (not_that _ usage))) in
    one_fails is_name _ c.args.pieces.now c.loop-piece.piece-index _ c.loop-piece-test.true (rw c.as_bytes.ensures.value at fails))
