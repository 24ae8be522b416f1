use Rattle.lucid_explain_errors.specs.Errors.{no_text}
use Rattle.lucid_explain_errors.proofs.error.text_of_none.Goals as goal

pub returns : goal.returns
returns c = λ file source inputs. no_text c.args.line c.requires c.new.ensures.items
