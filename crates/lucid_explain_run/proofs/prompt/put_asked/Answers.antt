use Rattle.std.proofs.Common.{◌≡◌, ℕ, List, ◌++◌, subst}
use Rattle.std.specs.Prelude.{OnOk}
use Rattle.lucid_explain_run.specs.Prompts.{prompt_text}
use Rattle.lucid_explain_run.proofs.prompt.put_asked.Goals as goal

pub returns : goal.returns
returns c =
    let P : List ℕ → Type 0 = λ other. OnOk c.put_prompt.result
    (c.put_prompt.new.text.items ≡ c.args.text.now.items ++ prompt_text c.args.source.now other c.args.lacking.now) in
    subst P c.other_at-other.ensures c.put_prompt.ensures
