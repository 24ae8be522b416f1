-- A way as it is told, from its parts.
use Rattle.std.proofs.Common.{◌≡◌, ℕ, List, [], ◌∷◌, ◌++◌, Some, ap, subst, ◌∙◌, append_assoc}
use Rattle.std.specs.Prelude.{slice_get}
use Rattle.lucid_tree.specs.Tree.{PlainTree}
use Rattle.lucid_equations.specs.declared.table.Table.{Table}
use Rattle.lucid_compile.specs.Settled.{table_of}
use Rattle.lucid_cert_rules.specs.Certificates.{PlainJudgment}
use Rattle.lucid_cert_rules.specs.declared.rows.Why.{Why}
use Rattle.lucid_explain_source.specs.Accepted.{IsProgram}
use Rattle.lucid_explain_errors.specs.declared.inputs.Input.{Input}
use Rattle.lucid_explain_errors.specs.declared.traced.Traced.{Traced}
use Rattle.lucid_explain_errors.specs.Ways.{Leads, traced_at}
use Rattle.lucid_explain_errors.specs.Texts.{head_text}
use Rattle.lucid_explain_errors.specs.Steps.{Told, named, steps_text}
use Rattle.lucid_explain_errors.specs.Ending.{ending_at}
use Rattle.lucid_explain_errors.specs.Errors.{last_number, time_in, way_text, TellsWay, told_of, TellsWhy, told}

pub told_way : (t : Told) (T : Table) (number end time : ℕ) (passed judgments steps none one two all : List ℕ) → Leads t.traced t.judgments number passed end
    → judgments ≡ passed ++ end ∷ [] → steps ≡ named T t.judgments judgments → time ≡ time_in (slice_get t.judgments number) → none ≡ []
    → one ≡ none ++ head_text t.traced time → two ≡ one ++ steps_text t steps → all ≡ two ++ ending_at t end → TellsWay t T number all
told_way t T number end time passed judgments steps none one two all leads whole found at empty first second third =
    let head : List ℕ = head_text t.traced time in
    let middle : List ℕ = steps_text t steps in
    let last : List ℕ = ending_at t end in
    let begun : one ≡ head = first ∙ ap (λ (z : List ℕ). z ++ head) empty in
    let said : all ≡ way_text t time steps end = third
    ∙ ap (λ (z : List ℕ). z ++ last) (second ∙ ap (λ (z : List ℕ). z ++ middle) begun)
    ∙ append_assoc head middle last in
    record {
      passed = passed;
      end = end;
      way = leads;
      says = said
          ∙ ap (λ (n : ℕ). way_text t n steps end) at
          ∙ ap (λ (is : List ℕ). way_text t (time_in (slice_get t.judgments number)) is end) (found ∙ ap (λ (is : List ℕ). named T t.judgments is) whole);
    }

-- what is told of a certificate, by what was read
pub why_told : (file source text : List ℕ) (inputs : List Input) (w : Why) (x : Traced) (e tree : PlainTree) (names : List (List ℕ)) (js : List PlainJudgment) (T : Table) (number : ℕ)
    → traced_at w.judgments (last_number w) ≡ Some x → IsProgram source e → tree ≡ e → js ≡ w.judgments → T ≡ table_of e names → number ≡ last_number w
    → TellsWay (record { file = file; source = source; tree = tree; judgments = js; inputs = inputs; traced = x }) T number text → TellsWhy file source inputs w text
why_told file source text inputs w x e tree names js T number traced program same listed compiled last way =
    let P : PlainTree → Type 0 = λ z. TellsWay (record { file = file; source = source; tree = z; judgments = js; inputs = inputs; traced = x }) T number text in
    let Q : List PlainJudgment → Type 0 = λ z. TellsWay (record { file = file; source = source; tree = e; judgments = z; inputs = inputs; traced = x }) T number text in
    let R : Table → Type 0 = λ z. TellsWay (told_of file source inputs e w x) z number text in
    let S : ℕ → Type 0 = λ z. TellsWay (told_of file source inputs e w x) (table_of e names) z text in
    told x e names traced program (subst S last (subst R compiled (subst Q listed (subst P same way))))
