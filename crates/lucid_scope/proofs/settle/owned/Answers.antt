use Rattle.lucid_scope.proofs.Common.{◌≡◌, ℕ, List, length, ap, sym, ◌∙◌, Vec, Global, unwrap_or, position_or_len, same_name, owner_binding, position}
use Rattle.lucid_scope.specs.declared.scoped.Binding.TheVariants.{Input}
use Rattle.lucid_scope.proofs.Numbering.{number, positions, position_le-length}
use Rattle.lucid_scope.proofs.settle.owned.Goals as goal

pub returns-in-None : goal.returns-in-None
returns-in-None c =
    let keys : List (Vec ℕ Global) = c.args.inputs.now.set.keys in
    let names : List (List ℕ) = c.args.inputs.now.names.items in
    let x : List ℕ = c.args.name.now in
    let b : List ℕ = c.bytes.result.now in
    let place : ℕ = position_or_len (λ (k : Vec ℕ Global). same_name b k.items) keys in
    let number_is : c.unwrap_or-number.result ≡ position_or_len (λ n. same_name x n) names =
    c.unwrap_or-number.ensures
    ∙ ap (λ o. unwrap_or o c.len.result) c.get_index_of.ensures.index
    ∙ ap (λ l. unwrap_or (position (λ (k : Vec ℕ Global). same_name b k.items) keys) l) c.len.ensures.len
    ∙ number place (length keys) (position_le-length (λ (k : Vec ℕ Global). same_name b k.items) keys)
    ∙ ap (λ y. position_or_len (λ (k : Vec ℕ Global). same_name y k.items) keys) c.bytes.ensures.value
    ∙ positions x keys
    ∙ ap (λ l. position_or_len (λ n. same_name x n) l) c.args.inputs.now.same
    in
    ap Input number_is ∙ ap (λ o. owner_binding names x o) (sym c.in-None.is)
