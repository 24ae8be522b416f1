-- A string is the longest token, or none stands.
use Rattle.lucid_scan.proofs.Common.{ℕ, List, sym, ap, subst, ◌∙◌, prefix_len, is_text_byte, both_ways, take_rest, is_text_value, Closed}
use Rattle.lucid_scan.proofs.Longest.{text_stands, text_none}
use Rattle.lucid_scan.proofs.front.text_token.Goals as goal

pub returns-then-closes_text-clause-some : goal.returns-then-closes_text-clause-some
returns-then-closes_text-clause-some c =
    let inside = take_rest c.args.bytes.now 1 in
    text_stands c.args.bytes.now c.text_len-n.result (c.text_len-n.ensures ∙ ap (prefix_len is_text_byte) inside) c.requires
    (subst (λ (l : List ℕ). Closed 39 is_text_value l c.text_len-n.result) inside (c.closes_text.ensures.0 c.if-closes_text.true))

pub returns-clause-none : goal.returns-clause-none
returns-clause-none c =
    let inside = take_rest c.args.bytes.now 1 in
    text_none c.args.bytes.now c.text_len-n.result (c.text_len-n.ensures ∙ ap (prefix_len is_text_byte) inside) c.requires
    (λ closed.
    both_ways c.closes_text.result c.if-closes_text.false
    (c.closes_text.ensures.1 (subst (λ (l : List ℕ). Closed 39 is_text_value l c.text_len-n.result) (sym inside) closed)))
