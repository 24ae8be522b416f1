-- A quoted word is the longest token, or none stands.
use Rattle.lucid_scan.proofs.Common.{ℕ, List, sym, ap, subst, ◌∙◌, prefix_len, is_ascii_alphanumeric, both_ways, take_rest, is_word_value, Closed}
use Rattle.lucid_scan.proofs.Longest.{quoted_stands, quoted_none}
use Rattle.lucid_scan.proofs.front.quoted_token.Goals as goal

pub returns-then-closes_word-clause-some : goal.returns-then-closes_word-clause-some
returns-then-closes_word-clause-some c =
    let inside = take_rest c.args.bytes.now 1 in
    quoted_stands c.args.bytes.now c.word_len-n.result (c.word_len-n.ensures ∙ ap (prefix_len is_ascii_alphanumeric) inside) c.requires
    (subst (λ (l : List ℕ). Closed 34 is_word_value l c.word_len-n.result) inside (c.closes_word.ensures.0 c.if-closes_word.true))

pub returns-clause-none : goal.returns-clause-none
returns-clause-none c =
    let inside = take_rest c.args.bytes.now 1 in
    quoted_none c.args.bytes.now c.word_len-n.result (c.word_len-n.ensures ∙ ap (prefix_len is_ascii_alphanumeric) inside) c.requires
    (λ closed.
    both_ways c.closes_word.result c.if-closes_word.false
    (c.closes_word.ensures.1 (subst (λ (l : List ℕ). Closed 34 is_word_value l c.word_len-n.result) (sym inside) closed)))
