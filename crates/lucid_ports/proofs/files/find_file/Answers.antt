use Rattle.lucid_ports.proofs.Common.{◌≡◌, true, bytes_eq, sym, ap, ◌∙◌, string_bytes}
use Rattle.lucid_ports.proofs.FilesLemmas.{bytes_named-found}
use Rattle.lucid_ports.proofs.files.find_file.Goals as goal

pub returns-then-eq : goal.returns-then-eq
returns-then-eq c =
    let same : bytes_eq (string_bytes c.index-files-k.result.name) c.args.name.now ≡ true =
    ap (λ text. bytes_eq text c.args.name.now) (sym c.as_str.ensures.value) ∙ sym c.eq.ensures ∙ c.if-eq.true in
    bytes_named-found _ _ _ _ c.loop-k-test.true c.index-files-k.is same c.loop-k.invariant
