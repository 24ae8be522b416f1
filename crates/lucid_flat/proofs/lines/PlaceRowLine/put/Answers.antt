use Rattle.lucid_flat.proofs.Common.{List, ℕ, [], ◌∷◌, ◌++◌, map, ap, ◌∙◌, codes, decimal, spaced, appended}
use Rattle.lucid_texts.proofs.Spaced.{line_three}
use Rattle.lucid_flat.proofs.lines.PlaceRowLine.put.Goals as goal

pub returns-clause-line : goal.returns-clause-line
returns-clause-line c =
    let s = decimal c.args.self.now.scope ∷ [] in
    let n = decimal c.args.self.now.name ∷ [] in
    let ns = map decimal c.args.self.now.actuals in
    let e = ap (λ (x : List ℕ). ((x ++ spaced s) ++ spaced n) ++ spaced ns) c.in_ok-extend_from_slice.ensures.items in
    let f = ap (λ (x : List ℕ). (x ++ spaced n) ++ spaced ns) c.in_ok-put_number.ensures in
    let g = ap (λ (x : List ℕ). x ++ spaced ns) c.in_ok-put_number-2.ensures in
    let k = ap (λ (x : List ℕ). c.put_number-2.new.to.items ++ spaced (map decimal x)) c.items.ensures.value in
    let h = ap (λ (x : List ℕ). x ++ 10 ∷ []) (c.in_ok-put_numbers.ensures.words ∙ (k ∙ (g ∙ (f ∙ e)))) in
    appended c.extend_from_slice-2.result c.extend_from_slice-2.new.self.items c.put_numbers.new.to.items (10 ∷ []) _ c.extend_from_slice-2.ensures.items
    (h ∙ line_three c.args.to.now.items (codes "place") s n ns)
