use Rattle.lucid_texts.proofs.Common.{◌≡◌, ℕ, List, ◌+◌, ◌++◌, [], ◌∷◌, length, true, refl, sym, ap, ◌∙◌, subst, arith, length-append, ◌==◌, append-nil, text_of, CanGoOn, CannotGoOn, IsFirstWrongLine, MatchBool-at_true, MatchBool-at_false, eqb-true}
use Rattle.lucid_texts.proofs.TextsRead.{line_has, refused_line, refused_end, read_more}
use Rattle.lucid_texts.proofs.lines.add_lines.Goals as goal
use Rattle.lucid_texts.proofs.lines.add_lines.Goals.{else-is_empty-via-then-is_empty+else-is_whole, else-is_empty-via-else-is_empty}

no_bytes : (xs : List ℕ) → true ≡ (length xs == 0) → xs ≡ []
no_bytes [] h = refl
no_bytes (x ∷ xs) h = let e = eqb-true (length (x ∷ xs)) 0 (sym h) in absurd (omega arith)

pub loop-line-init : goal.loop-line-init
loop-line-init g c =
    let bytes = c.args.bytes.now in record {
      keeps = c.requires.keeps;
      can = subst (CanGoOn g.L.Lines.is_text) (sym c.requires.none) c.requires.some;
      bytes = sym (ap (λ (ls : List (List ℕ)). text_of ls ++ bytes) c.requires.none);
      read = sym (ap length c.requires.none);
      left = omega arith;
    }

pub returns-then-not-branch : goal.returns-then-not-branch
returns-then-not-branch g c =
    let lines = g.L.Lines.lines c.loop-line.to in
    let new = g.L.Lines.lines c.add.new.self in
    let line = c.in-Some.line.now in
    let Is = g.L.Lines.is_text in
    let none = MatchBool-at_false (g.L.Lines.keeps c.add.new.self × (new ≡ lines ++ line ∷ []) × CanGoOn Is new) (CannotGoOn Is (lines ++ line ∷ []))
    c.if-not-branch.true c.in_ok-add.ensures in
    let inv = c.loop-line.invariant in
    let P : ℕ → Type 0 = λ n. IsFirstWrongLine Is c.args.bytes.now (n + 1) in
    subst P (sym inv.read) (refused_line Is c.lines_of_texts.ensures _ lines _ line c.in-Some.behind.now inv.bytes inv.can c.in-Some.ensures.0
    c.in-Some.ensures.1 none)

pub loop-line-preserved : goal.loop-line-preserved
loop-line-preserved g c =
    let lines = g.L.Lines.lines c.loop-line.to in
    let new = g.L.Lines.lines c.add.new.self in
    let line = c.in-Some.line.now in
    let Is = g.L.Lines.is_text in
    let added = MatchBool-at_true (g.L.Lines.keeps c.add.new.self × (new ≡ lines ++ line ∷ []) × CanGoOn Is new) (CannotGoOn Is (lines ++ line ∷ []))
    c.if-not-branch.false c.in_ok-add.ensures in
    let inv = c.loop-line.invariant in
    let some = line_has Is c.lines_of_texts.ensures lines line (subst (CanGoOn Is) added.1 added.2) in
    let cut = ap length c.in-Some.ensures.0 in
    record {
      keeps = added.0;
      can = added.2;
      bytes = read_more c.args.bytes.now lines new c.loop-line.rest.now line c.in-Some.behind.now inv.bytes c.in-Some.ensures.0 added.1;
      read = omega (arith, ap length added.1, length-append lines (line ∷ []), inv.read);
      left = omega (arith, cut, length-append line (10 ∷ c.in-Some.behind.now), some, inv.left);
    }

pub returns-then-is_whole : goal.returns-then-is_whole
returns-then-is_whole g c =
    let rest = no_bytes c.loop-line.rest.now c.if-is_empty.ensures in
    let lines = text_of (g.L.Lines.lines c.loop-line.to) in (
      c.loop-line.invariant.keeps,
      c.is_whole.ensures.0 c.if-is_whole.true,
      c.loop-line.invariant.bytes
          ∙ (ap (λ (x : List ℕ). lines ++ x) rest ∙ append-nil lines),
    )

pub returns-else-is_empty : goal.returns-else-is_empty
returns-else-is_empty g c =
    let lines = g.L.Lines.lines c.loop-line.to in
    let Is = g.L.Lines.is_text in
    let rest = c.loop-line.rest.now in
    let inv = c.loop-line.invariant in
    let open_end : rest ≡ [] → Is lines → ⊥ = λ e h.
    elim c.else-is_empty.branch [
      | else-is_empty-via-then-is_empty+else-is_whole w ↦ let q = w.if-is_whole.ensures.1 h in cc
      | else-is_empty-via-else-is_empty w ↦ let q = ap (λ (x : List ℕ). length x == 0) e in cc (w.if-is_empty.ensures)
    ] in
    let P : ℕ → Type 0 = λ n. IsFirstWrongLine Is c.args.bytes.now (n + 1) in
    subst P (sym inv.read) (refused_end Is c.lines_of_texts.ensures _ lines rest inv.bytes inv.can c.in_default.ensures open_end)
