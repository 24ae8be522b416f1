use Rattle.lucid_flat.proofs.Common.{◌≡◌, ℕ, Bool, true, false, cond, List, [], ◌∷◌, map, Option, Some, refl, sym, ap, ◌∙◌, find, option_map, bytes_eq, and_parts, bytes_eq-Decides, Op, op_word, list_all}
use Rattle.lucid_flat.specs.declared.ops.OpWord.{OpWord}
use Rattle.lucid_flat.specs.Forms.{op_in, is_own}
use Rattle.lucid_flat.proofs.ops.op_among.Goals as goal

joined : (b : Bool) (r : OpWord) (o : Option OpWord) (p : Option Op) → option_map op_in o ≡ p → option_map op_in (cond b (Some r) o) ≡ cond b (Some r.op) p
joined true r o p e = refl
joined false r o p e = e

-- the first row with a word is that of the first operator with it
rows_find : (w : List ℕ) (rows : List OpWord) → list_all is_own rows ≡ true
    → option_map op_in (find (λ r. bytes_eq r.word.now w) rows) ≡ find (λ op. bytes_eq (op_word op) w) (map op_in rows)
rows_find w [] h = refl
rows_find w (r ∷ rs) h =
    let own = and_parts (is_own r) (list_all is_own rs) h in
    let word = (bytes_eq-Decides (op_word r.op) r.word.now).0 own.0 in
    let ops = find (λ op. bytes_eq (op_word op) w) (map op_in rs) in
    joined (bytes_eq r.word.now w) r (find (λ x. bytes_eq x.word.now w) rs) ops (rows_find w rs own.1)
    ∙ ap (λ (x : List ℕ). cond (bytes_eq x w) (Some r.op) ops) (sym word)

pub returns-in-Some : goal.returns-in-Some
returns-in-Some c own = ap (option_map op_in) (sym c.in-Some.is ∙ c.row_among.ensures) ∙ rows_find c.args.word.now c.args.rows.now own

pub returns-in-None : goal.returns-in-None
returns-in-None c own = ap (option_map op_in) (sym c.in-None.is ∙ c.row_among.ensures) ∙ rows_find c.args.word.now c.args.rows.now own
