-- The node of a form is this form of its parts.
use Rattle.lucid_compile.proofs.Common.{◌≡◌, ℕ, ◌≤◌, IsTrue, List, [], ◌∷◌, length, take, drop, get_or, refl, sym, ap, ◌∙◌, subst, arith, Head, const, PlainTrees, count, FitsHead, fits_arity, row, all_at, node_of, IsForm, apply, arity, AreZero}
use Rattle.lucid_ops.proofs.OperatorRows.{arity_few as few}
use Rattle.lucid_tree.specs.declared.form.Form.{Form}
use Rattle.lucid_tree.specs.Forms.{part_count}
use Rattle.lucid_tree.specs.declared.form.Form.TheVariants as forms
use Rattle.lucid_tree.proofs.FormRows.{few as few-parts}
use Rattle.lucid_tree.specs.Tree.{stream}
use Rattle.lucid_equations.specs.Rows.{made}
use Rattle.lucid_compile.proofs.Shapes.{as_many}

-- the three numbers of a node: those that are there, and 0 past them
abbrev three : List ℕ → List ℕ
three ids = get_or ids 0 0 ∷ get_or ids 1 0 ∷ get_or ids 2 0 ∷ []

front-is : (ids : List ℕ) → length ids ≤ 3 → take (length ids) (three ids) ≡ ids
front-is [] h = refl
front-is (a ∷ []) h = refl
front-is (a ∷ b ∷ []) h = refl
front-is (a ∷ b ∷ c ∷ []) h = refl
front-is (a ∷ b ∷ c ∷ d ∷ ids) h = absurd (omega (arith, h))

rest-zero : (ids : List ℕ) → length ids ≤ 3 → AreZero (drop (length ids) (three ids))
rest-zero [] h = (refl, (refl, (refl, tt)))
rest-zero (a ∷ []) h = (refl, (refl, tt))
rest-zero (a ∷ b ∷ []) h = (refl, tt)
rest-zero (a ∷ b ∷ c ∷ []) h = tt
rest-zero (a ∷ b ∷ c ∷ d ∷ ids) h = absurd (omega (arith, h))

-- all forms but a constant
abbrev pub HasParts : Head → Type 0
HasParts (const v) = ⊥
HasParts _ = Unit {0}

-- the node that is made of a form over streams is this form of its parts
made-is : (f : Form) (a b c : ℕ) → IsForm (stream f) (take (part_count f) (a ∷ b ∷ c ∷ [])) (made f a b c)
made-is forms.If a b c = record { means = λ vs ns ts. refl; known = λ n. tt; parts_are = refl; alone = tt; own = tt; filled = tt }
made-is _ a b c = record { means = λ vs ns ts. refl; known = λ n. tt; parts_are = refl; alone = tt; own = tt; filled = tt }

pub is-form : (f : Head) (es : PlainTrees) (ids : List ℕ) → HasParts f → FitsHead f (count es) → length ids ≡ count es → IsTrue (fits_arity f es)
    → IsForm f ids (node_of f (get_or ids 0 0) (get_or ids 1 0) (get_or ids 2 0))
is-form (const v) es ids x h e t = absurd x
is-form (apply op n) es ids x h e t =
    let fits : length ids ≡ arity op = e ∙ as_many (count es) (arity op) t in
    let within : length ids ≤ 3 = omega (arith, fits, few op) in
    let same : arity op ≡ n = sym fits ∙ e ∙ sym h in
    let taken : take (arity op) (three ids) ≡ ids = ap (λ z. take z (three ids)) (sym fits) ∙ front-is ids within in
    record {
      means = λ vs ns ts j. row (apply op (same j)) (all_at ts (taken j));
      known = λ n. tt;
      parts_are = taken;
      alone = tt;
      own = tt;
      filled = subst (λ z. AreZero (drop z (three ids))) fits (rest-zero ids within);
    }
is-form (stream f) es ids x h e t =
    subst (λ l. IsForm (stream f) l (made f (get_or ids 0 0) (get_or ids 1 0) (get_or ids 2 0))) (front-is ids (omega (arith, e, h, (few-parts f).1)))
    (subst (λ n. IsForm (stream f) (take n (three ids)) (made f (get_or ids 0 0) (get_or ids 1 0) (get_or ids 2 0))) (sym (e ∙ h))
    (made-is f (get_or ids 0 0) (get_or ids 1 0) (get_or ids 2 0)))
