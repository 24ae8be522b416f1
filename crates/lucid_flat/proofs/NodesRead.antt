-- The node of some words is the one that has them: what is read has the words that it is read from, and what has words is read from them.
use Rattle.lucid_flat.proofs.Common.{◌≡◌, ℕ, false, List, [], ◌∷◌, map, length, take, Option, Some, None, ◌⊎◌, inl, inr, refl, sym, ap, ◌∙◌, subst, arith, decimal, codes, ◌==◌, AllByRecursion, option_and_then, bytes_eq, and_parts, eqb-true, option_and_then_some, same_Some, bytes_eq-Decides, Op, Add, Node, Apply, Three, op_word, form_word, node_numbers, node_words, Are32, NodeFits, three_of, exactly, listed, op_of, has_form, form_node}
use Rattle.lucid_ops.specs.Codes.{operators}
use Rattle.lucid_tree.specs.declared.form.Form.{Form}
use Rattle.lucid_tree.specs.Forms.{spelled}
use Rattle.lucid_tree.specs.declared.form.Form.TheVariants as forms
use Rattle.lucid_equations.specs.Rows.{made}
use Rattle.lucid_flat.specs.FlatText.{nodes_by, nodes_with}
use Rattle.lucid_flat.specs.FlatTables.{HasPlaces}
use Rattle.lucid_flat.specs.Forms.{apply_node, node_of}
use Rattle.lucid_flat.proofs.Chosen.{by_word, found, found_among}
use Rattle.lucid_flat.proofs.Threes.{AreWordsOf, three_read, exactly_read, as_three, HasUpToThree, three_of-words, exactly-words}

-- the operator of its own word
op_of-word : (op : Op) → op_of (op_word op) ≡ Some op
unfolding op_of
op_of-word Add = refl
op_of-word op = refl

-- the word of the operator that is found
op_of_some : (w : List ℕ) (op : Op) → op_of w ≡ Some op → op_word op ≡ w
unfolding op_of
op_of_some w op e = (bytes_eq-Decides (op_word op) w).0 (found (λ x. bytes_eq (op_word x) w) operators op e)

-- a node that isn't a data operator's
abbrev IsForm : Node → Type 0
IsForm (Apply op args) = ⊥
IsForm _ = Unit {0}

form_words : (n : Node) → IsForm n → node_words n ≡ form_word n ∷ map decimal (node_numbers n)
form_words (Apply op args) h = absurd h
form_words n h = refl

form_places : (n : Node) → IsForm n → HasPlaces n
form_places (Apply op args) h = absurd h
form_places n h = tt

-- The node of a form's word and its own numbers is it,
form_given : (n : Node) → IsForm n → form_node (form_word n) (as_three (node_numbers n)) ≡ Some n
unfolding form_node
form_given (Apply op args) h = absurd h
form_given n h = refl

form_count : (n : Node) → IsForm n → HasUpToThree (node_numbers n)
form_count (Apply op args) h = absurd h
form_count n h = (omega arith, omega arith)

form_word-apart : (n : Node) → IsForm n → bytes_eq (form_word n) (codes "apply") ≡ false
form_word-apart (Apply op args) h = absurd h
form_word-apart n h = refl

of_form : (n : Node) → IsForm n → Are32 (node_numbers n) → node_of (form_word n ∷ map decimal (node_numbers n)) ≡ Some n
unfolding node_of
of_form n f h = rw (form_word-apart n f, three_of-words (node_numbers n) h (form_count n f)) (form_given n f)

args_given : (op : Op) (args : List ℕ) → Are32 args → length args ≡ 3 → apply_node (op_word op ∷ map decimal args) ≡ Some (Apply op args)
unfolding apply_node
args_given op [] h l = absurd (cc)
args_given op (a ∷ b ∷ c ∷ []) h l =
    let e : exactly 3 (decimal a ∷ decimal b ∷ decimal c ∷ []) ≡ Some (as_three (a ∷ b ∷ c ∷ [])) =
    exactly-words (a ∷ b ∷ c ∷ []) h (omega arith, omega arith) in
    rw (op_of-word op, e) refl
args_given op _ h l = absurd (omega arith)

of_apply : (op : Op) (args : List ℕ) → Are32 args → length args ≡ 3 → node_of (codes "apply" ∷ op_word op ∷ map decimal args) ≡ Some (Apply op args)
unfolding node_of
of_apply op args h l = args_given op args h l

-- and so a node whose numbers are of 32 bits is read from its words.
pub node_of-words : (n : Node) → NodeFits n → node_of (node_words n) ≡ Some n
node_of-words (Apply op args) h = of_apply op args h.0 h.1
node_of-words n h = of_form n tt h.0

-- the words are the node's
abbrev pub HasWords : Node → List (List ℕ) → Type 0
HasWords n ws = (ws ≡ node_words n) × NodeFits n

-- a form whose numbers are the first of these
abbrev IsMade : (a b c : ℕ) → Node → Type 0
IsMade a b c n = IsForm n × (node_numbers n ≡ take (length (node_numbers n)) (a ∷ b ∷ c ∷ []))

made_made : (f : Form) (a b c : ℕ) → IsMade a b c (made f a b c)
made_made forms.If a b c = (tt, refl)
made_made _ a b c = (tt, refl)

all_made : (o : Option Form) (a b c : ℕ) → AllByRecursion (IsMade a b c) (nodes_by o a b c)
all_made (Some f) a b c = (made_made f a b c, tt)
all_made None a b c = ((tt, refl), ((tt, refl), ((tt, refl), ((tt, refl), ((tt, refl), tt)))))

-- a node that was found by its form and its numbers has them
form_read : (w : List ℕ) (ws : List (List ℕ)) (ns : Three) (n : Node) → AreWordsOf ws ns → form_node w ns ≡ Some n → HasWords n (w ∷ ws)
unfolding form_node
form_read w ws ns n h e =
    let nodes = nodes_with w ns.first ns.second ns.third in
    let t = and_parts (bytes_eq (form_word n) w) (length (node_numbers n) == ns.count) (found (has_form w ns.count) nodes n e) in
    let m = found_among (IsMade ns.first ns.second ns.third) (has_form w ns.count) nodes n (all_made (spelled w) ns.first ns.second ns.third) e in
    let word : form_word n ≡ w = (bytes_eq-Decides (form_word n) w).0 t.0 in
    let count : length (node_numbers n) ≡ ns.count = eqb-true (length (node_numbers n)) ns.count t.1 in
    let numbers : node_numbers n ≡ listed ns = m.1 ∙ ap (λ k. take k (ns.first ∷ ns.second ∷ ns.third ∷ [])) count in
    let P : List ℕ → Type 0 = Are32 in
    let words = ap (λ (x : List ℕ). x ∷ ws) (sym word) ∙ ap (λ (us : List (List ℕ)). form_word n ∷ us) (h.0 ∙ ap (map decimal) (sym numbers)) in
    (words ∙ sym (form_words n m.0), (subst P (sym numbers) h.1, form_places n m.0))

-- and so has one of an operator and three numbers
three_numbers : (ns : Three) → ns.count ≡ 3 → listed ns ≡ ns.first ∷ ns.second ∷ ns.third ∷ []
three_numbers ns e = ap (λ k. take k (ns.first ∷ ns.second ∷ ns.third ∷ [])) e

apply_read : (ws : List (List ℕ)) (n : Node) → apply_node ws ≡ Some n → HasWords n (codes "apply" ∷ ws)
unfolding apply_node
apply_read [] n e = absurd (cc)
apply_read (w ∷ ws) n e =
    option_and_then_some _ (op_of w) n e (λ op o k.
    option_and_then_some _ (exactly 3 ws) n k (λ ns t l.
    let d = exactly_read 3 ws ns t in
    let args = three_numbers ns d.1 in
    let P : Node → Type 0 = λ x. HasWords x (codes "apply" ∷ w ∷ ws) in
    let words = ap (λ (x : List ℕ). codes "apply" ∷ x ∷ ws) (sym (op_of_some w op o)) ∙ ap (λ (us : List (List ℕ)). codes "apply" ∷ op_word op ∷ us) (d.0.0 ∙ ap (map decimal) args) in
    subst P (same_Some (Apply op (ns.first ∷ ns.second ∷ ns.third ∷ [])) n l) (words, (subst (Are32) args d.0.1, refl))))

node_read_by : (w : List ℕ) (ws : List (List ℕ)) (n : Node) → ((w ≡ codes "apply") × (apply_node ws ≡ Some n)) ⊎ (option_and_then (λ ns. form_node w ns) (three_of ws) ≡ Some n)
    → HasWords n (w ∷ ws)
node_read_by w ws n (inl e) =
    let P : List ℕ → Type 0 = λ x. HasWords n (x ∷ ws) in subst P (sym e.0) (apply_read ws n e.1)
node_read_by w ws n (inr e) = option_and_then_some _ (three_of ws) n e (λ ns t k. form_read w ws ns n (three_read ws ns t) k)

-- A node that was read has the words that it was read from.
pub node_read : (ws : List (List ℕ)) (n : Node) → node_of ws ≡ Some n → HasWords n ws
unfolding node_of
node_read [] n e = absurd (cc)
node_read (w ∷ ws) n e = node_read_by w ws n (by_word w (codes "apply") _ _ (Some n) e)
