-- A row's line: its first word and the words behind it, which are read as the row.
use Rattle.lucid_flat.proofs.Common.{◌≡◌, ◌≢◌, ℕ, ◌<◌, ◌^◌, List, [], ◌∷◌, ◌++◌, map, Some, refl, ap, ◌∙◌, arith, decimal, codes, join_with_byte, option_map, ScopeKind, Root, ScopeRow, Entry, Plain, NodeRow, NameRow, PlaceRow, FlatRow, scope_row, input_row, constant_row, node_row, name_row, place_row, root_row, kind_word, node_words, entry_word, entry_number, row_line, NodeFits, RowFits, Lacks, IsSolid, solid_lacks, decimal_solid, decimals_solid, take_number-decimal, exactly, kind_of, scope_of, input_of, node_row_of, entry_of, name_of, place_of, tail_row}
use Rattle.lucid_value.specs.ValueText.{value_text}
use Rattle.lucid_equations.specs.declared.rows.ScopeKind.TheVariants.{Called as CalledScope, Frozen as FrozenScope}
use Rattle.lucid_texts.specs.Words.{words_of}
use Rattle.lucid_texts.proofs.WordLemmas.{spaced_words}
use Rattle.lucid_flat.specs.RowTails.{root_of}
use Rattle.lucid_flat.proofs.LineBytes.{node_solid, kind_solid, entry_solid}
use Rattle.lucid_flat.proofs.NumberLemmas.{few_numbers_of-words}
use Rattle.lucid_flat.proofs.NodesRead.{node_of-words}
use Rattle.lucid_flat.proofs.Threes.{as_three, exactly-words}

-- the first word of a row's line, and the words behind it
abbrev pub row_head : FlatRow → List ℕ
row_head (scope_row r) = codes "scope"
row_head (input_row n) = codes "input"
row_head (constant_row v) = codes "const"
row_head (node_row r) = codes "node"
row_head (name_row r) = entry_word r.kind
row_head (place_row r) = codes "place"
row_head (root_row n) = codes "root"

abbrev pub row_rest : FlatRow → List (List ℕ)
row_rest (scope_row r) = decimal r.parent ∷ kind_word r.kind ∷ []
row_rest (input_row n) = n ∷ []
row_rest (constant_row v) = value_text v ∷ []
row_rest (node_row r) = decimal r.scope ∷ node_words r.node
row_rest (name_row r) = decimal r.scope ∷ decimal (entry_number r.kind) ∷ []
row_rest (place_row r) = decimal r.scope ∷ decimal r.name ∷ map decimal r.actuals
row_rest (root_row n) = decimal n ∷ []

abbrev pub row_tail : FlatRow → List ℕ
row_tail r = join_with_byte 32 (row_rest r)

-- a line is the first word, a blank and what is behind it
pub line_parts : (r : FlatRow) → row_line r ≡ row_head r ++ 32 ∷ row_tail r
line_parts (scope_row r) = refl
line_parts _ = refl

-- the first word has no blank
head_solid : (r : FlatRow) → IsSolid (row_head r)
head_solid (name_row r) = entry_solid r.kind
head_solid r = refl

pub head_lacks : (r : FlatRow) → Lacks 32 (row_head r)
head_lacks r = solid_lacks 32 refl (row_head r) (head_solid r)

-- the kind of its own word
kind_of-word : (k : ScopeKind) → k ≢ Root → kind_of (kind_word k) ≡ Some k
kind_of-word Root h = absurd (h refl)
kind_of-word CalledScope h = refl
kind_of-word FrozenScope h = refl

scope_of-words : (r : ScopeRow) → r.parent < 2 ^ 32 → r.kind ≢ Root → scope_of (decimal r.parent ∷ kind_word r.kind ∷ []) ≡ Some r
unfolding scope_of
scope_of-words r h k = rw (take_number-decimal (2 ^ 32) r.parent (kind_word r.kind ∷ []) (omega arith) h, kind_of-word r.kind k) refl

node_row_of-words : (r : NodeRow) → r.scope < 2 ^ 32 → NodeFits r.node → node_row_of (decimal r.scope ∷ node_words r.node) ≡ Some r
unfolding node_row_of
node_row_of-words r h k = rw (take_number-decimal (2 ^ 32) r.scope (node_words r.node) (omega arith) h, node_of-words r.node k) refl

entry_of-word : (e : Entry) → entry_of (entry_word e) (entry_number e) ≡ Some e
entry_of-word (Plain a) = refl
entry_of-word _ = refl

name_of-words : (r : NameRow) → r.scope < 2 ^ 32 → entry_number r.kind < 2 ^ 32
    → name_of (entry_word r.kind) (decimal r.scope ∷ decimal (entry_number r.kind) ∷ []) ≡ Some r
unfolding name_of
name_of-words r h k =
    let ns = r.scope ∷ entry_number r.kind ∷ [] in
    let e : exactly 2 (decimal r.scope ∷ decimal (entry_number r.kind) ∷ []) ≡ Some (as_three ns) = exactly-words ns (h, (k, tt)) (omega arith, omega arith) in
    rw (e, entry_of-word r.kind) refl

place_of-words : (r : PlaceRow) → RowFits (place_row r) → place_of (decimal r.scope ∷ decimal r.name ∷ map decimal r.actuals) ≡ Some r
unfolding place_of
place_of-words r h =
    rw (
      take_number-decimal (2 ^ 32) r.scope (decimal r.name ∷ map decimal r.actuals) (omega arith) h.0,
      take_number-decimal (2 ^ 32) r.name
          (map decimal r.actuals) (omega arith) h.1,
      few_numbers_of-words r.actuals h.2 h.3,
    ) refl

root_of-words : (n : ℕ) → n < 2 ^ 32 → root_of (decimal n ∷ []) ≡ Some n
unfolding root_of
root_of-words n h =
    let e : exactly 1 (decimal n ∷ []) ≡ Some (as_three (n ∷ [])) = exactly-words (n ∷ []) (h, tt) (omega arith, omega arith) in rw e refl

-- a row that is no constant
abbrev pub IsNoConstant : FlatRow → Type 0
IsNoConstant (constant_row v) = ⊥
IsNoConstant _ = Unit {0}

-- what is behind the first word of a name's row
name_tail : (e : Entry) (t : List ℕ) → tail_row (entry_word e) t ≡ option_map name_row (name_of (entry_word e) (words_of t))
unfolding tail_row
name_tail (Plain a) t = refl
name_tail _ t = refl

-- A row that is no constant is read from the first word of its line and what is behind.
pub tail_row-parts : (r : FlatRow) → RowFits r → IsNoConstant r → tail_row (row_head r) (row_tail r) ≡ Some r
unfolding tail_row input_of
tail_row-parts (scope_row r) h n =
    let words = spaced_words (decimal r.parent) (kind_word r.kind ∷ []) (decimal_solid r.parent (omega (arith, h.0)), (kind_solid r.kind, tt)) in
    ap (option_map scope_row) (ap scope_of words ∙ scope_of-words r h.0 h.1)
tail_row-parts (input_row n) h c = rw h refl
tail_row-parts (constant_row v) h n = absurd n
tail_row-parts (node_row r) h n =
    let words = spaced_words (decimal r.scope) (node_words r.node) (decimal_solid r.scope (omega (arith, h.0)), node_solid r.node h.1) in
    ap (option_map node_row) (ap node_row_of words ∙ node_row_of-words r h.0 h.1)
tail_row-parts (name_row r) h n =
    let words = spaced_words (decimal r.scope) (decimal (entry_number r.kind) ∷ [])
    (decimal_solid r.scope (omega (arith, h.0)), (decimal_solid (entry_number r.kind) (omega (arith, h.1)), tt)) in
    name_tail r.kind (row_tail (name_row r)) ∙ ap (option_map name_row) (ap (name_of (entry_word r.kind)) words ∙ name_of-words r h.0 h.1)
tail_row-parts (place_row r) h n =
    let words = spaced_words (decimal r.scope) (decimal r.name ∷ map decimal r.actuals)
    (decimal_solid r.scope (omega (arith, h.0)), (decimal_solid r.name (omega (arith, h.1)), decimals_solid (2 ^ 32) (omega arith) r.actuals h.2)) in
    ap (option_map place_row) (ap place_of words ∙ place_of-words r h)
tail_row-parts (root_row n) h c =
    let words = spaced_words (decimal n) [] (decimal_solid n (omega (arith, h)), tt) in
    ap (option_map root_row) (ap root_of words ∙ root_of-words n h)
