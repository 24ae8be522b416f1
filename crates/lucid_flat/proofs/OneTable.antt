-- A text is one table's: its lines give its rows, and these its lists.
use Rattle.lucid_flat.proofs.Common.{◌≡◌, ◌≢◌, ℕ, suc, ◌<◌, List, [], ◌∷◌, ◌++◌, map, drop, Option, Some, None, refl, sym, ap, ◌∙◌, subst, arith, AllByRecursion, append-nil, same_Some, PlainValue, ScopeIs, ScopeKind, Root, ScopeRow, NodeRow, NameRow, PlaceRow, Table, CanGoOn, OneValue, FlatRow, scope_row, input_row, constant_row, node_row, name_row, place_row, root_row, flat_rows, flat_lines, RowFits, HasText, AreTableLines, zero, filter_map, filter_map-append}
use Rattle.lucid_texts.proofs.TextsRead.{text_lines}
use Rattle.lucid_flat.specs.FlatTables.{HasOneRoot}
use Rattle.lucid_flat.specs.Laws.{OneTable}
use Rattle.lucid_flat.proofs.WholeLines.{table_lines, same_rows}

-- what each kind of row has
abbrev scopes_in : FlatRow → Option ScopeRow
scopes_in (scope_row x) = Some x
scopes_in _ = None

abbrev inputs_in : FlatRow → Option (List ℕ)
inputs_in (input_row x) = Some x
inputs_in _ = None

abbrev constants_in : FlatRow → Option PlainValue
constants_in (constant_row x) = Some x
constants_in _ = None

abbrev nodes_in : FlatRow → Option NodeRow
nodes_in (node_row x) = Some x
nodes_in _ = None

abbrev names_in : FlatRow → Option NameRow
names_in (name_row x) = Some x
names_in _ = None

abbrev places_in : FlatRow → Option PlaceRow
places_in (place_row x) = Some x
places_in _ = None

abbrev root_in : FlatRow → Option ℕ
root_in (root_row x) = Some x
root_in _ = None

-- of rows of that kind all is picked, of others nothing
picks_all : {B : Type 0} (pick : FlatRow → Option B) (f : B → FlatRow) → ((x : B) → pick (f x) ≡ Some x) → (xs : List B) → filter_map pick (map f xs) ≡ xs
picks_all pick f h [] = refl
picks_all pick f h (x ∷ xs) = rw (h x) (ap (λ (ys : List _). x ∷ ys) (picks_all pick f h xs))

picks_none : {A B : Type 0} (pick : FlatRow → Option B) (f : A → FlatRow) → ((x : A) → pick (f x) ≡ None) → (xs : List A) → filter_map pick (map f xs) ≡ []
picks_none pick f h [] = refl
picks_none pick f h (x ∷ xs) = rw (h x) (picks_none pick f h xs)

picks_seven : {B : Type 0} (pick : FlatRow → Option B) (a b c d e f g : List FlatRow)
    → filter_map pick (a ++ (b ++ (c ++ (d ++ (e ++ (f ++ g)))))) ≡ filter_map pick
    a ++ (filter_map pick b ++ (filter_map pick c ++ (filter_map pick d ++ (filter_map pick e ++ (filter_map pick f ++ filter_map pick g)))))
picks_seven pick a b c d e f g = simp filter_map-append

-- the lists of a table, by its rows
scopes_of : (t : Table) → filter_map scopes_in (flat_rows t) ≡ drop 1 t.scopes
scopes_of t =
    picks_seven scopes_in (map scope_row (drop 1 t.scopes)) (map input_row (t.inputs)) (map constant_row (t.constants)) (map node_row (t.nodes))
    (map name_row (t.names)) (map place_row (t.places)) (root_row t.root ∷ [])
    ∙ rw (
      picks_all scopes_in scope_row (λ x. refl) (drop 1 t.scopes),
      picks_none scopes_in input_row (λ x. refl) (t.inputs),
      picks_none scopes_in constant_row
          (λ x. refl) (t.constants),
      picks_none scopes_in node_row (λ x. refl) (t.nodes),
      picks_none scopes_in name_row (λ x. refl) (t.names),
      picks_none
          scopes_in place_row (λ x. refl) (t.places),
    ) (append-nil (drop 1 t.scopes))

inputs_of : (t : Table) → filter_map inputs_in (flat_rows t) ≡ t.inputs
inputs_of t =
    picks_seven inputs_in (map scope_row (drop 1 t.scopes)) (map input_row (t.inputs)) (map constant_row (t.constants)) (map node_row (t.nodes))
    (map name_row (t.names)) (map place_row (t.places)) (root_row t.root ∷ [])
    ∙ rw (
      picks_none inputs_in scope_row (λ x. refl) (drop 1 t.scopes),
      picks_all inputs_in input_row (λ x. refl) (t.inputs),
      picks_none inputs_in constant_row
          (λ x. refl) (t.constants),
      picks_none inputs_in node_row (λ x. refl) (t.nodes),
      picks_none inputs_in name_row (λ x. refl) (t.names),
      picks_none
          inputs_in place_row (λ x. refl) (t.places),
    ) (append-nil (t.inputs))

constants_of : (t : Table) → filter_map constants_in (flat_rows t) ≡ t.constants
constants_of t =
    picks_seven constants_in (map scope_row (drop 1 t.scopes)) (map input_row (t.inputs)) (map constant_row (t.constants)) (map node_row (t.nodes))
    (map name_row (t.names)) (map place_row (t.places)) (root_row t.root ∷ [])
    ∙ rw (
      picks_none constants_in scope_row (λ x. refl) (drop 1 t.scopes),
      picks_none constants_in input_row (λ x. refl) (t.inputs),
      picks_all constants_in
          constant_row (λ x. refl) (t.constants),
      picks_none constants_in node_row (λ x. refl) (t.nodes),
      picks_none constants_in name_row (λ x. refl) (t.names),
      picks_none constants_in place_row (λ x. refl) (t.places),
    ) (append-nil (t.constants))

nodes_of : (t : Table) → filter_map nodes_in (flat_rows t) ≡ t.nodes
nodes_of t =
    picks_seven nodes_in (map scope_row (drop 1 t.scopes)) (map input_row (t.inputs)) (map constant_row (t.constants)) (map node_row (t.nodes))
    (map name_row (t.names)) (map place_row (t.places)) (root_row t.root ∷ [])
    ∙ rw (
      picks_none nodes_in scope_row (λ x. refl) (drop 1 t.scopes),
      picks_none nodes_in input_row (λ x. refl) (t.inputs),
      picks_none nodes_in constant_row
          (λ x. refl) (t.constants),
      picks_all nodes_in node_row (λ x. refl) (t.nodes),
      picks_none nodes_in name_row (λ x. refl) (t.names),
      picks_none nodes_in
          place_row (λ x. refl) (t.places),
    ) (append-nil (t.nodes))

names_of : (t : Table) → filter_map names_in (flat_rows t) ≡ t.names
names_of t =
    picks_seven names_in (map scope_row (drop 1 t.scopes)) (map input_row (t.inputs)) (map constant_row (t.constants)) (map node_row (t.nodes))
    (map name_row (t.names)) (map place_row (t.places)) (root_row t.root ∷ [])
    ∙ rw (
      picks_none names_in scope_row (λ x. refl) (drop 1 t.scopes),
      picks_none names_in input_row (λ x. refl) (t.inputs),
      picks_none names_in constant_row
          (λ x. refl) (t.constants),
      picks_none names_in node_row (λ x. refl) (t.nodes),
      picks_all names_in name_row (λ x. refl) (t.names),
      picks_none names_in
          place_row (λ x. refl) (t.places),
    ) (append-nil (t.names))

places_of : (t : Table) → filter_map places_in (flat_rows t) ≡ t.places
places_of t =
    picks_seven places_in (map scope_row (drop 1 t.scopes)) (map input_row (t.inputs)) (map constant_row (t.constants)) (map node_row (t.nodes))
    (map name_row (t.names)) (map place_row (t.places)) (root_row t.root ∷ [])
    ∙ rw (
      picks_none places_in scope_row (λ x. refl) (drop 1 t.scopes),
      picks_none places_in input_row (λ x. refl) (t.inputs),
      picks_none places_in constant_row
          (λ x. refl) (t.constants),
      picks_none places_in node_row (λ x. refl) (t.nodes),
      picks_none places_in name_row (λ x. refl) (t.names),
      picks_all places_in
          place_row (λ x. refl) (t.places),
    ) (append-nil (t.places))

root_of : (t : Table) → filter_map root_in (flat_rows t) ≡ t.root ∷ []
root_of t =
    picks_seven root_in (map scope_row (drop 1 t.scopes)) (map input_row (t.inputs)) (map constant_row (t.constants)) (map node_row (t.nodes))
    (map name_row (t.names)) (map place_row (t.places)) (root_row t.root ∷ [])
    ∙ rw (
      picks_none root_in scope_row (λ x. refl) (drop 1 t.scopes),
      picks_none root_in input_row (λ x. refl) (t.inputs),
      picks_none root_in constant_row
          (λ x. refl) (t.constants),
      picks_none root_in node_row (λ x. refl) (t.nodes),
      picks_none root_in name_row (λ x. refl) (t.names),
      picks_none root_in
          place_row (λ x. refl) (t.places),
    ) refl

scopes_same : (xs ys : List ScopeRow) → ScopeIs xs 0 0 Root → ScopeIs ys 0 0 Root → drop 1 xs ≡ drop 1 ys → xs ≡ ys
scopes_same [] ys h k e = absurd (cc)
scopes_same (x ∷ xs) [] h k e = absurd (cc)
scopes_same (x ∷ xs) (y ∷ ys) h k e =
    let a = same_Some x y (h ∙ sym k) in cc (a, e)

one_item : (m n : ℕ) → m ∷ [] ≡ n ∷ [] → m ≡ n
one_item m n e = cc

abbrev made : List ScopeRow → List (List ℕ) → List PlainValue → List NodeRow → List NameRow → List PlaceRow → ℕ → Table
made a b c d e f g = record { scopes = a; inputs = b; constants = c; nodes = d; names = e; places = f; root = g }

table_by : (t u : Table) → t.scopes ≡ u.scopes → t.inputs ≡ u.inputs → t.constants ≡ u.constants → t.nodes ≡ u.nodes → t.names ≡ u.names → t.places ≡ u.places
    → t.root ≡ u.root → t ≡ u
table_by t u e0 e1 e2 e3 e4 e5 e6 =
    ap (λ (x : List ScopeRow). made x t.inputs t.constants t.nodes t.names t.places t.root) e0
    ∙ (ap (λ (x : List (List ℕ)). made u.scopes x t.constants t.nodes t.names t.places t.root) e1
    ∙ (ap (λ (x : List PlainValue). made u.scopes u.inputs x t.nodes t.names t.places t.root) e2
    ∙ (ap (λ (x : List NodeRow). made u.scopes u.inputs u.constants x t.names t.places t.root) e3
    ∙ (ap (λ (x : List NameRow). made u.scopes u.inputs u.constants u.nodes x t.places t.root) e4
    ∙ (ap (λ (x : List PlaceRow). made u.scopes u.inputs u.constants u.nodes u.names x t.root) e5
    ∙ ap (made u.scopes u.inputs u.constants u.nodes u.names u.places) e6)))))

-- No bytes are the text of two tables.
pub one_table : OneValue → OneTable
one_table law bytes t u h k =
    let l = sym (text_lines AreTableLines table_lines bytes (flat_lines t) (t, h.has, refl) h.text)
    ∙ text_lines AreTableLines table_lines bytes (flat_lines u) (u, k.has, refl) k.text in
    let r = same_rows law (flat_rows t) (flat_rows u) h.has.rows k.has.rows l in
    let scopes = sym (scopes_of t) ∙ (ap (filter_map scopes_in) r ∙ scopes_of u) in
    table_by t u (scopes_same t.scopes u.scopes h.has.root k.has.root scopes) (sym (inputs_of t) ∙ (ap (filter_map inputs_in) r ∙ inputs_of u))
    (sym (constants_of t) ∙ (ap (filter_map constants_in) r ∙ constants_of u)) (sym (nodes_of t) ∙ (ap (filter_map nodes_in) r ∙ nodes_of u))
    (sym (names_of t) ∙ (ap (filter_map names_in) r ∙ names_of u)) (sym (places_of t) ∙ (ap (filter_map places_in) r ∙ places_of u))
    (one_item t.root u.root (sym (root_of t) ∙ (ap (filter_map root_in) r ∙ root_of u)))

-- a table with one scope and nothing else has a text, but for the root's node
smallest : Table
smallest = record { scopes = record { parent = 0; kind = Root } ∷ []; inputs = []; constants = []; nodes = []; names = []; places = []; root = 0 }

smallest_has : HasText smallest
unfolding smallest
smallest_has = record {
  root = refl;
  rows = (omega arith, tt);
  scopes = omega arith;
  constants = omega arith;
  nodes = omega arith;
  names = omega arith;
  places = omega arith;
}

-- a text goes on with no line
pub none_goes_on : CanGoOn AreTableLines []
none_goes_on = (flat_lines smallest, (smallest, smallest_has, refl))

-- the empty list of lines is no text's
pub none_is_no_text : AreTableLines [] → ⊥
none_is_no_text (t, h, e) = cc

-- A table with a text has one root.
no_inner_root : (xs : List ScopeRow) (more : List FlatRow) → AllByRecursion RowFits (map scope_row xs ++ more) → (s p : ℕ) (k : ScopeKind) → ScopeIs xs s p k
    → k ≢ Root
no_inner_root [] more h s p k e = absurd (cc)
no_inner_root (x ∷ xs) more h zero p k e =
    let q = same_Some x (record { parent = p; kind = k }) e in
    let P : ScopeRow → Type 0 = λ y. y.kind ≢ Root in subst P q h.0.1
no_inner_root (x ∷ xs) more h (suc s) p k e = no_inner_root xs more h.1 s p k e

behind_root : (xs : List ScopeRow) → ((s p : ℕ) (k : ScopeKind) → ScopeIs (drop 1 xs) s p k → k ≢ Root) → (s p : ℕ) (k : ScopeKind) → 0 < s → ScopeIs xs s p k
    → k ≢ Root
behind_root xs h zero p k l e = absurd (omega arith)
behind_root [] h (suc s) p k l e = absurd (cc)
behind_root (x ∷ xs) h (suc s) p k l e = h s p k e

pub one_root : (t : Table) → HasText t → HasOneRoot t
one_root t h = record { first = h.root; only = behind_root t.scopes (no_inner_root (drop 1 t.scopes) _ h.rows) }
