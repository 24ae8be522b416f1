-- A row notes where its search stands.
use Rattle.lucid_demand_steps.proofs.Common.{◌≡◌, ℕ, zero, suc, ◌<◌, cond, List, [], ◌∷◌, Option, Some, ◌⊎◌, inl, inr, refl, sym, ap, ◌∙◌, subst, true≢false, arith, IsTrue, Decides, Decides-eqb, Decides-and, Head, upon, Elements, Context, IsKnown, space_of, Tag, Cursor, Noted, number_at, NotesOrMisses, PlainNode, PlainNodes, row, node_at, node_by, parts, equations_of, IsInRange, Node, Table, row-node, PlainTask, PlainRow, node_of, part_number, IsTask, Holding, NeedsHeld, NotedRight, Counted, is_search, cursor_noted, key_noted, Demand, table_of, RowFacts, SearchFacts, StockFacts, IsDemand}
use Rattle.std.proofs.Common.{Bool, true, false, length}
use Rattle.std.specs.Prelude.{◌==◌, ◌&&◌, slice_get, option_map, option_and_then}
use Rattle.lucid_tags.specs.Known.{context_of, same_tag}
use Rattle.lucid_tags.specs.EqualityDecides.{same_tag_is_equality}
use Rattle.lucid_search.specs.Noted.{same_site, Notes, Misses}
use Rattle.lucid_equations.specs.declared.rows.Node.TheVariants.{Whenever, Asa, Upon}
use Rattle.lucid_equations.specs.declared.rows.NodeRow.{NodeRow}
use Rattle.lucid_demand_steps.proofs.Idling.{one-form}

-- the node is of a search's form
abbrev searches : PlainNode → Bool
searches (row f es) = is_search f
searches _ = false

part_of_search : (T : Table) (n : Node) → searches (node_by T n) ≡ true → (k : ℕ) × (slice_get (parts n) 1 ≡ Some k)
part_of_search T (Whenever a b) h = (b, refl)
part_of_search T (Asa a b) h = (b, refl)
part_of_search T (Upon a b) h = (b, refl)
part_of_search T _ h = absurd (true≢false (sym h))

there_is : (rs : List NodeRow) (id : ℕ) → id < length rs → (n : Node) × (option_map (λ r. r.node) (slice_get rs id) ≡ Some n)
there_is [] id h = absurd (omega (arith, h))
there_is (r ∷ rs) zero h = (r.node, refl)
there_is (r ∷ rs) (suc id) h = there_is rs id (omega (arith, h))

-- A search's stream is its part 1, which each has.
pub stream_of_search : (T : Table) → IsInRange T → (x : PlainTask) → IsTask T x → (f : Head) (es : PlainNodes) → node_of T x ≡ row f es → is_search f ≡ true
    → (stream : ℕ) × (part_number T x.node 1 ≡ Some stream)
stream_of_search T range x there f es is search =
    let n = there_is T.nodes x.node there in
    let k = part_of_search T n.0 (ap searches (sym (row-node T range x.node n.0 n.1) ∙ is) ∙ search) in
    (k.0, ap (option_and_then (λ (z : Node). slice_get (parts z) 1)) n.1 ∙ k.1)

-- a cursor is the one that its noted pair stands for
cursor_back : (f : Head) (c : Cursor) → cursor_noted f (key_noted f c).0 (key_noted f c).1 ≡ c
cursor_back upon c = refl
cursor_back _ c = refl

-- a node, a tag, a key and a number
abbrev NotedAt : Type 0
NotedAt = ℕ × Tag × ℕ × ℕ

-- A number that is noted is the one just noted, or was noted before.
noted_cases : (old new : Noted) (node : ℕ) (tag : Tag) (key number : ℕ) → NotesOrMisses old new node tag key number → (n : ℕ) (t : Tag) (k v : ℕ)
    → number_at new n t k ≡ Some v
    → (◌≡◌ {A = NotedAt} (node, tag, key, number) (n, t, k, v)) ⊎ (number_at old n t k ≡ Some v)
noted_cases old new node tag key number (Misses same missed) n t k v e = inr (sym (same n t k) ∙ e)
noted_cases old new node tag key number (Notes only missed) n t k v e =
    (elim (same_site (record { node = node; tag = tag }) (record { node = n; tag = t }) && (k == key))
    as (λ z. same_site (record { node = node; tag = tag }) (record { node = n; tag = t }) && (k == key) ≡ z
    → cond z (Some number) (number_at old n t k) ≡ Some v
    → (◌≡◌ {A = NotedAt} (node, tag, key, number) (n, t, k, v)) ⊎ (number_at old n t k ≡ Some v)) [
      | true ↦ λ here i. inl (λ j. ((decides.0 here).0.0 j, (decides.0 here).0.1 j, sym ((decides.0 here).1) j, once i j))
      | false ↦ λ other i. inr i
    ]) refl (sym (only n t k) ∙ e)
  where
    decides : Decides (same_site (record { node = node; tag = tag }) (record { node = n; tag = t }) && (k == key)) (((node ≡ n) × (tag ≡ t)) × (k ≡ key))
    decides = Decides-and (same_site (record { node = node; tag = tag }) (record { node = n; tag = t })) (k == key)
        (Decides-and (node == n) (same_tag tag t) (Decides-eqb node n) (same_tag_is_equality tag t)) (Decides-eqb k key)

    once : {x y : ℕ} → ◌≡◌ {A = Option ℕ} (Some x) (Some y) → x ≡ y
    once i = cc

-- A row notes where its search stands: its facts of its search are those of a noted position.
pub stock_notes :
    (d : Demand) (b : Elements) (known : List Context) (h : Holding) (lost : ℕ) (old new : Noted) (r : PlainRow) (tag : Tag) (f : Head) (es : PlainNodes)
    → IsDemand d → StockFacts d b known h lost old → RowFacts d b h lost r → node_of (table_of d) r.task ≡ row f es → is_search f ≡ true → IsKnown known tag
    → context_of known tag ≡ r.task.context
    → space_of tag ≡ r.task.space → NotesOrMisses old new r.task.node tag (key_noted f r.cursor).0 (key_noted f r.cursor).1 → StockFacts d b known h lost new
stock_notes d b known h lost old new r tag f es demand facts ready is search known_tag context space notes = record {
  right = facts.right;
  stays = facts.stays;
  traced = facts.traced;
  closed = facts.closed;
  noted_right = λ n t k v e. elim (noted_cases old new r.task.node tag (key_noted f r.cursor).0 (key_noted f r.cursor).1 notes n t k v e) [
    | inl z ↦ subst (λ (q : NotedAt). NotedRight (table_of d) b known q.0 q.1 q.2 q.3) z here
    | inr z ↦ facts.noted_right n t k v z
  ];
  noted_closed = λ keeps lost_none n t k v e form nodes at stream part.
      elim (noted_cases old new r.task.node tag (key_noted f r.cursor).0 (key_noted f r.cursor).1 notes n t k v e) [
        | inl z ↦ subst (λ (q : NotedAt). node_at (table_of d) q.0 ≡ row form nodes → part_number (table_of d) q.0 1 ≡ Some stream → (u : ℕ)
            → u < (cursor_noted form q.2 q.3).time
            → NeedsHeld (equations_of (table_of d)) b h (node_at (table_of d) stream) (context_of known q.1) u (space_of q.1)) z (needed keeps lost_none form
            nodes
            stream) at part
        | inr z ↦ facts.noted_closed keeps lost_none n t k v z form nodes at stream part
      ];
  contexts = facts.contexts;
}
  where
    stream_there : (stream : ℕ) × (part_number (table_of d) r.task.node 1 ≡ Some stream)
    stream_there = stream_of_search (table_of d) demand.in_range r.task ready.there f es is search

    stands : SearchFacts d b h lost r f stream_there.0
    stands = ready.search f es stream_there.0 is search stream_there.1

    here : NotedRight (table_of d) b known r.task.node tag (key_noted f r.cursor).0 (key_noted f r.cursor).1
    here = record {
      form = f;
      nodes = es;
      is = is;
      search = search;
      known_tag = known_tag;
      stream = stream_there.0;
      part = stream_there.1;
      counted = subst (λ (c : Cursor). Counted (equations_of (table_of d)) b (node_at (table_of d) stream_there.0) (context_of known tag) (space_of tag) c.time
          c.count) (sym (cursor_back f r.cursor))
          (subst (λ c. Counted (equations_of (table_of d)) b (node_at (table_of d) stream_there.0) c (space_of tag) r.cursor.time r.cursor.count) (sym context)
          (subst (λ s. Counted (equations_of (table_of d)) b (node_at (table_of d) stream_there.0) r.task.context s r.cursor.time r.cursor.count) (sym space)
          stands.counted));
    }

    needed : IsTrue d.first.keeps → lost ≡ 0 → (form : Head) (nodes : PlainNodes) (stream : ℕ) → node_at (table_of d) r.task.node ≡ row form nodes
        → part_number (table_of d) r.task.node 1 ≡ Some stream
        → (u : ℕ) → u < (cursor_noted form (key_noted f r.cursor).0 (key_noted f r.cursor).1).time
        → NeedsHeld (equations_of (table_of d)) b h (node_at (table_of d) stream) (context_of known tag) u (space_of tag)
    needed keeps lost_none form nodes stream at part u lt =
        let same : f ≡ form = one-form f form es nodes (sym is ∙ at) in
        let cursor : cursor_noted form (key_noted f r.cursor).0 (key_noted f r.cursor).1 ≡ r.cursor =
        ap (λ g. cursor_noted g (key_noted f r.cursor).0 (key_noted f r.cursor).1) (sym same) ∙ cursor_back f r.cursor in
        let facts = ready.search form nodes stream at (ap is_search (sym same) ∙ search) part in
        subst (λ c. NeedsHeld (equations_of (table_of d)) b h (node_at (table_of d) stream) c u (space_of tag)) (sym context)
        (subst (λ s. NeedsHeld (equations_of (table_of d)) b h (node_at (table_of d) stream) r.task.context u s) (sym space)
        (facts.kept keeps lost_none u (subst (λ c. u < c.time) cursor lt)))
