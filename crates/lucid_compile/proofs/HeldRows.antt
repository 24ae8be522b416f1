-- The scopes of a table's rows: which scope each node, name and call place of a tree that was resolved stands in, and the name of each
-- call place.
use Rattle.lucid_compile.proofs.Common.{ℕ, ◌<◌, ◌++◌, length, map, sym, subst, nodes_of, Table, Numbered, Log, IsOpen, IsScopeRow, IsNodeRow, IsNameRow, IsPlaceRow, ScopesHold, NodesHold, NamesHold, PlacesHold, call_row, slice_get_within, RowsHaveScopes}
use Rattle.lucid_compile.specs.Static.{Static}
use Rattle.lucid_compile.proofs.Pairs.{pairs-count, thing-at}

-- The rows are those that were added, in order: each scope stands in the scope of what is round it; each node, name and call place in the
-- scope of what is in scope there, and a name in that from its entry on; the rows of calls come after those of all other names; and each
-- call place has the name of its own call.
pub record HasRows (w : Numbered) (g : Log) (t : Table) : Type 0 where
  pub scopes : ScopesHold g.scopes t.scopes g.scopes
  pub nodes : NodesHold w g.scopes t.nodes g.nodes
  pub names : NamesHold w g.scopes (nodes_of t) t.names (g.names ++ map (λ c. call_row w g.functions c.at) g.calls)
  pub places : PlacesHold w g.scopes (nodes_of t) t.places g.calls

-- So the scope of each row is there.
module _ (t : Table) (w : Numbered) (z : Log) (rows : HasRows w z t) where
  open-there : (scope : ℕ) (k : Static) → IsOpen z.scopes scope k → scope < length t.scopes
  open-there s k h = subst (λ n. s < n) (sym (pairs-count (IsScopeRow z.scopes) 0 t.scopes z.scopes rows.scopes)) (slice_get_within z.scopes s _ h)

  pub have-scopes : RowsHaveScopes t
  have-scopes = record {
    nodes = λ id r at. (let f = thing-at (IsNodeRow w z.scopes) 0 t.nodes z.nodes id r rows.nodes at in open-there r.scope f.thing.home f.is.2);
    names = λ n r at. (let f = thing-at (λ i r s. IsNameRow w z.scopes (nodes_of t) r s) 0 t.names (z.names ++ map (λ c. call_row w z.functions c.at) z.calls) n r
        rows.names at in open-there r.scope f.thing.home f.is.1);
    places = λ q r at. (let f = thing-at (λ i r c. IsPlaceRow w z.scopes (nodes_of t) r c) 0 t.places z.calls q r rows.places at in
        open-there r.scope f.thing.home f.is.2);
  }
