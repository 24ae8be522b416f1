-- What is noted of a search is its form's pair, and a search begins where its form may stand.
use Rattle.lucid_demand_steps.proofs.DecidingCommon.{ℕ, [], ◌∷◌, refl, subst, arith, none-some, Head, whenever, asa, upon, CanStandAt, Cursor, PlainNodes, row, node_by, Node, Table, is_search}
use Rattle.std.proofs.Common.{◌≡◌, ◌≤◌, true, Some}
use Rattle.lucid_equations.specs.Rows.{nodes_of, all_at}
use Rattle.lucid_equations.specs.declared.rows.Node.TheVariants.{Whenever, Asa, Upon}
use Rattle.lucid_demand_steps.specs.Held.{cursor_noted, key_noted}
use Rattle.lucid_demand_steps.specs.Searches.{search_for, noted_of, greatest_key}
use Rattle.lucid_demand_steps.specs.declared.searches.Search.{Search}
use Rattle.lucid_demand_steps.specs.declared.searches.Search.TheVariants.{Find, Count}

-- A node that searches by a form: what is noted of the search is the form's pair, which gives the cursor back; and wherever the search
-- may begin, the form may stand.
pub record SearchesBy (T : Table) (n : Node) (t : ℕ) (s : Search) : Type 0 where
  pub form : Head
  pub nodes : PlainNodes
  pub is : node_by T n ≡ row form nodes
  pub search : is_search form ≡ true
  pub pair : (c : Cursor) → noted_of s c ≡ key_noted form c
  pub back : (c : Cursor) → cursor_noted form (noted_of s c).0 (noted_of s c).1 ≡ c
  pub begins : (c : Cursor) → (noted_of s c).0 ≤ greatest_key s → CanStandAt form c.time c.count t

one_search : (s q : Search) → Some s ≡ Some q → s ≡ q
one_search s q e = cc

pub searches_by : (T : Table) (n : Node) (t : ℕ) (s : Search) → search_for n t ≡ Some s → SearchesBy T n t s
searches_by T (Whenever a b) t s e =
    subst (λ z. SearchesBy T (Whenever a b) t z) (one_search (Find t) s e)
    (record { form = whenever; nodes = all_at (nodes_of T) (a ∷ b ∷ []); is = refl; search = refl; pair = λ c. refl; back = λ c. refl; begins = λ c l. l })
searches_by T (Asa a b) t s e =
    subst (λ z. SearchesBy T (Asa a b) t z) (one_search (Find 0) s e)
    (record {
      form = asa;
      nodes = all_at (nodes_of T) (a ∷ b ∷ []);
      is = refl;
      search = refl;
      pair = λ c. refl;
      back = λ c. refl;
      begins = λ c l. omega (arith, l);
    })
searches_by T (Upon a b) t s e =
    subst (λ z. SearchesBy T (Upon a b) t z) (one_search (Count t) s e)
    (record { form = upon; nodes = all_at (nodes_of T) (a ∷ b ∷ []); is = refl; search = refl; pair = λ c. refl; back = λ c. refl; begins = λ c l. l })
searches_by T _ t s e = absurd (none-some s e)
