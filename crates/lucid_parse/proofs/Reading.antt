-- The machine over borrowed names and values reads the terminals that they stand for.
use Rattle.lucid_parse.proofs.Common.{◌≡◌, ℕ, ◌+◌, ◌<◌, ◌≤◌, List, length, map, take, get_or, Option, Some, None, option_and_then, sym, ◌∙◌, ap, subst, arith, option_map, take_all, get_or-map, length-map, Bor, Value, Terminal, TerminalAt, Item, PlacedTerminal, State, start, step, feeds, finish, nodes, PlainValue, fill_terminal, fill_item, fill_state, name_now, value_now, placed_of, terminals_of, items_of, SpellsNone, IsFault}
use Rattle.lucid_parse.proofs.Filled.{filled_step, filled_finish}
use Rattle.lucid_parse.proofs.Exact.{feeds-more, fault_at_step, none_at_step, fault_at_end, none_at_end}

module _ {M V : Type 0} (f : M → List ℕ) (g : V → PlainValue) (ws : List PlacedTerminal) (h : State M V) where
  module _ (i : ℕ) (d : PlacedTerminal) (terminal : Terminal M V) (fits : i < length ws) (so_far : feeds start (take i ws) ≡ Some (fill_state f g h))
      (same : fill_terminal f g terminal ≡ (get_or ws i d).terminal) where
    step_is : (o : Option (State M V)) → step h terminal (get_or ws i d).at ≡ o
        → step (fill_state f g h) (get_or ws i d).terminal (get_or ws i d).at ≡ option_map (fill_state f g) o
    step_is o e =
        ap (λ x. step (fill_state f g h) x (get_or ws i d).at) (sym same) ∙ filled_step f g h terminal (get_or ws i d).at ∙ ap (option_map (fill_state f g)) e

    pub read_more : (moved : State M V) → step h terminal (get_or ws i d).at ≡ Some moved → feeds start (take (i + 1) ws) ≡ Some (fill_state f g moved)
    read_more moved e = feeds-more ws i d (fill_state f g h) _ fits so_far (step_is (Some moved) e)

    pub stops_here : (end : ℕ) → step h terminal (get_or ws i d).at ≡ None → SpellsNone ws × IsFault ws end (get_or ws i d).at
    stops_here end e = (
      none_at_step ws i end d (fill_state f g h) fits so_far (step_is None e),
      fault_at_step ws i end d (fill_state f g h) fits so_far (step_is None e),
    )

  module _ (i : ℕ) (over : length ws ≤ i) (so_far : feeds start (take i ws) ≡ Some (fill_state f g h)) where
    all_read : feeds start ws ≡ Some (fill_state f g h)
    all_read = sym (ap (feeds start) (take_all i ws over)) ∙ so_far

    pub stops_at_end : (end : ℕ) → finish h ≡ None → SpellsNone ws × IsFault ws end end
    stops_at_end end e =
        let none = filled_finish f g h ∙ ap (option_map (map (fill_item f g))) e in
        (none_at_end ws end (fill_state f g h) all_read none, fault_at_end ws end (fill_state f g h) all_read none)

    pub nodes_are : (items : List (Item M V)) → finish h ≡ Some items → nodes ws ≡ Some (map (fill_item f g) items)
    nodes_are items e = ap (option_and_then finish) all_read ∙ filled_finish f g h ∙ ap (option_map (map (fill_item f g))) e

-- The same of the code's terminals.
module _ (terminals : List TerminalAt) (h : State (Bor (List ℕ)) (Bor Value)) where
  module _ (i : ℕ) (x : TerminalAt) (fits : i < length terminals) (is : x ≡ get_or terminals i x) (terminal : Terminal (Bor (List ℕ)) (Bor Value))
      (so_far : feeds start (take i (terminals_of terminals)) ≡ Some (fill_state name_now value_now h))
      (same : fill_terminal name_now value_now terminal ≡ (placed_of x).terminal) where
    terminal_is : get_or (terminals_of terminals) i (placed_of x) ≡ placed_of x
    terminal_is = get_or-map placed_of terminals i x (placed_of x) fits ∙ ap placed_of (sym is)

    in_terminals : i < length (terminals_of terminals)
    in_terminals = omega (arith, fits, length-map terminals placed_of)

    same_terminal : fill_terminal name_now value_now terminal ≡ (get_or (terminals_of terminals) i (placed_of x)).terminal
    same_terminal = same ∙ ap (λ w. w.terminal) (sym terminal_is)

    pub terminal_read : (moved : State (Bor (List ℕ)) (Bor Value)) → step h terminal x.at ≡ Some moved
        → feeds start (take (i + 1) (terminals_of terminals)) ≡ Some (fill_state name_now value_now moved)
    terminal_read moved e = read_more name_now value_now (terminals_of terminals) h i (placed_of x) terminal in_terminals so_far same_terminal moved
        (ap (λ w. step h terminal w.at) terminal_is ∙ e)

    pub terminal_stops : (end : ℕ) → step h terminal x.at ≡ None → SpellsNone (terminals_of terminals) × IsFault (terminals_of terminals) end x.at
    terminal_stops end e =
        subst (λ w. SpellsNone (terminals_of terminals) × IsFault (terminals_of terminals) end w.at) terminal_is
        (stops_here name_now value_now (terminals_of terminals) h i (placed_of x) terminal in_terminals so_far same_terminal end
        (ap (λ w. step h terminal w.at) terminal_is ∙ e))

  module _ (i : ℕ) (over : length terminals ≤ i) (so_far : feeds start (take i (terminals_of terminals)) ≡ Some (fill_state name_now value_now h)) where
    past_terminals : length (terminals_of terminals) ≤ i
    past_terminals = omega (arith, over, length-map terminals placed_of)

    pub terminals_stop : (end : ℕ) → finish h ≡ None → SpellsNone (terminals_of terminals) × IsFault (terminals_of terminals) end end
    terminals_stop end e = stops_at_end name_now value_now (terminals_of terminals) h i past_terminals so_far end e

    pub terminals_read : (items : List (Item (Bor (List ℕ)) (Bor Value))) → finish h ≡ Some items → nodes (terminals_of terminals) ≡ Some (items_of items)
    terminals_read items e = nodes_are name_now value_now (terminals_of terminals) h i past_terminals so_far items e
