-- The machine stops exactly where no program goes on.
use Rattle.lucid_parse.proofs.Common.{◌≡◌, ℕ, ◌+◌, ◌≤◌, ◌<◌, List, [], ◌∷◌, ◌++◌, length, take, drop, get_or, Option, Some, None, option_and_then, refl, sym, ◌∙◌, ap, subst, arith, zero-le, le_refl, inl, inr, take_more, take_all, take-append-drop, get_or-map, cases_lt, PlainTree, PlacedTerminal, Spells, PlainState, start, step, feeds, finish, nodes, written, Begins, SpellsNone, IsFault, take-take}
use Rattle.lucid_parse.specs.Verdict.{place_of}
use Rattle.lucid_parse.proofs.Complete.{complete, feeds-append}
use Rattle.lucid_parse.proofs.Sound.{feeds_mean, start_means}
use Rattle.lucid_parse.proofs.Viable.{viable, begins_front}

-- what is spelled is written
pub spelled_nodes : (ts : List PlacedTerminal) (t : PlainTree) → Spells 0 ts t → nodes ts ≡ Some (written [] t)
spelled_nodes ts t s = let o = complete s zero-le 0 [] [] zero-le tt in ap (option_and_then finish) o.done.reads ∙ o.done.ends

-- what goes on to some state has come to one
front : (xs ys : List PlacedTerminal) (g h : PlainState) → feeds g (xs ++ ys) ≡ Some h → (i : PlainState) × (feeds g xs ≡ Some i)
front [] ys g h e = (g, refl)
front (x ∷ xs) ys g h e = onto (step g x.terminal x.at) refl e (λ i f. front xs ys i h f)
  where
    onto : (o : Option PlainState) → step g x.terminal x.at ≡ o → option_and_then (λ i. feeds i (xs ++ ys)) o ≡ Some h
        → ((i : PlainState) → feeds i (xs ++ ys) ≡ Some h → (j : PlainState) × (feeds i xs ≡ Some j))
        → (j : PlainState) × (option_and_then (λ i. feeds i xs) o ≡ Some j)
    onto None s e k = cc
    onto (Some i) s e k = k i e

begins_reached : (ts : List PlacedTerminal) → Begins ts → (g : PlainState) × (feeds start ts ≡ Some g)
begins_reached ts h = let o = complete h.2 zero-le 0 [] [] zero-le tt in front ts h.0 start o.done.after o.done.reads

pub reached_begins : (ts : List PlacedTerminal) (g : PlainState) → feeds start ts ≡ Some g → Begins ts
reached_begins ts g e = viable g.focus g.frames g.out ts (feeds_mean ts start g [] start_means e)

place-end : (ts : List PlacedTerminal) (end : ℕ) → end ≡ place_of ts end (length ts)
place-end [] end = refl
place-end (t ∷ ts) end = place-end ts end

-- where a step fails, no program goes on
no_way : (ts : List PlacedTerminal) (t : PlacedTerminal) (g : PlainState) → feeds start ts ≡ Some g → step g t.terminal t.at ≡ None → Begins (ts ++ t ∷ []) → ⊥
no_way ts t g e f h =
    let r = begins_reached (ts ++ t ∷ []) h in
    let stops : feeds start (ts ++ t ∷ []) ≡ None = feeds-append ts (t ∷ []) start g e ∙ ap (option_and_then (λ i. feeds i [])) f in
    let no : None ≡ Some r.0 = sym stops ∙ r.1 in cc

begins_take : (ts : List PlacedTerminal) (i : ℕ) (t : PlainTree) → Spells 0 ts t → Begins (take i ts)
begins_take ts i t s = (drop i ts, t, subst (λ l. Spells 0 l t) (sym (take-append-drop i ts)) s)

-- a step over the next terminal
pub feeds-more : (ts : List PlacedTerminal) (i : ℕ) (d : PlacedTerminal) (g : PlainState) (o : Option PlainState) → i < length ts
    → feeds start (take i ts) ≡ Some g → step g (get_or ts i d).terminal (get_or ts i d).at ≡ o
    → feeds start (take (i + 1) ts) ≡ o
feeds-more ts i d g o h e f =
    ap (feeds start) (take_more ts i d h) ∙ feeds-append (take i ts) (get_or ts i d ∷ []) start g e ∙ ap (option_and_then (λ j. feeds j [])) f ∙ last o
  where
    last : (p : Option PlainState) → option_and_then (λ j. feeds j []) p ≡ p
    last None = refl
    last (Some j) = refl

module _ (ts : List PlacedTerminal) (i end : ℕ) (d : PlacedTerminal) (g : PlainState) (h : i < length ts) (e : feeds start (take i ts) ≡ Some g)
    (f : step g (get_or ts i d).terminal (get_or ts i d).at ≡ None) where
  stuck : Begins (take (i + 1) ts) → ⊥
  stuck b = no_way (take i ts) (get_or ts i d) g e f (subst Begins (take_more ts i d h) b)

  pub fault_at_step : IsFault ts end (get_or ts i d).at
  fault_at_step = record {
    index = i;
    within = omega arith;
    before = reached_begins (take i ts) g e;
    through = λ _. stuck;
    place = sym (get_or-map (λ w. w.at) ts i d end h);
  }

  pub none_at_step : SpellsNone ts
  none_at_step x s = stuck (begins_take ts (i + 1) x s)

module _ (ts : List PlacedTerminal) (end : ℕ) (g : PlainState) (e : feeds start ts ≡ Some g) (f : finish g ≡ None) where
  pub fault_at_end : IsFault ts end end
  fault_at_end = record {
    index = length ts;
    within = le_refl _;
    before = subst Begins (sym (take_all (length ts) ts (le_refl _))) (reached_begins ts g e);
    through = λ h. absurd (omega arith);
    place = place-end ts end;
  }

  pub none_at_end : SpellsNone ts
  none_at_end x s = let no : None ≡ Some (written [] x) = sym (ap (option_and_then finish) e ∙ f) ∙ spelled_nodes ts x s in cc

-- the fault has one place
earlier : (ts : List PlacedTerminal) (i later : ℕ) → i ≤ later → Begins (take later ts) → Begins (take i ts)
earlier ts i later h b =
    begins_front (take i ts) (drop i (take later ts))
    (subst Begins (sym (take-append-drop i (take later ts)) ∙ ap (λ l. l ++ drop i (take later ts)) (take-take i later ts h)) b)

not_before : (ts : List PlacedTerminal) (end a b : ℕ) (f : IsFault ts end a) (g : IsFault ts end b) → f.index < g.index → ⊥
not_before ts end a b f g h = f.through (omega (arith, h, g.within)) (earlier ts (f.index + 1) g.index (omega (arith, h)) g.before)

pub fault_one : (ts : List PlacedTerminal) (end a b : ℕ) → IsFault ts end a → IsFault ts end b → a ≡ b
fault_one ts end a b f g =
    elim (cases_lt f.index g.index) [
      | inl h ↦ absurd (not_before ts end a b f g h)
      | inr k ↦ elim (cases_lt g.index f.index) [
        | inl h ↦ absurd (not_before ts end b a g f h)
        | inr m ↦ let same : f.index ≡ g.index = omega (arith, k, m) in f.place ∙ ap (place_of ts end) same ∙ sym g.place
      ]
    ]
