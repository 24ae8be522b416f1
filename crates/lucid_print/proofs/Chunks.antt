-- Texts made of terminals, and how they join.
use Rattle.lucid_print.proofs.Common.{◌≡◌, ℕ, List, [], ◌∷◌, ◌++◌, Bool, true, false, cond, ◌&&◌, ◌||◌, refl, sym, ◌∙◌, ap, append_assoc, append-nil, PlainTerminal}
use Rattle.std.proofs.lemmas.Bool.{and_left}
use Rattle.lucid_parse.specs.declared.terminal.Terminal.TheVariants as terminal
use Rattle.lucid_print.proofs.Terminals.{terminal_text, is_open, is_closer, is_callable, gap, after, last, after-append, last-append, blank, none, blank_behind}
use Rattle.lucid_print.proofs.Goods.{Good, AllGood, good_append}

-- The bytes are the text of one terminal or more, of which the first is no mark that closes, and the last does not open.
pub record Chunk (bytes : List ℕ) : Type 0 where
  pub first : PlainTerminal
  pub rest : List PlainTerminal
  pub text : terminal_text first ++ after first rest ≡ bytes
  pub starts : is_closer first ≡ false
  pub ends : is_open (last first rest) ≡ false
  pub good : AllGood (first ∷ rest)

abbrev pub terminals : {bytes : List ℕ} → Chunk bytes → List PlainTerminal
terminals c = c.first ∷ c.rest

abbrev pub chunk_as : {xs ys : List ℕ} → xs ≡ ys → Chunk xs → Chunk ys
chunk_as e c = record { first = c.first; rest = c.rest; text = c.text ∙ e; starts = c.starts; ends = c.ends; good = c.good }

-- A terminal that stands with a blank on both sides.
pub record IsPlain (s : PlainTerminal) : Type 0 where
  pub opens : is_open s ≡ false
  pub closes : is_closer s ≡ false
  pub calls : is_callable s ≡ false
  pub good : Good s

-- one terminal
abbrev pub single : (s : PlainTerminal) → is_closer s ≡ false → is_open s ≡ false → Good s → Chunk (terminal_text s)
single s c o g = record { first = s; rest = []; text = append-nil (terminal_text s); starts = c; ends = o; good = (g, tt) }

-- a terminal in front
pub led-text : (s f : PlainTerminal) (rest : List PlainTerminal) (ys : List ℕ) → IsPlain s → is_closer f ≡ false → terminal_text f ++ after f rest ≡ ys
    → terminal_text s ++ after s (f ∷ rest) ≡ terminal_text s ++ 32 ∷ ys
led-text s f rest ys p c e =
    ap (λ g. terminal_text s ++ (g ++ (terminal_text f ++ after f rest))) (blank_behind s f p.opens p.calls c)
    ∙ ap (λ t. terminal_text s ++ 32 ∷ t) e

abbrev pub led : {ys : List ℕ} (s : PlainTerminal) → IsPlain s → Chunk ys → Chunk (terminal_text s ++ 32 ∷ ys)
led {ys} s p y = record {
  first = s;
  rest = y.first ∷ y.rest;
  text = led-text s y.first y.rest ys p y.starts y.text;
  starts = p.closes;
  ends = y.ends;
  good = (p.good, y.good);
}

-- what comes behind a chunk
pub behind-text : (f : PlainTerminal) (rest more : List PlainTerminal) (xs : List ℕ) → terminal_text f ++ after f rest ≡ xs
    → terminal_text f ++ after f (rest ++ more) ≡ xs ++ after (last f rest) more
behind-text f rest more xs e =
    ap (λ t. terminal_text f ++ t) (after-append f rest more)
    ∙ sym (append_assoc (terminal_text f) (after f rest) (after (last f rest) more))
    ∙ ap (λ t. t ++ after (last f rest) more) e

pub behind_plain : (l s : PlainTerminal) (more : List PlainTerminal) → is_open l ≡ false → is_open s ≡ false → is_closer s ≡ false
    → after l (s ∷ more) ≡ 32 ∷ (terminal_text s ++ after s more)
behind_plain l s more o p c = ap (λ g. g ++ (terminal_text s ++ after s more)) (blank l s o c (and_left (is_open s) (is_callable l) p))

pub behind_closer : (l s : PlainTerminal) (more : List PlainTerminal) → is_open l ≡ false → is_closer s ≡ true
    → after l (s ∷ more) ≡ terminal_text s ++ after s more
behind_closer l s more o c = ap (λ g. g ++ (terminal_text s ++ after s more)) (none l s o c)

-- a chunk, a terminal with blanks, a chunk
abbrev pub operated : {xs ys : List ℕ} (s : PlainTerminal) → IsPlain s → Chunk xs → Chunk ys → Chunk (xs ++ 32 ∷ (terminal_text s ++ 32 ∷ ys))
operated {xs} {ys} s p x y = record {
  first = x.first;
  rest = x.rest ++ s ∷ (y.first ∷ y.rest);
  text =
      behind-text x.first x.rest (s ∷ (y.first ∷ y.rest)) xs x.text
      ∙ ap (λ t. xs ++ t) (behind_plain (last x.first x.rest) s (y.first ∷ y.rest) x.ends p.opens p.closes)
      ∙ ap (λ t. xs ++ 32 ∷ t) (led-text s y.first y.rest ys p y.starts y.text);
  starts = x.starts;
  ends = ap is_open (last-append x.first x.rest (s ∷ (y.first ∷ y.rest))) ∙ y.ends;
  good = good_append (x.first ∷ x.rest) (s ∷ (y.first ∷ y.rest)) x.good (p.good, y.good);
}

-- a chunk and a terminal
abbrev pub trailed : {xs : List ℕ} (s : PlainTerminal) → IsPlain s → Chunk xs → Chunk (xs ++ 32 ∷ terminal_text s)
trailed {xs} s p x = record {
  first = x.first;
  rest = x.rest ++ s ∷ [];
  text =
      behind-text x.first x.rest (s ∷ []) xs x.text
      ∙ ap (λ t. xs ++ t) (behind_plain (last x.first x.rest) s [] x.ends p.opens p.closes)
      ∙ ap (λ t. xs ++ 32 ∷ t) (append-nil (terminal_text s));
  starts = x.starts;
  ends = ap is_open (last-append x.first x.rest (s ∷ [])) ∙ p.opens;
  good = good_append (x.first ∷ x.rest) (s ∷ []) x.good (p.good, tt);
}

-- a chunk and a mark that closes
abbrev pub ended : {xs : List ℕ} (s : PlainTerminal) → is_closer s ≡ true → is_open s ≡ false → Good s → Chunk xs → Chunk (xs ++ terminal_text s)
ended {xs} s c o g x = record {
  first = x.first;
  rest = x.rest ++ s ∷ [];
  text =
      behind-text x.first x.rest (s ∷ []) xs x.text
      ∙ ap (λ t. xs ++ t) (behind_closer (last x.first x.rest) s [] x.ends c ∙ append-nil (terminal_text s));
  starts = x.starts;
  ends = ap is_open (last-append x.first x.rest (s ∷ [])) ∙ o;
  good = good_append (x.first ∷ x.rest) (s ∷ []) x.good (g, tt);
}

-- in parentheses
abbrev pub closed : {xs : List ℕ} → Good terminal.Open → Good terminal.Close → Chunk xs → Chunk (40 ∷ (xs ++ 41 ∷ []))
closed {xs} g h x = record {
  first = terminal.Open;
  rest = x.first ∷ (x.rest ++ terminal.Close ∷ []);
  text = ap (λ t. 40 ∷ t) (ended {xs = xs} terminal.Close refl refl h x).text;
  starts = refl;
  ends = ap is_open (last-append x.first x.rest (terminal.Close ∷ []));
  good = (g, good_append (x.first ∷ x.rest) (terminal.Close ∷ []) x.good (h, tt));
}

-- a name or a called operator before parentheses
tight_call : (l : PlainTerminal) → is_callable l ≡ true → gap l terminal.Open ≡ []
tight_call l n = elim_tight (is_open l)
  where
    elim_tight : (b : Bool) → cond {A = List ℕ} (b || (false || (true && is_callable l))) [] (32 ∷ []) ≡ []
    elim_tight true = refl
    elim_tight false = ap (λ c. cond {A = List ℕ} c [] (32 ∷ [])) n

pub called-text : (s : PlainTerminal) → is_callable s ≡ true → (more : List PlainTerminal) (ys : List ℕ) → after terminal.Open more ≡ ys
    → terminal_text s ++ after s (terminal.Open ∷ more) ≡ terminal_text s ++ 40 ∷ ys
called-text s n more ys e = ap (λ g. terminal_text s ++ (g ++ 40 ∷ after terminal.Open more)) (tight_call s n) ∙ ap (λ t. terminal_text s ++ 40 ∷ t) e

abbrev pub called : {xs : List ℕ} (s : PlainTerminal) → is_callable s ≡ true → is_closer s ≡ false → Good s → Good terminal.Open → Good terminal.Close
    → Chunk xs
    → Chunk (terminal_text s ++ 40 ∷ (xs ++ 41 ∷ []))
called {xs} s n c k g h x = record {
  first = s;
  rest = terminal.Open ∷ (x.first ∷ (x.rest ++ terminal.Close ∷ []));
  text = called-text s n (x.first ∷ (x.rest ++ terminal.Close ∷ [])) (xs ++ 41 ∷ []) (ended {xs = xs} terminal.Close refl refl h x).text;
  starts = c;
  ends = ap is_open (last-append x.first x.rest (terminal.Close ∷ []));
  good = (k, (g, good_append (x.first ∷ x.rest) (terminal.Close ∷ []) x.good (h, tt)));
}

-- two chunks parted by a comma
pub comma-text : (f : PlainTerminal) (rest : List PlainTerminal) (ys : List ℕ) → is_closer f ≡ false → terminal_text f ++ after f rest ≡ ys
    → after terminal.Comma (f ∷ rest) ≡ 32 ∷ ys
comma-text f rest ys c e = ap (λ g. g ++ (terminal_text f ++ after f rest)) (blank_behind terminal.Comma f refl refl c) ∙ ap (λ t. 32 ∷ t) e

abbrev pub with_comma : {xs ys : List ℕ} → Good terminal.Comma → Chunk xs → Chunk ys → Chunk (xs ++ 44 ∷ 32 ∷ ys)
with_comma {xs} {ys} g x y = record {
  first = x.first;
  rest = x.rest ++ terminal.Comma ∷ (y.first ∷ y.rest);
  text =
      behind-text x.first x.rest (terminal.Comma ∷ (y.first ∷ y.rest)) xs x.text
      ∙ ap (λ t. xs ++ t) (behind_closer (last x.first x.rest) terminal.Comma (y.first ∷ y.rest) x.ends refl)
      ∙ ap (λ t. xs ++ 44 ∷ t) (comma-text y.first y.rest ys y.starts y.text);
  starts = x.starts;
  ends = ap is_open (last-append x.first x.rest (terminal.Comma ∷ (y.first ∷ y.rest))) ∙ y.ends;
  good = good_append (x.first ∷ x.rest) (terminal.Comma ∷ (y.first ∷ y.rest)) x.good (g, y.good);
}

-- Definitions: no terminal or more, with a blank behind each definition. What comes behind them is no mark that closes or opens.
pub record Definitions (bytes : List ℕ) : Type 0 where
  pub all : List PlainTerminal
  pub text : (l s : PlainTerminal) (more : List PlainTerminal) → is_open l ≡ false → is_open s ≡ false → is_closer s ≡ false
      → after l (all ++ s ∷ more) ≡ 32 ∷ (bytes ++ (terminal_text s ++ after s more))
  pub good : AllGood all

abbrev pub no_definitions : Definitions []
no_definitions = record { all = []; text = λ l s more o p c. behind_plain l s more o p c; good = tt }

pub one_more : {bs d : List ℕ} (ds : Definitions bs) (c : Chunk d) → is_open c.first ≡ false → (l s : PlainTerminal) (more : List PlainTerminal)
    → is_open l ≡ false → is_open s ≡ false → is_closer s ≡ false
    → after l ((ds.all ++ (c.first ∷ c.rest)) ++ s ∷ more) ≡ 32 ∷ ((bs ++ (d ++ 32 ∷ [])) ++ (terminal_text s ++ after s more))
one_more {bs} {d} ds c q l s more o p e =
    ap (after l) (append_assoc ds.all (c.first ∷ c.rest) (s ∷ more))
    ∙ ds.text l c.first (c.rest ++ s ∷ more) o q c.starts
    ∙ ap (λ t. 32 ∷ (bs ++ t))
    (behind-text c.first c.rest (s ∷ more) d c.text ∙ ap (λ t. d ++ t) (behind_plain (last c.first c.rest) s more c.ends p e))
    ∙ ap (λ t. 32 ∷ t) (ap (λ t. bs ++ t) (sym (append_assoc d (32 ∷ []) (terminal_text s ++ after s more)))
    ∙ sym (append_assoc bs (d ++ 32 ∷ []) (terminal_text s ++ after s more)))

abbrev pub and_definition : {bs d : List ℕ} (ds : Definitions bs) (c : Chunk d) → is_open c.first ≡ false → Definitions (bs ++ (d ++ 32 ∷ []))
and_definition {bs} {d} ds c q = record {
  all = ds.all ++ (c.first ∷ c.rest);
  text = one_more ds c q;
  good = good_append ds.all (c.first ∷ c.rest) ds.good c.good;
}

-- a block: its subject, `where`, its definitions, `end`
pub block-text : {xs bs : List ℕ} (x : Chunk xs) (ds : Definitions bs)
    → terminal_text x.first ++ after x.first (x.rest ++ terminal.Where ∷ (ds.all ++ terminal.End ∷ []))
    ≡ xs ++ 32 ∷ (terminal_text terminal.Where ++ 32 ∷ (bs ++ terminal_text terminal.End))
block-text {xs} {bs} x ds =
    behind-text x.first x.rest (terminal.Where ∷ (ds.all ++ terminal.End ∷ [])) xs x.text
    ∙ ap (λ t. xs ++ t) (behind_plain (last x.first x.rest) terminal.Where (ds.all ++ terminal.End ∷ []) x.ends refl refl)
    ∙ ap (λ t. xs ++ 32 ∷ (terminal_text terminal.Where ++ t)) (ds.text terminal.Where terminal.End [] refl refl refl)
    ∙ ap (λ t. xs ++ 32 ∷ (terminal_text terminal.Where ++ 32 ∷ (bs ++ t))) (append-nil (terminal_text terminal.End))

abbrev pub blocked : {xs bs : List ℕ} → Good terminal.Where → Good terminal.End → Chunk xs → Definitions bs
    → Chunk (xs ++ 32 ∷ (terminal_text terminal.Where ++ 32 ∷ (bs ++ terminal_text terminal.End)))
blocked {xs} {bs} g h x ds = record {
  first = x.first;
  rest = x.rest ++ terminal.Where ∷ (ds.all ++ terminal.End ∷ []);
  text = block-text x ds;
  starts = x.starts;
  ends = ap is_open (last-append x.first x.rest (terminal.Where ∷ (ds.all ++ terminal.End ∷ [])) ∙ last-append terminal.Where ds.all (terminal.End ∷ []));
  good = good_append (x.first ∷ x.rest) (terminal.Where ∷ (ds.all ++ terminal.End ∷ [])) x.good (g, good_append ds.all (terminal.End ∷ []) ds.good (h, tt));
}
