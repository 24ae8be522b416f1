-- A text of good terminals is scanned as words of these terminals.
use Rattle.lucid_print.proofs.Common.{◌≡◌, ℕ, suc, ◌+◌, ◌≤◌, List, [], ◌∷◌, ◌++◌, length, take, drop, Bool, true, false, cond, ◌&&◌, ◌||◌, inl, inr, refl, sym, ◌∙◌, ap, subst, arith, zero-le, append_assoc, or_cases, and_parts, cond-true, cond-false, or_left, or_right, TextIsRead, TokenKind, PlainTree, form, name, call, block, PlainTrees, no_trees, tree, PlainDefs, no_defs, defines, defines_function, defines_current, PlainTerminal, PlacedTerminal, terminal_at, Spells, StandsFor, looser, unplaced, all_unplaced, defs_unplaced, ◌-◌, le_refl, length-append, slice_range, max, All, take-append_seam, drop-append_seam}
use Rattle.lucid_scan.specs.declared.token.Token.{Token}
use Rattle.lucid_scan.specs.Tokens.{IsLongest, past_gap, token, Tokens, tokens_end, tokens_next}
use Rattle.lucid_scan.specs.Tokens.{gap as gap_length}
use Rattle.lucid_scan.specs.Laws.{TextsAreLongest, TextsBeginNoGap, TokensStand, TokensAreNotRefused, StandsIn}
use Rattle.lucid_tree.specs.WellMade.{depth, depths, depths_in_defs}
use Rattle.lucid_parse.specs.declared.terminal.Terminal.TheVariants as terminal
use Rattle.lucid_parse.specs.declared.refusal.ParseRefusal.{ParseRefusal}
use Rattle.lucid_parse.specs.declared.refusal.ParseRefusal.TheVariants as parse_refusal
use Rattle.lucid_parse.specs.Laws.{TerminalsAreUnique, TerminalsSpellOneTree}
use Rattle.lucid_parse.specs.Spelled.{SpellsTree, IsSourceRefused}
use Rattle.lucid_parse.specs.Terminals.{Terminals}
use Rattle.lucid_print.specs.Canonical.{canonical}
use Rattle.lucid_print.specs.Again.{IsReadAs, IsParsed}
use Rattle.lucid_print.proofs.Terminals.{terminal_text, is_open, is_closer, is_callable, is_tight, gap, after}
use Rattle.lucid_print.proofs.Goods.{Good, AllGood, stoppers, among}
use Rattle.lucid_print.proofs.Printed.{terminals_of, AllWritten, print}

-- the byte behind a terminal
record Next (s : PlainTerminal) (bytes : List ℕ) : Type 0 where
  byte : ℕ
  more : List ℕ
  is : bytes ≡ byte ∷ more
  fits : (is_open s || among byte stoppers) ≡ true

record Begun (bytes : List ℕ) : Type 0 where
  byte : ℕ
  more : List ℕ
  is : bytes ≡ byte ∷ more

some : (xs : List ℕ) (b : ℕ) → Begun (xs ++ b ∷ [])
some [] b = record { byte = b; more = []; is = refl }
some (x ∷ xs) b = record { byte = x; more = xs ++ b ∷ []; is = refl }

-- the byte of a mark that closes, and of the one that opens
record Stopper (s : PlainTerminal) : Type 0 where
  byte : ℕ
  is : terminal_text s ≡ byte ∷ []
  stops : among byte stoppers ≡ true

closer : (s : PlainTerminal) → is_closer s ≡ true → Stopper s
closer terminal.Close h = record { byte = 41; is = refl; stops = refl }
closer terminal.Comma h = record { byte = 44; is = refl; stops = refl }
closer terminal.Semicolon h = record { byte = 59; is = refl; stops = refl }
closer _ h = cc

opener : (s : PlainTerminal) → is_open s ≡ true → Stopper s
opener terminal.Open h = record { byte = 40; is = refl; stops = refl }
opener _ h = cc

by_stopper : (l s : PlainTerminal) (tail : List ℕ) → Stopper s → Next l ((terminal_text s ++ tail) ++ 10 ∷ [])
by_stopper l s tail p = record {
  byte = p.byte;
  more = tail ++ 10 ∷ [];
  is = ap (λ t. (t ++ tail) ++ 10 ∷ []) p.is;
  fits = or_right (is_open l) (among p.byte stoppers) p.stops;
}

next : (l : PlainTerminal) (ss : List PlainTerminal) → Next l (after l ss ++ 10 ∷ [])
next l [] = record { byte = 10; more = []; is = refl; fits = or_right (is_open l) true refl }
next l (s ∷ ss) = of (is_tight l s) refl
  where
    blank : is_tight l s ≡ false → Next l (after l (s ∷ ss) ++ 10 ∷ [])
    blank e = record {
      byte = 32;
      more = (terminal_text s ++ after s ss) ++ 10 ∷ [];
      is = ap (λ g. (g ++ (terminal_text s ++ after s ss)) ++ 10 ∷ []) (cond-false (is_tight l s) [] (32 ∷ []) e);
      fits = or_right (is_open l) true refl;
    }

    along : is_tight l s ≡ true → Next l ((terminal_text s ++ after s ss) ++ 10 ∷ []) → Next l (after l (s ∷ ss) ++ 10 ∷ [])
    along e n = record {
      byte = n.byte;
      more = n.more;
      is = ap (λ g. (g ++ (terminal_text s ++ after s ss)) ++ 10 ∷ []) (cond-true (is_tight l s) [] (32 ∷ []) e) ∙ n.is;
      fits = n.fits;
    }

    behind_open : is_open l ≡ true → Next l ((terminal_text s ++ after s ss) ++ 10 ∷ [])
    behind_open o =
        let x = some (terminal_text s ++ after s ss) 10 in
        record { byte = x.byte; more = x.more; is = x.is; fits = or_left (is_open l) (among x.byte stoppers) o }

    of : (b : Bool) → is_tight l s ≡ b → Next l (after l (s ∷ ss) ++ 10 ∷ [])
    of false e = blank e
    of true e = along e
        (elim (or_cases (is_open l) (is_closer s || (is_open s && is_callable l)) e) [
          | inl o ↦ behind_open o
          | inr r ↦ elim (or_cases (is_closer s) (is_open s && is_callable l) r) [
            | inl c ↦ by_stopper l s (after s ss) (closer s c)
            | inr t ↦ by_stopper l s (after s ss) (opener s (and_parts (is_open s) (is_callable l) t).0)
          ]
        ])

next_by : (bytes : List ℕ) (at g n : ℕ) (k : TokenKind) (here rest : List ℕ) (ts : List Token) → gap_length bytes ≡ g → drop g bytes ≡ here → IsLongest here k n
    → drop n here ≡ rest
    → Tokens rest ((at + g) + n) ts → Tokens bytes at (token k (at + g) ((at + g) + n) ∷ ts)
next_by bytes at g n k here rest ts e f l d more =
    let there : past_gap bytes ≡ here = ap (λ i. drop i bytes) e ∙ f in
    subst (λ h. Tokens bytes at (token k (at + h) ((at + h) + n) ∷ ts)) e
    (tokens_next k n (subst (λ x. IsLongest x k n) (sym there) l)
    (subst (λ x. Tokens x ((at + gap_length bytes) + n) ts) (sym (ap (drop n) there ∙ d)) (subst (λ i. Tokens rest ((at + i) + n) ts) (sym e) more)))

-- the blank between terminals is a gap of the scanner
abbrev spaces : Bool → List ℕ
spaces b = cond b [] (32 ∷ [])

spaced : (b : Bool) (xs : List ℕ) → gap_length xs ≡ 0 → gap_length (spaces b ++ xs) ≡ length (spaces b)
spaced true xs e = e
spaced false xs e = ap (λ n. n + 1) e

past_spaces : (b : Bool) (xs : List ℕ) → drop (length (spaces b)) (spaces b ++ xs) ≡ xs
past_spaces true xs = refl
past_spaces false xs = refl

slice_mid : (a t r : List ℕ) (from to : ℕ) → from ≡ length a → to ≡ from + length t → slice_range ((a ++ t) ++ r) from to ≡ t
slice_mid a t r from to e f =
    let n : to - from ≡ length t = omega arith in
    ap (λ k. take k (drop from ((a ++ t) ++ r))) n
    ∙ ap (λ k. take (length t) (drop k ((a ++ t) ++ r))) e
    ∙ ap (λ l. take (length t) (drop (length a) l)) (append_assoc a t r)
    ∙ ap (take (length t)) (drop-append_seam a (t ++ r))
    ∙ take-append_seam t r

pub record Scanned (whole bytes : List ℕ) (at : ℕ) (ss : List PlainTerminal) : Type 0 where
  pub tokens : List Token
  pub are_tokens : Tokens bytes at tokens
  pub words : List PlacedTerminal
  pub are_words : Terminals whole tokens words
  pub terminals : terminals_of words ≡ ss

module _ (longest : TextsAreLongest) (none : TextsBeginNoGap) where
  module _ (s : PlainTerminal) (g : Good s) (rest : List ℕ) (n : Next s rest) where
    there : IsLongest (terminal_text s ++ rest) g.kind (length (terminal_text s))
    there = subst (λ r. IsLongest (terminal_text s ++ r) g.kind (length (terminal_text s))) (sym n.is)
        (longest g.kind (terminal_text s) (n.byte ∷ n.more) (g.token n.byte n.more n.fits) (g.stops n.byte n.more n.fits))

    no_gap : gap_length (terminal_text s ++ rest) ≡ 0
    no_gap = ap (λ r. gap_length (terminal_text s ++ r)) n.is ∙ none g.kind (terminal_text s) (n.byte ∷ n.more) (g.token n.byte n.more n.fits)

  -- one terminal more in front
  one_more : (l s : PlainTerminal) (ss : List PlainTerminal) (g : Good s) (pre : List ℕ)
      → Scanned (((pre ++ gap l s) ++ terminal_text s) ++ (after s ss ++ 10 ∷ [])) (after s ss ++ 10 ∷ []) (length ((pre ++ gap l s) ++ terminal_text s)) ss
      → Scanned (pre ++ (after l (s ∷ ss) ++ 10 ∷ [])) (after l (s ∷ ss) ++ 10 ∷ []) (length pre) (s ∷ ss)
  one_more l s ss g pre more =
      let rest = after s ss ++ 10 ∷ [] in
      let b = gap l s in
      let t = terminal_text s in
      let from = length pre + length b in
      let bytes : b ++ (t ++ rest) ≡ after l (s ∷ ss) ++ 10 ∷ [] =
      ap (λ x. b ++ x) (sym (append_assoc t (after s ss) (10 ∷ []))) ∙ sym (append_assoc b (t ++ after s ss) (10 ∷ [])) in
      let whole : ((pre ++ b) ++ t) ++ rest ≡ pre ++ (after l (s ∷ ss) ++ 10 ∷ []) =
      append_assoc (pre ++ b) t rest ∙ append_assoc pre b (t ++ rest) ∙ ap (λ x. pre ++ x) bytes in
      let place : length ((pre ++ b) ++ t) ≡ from + length t = length-append (pre ++ b) t ∙ ap (λ n. n + length t) (length-append pre b) in
      record {
        tokens = token g.kind from (from + length t) ∷ more.tokens;
        are_tokens = subst (λ x. Tokens x (length pre) (token g.kind from (from + length t) ∷ more.tokens)) bytes
            (next_by (b ++ (t ++ rest)) (length pre) (length b) (length t) g.kind (t ++ rest) rest more.tokens
            (spaced (is_tight l s) (t ++ rest) (no_gap s g rest (next s ss))) (past_spaces (is_tight l s) (t ++ rest))
            (there s g rest (next s ss)) (drop-append_seam t rest)
            (subst (λ i. Tokens rest i more.tokens) place more.are_tokens));
        words = terminal_at s from ∷ more.words;
        are_words = subst (λ x. Terminals x (token g.kind from (from + length t) ∷ more.tokens) (terminal_at s from ∷ more.words)) whole
            (Terminals.terminals_next (token g.kind from (from + length t)) s
            (subst (λ x. StandsFor g.kind x s) (sym (slice_mid (pre ++ b) t rest from (from + length t) (sym (length-append pre b)) refl)) g.stands)
            more.are_words);
        terminals = ap (λ x. s ∷ x) more.terminals;
      }

  pub scanned : (ss : List PlainTerminal) → AllGood ss → (l : PlainTerminal) (pre : List ℕ)
      → Scanned (pre ++ (after l ss ++ 10 ∷ [])) (after l ss ++ 10 ∷ []) (length pre) ss
  scanned [] g l pre = record { tokens = []; are_tokens = tokens_end (le_one); words = []; are_words = Terminals.terminals_none; terminals = refl }
    where
      le_one : length {A = ℕ} (10 ∷ []) ≤ gap_length (10 ∷ [])
      le_one = le_refl 1
  scanned (s ∷ ss) g l pre = one_more l s ss g.0 pre (scanned ss g.1 s ((pre ++ gap l s) ++ terminal_text s))

-- the words of a source are written
words_written : {whole : List ℕ} {ts : List Token} {ws : List PlacedTerminal} → Terminals whole ts ws → All (StandsIn whole) ts → AllWritten ws
words_written Terminals.terminals_none h = tt
words_written {whole} (Terminals.terminals_next {ts = ts} t s stands more) h =
    let here : StandsIn whole t = h 0 t (omega arith) in (
      (t.kind, take (t.to - t.from) (drop t.from whole), drop (t.to - t.from) (drop t.from whole), here.text, stands),
      words_written more
          (λ k d lt. h (suc k) d (omega (arith, lt))),
    )

-- depth is the same up to places
mutual
  depth-unplaced : (e : PlainTree) → depth (unplaced e) ≡ depth e
  depth-unplaced (form at h es) = ap (λ n. n + 1) (depths-unplaced es)
  depth-unplaced (name at n) = refl
  depth-unplaced (call at n es) = ap (λ n. n + 1) (depths-unplaced es)
  depth-unplaced (block at e ds) =
      ap (λ n. max n (depths_in_defs (defs_unplaced ds)) + 1) (depth-unplaced e) ∙ ap (λ n. max (depth e) n + 1) (defs_depth-unplaced ds)

  depths-unplaced : (es : PlainTrees) → depths (all_unplaced es) ≡ depths es
  depths-unplaced no_trees = refl
  depths-unplaced (tree e es) = ap (λ n. max n (depths (all_unplaced es))) (depth-unplaced e) ∙ ap (λ n. max (depth e) n) (depths-unplaced es)

  defs_depth-unplaced : (ds : PlainDefs) → depths_in_defs (defs_unplaced ds) ≡ depths_in_defs ds
  defs_depth-unplaced no_defs = refl
  defs_depth-unplaced (defines at n e ds) =
      ap (λ k. max k (depths_in_defs (defs_unplaced ds))) (depth-unplaced e) ∙ ap (λ k. max (depth e) k) (defs_depth-unplaced ds)
  defs_depth-unplaced (defines_function at n ps ats e ds) =
      ap (λ k. max k (depths_in_defs (defs_unplaced ds))) (depth-unplaced e) ∙ ap (λ k. max (depth e) k) (defs_depth-unplaced ds)
  defs_depth-unplaced (defines_current at n e ds) =
      ap (λ k. max k (depths_in_defs (defs_unplaced ds))) (depth-unplaced e) ∙ ap (λ k. max (depth e) k) (defs_depth-unplaced ds)

-- what is spelled by few levels isn't refused but for want of memory
not_refused : TerminalsAreUnique → TerminalsSpellOneTree → (whole : List ℕ) (ts : List Token) (t : PlainTree) → SpellsTree whole ts t → depth t ≤ 400
    → (why : ParseRefusal) → IsSourceRefused whole ts why → why ≡ parse_refusal.NoMemory
not_refused unique one whole ts t s shallow (parse_refusal.Syntax at) r =
    let same : r.0 ≡ s.0 = unique whole ts r.0 s.0 r.1 s.1 in
    absurd (r.2.0 t (subst (λ ws. Spells 0 ws t) (sym same) s.2))
not_refused unique one whole ts t s shallow (parse_refusal.TooNested at) r =
    let same : r.0 ≡ s.0 = unique whole ts r.0 s.0 r.1 s.1 in
    let tree : r.2.0 ≡ t = one s.0 r.2.0 t (subst (λ ws. Spells 0 ws r.2.0) same r.2.1) s.2 in
    absurd (omega (arith, r.2.2, ap depth tree, shallow))
not_refused unique one whole ts t s shallow parse_refusal.NoMemory r = refl

pub read_again : TextIsRead → TextsAreLongest → TextsBeginNoGap → TokensStand → TokensAreNotRefused → TerminalsAreUnique → TerminalsSpellOneTree
    → (e : PlainTree) → IsParsed e → length (canonical e) ≤ 1048576 → IsReadAs (canonical e) e
read_again law longest none stand scans unique one e p short =
    let written = words_written p.spells.1 (stand p.source p.tokens p.are_tokens) in
    let q = print law p.spells.2 written in
    let s = scanned longest none (q.chunk.first ∷ q.chunk.rest) q.chunk.good terminal.Open [] in
    let a = q.again s.words s.terminals in
    let same : after terminal.Open (q.chunk.first ∷ q.chunk.rest) ++ 10 ∷ [] ≡ canonical e = ap (λ x. x ++ 10 ∷ []) q.chunk.text in
    let tokens : Tokens (canonical e) 0 s.tokens = subst (λ x. Tokens x 0 s.tokens) same s.are_tokens in
    let words : Terminals (canonical e) s.tokens s.words = subst (λ x. Terminals x s.tokens s.words) same s.are_words in
    let spells : SpellsTree (canonical e) s.tokens a.tree = (s.words, words, looser a.spells 0 zero-le) in
    let shallow : depth a.tree ≤ 400 = omega (arith, depth-unplaced a.tree, depth-unplaced e, ap depth a.same, p.shallow) in
    record {
      tokens = s.tokens;
      are_tokens = tokens;
      tree = a.tree;
      spells = spells;
      shallow = shallow;
      same = a.same;
      scanned = λ why r. scans (canonical e) s.tokens why tokens short r;
      parsed = not_refused unique one (canonical e) s.tokens a.tree spells shallow;
    }
