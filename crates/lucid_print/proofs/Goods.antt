-- Terminals whose text is read as they are, before every byte that may come behind it.
use Rattle.lucid_print.proofs.Common.{◌≡◌, ℕ, suc, ◌≤◌, List, [], ◌∷◌, ◌++◌, length, take, Some, Bool, true, false, cond, ◌&&◌, ◌||◌, inl, inr, refl, sym, ◌∙◌, ap, subst, arith, None, or_cases, and_parts, or_left, or_right, PlainValue, TextIsRead, TokenKind, Operator, Data, PlainTerminal, StandsFor, zero, ◌^◌, ◌<◌, not, eqb, Option, pos, neg_ℤ, decimal, is_ascii_digit, decimal_is_IsNumeral_wide, not-true, eqb-true, lt-ltb, le-leb, and_from, option_or, option_map}
use Rattle.lucid_lists.proofs.Lists.{same_between}
use Rattle.lucid_value.specs.Plain.{int, truth, word, text, list, eod, fault, Items, no_items, item, weight, nesting, may_be_held, well_formed, all_well_formed, in_range, all_in_range, is_i128, is_value, within_limits, same_bytes}
use Rattle.lucid_value.specs.Names.{is_name, is_name_byte, is_reserved, reserved_words}
use Rattle.lucid_value.specs.Reading.{is_number, number_of, Denotes, denotes_number, denotes_minus, denotes_word, denotes_text, denotes_list, DenotesItems, denotes_none, denotes_item, Reads}
use Rattle.lucid_value.proofs.AtomValues.{numerals, digits_number}
use Rattle.lucid_scan.specs.declared.token.TokenKind.TheVariants as kind
use Rattle.lucid_scan.specs.Texts.{is_mark, is_word_value, is_text_value, IsTokenText}
use Rattle.lucid_scan.specs.Laws.{Stops}
use Rattle.lucid_parse.specs.declared.terminal.Terminal.TheVariants as terminal
use Rattle.lucid_ops.specs.declared.op.Op.TheVariants as op
use Rattle.lucid_parse.specs.declared.operator.Operator.TheVariants.{Stream}
use Rattle.lucid_tree.specs.declared.form.Form.TheVariants as forms
use Rattle.lucid_parse.specs.Operators.{spelled}
use Rattle.lucid_parse.specs.Terminals.{terminal_in, fixed_terminal, form_terminals}
use Rattle.lucid_print.proofs.Terminals.{terminal_of, terminal_text, is_open, not_open}

-- the bytes that may come behind a terminal's text
abbrev pub stoppers : List ℕ
stoppers = 10 ∷ 32 ∷ 40 ∷ 41 ∷ 44 ∷ 59 ∷ []

abbrev pub among : ℕ → List ℕ → Bool
among b [] = false
among b (c ∷ cs) = eqb b c || among b cs

abbrev every : (ℕ → Bool) → List ℕ → Bool
every p [] = true
every p (c ∷ cs) = p c && every p cs

among_every : (p : ℕ → Bool) (cs : List ℕ) (b : ℕ) → every p cs ≡ true → among b cs ≡ true → p b ≡ true
among_every p [] b h k = cc
among_every p (c ∷ cs) b h k =
    let two = and_parts (p c) (every p cs) h in
    elim (or_cases (eqb b c) (among b cs) k) [ inl e ↦ ap p (eqb-true b c e) ∙ two.0 | inr r ↦ among_every p cs b two.1 r ]

-- The terminal's text is a token that stands for it and that no byte behind it makes longer.
pub record Good (s : PlainTerminal) : Type 0 where
  pub kind : TokenKind
  pub stands : StandsFor kind (terminal_text s) s
  pub token : (b : ℕ) (after : List ℕ) → (is_open s || among b stoppers) ≡ true → IsTokenText kind (terminal_text s) (b ∷ after)
  pub stops : (b : ℕ) (after : List ℕ) → (is_open s || among b stoppers) ≡ true → Stops kind (terminal_text s) (b ∷ after)

abbrev pub AllGood : List PlainTerminal → Type 0
AllGood [] = Unit {0}
AllGood (s ∷ ss) = Good s × AllGood ss

pub good_append : (a b : List PlainTerminal) → AllGood a → AllGood b → AllGood (a ++ b)
good_append [] b h k = k
good_append (s ∷ a) b h k = (h.0, good_append a b h.1 k)

stop_name : (b : ℕ) → among b stoppers ≡ true → is_name_byte b ≡ false
stop_name b h = not-true (is_name_byte b) (among_every (λ c. not (is_name_byte c)) stoppers b refl h)

stop_digit : (b : ℕ) → among b stoppers ≡ true → is_ascii_digit b ≡ false
stop_digit b h = not-true (is_ascii_digit b) (among_every (λ c. not (is_ascii_digit c)) stoppers b refl h)

false_or : (a b : Bool) → a ≡ false → (a || b) ≡ true → b ≡ true
false_or true b h k = cc
false_or false b h k = k

-- a reserved word
reserved_good : (s : PlainTerminal) → fixed_terminal (terminal_text s) ≡ Some s → is_reserved (terminal_text s) ≡ true → is_open s ≡ false → Good s
reserved_good s e r o = record {
  kind = kind.Fixed;
  stands = e;
  token = λ b after h. or_right (is_mark (terminal_text s)) (is_reserved (terminal_text s)) r;
  stops = λ b after h. inl (r, stop_name b (false_or (is_open s) (among b stoppers) o h));
}

-- a mark of one byte, and of two
one_good : (s : PlainTerminal) (m : ℕ) → terminal_text s ≡ m ∷ [] → fixed_terminal (terminal_text s) ≡ Some s → is_mark (terminal_text s) ≡ true
    → every (λ b. not (is_mark (m ∷ b ∷ []))) stoppers ≡ true → is_open s ≡ false → Good s
one_good s m t e k stop o = record {
  kind = kind.Fixed;
  stands = e;
  token = λ b after h. or_left (is_mark (terminal_text s)) (is_reserved (terminal_text s)) k;
  stops = λ b after h. inr (
    k,
    λ long.
        let never = not-true (is_mark (m ∷ b ∷ [])) (among_every (λ c. not (is_mark (m ∷ c ∷ []))) stoppers b stop
        (false_or (is_open s) (among b stoppers) o h)) in
        let same : is_mark (m ∷ b ∷ []) ≡ true = sym (ap (λ l. is_mark (take 2 (l ++ b ∷ after))) t) ∙ long in
        cc,
  );
}

two_good : (s : PlainTerminal) → length (terminal_text s) ≡ 2 → fixed_terminal (terminal_text s) ≡ Some s → is_mark (terminal_text s) ≡ true → Good s
two_good s n e k = record {
  kind = kind.Fixed;
  stands = e;
  token = λ b after h. or_left (is_mark (terminal_text s)) (is_reserved (terminal_text s)) k;
  stops = λ b after h. inr (k, λ long. n);
}

pub open_good : Good terminal.Open
unfolding form_terminals reserved_words
open_good = record { kind = kind.Fixed; stands = refl; token = λ b after h. refl; stops = λ b after h. inr (refl, λ long. cc) }

pub close_good : Good terminal.Close
unfolding form_terminals reserved_words
close_good = one_good terminal.Close 41 refl refl refl refl refl

pub comma_good : Good terminal.Comma
unfolding form_terminals reserved_words
comma_good = one_good terminal.Comma 44 refl refl refl refl refl

pub semicolon_good : Good terminal.Semicolon
unfolding form_terminals reserved_words
semicolon_good = one_good terminal.Semicolon 59 refl refl refl refl refl

pub equals_good : Good terminal.Equals
unfolding form_terminals reserved_words
equals_good = one_good terminal.Equals 61 refl refl refl refl refl

pub is_good : Good terminal.Is
unfolding form_terminals reserved_words
is_good = reserved_good terminal.Is refl refl refl

pub current_good : Good terminal.Current
unfolding form_terminals reserved_words
current_good = reserved_good terminal.Current refl refl refl

pub where_good : Good terminal.Where
unfolding form_terminals reserved_words
where_good = reserved_good terminal.Where refl refl refl

pub end_good : Good terminal.End
unfolding form_terminals reserved_words
end_good = reserved_good terminal.End refl refl refl

pub if_good : Good terminal.If
unfolding form_terminals reserved_words
if_good = reserved_good terminal.If refl refl refl

pub then_good : Good terminal.Then
unfolding form_terminals reserved_words
then_good = reserved_good terminal.Then refl refl refl

pub else_good : Good terminal.Else
unfolding form_terminals reserved_words
else_good = reserved_good terminal.Else refl refl refl

pub fi_good : Good terminal.Fi
unfolding form_terminals reserved_words
fi_good = reserved_good terminal.Fi refl refl refl

-- The spelling of each operator is a reserved word, or a mark of one byte or of two, which no byte that may come behind makes longer.
one_mark : List ℕ → Bool
one_mark (m ∷ []) = is_mark (m ∷ []) && every (λ b. not (is_mark (m ∷ b ∷ []))) stoppers
one_mark _ = false

two_mark : List ℕ → Bool
two_mark bytes = eqb (length bytes) 2 && is_mark bytes

operator_stands : (o : Operator) → fixed_terminal (terminal_text (terminal_of o)) ≡ Some (terminal_of o)
unfolding form_terminals
operator_stands (Data op.Sub) = refl
operator_stands (Stream forms.If) = refl
operator_stands o = refl

operator_token : (o : Operator)
    → (is_reserved (terminal_text (terminal_of o)) || (one_mark (terminal_text (terminal_of o)) || two_mark (terminal_text (terminal_of o)))) ≡ true
unfolding reserved_words one_mark two_mark
operator_token (Data op.Sub) = refl
operator_token (Stream forms.If) = refl
operator_token o = refl

one_mark_good : (s : PlainTerminal) (bytes : List ℕ) → terminal_text s ≡ bytes → one_mark bytes ≡ true → fixed_terminal (terminal_text s) ≡ Some s
    → is_open s ≡ false → Good s
unfolding one_mark
one_mark_good s (m ∷ []) t h e o =
    let two = and_parts (is_mark (m ∷ [])) (every (λ b. not (is_mark (m ∷ b ∷ []))) stoppers) h in
    one_good s m t e (ap is_mark t ∙ two.0) two.1 o
one_mark_good s [] t h e o = cc
one_mark_good s (m ∷ b ∷ bs) t h e o = cc

pub operator_good : (o : Operator) → Good (terminal_of o)
unfolding two_mark
operator_good o =
    let bytes = terminal_text (terminal_of o) in
    elim (or_cases (is_reserved bytes) (one_mark bytes || two_mark bytes) (operator_token o)) [
      | inl r ↦ reserved_good (terminal_of o) (operator_stands o) r (not_open o)
      | inr m ↦ elim (or_cases (one_mark bytes) (two_mark bytes) m) [
        | inl one ↦ one_mark_good (terminal_of o) bytes refl one (operator_stands o) (not_open o)
        | inr two ↦ let parts = and_parts (eqb (length bytes) 2) (is_mark bytes) two in
            two_good (terminal_of o) (eqb-true (length bytes) 2 parts.0) (operator_stands o) parts.1
      ]
    ]

truth_good : (b : Bool) → Good (terminal.Const (truth b))
unfolding form_terminals reserved_words
truth_good true = reserved_good (terminal.Const (truth true)) refl refl refl
truth_good false = reserved_good (terminal.Const (truth false)) refl refl refl

eod_good : Good (terminal.Const eod)
unfolding form_terminals reserved_words
eod_good = reserved_good (terminal.Const eod) refl refl refl

fault_good : Good (terminal.Const fault)
unfolding form_terminals reserved_words
fault_good = reserved_good (terminal.Const fault) refl refl refl

empty_good : Good (terminal.Const (list no_items))
unfolding form_terminals reserved_words
empty_good = two_good (terminal.Const (list no_items)) refl refl refl

-- a name
pub name_good : (n : List ℕ) → is_name n ≡ true → Good (terminal.Name n)
name_good n h = record { kind = kind.Name; stands = refl; token = λ b after k. h; stops = λ b after k. stop_name b k }

digits : (n : ℕ) → n < 2 ^ 127 → is_number (decimal n) ≡ true
digits n h = let k = decimal_is_IsNumeral_wide n (omega arith) in digits_number (decimal n) (numerals.from (decimal n) k.0.1) k.0.0

value : (n : ℕ) → n < 2 ^ 127 → number_of (decimal n) ≡ n
value n h = let k = decimal_is_IsNumeral_wide n (omega arith) in numerals.same (decimal n) k.0.1 ∙ k.1

-- a number
number_good : (n : ℕ) → n < 2 ^ 127 → Good (terminal.Const (int (pos n)))
number_good n h = record {
  kind = kind.Int;
  stands = ap (λ m. terminal.Const (int (pos m))) (sym (value n h));
  token = λ b after k. (digits n h, stop_digit b k, subst (λ m. m < 2 ^ 127) (sym (value n h)) h);
  stops = λ b after k. tt;
}

-- a word, and a string
word_good : (bs : List ℕ) → is_word_value bs ≡ true → Good (terminal.Const (word bs))
word_good bs h = record { kind = kind.Quoted; stands = (bs, refl, refl); token = λ b after k. (bs, refl, h); stops = λ b after k. tt }

string_good : (bs : List ℕ) → is_text_value bs ≡ true → Good (terminal.Const (text bs))
string_good bs h = record { kind = kind.Text; stands = (bs, refl, refl); token = λ b after k. (bs, refl, h); stops = λ b after k. tt }

-- what is denoted keeps the rules of values
minus_range : (m : ℕ) → m ≤ 2 ^ 127 → is_i128 (neg_ℤ (pos m)) ≡ true
minus_range zero h = refl
minus_range (suc m) h = lt-ltb m (2 ^ 127) (omega arith)

mutual
  keeps_rules : {bs : List ℕ} {v : PlainValue} → Denotes bs v → (well_formed v ≡ true) × (in_range v ≡ true)
  keeps_rules (denotes_number ds h lt) = (refl, lt-ltb (number_of ds) (2 ^ 127) lt)
  keeps_rules (denotes_minus ds h le) = (refl, minus_range (number_of ds) le)
  keeps_rules (denotes_word bs h) = (h, refl)
  keeps_rules (denotes_text bs h) = (h, refl)
  keeps_rules (denotes_list bs vs d) = keep_rules d
  keeps_rules _ = (refl, refl)

  keep_rules : {bs : List ℕ} {vs : Items} → DenotesItems bs vs → (all_well_formed vs ≡ true) × (all_in_range vs ≡ true)
  keep_rules (denotes_none g h) = (refl, refl)
  keep_rules (denotes_item g bs rest v vs h may d a more) =
      let here = keeps_rules d in
      let rest = keep_rules more in (
        and_from (may_be_held v && well_formed v) (all_well_formed vs) (and_from (may_be_held v) (well_formed v) may here.0) rest.0,
        and_from (in_range v)
            (all_in_range vs) here.1 rest.1,
      )

what_reads : {bs : List ℕ} {v : PlainValue} → Reads bs v → is_value v ≡ true
what_reads {bs} {v} r =
    let rules = keeps_rules r.denotes in
    and_from (well_formed v && in_range v) (within_limits v) (and_from (well_formed v) (in_range v) rules.0 rules.1)
    (and_from _ _ (le-leb (weight v) 65536 r.light) (le-leb (nesting v) 64 r.flat))

-- a list
list_good : TextIsRead → (vs : Items) (bytes : List ℕ) → Reads bytes (list vs) → Good (terminal.Const (list vs))
list_good law no_items bytes r = empty_good
list_good law (item v vs) bytes r = record {
  kind = kind.ListText;
  stands = (item v vs, law (list (item v vs)) (what_reads r), refl);
  token = λ b after k. (item v vs, law (list (item v vs)) (what_reads r));
  stops = λ b after k. tt;
}

-- a constant among marks and reserved words
abbrev is_fixed : PlainTerminal → Bool
is_fixed (terminal.Const (truth b)) = true
is_fixed (terminal.Const eod) = true
is_fixed (terminal.Const fault) = true
is_fixed (terminal.Const (list no_items)) = true
is_fixed (terminal.Const v) = false
is_fixed (terminal.Name n) = false
is_fixed _ = true

abbrev every_fixed : List (List ℕ × PlainTerminal) → Bool
every_fixed [] = true
every_fixed (p ∷ ps) = is_fixed p.1 && every_fixed ps

fixed_in : (bytes : List ℕ) (ps : List (List ℕ × PlainTerminal)) (s : PlainTerminal) → every_fixed ps ≡ true → terminal_in bytes ps ≡ Some s → is_fixed s ≡ true
fixed_in bytes [] s h e = cc
fixed_in bytes (p ∷ ps) s h e =
    let two = and_parts (is_fixed p.1) (every_fixed ps) h in
    of (same_bytes bytes p.0) e two.0 (λ f. fixed_in bytes ps s two.1 f)
  where
    of : (b : Bool) → cond b (Some p.1) (terminal_in bytes ps) ≡ Some s → is_fixed p.1 ≡ true → (terminal_in bytes ps ≡ Some s → is_fixed s ≡ true)
        → is_fixed s ≡ true
    of true f k l = let same : p.1 ≡ s = cc in sym (ap is_fixed same) ∙ k
    of false f k l = l f

operator_fixed : (a : Option Operator) (s : PlainTerminal) → option_map terminal.Operator a ≡ Some s → is_fixed s ≡ true
operator_fixed (Some o) s e = let same : terminal.Operator o ≡ s = cc in sym (ap is_fixed same)
operator_fixed None s e = cc

fixed_by : (bytes : List ℕ) (o : Option PlainTerminal) (s : PlainTerminal) → terminal_in bytes form_terminals ≡ o
    → option_or o (option_map terminal.Operator (spelled bytes)) ≡ Some s → is_fixed s ≡ true
unfolding form_terminals
fixed_by bytes (Some x) s f e = fixed_in bytes form_terminals s refl (f ∙ e)
fixed_by bytes None s f e = operator_fixed (spelled bytes) s e

fixed_fixed : (bytes : List ℕ) (s : PlainTerminal) → fixed_terminal bytes ≡ Some s → is_fixed s ≡ true
fixed_fixed bytes s e = fixed_by bytes (terminal_in bytes form_terminals) s refl e

fixed_good : (v : PlainValue) → is_fixed (terminal.Const v) ≡ true → Good (terminal.Const v)
fixed_good (truth b) h = truth_good b
fixed_good eod h = eod_good
fixed_good fault h = fault_good
fixed_good (list no_items) h = empty_good
fixed_good _ h = cc

-- A terminal for which some token stands.
abbrev pub IsWritten : PlainTerminal → Type 0
IsWritten s = (k : TokenKind) × (bytes : List ℕ) × (after : List ℕ) × IsTokenText k bytes after × StandsFor k bytes s

as_const : {v w : PlainValue} → ◌≡◌ {A = PlainTerminal} (terminal.Const v) (terminal.Const w) → Good (terminal.Const w) → Good (terminal.Const v)
as_const e g = subst Good (sym e) g

const_by : TextIsRead → (v : PlainValue) (k : TokenKind) (bytes after : List ℕ) → IsTokenText k bytes after → StandsFor k bytes (terminal.Const v)
    → Good (terminal.Const v)
const_by law v kind.Name bytes after t h = absurd (let e : ◌≡◌ {A = PlainTerminal} (terminal.Const v) (terminal.Name bytes) = h in cc)
const_by law v kind.Int bytes after t h = as_const h (number_good (number_of bytes) t.2)
const_by law v kind.Quoted bytes after t h =
    as_const h.2 (word_good h.0 (ap is_word_value (same_between h.0 t.0 34 34 (sym h.1 ∙ t.1)) ∙ t.2))
const_by law v kind.Text bytes after t h =
    as_const h.2 (string_good h.0 (ap is_text_value (same_between h.0 t.0 96 39 (sym h.1 ∙ t.1)) ∙ t.2))
const_by law v kind.ListText bytes after t h = as_const h.2 (list_good law h.0 bytes h.1)
const_by law v kind.Fixed bytes after t h = fixed_good v (fixed_fixed bytes (terminal.Const v) h)

-- what is written is good
pub const_good : TextIsRead → (v : PlainValue) → IsWritten (terminal.Const v) → Good (terminal.Const v)
const_good law v w = const_by law v w.0 w.1 w.2 w.3 w.4

name_by : (n : List ℕ) (k : TokenKind) (bytes after : List ℕ) → IsTokenText k bytes after → StandsFor k bytes (terminal.Name n) → is_name n ≡ true
name_by n kind.Name bytes after t h = let e : ◌≡◌ {A = PlainTerminal} (terminal.Name n) (terminal.Name bytes) = h in let same : n ≡ bytes = cc in
    ap is_name same ∙ t
name_by n kind.Int bytes after t h = absurd (let e : ◌≡◌ {A = PlainTerminal} (terminal.Name n) (terminal.Const (int (pos (number_of bytes)))) = h in cc)
name_by n kind.Quoted bytes after t h = absurd (let e : ◌≡◌ {A = PlainTerminal} (terminal.Name n) (terminal.Const (word h.0)) = h.2 in cc)
name_by n kind.Text bytes after t h = absurd (let e : ◌≡◌ {A = PlainTerminal} (terminal.Name n) (terminal.Const (text h.0)) = h.2 in cc)
name_by n kind.ListText bytes after t h = absurd (let e : ◌≡◌ {A = PlainTerminal} (terminal.Name n) (terminal.Const (list h.0)) = h.2 in cc)
name_by n kind.Fixed bytes after t h = let never : false ≡ true = fixed_fixed bytes (terminal.Name n) h in cc

pub written_name_good : (n : List ℕ) → IsWritten (terminal.Name n) → Good (terminal.Name n)
written_name_good n w = name_good n (name_by n w.0 w.1 w.2 w.3 w.4)
