-- The numbers that words give are in range: each passed the parser of its option.
use Rattle.lucid_words.proofs.Common.{◌≡◌, ℕ, ◌<◌, ◌^◌, ◌&&◌, Bool, true, false, cond, not, List, [], ◌∷◌, map, length, Option, Some, None, Ok, refl, sym, ap, ◌∙◌, subst, inl, inr, option_map, Bor, ParsesUnsigned, digits_value, without_leading_plus, ltb-true, Arg, Command, ArgMatches, both, one_text-rows, lucid_command, number_in, number_given, ◌-◌, zero, suc, arith, pos, unwrap_or, slice_get, All, slice_index_or, bytes_eq, cases_lt, bytes_eq-Decides}
use Rattle.std.specs.Prelude.{codes}
use Rattle.clap.specs.Facts.{EntryPasses, PassesArg, args_of, groups_of, parser_of, parser_of_value}
use Rattle.clap.specs.Built.{IsParsedFrom, IsAuto, SameRules}
use Rattle.clap.specs.Lexer.{without_minus}
use Rattle.clap.specs.Matches.{found_of, matched_of, one_text}
use Rattle.clap.specs.Simple.{App, app_of}
use Rattle.clap.specs.Values.{Accepts, IsSignedIn, IsUnsignedIn, read_as, reading_of}
use Rattle.clap.specs.Walk.{Rule, Text, rule_of, rows_of}
use Rattle.clap.specs.declared.builder.command.Command.TheViews.{out-Command}
use Rattle.clap.specs.declared.builder.value_parser.ValueParser.{ValueParser}
use Rattle.clap.specs.declared.builder.value_parser.ValueParser.TheVariants as vp
use Rattle.clap.specs.declared.parser.matches.MatchedArg.{MatchedArg}
use Rattle.clap.proofs.CallerLemmas.{entry_by_id}
use Rattle.clap.proofs.CallerReads.{signed_reads}
use Rattle.clap.proofs.SimpleLemmas.{all_simple, is_false, is_nil, simple_groups}
use Rattle.lucid_ports.specs.Limits.{most_asked}
use Rattle.lucid_words.specs.Numbers.{HasNumbersInRange, IsFromTo, IsFromToIfGiven}
use Rattle.lucid_words.proofs.Found.{is_number_in, digits_from}

-- the parsers of the rules of this id
parsers_of : Text → List Rule → List (Option ValueParser)
parsers_of name [] = []
parsers_of name (rule ∷ rules) = cond (bytes_eq rule.id name) (rule.parser ∷ parsers_of name rules) (parsers_of name rules)

AllAre : Option ValueParser → List (Option ValueParser) → Type 0
AllAre parser [] = Unit {0}
AllAre parser (p ∷ ps) = (p ≡ parser) × AllAre parser ps

-- an argument of this id has that parser
parsed_by : (name : Text) (parser : Option ValueParser) (xs : List Arg) → AllAre parser (parsers_of name (map rule_of xs)) → (k : ℕ) (d : Arg) → k < length xs
    → bytes_eq (slice_index_or xs k d).id.now name ≡ true → (slice_index_or xs k d).value_parser ≡ parser
unfolding AllAre parsers_of
parsed_by name parser [] all k d lt same = absurd (omega arith)
parsed_by name parser (x ∷ xs) all zero d lt same =
    (subst (λ b. AllAre parser (cond b (x.value_parser ∷ parsers_of name (map rule_of xs)) (parsers_of name (map rule_of xs)))) same all).0
parsed_by name parser (x ∷ xs) all (suc k) d lt same =
    parsed_by name parser xs (rest (bytes_eq x.id.now name) all) k d (omega arith) same
  where
    rest : (b : Bool) → AllAre parser (cond b (x.value_parser ∷ parsers_of name (map rule_of xs)) (parsers_of name (map rule_of xs)))
        → AllAre parser (parsers_of name (map rule_of xs))
    rest true all = all.1
    rest false all = all

-- a name that is none of those that `clap` adds by itself
abbrev is_own : Text → Bool
is_own name =
    not (bytes_eq name []) && (not (bytes_eq name (codes "help")) && not (bytes_eq name (codes "version")))

differs : (name other : Text) → not (bytes_eq name other) ≡ true → name ≡ other → ⊥
differs name other apart same =
    let yes : bytes_eq name other ≡ true = (bytes_eq-Decides name other).1 same in
    let bad : false ≡ true = rw yes at apart in
    cc

-- and so in the command that a parse has built
named_parser : (old : Command) (m : ArgMatches) (p : IsParsedFrom old m) (name : Text) (q : ValueParser)
    → AllAre (Some q) (parsers_of name (map rule_of (args_of old))) → is_own name ≡ true → (j : ℕ) (x : Arg) → j < length (args_of p.built)
    → slice_index_or (args_of p.built) j x ≡ x → bytes_eq x.id.now name ≡ true → parser_of x ≡ q
named_parser old m p name q all own j x low at same =
    let x_id : x.id.now ≡ name = (bytes_eq-Decides x.id.now name).0 same in
    let flags = both _ _ (both _ _ own).1 in
    elim (cases_lt j (length (args_of old))) [
      | inl under ↦
          let s = subst (λ w. SameRules (slice_index_or (args_of old) j x) w) at (p.from.kept j x under).1 in
          let old_same : bytes_eq (slice_index_or (args_of old) j x).id.now name ≡ true = rw (← s.id) same in
          ap parser_of_value (s.parser q (parsed_by name (Some q) (args_of old) all j x under old_same))
      | inr over ↦
          let auto = subst IsAuto at (p.from.extra j x over low) in
          absurd (elim auto [
            | inl help ↦ differs name (codes "help") flags.0 (sym x_id ∙ help)
            | inr version ↦ differs name (codes "version") flags.1 (sym x_id ∙ version)
          ])
    ]

-- a text that the parser accepts
abbrev IsAccepted : ValueParser → Text → Type 0
IsAccepted q text = (ignore_case : Bool) × Accepts ignore_case q text

accepted : (old : Command) (m : ArgMatches) (p : IsParsedFrom old m) (name : Text) (q : ValueParser)
    → AllAre (Some q) (parsers_of name (map rule_of (args_of old))) → is_own name ≡ true → (id : Text) (v : Text) → id ≡ name → PassesArg p.built id v
    → IsAccepted q v
accepted old m p name q all own id v key pass =
    let same : bytes_eq pass.1.id.now name ≡ true = subst (λ (u : Text). bytes_eq pass.1.id.now u ≡ true) key pass.4.0 in
    let parser = named_parser old m p name q all own pass.0 pass.1 pass.2 pass.3 same in
    (pass.1.ignore_case, subst (λ (w : ValueParser). Accepts pass.1.ignore_case w v) parser pass.4.1)

-- nothing in the command is a group, and no argument is global
no_groups : (old : Command) (m : ArgMatches) (p : IsParsedFrom old m) → app_of old ≡ lucid_command → groups_of p.built ≡ []
no_groups old m p same =
    let plain : (app_of old).top.is_plain ≡ true = ap (λ (a : App). a.top.is_plain) same in
    (p.from.same_groups (simple_groups old (ap (λ (a : App). all_simple a.top.rules) same))).1 ∙ is_nil _ (both _ _ plain).0

no_globals : (old : Command) (m : ArgMatches) (p : IsParsedFrom old m) → app_of old ≡ lucid_command → (out-Command p.built).has_globals ≡ false
no_globals old m p same =
    let plain : (app_of old).top.is_plain ≡ true = ap (λ (a : App). a.top.is_plain) same in
    p.from.globals ∙ is_false _ (both _ _ (both _ _ (both _ _ plain).1).1).0

-- the values of an option passed its parser, and are read as that parser says
option_values : (old : Command) (m : ArgMatches) (p : IsParsedFrom old m) → app_of old ≡ lucid_command → (name : Text) (q : ValueParser)
    → AllAre (Some q) (parsers_of name (map rule_of (args_of old))) → is_own name ≡ true → (x : MatchedArg) → matched_of (found_of m) name ≡ Some x
    → (x.reading ≡ reading_of q) × All (λ v. IsAccepted q v.now) x.vals.items
option_values old m p same name q all own x found =
    let parsed = p.parsed (no_globals old m p same) in
    let got = entry_by_id (EntryPasses p.built) (found_of m).entries.items name x parsed.values found in
    let key : got.0.0.now ≡ name = (bytes_eq-Decides got.0.0.now name).0 got.2 in
    let no_group : got.0.1.is_group ≡ true → ⊥ = λ g. elim (got.3.3 g) [
      | inl empty ↦ differs name [] (both _ _ own).0 (sym key ∙ empty)
      | inr lots ↦
          let none = no_groups old m p same in
          let bad : 0 < 0 = rw none at lots in
          absurd (omega arith)
    ] in
    let reading : got.0.1.reading ≡ reading_of q = elim got.3.4 [
      | inl g ↦ absurd (no_group g)
      | inr h ↦ sym h.4.1 ∙ ap reading_of (named_parser old m p name q all own h.0 h.1 h.2 h.3 (subst (λ (u : Text). bytes_eq h.1.id.now u ≡ true) key h.4.0))
    ] in
    let values : All (λ v. IsAccepted q v.now) got.0.1.vals.items = elim got.3.0 [
      | inl g ↦ absurd (no_group g)
      | inr vals ↦ λ k d lt. accepted old m p name q all own got.0.0.now (slice_index_or got.0.1.vals.items k d).now key (vals k d lt)
    ] in (
      ap (λ (y : MatchedArg). y.reading) (sym got.1) ∙ reading,
      subst (λ (y : MatchedArg). All (λ v. IsAccepted q v.now) y.vals.items) got.1 values,
    )

-- the text that is read of an option is that of a value that passed
text_passed : (old : Command) (m : ArgMatches) (p : IsParsedFrom old m) → app_of old ≡ lucid_command → (name : Text) (q : ValueParser)
    → AllAre (Some q) (parsers_of name (map rule_of (args_of old))) → is_own name ≡ true → (t : Text) → one_text (found_of m) name ≡ Some t
    → (v : Text) × (t ≡ read_as (reading_of q) v) × IsAccepted q v
text_passed old m p same name q all own t read = go (matched_of (found_of m) name) refl
  where
    first : (x : MatchedArg) (vals : List (Bor Text)) → x.reading ≡ reading_of q → All (λ v. IsAccepted q v.now) vals
        → option_map (λ s. read_as x.reading s.now) (slice_get vals 0) ≡ Some t → (v : Text) × (t ≡ read_as (reading_of q) v) × IsAccepted q v
    first x [] reading passed read = cc
    first x (v ∷ vals) reading passed read =
        let is : read_as x.reading v.now ≡ t = ap (λ (o : Option Text). unwrap_or o t) read in
        (v.now, sym is ∙ ap (λ how. read_as how v.now) reading, passed 0 v (omega arith))

    go : (o : Option MatchedArg) → matched_of (found_of m) name ≡ o → (v : Text) × (t ≡ read_as (reading_of q) v) × IsAccepted q v
    go None e =
        let bad : None ≡ Some t = rw e at read in
        cc
    go (Some x) e =
        let values = option_values old m p same name q all own x e in
        first x x.vals.items values.0 values.1 (rw e at read)

-- a number of a range that is written with digits
number_from_to : (bits least most : ℕ) (t : Text) → (is_number_in bits t ≡ true → IsFromTo least most (digits_value 10 (without_leading_plus t)))
    → IsFromToIfGiven least most (number_in bits t)
number_from_to bits least most t within = go (is_number_in bits t) refl
  where
    go : (b : Bool) → is_number_in bits t ≡ b → IsFromToIfGiven least most (number_in bits t)
    go true e = rw e (within e)
    go false e = rw e tt

number_parses : (bits : ℕ) (t : Text) → is_number_in bits t ≡ true → ParsesUnsigned {E = ℕ} bits 10 t (Ok (digits_value 10 (without_leading_plus t)))
number_parses bits t e =
    let parts = both _ _ e in
    let numeral = both _ _ parts.0 in
    (((ltb-true _ _ numeral.0, digits_from _ numeral.1), ltb-true _ _ parts.1), refl)

signed_from_to : (bits least most : ℕ) (t v : Text) → most < 2 ^ bits → t ≡ without_minus v → IsSignedIn (pos least) (pos most) v
    → IsFromToIfGiven least most (number_in bits t)
signed_from_to bits least most t v fits is passed = number_from_to bits least most t (λ e.
    let n = digits_value 10 (without_leading_plus t) in
    let parses = subst (λ (u : Text). ParsesUnsigned {E = ℕ} bits 10 u (Ok n)) is (number_parses bits t e) in
    let read = signed_reads ℕ (λ u r. ParsesUnsigned {E = ℕ} bits 10 u r) bits least most v (Some n) parses (λ u r parsed. parsed) fits passed in
    let same : n ≡ read.0 = ap (λ (o : Option ℕ). unwrap_or o n) read.1 in
    subst (IsFromTo least most) (sym same) (read.2, read.3))

-- the number of an option that has such a parser
signed_option : (old : Command) (m : ArgMatches) (p : IsParsedFrom old m) → app_of old ≡ lucid_command → (name : Text) (least most : ℕ)
    → AllAre (Some (vp.Signed (pos least) (pos most))) (parsers_of name lucid_command.top.rules) → is_own name ≡ true → most < 2 ^ 32
    → IsFromToIfGiven least most (number_given 32 name (rows_of (found_of m)))
signed_option old m p same name least most rules own fits = rw (← one_text-rows (found_of m) name) (go (one_text (found_of m) name) refl)
  where
    go : (o : Option Text) → one_text (found_of m) name ≡ o → IsFromToIfGiven least most (elim o as (λ _. Option ℕ) [ None ↦ None | Some t ↦ number_in 32 t ])
    go None e = tt
    go (Some t) e =
        let all = subst (λ (a : App). AllAre (Some (vp.Signed (pos least) (pos most))) (parsers_of name a.top.rules)) (sym same) rules in
        let passed = text_passed old m p same name (vp.Signed (pos least) (pos most)) all own t e in
        signed_from_to 32 least most t passed.0 fits passed.1 passed.2.1

unsigned_option : (old : Command) (m : ArgMatches) (p : IsParsedFrom old m) → app_of old ≡ lucid_command → (name : Text) (least most : ℕ)
    → AllAre (Some (vp.Unsigned least most)) (parsers_of name lucid_command.top.rules) → is_own name ≡ true
    → IsFromToIfGiven least most (number_given 64 name (rows_of (found_of m)))
unsigned_option old m p same name least most rules own = rw (← one_text-rows (found_of m) name) (go (one_text (found_of m) name) refl)
  where
    go : (o : Option Text) → one_text (found_of m) name ≡ o → IsFromToIfGiven least most (elim o as (λ _. Option ℕ) [ None ↦ None | Some t ↦ number_in 64 t ])
    go None e = tt
    go (Some t) e =
        let all = subst (λ (a : App). AllAre (Some (vp.Unsigned least most)) (parsers_of name a.top.rules)) (sym same) rules in
        let passed = text_passed old m p same name (vp.Unsigned least most) all own t e in
        let accepts = subst (λ (u : Text). IsUnsignedIn least most u) (sym passed.1) passed.2.1 in
        number_from_to 64 least most t (λ _. (accepts.2, accepts.3))

-- all of them
pub numbers_in_range : (old : Command) (m : ArgMatches) → app_of old ≡ lucid_command → IsParsedFrom old m → HasNumbersInRange (rows_of (found_of m))
unfolding AllAre parsers_of
numbers_in_range old m same p = record {
  count = signed_option old m p same (codes "count") 1 most_asked (refl, tt) refl (omega arith);
  depth = signed_option old m p same (codes "depth") 1 most_asked (refl, tt) refl (omega arith);
  age = signed_option old m p same (codes "age") 1 most_asked (refl, tt) refl (omega arith);
  room = signed_option old m p same (codes "room") 1 most_asked (refl, tt) refl (omega arith);
  make = signed_option old m p same (codes "make") 1 10000 (refl, tt) refl (omega arith);
  why = unsigned_option old m p same (codes "why") 0 (2 ^ 63 - 1) (refl, tt) refl;
}
