-- What is said of a tree whose names are refused.
use Rattle.std.specs.Prelude.{ℕ, ◌-◌, List, [], ◌∷◌, ◌++◌, length, min, take, drop, find, Bool, true, false, not, ◌&&◌, ◌||◌, codes, nat_eq, nat_lt, if◌then◌else◌, Option, None, Some}
use Rattle.std.specs.List.{filter, list_any, prefix_len}
use Rattle.lucid_value.specs.Plain.{same_bytes}
use Rattle.lucid_value.specs.Names.{is_name_byte}
use Rattle.lucid_value.specs.Reading.{is_blank}
use Rattle.lucid_tree.specs.Tree.{PlainTree}
use Rattle.lucid_tree.specs.declared.tree.Def.{Def}
use Rattle.lucid_tree.specs.declared.tree.DefKind.{DefKind}
use Rattle.lucid_tree.specs.declared.tree.DefKind.TheVariants.{Plain, Function}
use Rattle.lucid_scope.specs.declared.refusal.ScopeRefusal.{ScopeRefusal}
use Rattle.lucid_scope.specs.declared.refusal.ScopeRefusal.TheVariants as refusal
use Rattle.lucid_explain_source.specs.declared.names.Wanted.{Wanted}
use Rattle.lucid_explain_source.specs.declared.names.Wanted.TheVariants as wanted
use Rattle.lucid_explain_places.specs.Hints.{is_capital}
use Rattle.lucid_explain_places.specs.Shown.{place_text}
use Rattle.lucid_explain_source.specs.Characters.{begins}
use Rattle.lucid_explain_source.specs.Definitions.{definition_text}
use Rattle.lucid_explain_source.specs.Scopes.{is_headed, in_scope}

-- the bytes of a name with which the rest of a source begins
abbrev pub name_front : List ℕ → List ℕ
name_front rest = take (prefix_len is_name_byte rest) rest

-- the name at a place
abbrev pub name_at : (source : List ℕ) → (at : ℕ) → List ℕ
name_at source at = name_front (drop (min (length source) at) source)

abbrev pub is_function : DefKind → Bool
is_function (Function names places right) = true
is_function kind = false

abbrev pub is_plain : DefKind → Bool
is_plain (Plain right) = true
is_plain kind = false

-- Which definitions are told: the functions; those of plain names; those of the name; those of the name that are no functions.
abbrev pub fits : Wanted → (name : List ℕ) → Def → Bool
fits wanted.Functions name d = is_function d.kind
fits wanted.Columns name d = is_plain d.kind
fits wanted.Named name d = same_bytes d.name name
fits wanted.Plainly name d = same_bytes d.name name && not (is_function d.kind)

-- The first of the definitions that fit, as many as there is room for.
abbrev pub told_text : (source : List ℕ) → (Def → Bool) → (room : ℕ) → List Def → List ℕ
told_text source fit room [] = []
told_text source fit room (d ∷ ds) =
    if nat_lt 0 room && fit d then definition_text source d ++ told_text source fit (room - 1) ds else told_text source fit room ds

-- an advice at a place, and the definitions that are told
abbrev pub advised_text : (source : List ℕ) → List Def → (at : ℕ) → (advice : List ℕ) → Wanted → (room : ℕ) → List ℕ
advised_text source defs at advice wanted room = advice ++ told_text source (fits wanted (name_at source at)) room defs

-- the definitions whose own name stands at the place
abbrev pub heads : (at : ℕ) → List Def → List Def
heads at defs = filter (λ d. nat_eq d.at at) defs

-- A definition that stands before the place, of a name that one of these has too.
abbrev pub is_before : (at : ℕ) → (these : List Def) → Def → Bool
is_before at these d = nat_lt d.at at && list_any (λ other. same_bytes other.name d.name) these

-- the first such definition of a name that stands at the place
abbrev pub earlier : (at : ℕ) → List Def → Option Def
earlier at defs = find (is_before at (heads at defs)) defs

-- the first whose own name, or a parameter of which, stands at the place
abbrev pub headed : (at : ℕ) → List Def → Option Def
headed at defs = find (λ d. is_headed at d.at d.kind) defs

-- a function with a parameter of the name
abbrev pub has_parameter : (name : List ℕ) → DefKind → Bool
has_parameter name (Function names places right) = list_any (λ n. same_bytes n name) names
has_parameter name kind = false

abbrev pub is_parameter : (name : List ℕ) → List Def → Bool
is_parameter name defs = list_any (λ d. has_parameter name d.kind) defs

unfoldable pub twice_advice : List ℕ
twice_advice = codes "A block defines a name once, for all times, as in `n = 0 fby n + 1;`. Before this place stands another definition of it:\n"

abbrev pub parameter_advice : List ℕ
parameter_advice = codes "A list of parameters has each name once.\n"

abbrev pub no_function_advice : List ℕ
no_function_advice = codes "No function of this name is in scope here: define it, or mend its spelling.\n"

abbrev pub printing_advice : List ℕ
printing_advice = codes "No function of this name is in scope here. None is needed to print: a program writes the values of its subject, with which it begins.\n"

abbrev pub capital_advice : List ℕ
capital_advice = codes "Reserved words are spelled in small letters: `if n > 3 then 1 else 0 fi`, `n mod 2`, `next n`, `nth(l, 2)`.\n"

abbrev pub range_advice : List ℕ
range_advice = codes "No function of this name is in scope here. 0, 1, 2, .. is n, with `n = 0 fby n + 1;`, and --count N says how many are written.\n"

abbrev pub text_advice : List ℕ
text_advice = codes "No function of this name is in scope here. The string of an integer or a word x is `mkstring x`.\n"

abbrev pub length_advice : List ℕ
length_advice = codes "No function of this name is in scope here. How many items a list l has is `length l`.\n"

abbrev pub sum_advice : List ℕ
sum_advice = codes "No function of this name is in scope here. The sum of x so far is s, with `s = x fby s + next x;`.\n"

abbrev pub not_function_advice : List ℕ
not_function_advice = codes "What this name stands for here has no parameters: write it without arguments. The value of n at time 3 is `n attime 3`, and a product is written with `*`, as in `n * (n + 1)`.\n"

abbrev pub is_function_advice : List ℕ
is_function_advice = codes "This is a function: its arguments stand behind it in parentheses. A function is no value: it can't be an argument itself.\n"

-- where the name of a function stands before a `,` or a `)`
abbrev pub handed_advice : List ℕ
handed_advice = codes "A function can't be an argument: write the calls out, as `square(square(n))`. Where its value is meant, its own arguments stand behind it in parentheses.\n"

-- where what is called may be a parameter
abbrev pub called_parameter_advice : List ℕ
called_parameter_advice = codes "What this name stands for here has no parameters. A parameter is a stream, and a function can't be handed over: call one by its own name, as `square(square(n))`. The value of n at time 3 is `n attime 3`, and a product is written with `*`, as in `n * (n + 1)`.\n"

abbrev pub arity_advice : List ℕ
arity_advice = codes "A call has as many arguments as the function has parameters.\n"

-- a definition that was found
abbrev pub found_text : (source : List ℕ) → Option Def → List ℕ
found_text source None = []
found_text source (Some d) = definition_text source d

-- What is said of a place at which a name stands again: the definition of it that stands before, or else the function in whose parameters it does.
abbrev pub again_text : (source : List ℕ) → (before among : Option Def) → List ℕ
again_text source (Some d) among = twice_advice ++ definition_text source d
again_text source None among = parameter_advice ++ found_text source among

abbrev pub twice_text : (source : List ℕ) → List Def → (at : ℕ) → List ℕ
twice_text source defs at = again_text source (earlier at defs) (headed at defs)

-- how other languages print
abbrev pub is_printing : (name : List ℕ) → Bool
is_printing name = same_bytes name (codes "print") || same_bytes name (codes "println") || same_bytes name (codes "printf") || same_bytes name (codes "write")

-- how other languages ask how many items a list has
abbrev pub is_length : (name : List ℕ) → Bool
is_length name = same_bytes name (codes "len") || same_bytes name (codes "size")

-- of the name of a function that isn't in scope, which makes a value in another language
unfoldable pub made_advice : (name : List ℕ) → List ℕ
made_advice name =
    if same_bytes name (codes "sum") then sum_advice
    else if same_bytes name (codes "range") then range_advice
    else if same_bytes name (codes "str") then text_advice
    else no_function_advice

-- of the name of such a function, which another language may have
unfoldable pub foreign_advice : (name : List ℕ) → List ℕ
foreign_advice name =
    if is_printing name then printing_advice
    else if is_length name then length_advice
    else made_advice name

-- of the name of such a function, which may be a reserved word but for capital letters
abbrev pub called_advice : (name : List ℕ) → List ℕ
called_advice name = if is_capital name then capital_advice else foreign_advice name

-- what is said of a call of a function that isn't in scope
abbrev pub no_function_text : (source : List ℕ) → List Def → (at : ℕ) → List ℕ
no_function_text source defs at = advised_text source defs at (called_advice (name_at source at)) wanted.Functions 6

-- What is said of a call of what is no function: the definition of the name, but where the name may be a parameter.
abbrev pub not_function_text : (source : List ℕ) → List Def → (at : ℕ) → List ℕ
not_function_text source defs at =
    if is_parameter (name_at source at) defs then called_parameter_advice else advised_text source defs at not_function_advice wanted.Plainly 1

-- what stands behind a name with which the rest of a source begins, and behind blanks
abbrev pub past_name : (rest : List ℕ) → List ℕ
past_name rest = drop (prefix_len is_name_byte rest) rest

abbrev pub past_blanks : (rest : List ℕ) → List ℕ
past_blanks rest = drop (prefix_len is_blank rest) rest

-- The rest of a source begins with a name, and behind that stands a `,` (44) or a `)` (41): so the name may be an argument.
abbrev pub is_handed : (rest : List ℕ) → Bool
is_handed rest = begins (past_blanks (past_name rest)) (44 ∷ []) || begins (past_blanks (past_name rest)) (41 ∷ [])

-- what is said of the name of a function without arguments
abbrev pub is_function_text : (source : List ℕ) → List Def → (at : ℕ) → List ℕ
is_function_text source defs at =
    if is_handed (drop (min (length source) at) source) then advised_text source defs at handed_advice wanted.Named 1
    else advised_text source defs at is_function_advice wanted.Named 1

-- what is said of a refusal, by the definitions in scope at its place
abbrev pub said_text : (source : List ℕ) → List Def → ScopeRefusal → List ℕ
said_text source defs (refusal.Twice at) = twice_text source defs at
said_text source defs (refusal.NoFunction at) = no_function_text source defs at
said_text source defs (refusal.NotFunction at) = not_function_text source defs at
said_text source defs (refusal.IsFunction at) = is_function_text source defs at
said_text source defs (refusal.Arity at _ _) = advised_text source defs at arity_advice wanted.Named 1
said_text source defs refusal.NoMemory = []

abbrev pub refusal_at : ScopeRefusal → ℕ
refusal_at (refusal.Twice at) = at
refusal_at (refusal.NoFunction at) = at
refusal_at (refusal.NotFunction at) = at
refusal_at (refusal.IsFunction at) = at
refusal_at (refusal.Arity at wanted given) = at
refusal_at refusal.NoMemory = 0

-- the place, and what is said of it
abbrev pub names_text : (file source : List ℕ) → PlainTree → ScopeRefusal → List ℕ
names_text file source e why =
    place_text file source (min (length source) (refusal_at why)) ++ said_text source (in_scope (refusal_at why) e) why
