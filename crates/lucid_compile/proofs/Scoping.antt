-- Names in scope: what a name is bound to is what the tree's environments find, at the numbers and levels that the numbering has.
use Rattle.lucid_compile.proofs.Common.{◌≡◌, ℕ, suc, ◌+◌, ◌<◌, Bool, true, false, if◌then◌else◌, length, List, [], Option, Some, None, get_or, slice_get, refl, sym, ap, ◌∙◌, position-Some, position_or_len, PlainTree, PlainDefs, no_defs, defines, defines_function, defines_current, Found, absent, plain_def, function_def, current_def, definition, param, same_name, Meaning, free, plain_name, parameter, current_name, function, meaning, defined_in, parameter_in, binding_of, name_fault, call_fault, Binding, in_body, level, Numbering, name_mark, function_mark, Note, Numbered, reference_by, callee_place, FunctionStand, input, refer, Kind, note, Numbers}
use Rattle.lucid_compile.specs.Static.{Static, outermost, in_block, in_function, reference_of}

pub not_some : {A : Type 0} (x : A) → Some x ≡ None → ⊥
not_some x e = cc

-- what is in scope, and what a name belongs to, without the places of functions
abbrev pub forget : Static → Static
forget outermost = outermost
forget (in_block ds k) = in_block ds (forget k)
forget (in_function d ns ats k) = in_body ns ats (forget k)

abbrev pub bare : Meaning → Meaning
bare free = free
bare (plain_name d e k) = plain_name d e (forget k)
bare (parameter d i p k) = parameter 0 i p (forget k)
bare (current_name d e k o) = current_name d e (forget k) (forget o)
bare (function d ns ats e k) = function d ns ats e (forget k)

defined-bare : (f : Found) (k o : Static) (m : Meaning) → bare (defined_in f k o m) ≡ defined_in f (forget k) (forget o) (bare m)
defined-bare absent k o m = refl
defined-bare (plain_def at t) k o m = refl
defined-bare (function_def at ns ats t) k o m = refl
defined-bare (current_def at t) k o m = refl

parameter-bare : (i : Option ℕ) (d : ℕ) (ats : List ℕ) (k : Static) (m : Meaning) → bare (parameter_in i d ats k m) ≡ parameter_in i 0 ats (forget k) (bare m)
parameter-bare None d ats k m = refl
parameter-bare (Some i) d ats k m = refl

pub meaning-bare : (x : List ℕ) (k : Static) → meaning x (forget k) ≡ bare (meaning x k)
meaning-bare x outermost = refl
meaning-bare x (in_block ds k) = ap (defined_in (definition x ds) (in_block ds (forget k)) (forget k)) (meaning-bare x k)
    ∙ sym (defined-bare (definition x ds) (in_block ds k) k (meaning x k))
meaning-bare x (in_function d ns ats k) = ap (parameter_in (param x ns) 0 ats (in_body ns ats (forget k))) (meaning-bare x k)
    ∙ sym (parameter-bare (param x ns) d ats (in_function d ns ats k) (meaning x k))

module _ (g : Numbering) (ns : List Note) where
  -- what stands at a place is there, with its mark
  pub record IsListed (at : ℕ) (h : Static) : Type 0 where
    pub depth : (name_mark g at).level ≡ level h
    pub kind : Kind
    pub found : slice_get ns (name_mark g at).number ≡ Some (note at h kind)

  -- a function's parameters are there, numbered on from the first
  abbrev pub AreListed : (first : ℕ) → (names : List (List ℕ)) → (places : List ℕ) → (outer : Static) → Type 0
  AreListed n xs ats k = (i : ℕ) → i < length xs → ((name_mark g (get_or ats i 0)).number ≡ n + i) × IsListed (get_or ats i 0) (in_body xs ats k)

-- What is known of all that is in scope. `R` is what is known of a function's right side in what is in scope there.
module _ (g : Numbering) (ns : List Note) (fs : List FunctionStand) (R : PlainTree → Static → Type 0) where
  -- a function is there, with its mark
  pub record IsThere (f : FunctionStand) : Type 0 where
    pub depth : (function_mark g f.at).level ≡ level f.home
    pub parameters : AreListed g ns (function_mark g f.at).first f.names f.places f.home
    pub found : slice_get fs (function_mark g f.at).number ≡ Some f
    pub counts : length f.names ≡ length f.places
    pub right_is : R f.right (in_body f.names f.places f.home)

  abbrev pub DefsKnown : Static → PlainDefs → Type 0
  DefsKnown h no_defs = Unit {0}
  DefsKnown h (defines at x e ds) = IsListed g ns at h × DefsKnown h ds
  DefsKnown h (defines_function at x xs ats e ds) = ((n : ℕ) × IsThere (record { at = at; first = n; names = xs; places = ats; right = e; home = h }))
      × DefsKnown h ds
  DefsKnown h (defines_current at x e ds) = IsListed g ns at h × DefsKnown h ds

  abbrev pub Known : Static → Type 0
  Known outermost = Unit {0}
  Known (in_block ds k) = DefsKnown (in_block ds (forget k)) ds × Known k
  Known (in_function d xs ats k) = AreListed g ns (function_mark g d).first xs ats (forget k) × ((function_mark g d).level ≡ level (forget k)) × Known k

  abbrev pub FoundKnown : Static → Found → Type 0
  FoundKnown h absent = Unit {0}
  FoundKnown h (plain_def at e) = IsListed g ns at h
  FoundKnown h (function_def at xs ats e) = (n : ℕ) × IsThere (record { at = at; first = n; names = xs; places = ats; right = e; home = h })
  FoundKnown h (current_def at e) = IsListed g ns at h

  abbrev pub MeaningKnown : Meaning → Type 0
  MeaningKnown free = Unit {0}
  MeaningKnown (plain_name d e h) = IsListed g ns d (forget h)
  MeaningKnown (parameter d i p h) = ((name_mark g p).number ≡ (function_mark g d).first + i) × (suc (function_mark g d).level ≡ level (forget h))
      × IsListed g ns p (forget h)
  MeaningKnown (current_name d e h o) = IsListed g ns d (forget h)
  MeaningKnown (function d xs ats e h) = (n : ℕ) × IsThere (record { at = d; first = n; names = xs; places = ats; right = e; home = forget h })

  either-known : (h : Static) (b : Bool) (x y : Found) → FoundKnown h x → FoundKnown h y → FoundKnown h (if b then x else y)
  either-known h true x y a b = a
  either-known h false x y a b = b

  found-known : (h : Static) (n : List ℕ) (ds : PlainDefs) → DefsKnown h ds → FoundKnown h (definition n ds)
  found-known h n no_defs k = tt
  found-known h n (defines at x e ds) k = either-known h (same_name n x) (plain_def at e) (definition n ds) k.0 (found-known h n ds k.1)
  found-known h n (defines_function at x ns ats e ds) k =
      either-known h (same_name n x) (function_def at ns ats e) (definition n ds) k.0 (found-known h n ds k.1)
  found-known h n (defines_current at x e ds) k = either-known h (same_name n x) (current_def at e) (definition n ds) k.0 (found-known h n ds k.1)

  defined-known : (f : Found) (ds : PlainDefs) (k : Static) (m : Meaning) → FoundKnown (in_block ds (forget k)) f → MeaningKnown m
      → MeaningKnown (defined_in f (in_block ds k) k m)
  defined-known absent ds k m h a = a
  defined-known (plain_def at e) ds k m h a = h
  defined-known (function_def at ns ats e) ds k m h a = h
  defined-known (current_def at e) ds k m h a = h

  parameter-known : (o : Option ℕ) (d : ℕ) (xs : List (List ℕ)) (ats : List ℕ) (k : Static) (m : Meaning) → ((i : ℕ) → o ≡ Some i → i < length xs)
      → AreListed g ns (function_mark g d).first xs ats (forget k) → (function_mark g d).level ≡ level (forget k) → MeaningKnown m
      → MeaningKnown (parameter_in o d ats (in_function d xs ats k) m)
  parameter-known None d xs ats k m b a l h = h
  parameter-known (Some i) d xs ats k m b a l h = let p = a i (b i refl) in (p.0, ap suc l, p.1)

  pub meaning-known : (x : List ℕ) (k : Static) → Known k → MeaningKnown (meaning x k)
  meaning-known x outermost h = tt
  meaning-known x (in_block ds k) h = defined-known (definition x ds) ds k (meaning x k) (found-known (in_block ds (forget k)) x ds h.0) (meaning-known x k h.1)
  meaning-known x (in_function d xs ats k) h =
      parameter-known (param x xs) d xs ats k (meaning x k) (λ i e. (position-Some (λ y. same_name x y) xs i [] e).0) h.0 h.1 (meaning-known x k h.2)

-- numbers of names that go by a list of them
abbrev pub Agrees : Numbers → List Note → Type 0
Agrees nu ns = (i : ℕ) (s : Note) → slice_get ns i ≡ Some s → nu.name s.at ≡ i

module _ (w : Numbered) (ns : List Note) (fs : List FunctionStand) (R : PlainTree → Static → Type 0) where
  -- a name whose meaning is known, and which is at no fault
  pub name-is : (top at : ℕ) (x : List ℕ) (inputs : List (List ℕ)) (b : Option Binding) (m : Meaning) → b ≡ Some (binding_of inputs x m)
      → name_fault at m ≡ None → (m ≡ free → get_or inputs (position_or_len (same_name x) inputs) [] ≡ x) → MeaningKnown w.numbering ns fs R m
      → (nu : Numbers) → Agrees nu ns → reference_by w.numbering inputs b ≡ reference_of nu top x (bare m)
  name-is top at x inputs b free e f l k nu a = ap (reference_by w.numbering inputs) e ∙ ap input (l refl)
  name-is top at x inputs b (plain_name d t h) e f l k nu a =
      ap (reference_by w.numbering inputs) e ∙ (λ j. refer (sym (a _ (note d (forget h) k.kind) k.found) j) (k.depth j))
  name-is top at x inputs b (parameter d i p h) e f l k nu a =
      ap (reference_by w.numbering inputs) e ∙ (λ j. refer ((sym k.0 ∙ sym (a _ (note p (forget h) k.2.kind) k.2.found)) j) (k.1 j))
  name-is top at x inputs b (current_name d t h o) e f l k nu a =
      ap (reference_by w.numbering inputs) e ∙ (λ j. refer (sym (a _ (note d (forget h) k.kind) k.found) j) (k.depth j))
  name-is top at x inputs b (function d xs ats t h) e f l k nu a = absurd (not_some _ f)

  -- what is called
  pub record Calls (b : Option Binding) (m : Meaning) : Type 0 where
    pub stand : FunctionStand
    pub place : callee_place b ≡ stand.at
    pub there : IsThere w.numbering ns fs R stand
    pub is : bare m ≡ function stand.at stand.names stand.places stand.right stand.home

  pub call-is : (at n : ℕ) (x : List ℕ) (inputs : List (List ℕ)) (b : Option Binding) (m : Meaning) → b ≡ Some (binding_of inputs x m)
      → call_fault at n m ≡ None → MeaningKnown w.numbering ns fs R m → Calls b m
  call-is at n x inputs b free e f k = absurd (not_some _ f)
  call-is at n x inputs b (plain_name d t h) e f k = absurd (not_some _ f)
  call-is at n x inputs b (parameter d i p h) e f k = absurd (not_some _ f)
  call-is at n x inputs b (current_name d t h o) e f k = absurd (not_some _ f)
  call-is at n x inputs b (function d xs ats t h) e f k =
      record { stand = record { at = d; first = k.0; names = xs; places = ats; right = t; home = forget h }; place = ap callee_place e; there = k.1; is = refl }
