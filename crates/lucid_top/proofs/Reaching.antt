-- Places that are reached one behind the other.
use Rattle.lucid_top.proofs.Common.{◌≡◌, ℕ, zero, suc, ◌+◌, ◌<◌, ◌≤◌, ◌≢◌, List, [], ◌∷◌, ◌++◌, length, map, get_or, Option, Some, None, Ok, Err, ap, sym, subst, ◌∙◌, inl, inr, arith, add-one, IfSome, IfOk, slice_get, option_map, range_with_len, cases_lt, slice_get-map, slice_get-get_or, World, Contents, IsFresh, KeepsNames, AreFresh, IsErrAnd, OnErr, MatchResult, AreKept, ReadsPlace}
use Rattle.std.proofs.Common.{Result, take}
use denote.Ref.{Bor}
use Rattle.lucid_ports.specs.World.{AsksName, KeepsOthers, Place, unread, advanced}
use Rattle.lucid_session.proofs.Subjects.{range_more as range_suc}

-- its first bytes are those of its name
read_fresh : (most : ℕ) (bytes : List ℕ) (held : Option (List ℕ)) (contents : Option Contents) → contents ≡ option_map unread held
    → IfSome contents (λ c. bytes ≡ take most c.left) → IfSome held (λ source. bytes ≡ take most source)
read_fresh most bytes None contents fresh read = tt
read_fresh most bytes (Some source) contents fresh read = let P : Option Contents → Type 0 = λ o. IfSome o (λ c. bytes ≡ take most c.left) in subst P fresh read

-- the same of a call's answer
pub read_all : {B E : Type 0} (r : Result B E) (items : B → List ℕ) (most : ℕ) (held : Option (List ℕ)) (contents : Option Contents)
    → contents ≡ option_map unread held
    → IfOk r (λ b. IfSome contents (λ c. items b ≡ take most c.left)) → IfOk r (λ b. IfSome held (λ source. items b ≡ take most source))
read_all (Ok b) items most held contents fresh read = read_fresh most (items b) held contents fresh read
read_all (Err e) items most held contents fresh read = tt

take_short : (n : ℕ) (bytes : List ℕ) → length (take n bytes) ≤ n
take_short zero bytes = omega arith
take_short (suc n) [] = omega arith
take_short (suc n) (b ∷ bytes) = let short = take_short n bytes in omega (arith, short)

-- of a place just reached no more is consumed than is read
consumed_within : (most n : ℕ) (held : Option (List ℕ)) (old new : Option Contents) → old ≡ option_map unread held → n ≤ most
    → new ≡ option_map (advanced n) old
    → IfSome new (λ s. length s.consumed ≤ most)
consumed_within most n None old new fresh le is = subst (λ o. IfSome o (λ s. length s.consumed ≤ most)) (sym (is ∙ ap (option_map (advanced n)) fresh)) tt
consumed_within most n (Some bytes) old new fresh le is =
    let short = take_short n bytes in
    subst (λ o. IfSome o (λ s. length s.consumed ≤ most)) (sym (is ∙ ap (option_map (advanced n)) fresh)) (omega (arith, short, le))

pub read_within : (most place q : ℕ) (held : Option (List ℕ)) (old new : World) → place ≡ q → (old.place place).contents ≡ option_map unread held
    → (n : ℕ) × (n ≤ most) × ((new.place place).contents ≡ option_map (advanced n) (old.place place).contents)
    → IfSome (new.place q).contents (λ s. length s.consumed ≤ most)
read_within most place q held old new is fresh read =
    subst (λ k. IfSome (new.place k).contents (λ s. length s.consumed ≤ most)) is
    (consumed_within most read.0 held (old.place place).contents (new.place place).contents fresh read.1 read.2)

-- what was kept is kept, where the next place is reached or changes
pub kept_on : (w v u : World) {name : List ℕ} {lacks : Type 0} → AreKept w v → w.reached ≤ v.reached → AsksName name lacks v u → AreKept w u
kept_on w v u stays le o q lt = o.others q (λ e. absurd (omega (arith, e, le, lt))) ∙ stays q lt

-- reaching a place and reading it changes no place that was reached
pub read_kept : (w v u : World) (number : ℕ) {name : List ℕ} {lacks : Type 0} → number ≡ w.reached → AsksName name lacks w v → KeepsOthers number v u → AreKept w u
read_kept w v u number is o p q lt = p.others q (λ e. absurd (omega (arith, e, is, lt))) ∙ o.others q (λ e. absurd (omega (arith, e, lt)))

-- what was kept is kept on, and of a place that is kept no more is read
pub kept_then : (w v u : World) → AreKept w v → w.reached ≤ v.reached → AreKept v u → AreKept w u
kept_then w v u a le b q lt = b q (omega (arith, lt, le)) ∙ a q lt

pub reads_still : (most q : ℕ) (v u : World) → ReadsPlace most q v → q < v.reached → AreKept v u → ReadsPlace most q u
reads_still most q v u reads lt kept more = subst (λ (p : Place). IfSome p.contents (λ s. length s.consumed ≤ most)) (sym (kept q lt)) (reads lt)

-- names stay from call to call
pub keeps_on : (w v u : World) {name : List ℕ} {lacks : Type 0} → KeepsNames w v → AsksName name lacks v u → KeepsNames w u
keeps_on w v u k o = record { names = λ name. o.names name ∙ k.names name; faults = omega (arith, k.faults, o.faults) }

-- where no place was reached since, what was fresh is
fresh_still : (files : List (List ℕ)) (w v u : World) {name : List ℕ} {lacks : Type 0} → AreFresh files w v → AsksName name lacks v u
    → (k : ℕ) (file : List ℕ) → slice_get files k ≡ Some file → w.reached + k < v.reached → IsFresh (w.holds file) (u.place (w.reached + k))
fresh_still files w v u fresh o k file is lt =
    let differ : w.reached + k ≢ v.reached = λ e. absurd (omega (arith, e, lt)) in
    subst (IsFresh (w.holds file)) (sym (o.others (w.reached + k) differ)) (fresh k file is lt)

pub fresh_after : (files : List (List ℕ)) (w v u : World) {name : List ℕ} {lacks : Type 0} → AreFresh files w v → AsksName name lacks v u → u.reached ≡ v.reached
    → AreFresh files w u
fresh_after files w v u fresh o same k file is lt = fresh_still files w v u fresh o k file is (omega (arith, lt, same))

-- and the place of the next file is, once that is reached
last_fresh : (files : List (List ℕ)) (w v u : World) (i k : ℕ) (name file : List ℕ) → v.reached ≡ w.reached + i → slice_get files i ≡ Some name → k ≡ i
    → slice_get files k ≡ Some file
    → KeepsNames w v → IsFresh (v.holds name) (u.place v.reached) → IsFresh (w.holds file) (u.place (w.reached + k))
last_fresh files w v u i k name file at is same is' keeps fresh =
    let one : slice_get files i ≡ Some file = subst (λ j. slice_get files j ≡ Some file) same is' in
    let names : name ≡ file = cc (is, one) in
    let place : v.reached ≡ w.reached + k = omega (arith, at, same) in
    subst (λ q. IsFresh (w.holds file) (u.place q)) place (subst (λ h. IsFresh h (u.place v.reached)) (ap v.holds names ∙ keeps.names file) fresh)

pub fresh_more : (files : List (List ℕ)) (w v u : World) (i : ℕ) (name : List ℕ) {asked : List ℕ} {lacks : Type 0} → v.reached ≡ w.reached + i → slice_get files i ≡ Some name
    → AreFresh files w v → KeepsNames w v
    → AsksName asked lacks v u → u.reached ≡ v.reached + 1 → (q : ℕ) → q ≡ v.reached → IsFresh (v.holds name) (u.place q) → AreFresh files w u
fresh_more files w v u i name at is fresh keeps o more q number new k file is' lt =
    elim (cases_lt k i) [
      | inl before ↦ fresh_still files w v u fresh o k file is' (omega (arith, before, at))
      | inr past ↦ last_fresh files w v u i k name file at is (omega (arith, past, lt, more, at)) is' keeps
          (subst (λ p. IsFresh (v.holds name) (u.place p)) number new)
    ]

-- one number more
pub range_more : (a n q : ℕ) (numbers numbers' : List ℕ) → numbers ≡ range_with_len a n → q ≡ a + n → numbers' ≡ numbers ++ q ∷ []
    → numbers' ≡ range_with_len a (n + 1)
range_more a n q numbers numbers' are at more =
    let last : range_with_len a (n + 1) ≡ range_with_len a n ++ (a + n) ∷ [] = rw add-one (range_suc a n) in
    more ∙ ap (λ l. l ++ q ∷ []) are ∙ ap (λ x. range_with_len a n ++ x ∷ []) at ∙ sym last

-- the name of a file
pub named_at : (files : List (Bor (List ℕ))) (i : ℕ) (d : Bor (List ℕ)) → i < length files
    → slice_get (map (λ file. file.now) files) i ≡ Some (get_or files i d).now
named_at files i d h = slice_get-map (λ file. file.now) files i ∙ ap (option_map (λ file. file.now)) (slice_get-get_or files i d h)

-- what is given where only the refusal was changed was given before; and where it is refused, it was refused
pub given_before : {A D E : Type 0} (old : Result A E) (new : Result A D) (a : A) (P : E → D → Type 0)
    → MatchResult old (λ x. new ≡ Ok x) (λ e. IsErrAnd new (P e)) → new ≡ Ok a → old ≡ Ok a
given_before (Ok x) new a P same is = let here : new ≡ Ok x = same in cc (here, is)
given_before (Err e) (Ok x) a P other is = absurd other
given_before (Err e) (Err d) a P other is = absurd (cc is)

pub refused_before : {A D E : Type 0} (old : Result A E) (new : Result A D) (d : D) (P : E → D → Type 0) (X : Type 0)
    → MatchResult old (λ x. new ≡ Ok x) (λ e. IsErrAnd new (P e)) → new ≡ Err d
    → OnErr old X → X
refused_before (Ok x) new d P X same is refused = let here : new ≡ Ok x = same in absurd (cc (here, is))
refused_before (Err e) new d P X other is refused = refused
