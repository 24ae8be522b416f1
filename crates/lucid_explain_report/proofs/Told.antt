-- Files that are told, one behind another.
use Rattle.std.proofs.Common.{Result, Ok, Err, is_ok, OnOk, ◌≡◌, refl, ℕ, List, [], ◌∷◌, ◌++◌, Bool, true, false, append_assoc, append-nil, ap, sym, subst, ◌∙◌}
use Rattle.std.specs.Prelude.{if◌then◌else◌}
use Rattle.std.specs.List.{flat_map}
use Rattle.std.proofs.lemmas.Grind.{flat_map-append}
use Rattle.lucid_explain_report.specs.Files.{Files, Held, IsSeen, is_unread}
use Rattle.lucid_explain_report.specs.Said.{AreUnread, no_names, one_more, TellsFiles, fault_text}

push_if : (b : Bool) (name : List ℕ) (xs ys : List (List ℕ)) → (if b then name ∷ xs else xs) ++ ys ≡ (if b then name ∷ (xs ++ ys) else xs ++ ys)
push_if true name xs ys = refl
push_if false name xs ys = refl

unread_both : {files : Files} {xs ys us vs : List (List ℕ)} → AreUnread files xs us → AreUnread files ys vs → AreUnread files (xs ++ ys) (us ++ vs)
unread_both no_names u = u
unread_both {files} {ys = ys} {vs = vs} (one_more name seen names those s t) u =
    let P : List (List ℕ) → Type 0 = λ z. AreUnread files (name ∷ (names ++ ys)) z in
    subst P (sym (push_if (is_unread seen) name those vs)) (one_more name seen (names ++ ys) (those ++ vs) s (unread_both t u))

pub told_none : (files : Files) (a : List ℕ) → TellsFiles files [] a a
told_none files a = ([], no_names, sym (append-nil a))

seen_so : (files : Files) (name : List ℕ) (seen : Held) (b : Bool) → IsSeen files name 1 seen → b ≡ is_unread seen
    → AreUnread files (name ∷ []) (if b then name ∷ [] else [])
seen_so files name seen b s e =
    let P : Bool → Type 0 = λ v. AreUnread files (name ∷ []) (if v then name ∷ [] else []) in
    subst P (sym e) (one_more name seen [] [] s no_names)

pub told_one : (files : Files) (name : List ℕ) (seen : Held) (b : Bool) (a c : List ℕ) → IsSeen files name 1 seen → b ≡ is_unread seen → b ≡ true
    → c ≡ a ++ fault_text name → TellsFiles files (name ∷ []) a c
told_one files name seen b a c s e is t =
    let P : Bool → Type 0 = λ v. AreUnread files (name ∷ []) (if v then name ∷ [] else []) in
    (name ∷ [], subst P is (seen_so files name seen b s e), t ∙ ap (λ (z : List ℕ). a ++ z) (sym (append-nil (fault_text name))))

pub told_not : (files : Files) (name : List ℕ) (seen : Held) (b : Bool) (a : List ℕ) → IsSeen files name 1 seen → b ≡ is_unread seen → b ≡ false
    → TellsFiles files (name ∷ []) a a
told_not files name seen b a s e is =
    let P : Bool → Type 0 = λ v. AreUnread files (name ∷ []) (if v then name ∷ [] else []) in
    ([], subst P is (seen_so files name seen b s e), sym (append-nil a))

pub told_both : (files : Files) (xs ys : List (List ℕ)) (a b c : List ℕ) → TellsFiles files xs a b → TellsFiles files ys b c → TellsFiles files (xs ++ ys) a c
told_both files xs ys a b c x y = (
  x.0 ++ y.0,
  unread_both x.1 y.1,
  y.2
      ∙ ap (λ (z : List ℕ). z ++ flat_map fault_text y.0) x.2
      ∙ append_assoc a (flat_map fault_text x.0) (flat_map fault_text y.0)
      ∙ ap (λ (z : List ℕ). a ++ z) (sym (flat_map-append fault_text x.0 y.0)),
)

pub told_of : (files : Files) (xs ys : List (List ℕ)) (a b : List ℕ) → xs ≡ ys → TellsFiles files xs a b → TellsFiles files ys a b
told_of files xs ys a b e t = let P : List (List ℕ) → Type 0 = λ z. TellsFiles files z a b in subst P e t

-- a text is appended as the last one, where there is memory for it
pub ended : {T E : Type 0} (r : Result T E) (new old more whole : List ℕ) → new ≡ (if is_ok r then old ++ more else old) → old ++ more ≡ whole
    → OnOk r (new ≡ whole)
ended (Ok x) new old more whole e f = e ∙ f
ended (Err x) new old more whole e f = tt
