-- Files that are read again, one behind another.
use Rattle.lucid_explain_command.proofs.Common.{◌≡◌, ℕ, List, [], ◌∷◌, ◌++◌, append_assoc, append-nil, ap, subst, sym, ◌∙◌, Option, Text}
use Rattle.lucid_explain_report.specs.Files.{Files}
use Rattle.lucid_explain_command.specs.Errors.{IsFound, labelled, AreReadAgain, no_names, one_more, Adds}

read_both : {files : Files} {xs ys : List (Text × Text)} {us vs : List (Text × List ℕ)} → AreReadAgain files xs us → AreReadAgain files ys vs
    → AreReadAgain files (xs ++ ys) (us ++ vs)
read_both no_names more = more
read_both {files} {ys = ys} {vs = vs} (one_more label name found names those is rest) more =
    let P : List (Text × List ℕ) → Type 0 = λ z. AreReadAgain files ((label, name) ∷ (names ++ ys)) z in
    subst P (sym (append_assoc (labelled label found) those vs)) (one_more label name found (names ++ ys) (those ++ vs) is (read_both rest more))

read_one : (files : Files) (label name : Text) (found : Option (List ℕ)) → IsFound files name found → AreReadAgain files ((label, name) ∷ []) (labelled label found)
read_one files label name found is =
    let P : List (Text × List ℕ) → Type 0 = λ z. AreReadAgain files ((label, name) ∷ []) z in
    subst P (append-nil (labelled label found)) (one_more label name found [] [] is no_names)

pub adds_none : (files : Files) (a : List (Text × List ℕ)) → Adds files [] a a
adds_none files a = ([], no_names, sym (append-nil a))

pub adds_one : (files : Files) (label name : Text) (found : Option (List ℕ)) (a b : List (Text × List ℕ)) → IsFound files name found
    → b ≡ a ++ labelled label found → Adds files ((label, name) ∷ []) a b
adds_one files label name found a b is e = (labelled label found, read_one files label name found is, e)

pub adds_both : (files : Files) (xs ys : List (Text × Text)) (a b c : List (Text × List ℕ)) → Adds files xs a b → Adds files ys b c → Adds files (xs ++ ys) a c
adds_both files xs ys a b c x y =
    (x.0 ++ y.0, read_both x.1 y.1, y.2 ∙ ap (λ (z : List (Text × List ℕ)). z ++ y.0) x.2 ∙ append_assoc a x.0 y.0)

pub adds_of : (files : Files) (xs ys : List (Text × Text)) (a b : List (Text × List ℕ)) → xs ≡ ys → Adds files xs a b → Adds files ys a b
adds_of files xs ys a b e t = let P : List (Text × Text) → Type 0 = λ z. Adds files z a b in subst P e t
