-- One step more of what loops go over, and lent pieces by their numbers.
use Rattle.std.proofs.Common.{◌≡◌, ℕ, ◌+◌, ◌<◌, List, ◌∷◌, ◌++◌, length, get_or, drop, refl, sym}
use Rattle.std.specs.Prelude.{codes, slice_get, if◌then◌else◌}
use Rattle.std.specs.Borrow.{Bor}
use Rattle.std.specs.Option.{option_copied, option_to_list}
use Rattle.std.proofs.lemmas.List.{at_drop_more}
use Rattle.std.proofs.lemmas.Option.{slice_get-map}
use Rattle.lucid_tree.specs.Tree.{PlainTree, PlainDefs}
use Rattle.lucid_tree.specs.DefsView.{def_of, one_def}
use Rattle.lucid_tree.specs.Rights.{right_of}
use Rattle.lucid_tree.specs.declared.tree.Def.{Def}
use Rattle.lucid_tree.specs.declared.tree.DefKind.{DefKind}
use Rattle.lucid_tree.specs.declared.tree.DefKind.TheVariants.{Plain, Function, Current}
use Rattle.lucid_print.specs.Canonical.{placed, parted_more}
use Rattle.lucid_cert_rules.specs.Certificates.{PlainJudgment, plain_judgment}
use Rattle.lucid_cert_rules.specs.declared.rows.JudgmentRow.{JudgmentRow}
use Rattle.lucid_cert_rules.specs.declared.telling.Entry.{Entry}
use Rattle.lucid_show_outline.specs.declared.part.Part.{Part}
use Rattle.lucid_show_outline.specs.Pieces.{found, found_in_defs, lent}
use Rattle.lucid_show_outline.specs.Views.{View}
use Rattle.lucid_show_outline.specs.Tests.{Run, judgments_at, runs_from}
use Rattle.lucid_show_outline.specs.Runs.{lent_judgments}
use Rattle.lucid_show_outline.specs.Equations.{arguments, plain_part, plain_parts}
use Rattle.lucid_show_outline.specs.Lines.{entries_text, line_text}
use Rattle.lucid_show_outline.specs.Chosen.{chosen, is_told}

pub lent_at : (xs : List (Bor PlainTree)) (i : ℕ) → option_copied (slice_get xs i) ≡ slice_get (lent xs) i
lent_at xs i = sym (slice_get-map (λ (p : Bor PlainTree). p.now) xs i)

pub arguments_more : (ps : List Part) (i : ℕ) (d : Part) → i < length ps
    → parted_more (arguments (plain_parts (drop i ps))) ≡ codes ", " ++ (placed 1 (plain_part (get_or ps i d)) ++ parted_more (arguments (plain_parts (drop (i + 1) ps))))
arguments_more ps i d h = at_drop_more (λ xs. parted_more (arguments (plain_parts xs))) ps i d h

pub judgments_more : (js : List PlainJudgment) (us : List ℕ) (i : ℕ) (d : ℕ) → i < length us
    → judgments_at js (drop i us) ≡ option_to_list (slice_get js (get_or us i d)) ++ judgments_at js (drop (i + 1) us)
judgments_more js us i d h = at_drop_more (λ xs. judgments_at js xs) us i d h

pub entries_more : (v : View) (es : List Entry) (i : ℕ) (d : Entry) → i < length es
    → entries_text v (drop i es) ≡ line_text v (get_or es i d) ++ entries_text v (drop (i + 1) es)
entries_more v es i d h = at_drop_more (λ xs. entries_text v xs) es i d h

pub chosen_more : (v : View) (es : List Entry) (i : ℕ) (d : Entry) → i < length es
    → chosen v (drop i es) ≡ (if is_told v (get_or es i d).asked then get_or es i d ∷ chosen v (drop (i + 1) es) else chosen v (drop (i + 1) es))
chosen_more v es i d h = at_drop_more (λ xs. chosen v xs) es i d h

pub runs_more : (r : Run) (rows : List (Bor JudgmentRow)) (i : ℕ) (d : Bor JudgmentRow) → i < length rows
    → runs_from r (lent_judgments (drop i rows)) ≡ runs_from r (plain_judgment (get_or rows i d).now ∷ lent_judgments (drop (i + 1) rows))
runs_more r rows i d h = at_drop_more (λ xs. runs_from r (lent_judgments xs)) rows i d h

-- the pieces of a definition are those of its right side
found_of_kind : (at : ℕ) (n : List ℕ) (k : DefKind) (ds : PlainDefs) → found_in_defs (def_of at n k ds) ≡ found (right_of k) ++ found_in_defs ds
found_of_kind at n (Plain e) ds = refl
found_of_kind at n (Function ps ats e) ds = refl
found_of_kind at n (Current e) ds = refl

pub found_of_def : (d : Def) (ds : PlainDefs) → found_in_defs (one_def d ds) ≡ found (right_of d.kind) ++ found_in_defs ds
found_of_def d ds = found_of_kind d.at d.name d.kind ds
