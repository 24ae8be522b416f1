-- A source in the flat form has one verdict: a sound table, or one refusal.
use Rattle.lucid_top.proofs.Common.{◌≡◌, ℕ, List, refl, ap, subst, arith, IsSound, Table, IsTextOf, IsFirstWrongLine, IsFirstWrongRow, BuildRefusal, Refusal, build_stop, by_length, by_line, by_row, OneFlatTable, TableIsNotRefused, OneFlatRefusal}
use Rattle.lucid_texts.proofs.TextsRead.{line_once}
use Rattle.lucid_flat.specs.FlatText.{flat_lines}
use Rattle.lucid_flat.specs.FlatTables.{AreTableLines}
use Rattle.lucid_flat.specs.Laws.{OneTable}
use Rattle.lucid_flat.specs.WrongRows.{IsTableRefused}
use Rattle.lucid_flat.specs.declared.program.BuildRefusal.TheVariants as build
use Rattle.lucid_report.specs.declared.refusal.Refusal.TheVariants as refusal
use Rattle.lucid_report.specs.declared.stop.Stop.TheVariants as stop
use Rattle.lucid_top.proofs.FirstWrong.{one_wrong}

-- bytes with a wrong line are no table's text
no_text : (bytes : List ℕ) (line : ℕ) (t : Table) → IsFirstWrongLine bytes line → IsTextOf bytes t → ⊥
no_text bytes line t wrong x = wrong.no_text (flat_lines t) (t, x.has, refl) x.text

-- a row that is told is the first wrong one, and the table isn't sound
wrong_row : (t : Table) (e : BuildRefusal) (v : Refusal) → build_stop e ≡ stop.Refused v → IsTableRefused t e → IsFirstWrongRow t e
wrong_row t build.NoMemory v is r = absurd (cc is)
wrong_row t _ v is r = r.0

not_sound : (t : Table) (e : BuildRefusal) (v : Refusal) → build_stop e ≡ stop.Refused v → IsTableRefused t e → IsSound t → ⊥
not_sound t build.NoMemory v is r = absurd (cc is)
not_sound t _ v is r = r.1

same_row : (t : Table) (e f : BuildRefusal) (v w : Refusal) → build_stop e ≡ stop.Refused v → build_stop f ≡ stop.Refused w → IsTableRefused t e → IsTableRefused t f
    → v ≡ w
same_row t e f v w is js r s =
    let same : build_stop e ≡ build_stop f = ap build_stop (one_wrong t e f (wrong_row t e v is r) (wrong_row t f w js s)) in cc (is, js, same)

pub one_flat_table : OneTable → OneFlatTable
one_flat_table one source t u x y = one source t u x.has.text y.has.text

pub table_is_not_refused : OneTable → TableIsNotRefused
table_is_not_refused one source t why x (by_length long) = let short = x.has.short in absurd (omega (arith, short, long))
table_is_not_refused one source t why x (by_line short wrong) = no_text source _ t wrong x.has.text
table_is_not_refused one source t why x (by_row u e is has refused) =
    let same : u ≡ t = one source u t has.text x.has.text in
    not_sound t e why is (subst (λ s. IsTableRefused s e) same refused) x.sound

pub one_flat_refusal : OneTable → OneFlatRefusal
one_flat_refusal one source v w (by_length long) (by_length long') = refl
one_flat_refusal one source v w (by_length long) (by_line short wrong) = absurd (omega (arith, short, long))
one_flat_refusal one source v w (by_length long) (by_row u e is has refused) = let short = has.short in absurd (omega (arith, short, long))
one_flat_refusal one source v w (by_line short wrong) (by_length long) = absurd (omega (arith, short, long))
one_flat_refusal one source v w (by_line short wrong) (by_line short' wrong') = ap refusal.NoFlatLine (line_once AreTableLines source _ _ wrong wrong')
one_flat_refusal one source v w (by_line short wrong) (by_row u e is has refused) = absurd (no_text source _ u wrong has.text)
one_flat_refusal one source v w (by_row t e is has refused) (by_length long) = let short = has.short in absurd (omega (arith, short, long))
one_flat_refusal one source v w (by_row t e is has refused) (by_line short wrong) = absurd (no_text source _ t wrong has.text)
one_flat_refusal one source v w (by_row t e is has refused) (by_row u f js has' refused') =
    let same : u ≡ t = one source u t has'.text has.text in
    same_row t e f v w is js refused (subst (λ s. IsTableRefused s f) same refused')
