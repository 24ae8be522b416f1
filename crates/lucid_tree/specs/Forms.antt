-- The forms over streams, and the row of each. The table is this language's own: at one level stands what binds equally, and the levels
-- between these are those of the data operators. What each form means is its plan (lucid_tree, specs/Rows.antt).
use Rattle.std.specs.Prelude.{◌≡◌, ℕ, Bool, true, false, List, [], ◌∷◌, Option, Some, codes}
use Rattle.std.proofs.Common.{refl}
use Rattle.std.specs.List.{find}
use Rattle.std.specs.Str.{bytes_eq}
pub use Rattle.lucid_tree.specs.declared.form.Form.{Form}
use Rattle.lucid_tree.specs.declared.form.Form.TheVariants as form
pub use Rattle.lucid_tree.specs.declared.form.Delay.{Delay}
use Rattle.lucid_tree.specs.declared.form.Delay.TheVariants.{Same, Zero, Less, More, Unjudged}
pub use Rattle.lucid_tree.specs.declared.form.Decider.{Decider}
use Rattle.lucid_tree.specs.declared.form.Decider.TheVariants.{Point, Test, Target, Search}
use Rattle.lucid_tree.specs.declared.form.FormRow.{FormRow}

-- A row: the bytes of the form's word, how tightly it binds (from 1, the loosest, to 12), the number of its parts, what it does to the delay
-- of references, what decides which part gives its value, and whether it looks at other spaces.
pub record Row : Type 0 where
  pub spelling : List ℕ
  pub level : ℕ
  pub parts : ℕ
  pub delay : Delay
  pub decider : Decider
  pub over_space : Bool

-- The row of a form that doesn't look at other spaces, and of one that does: these aren't judged.
abbrev pub over_time : (spelling : List ℕ) → (level parts : ℕ) → Delay → Decider → Row
over_time spelling level parts delay decider =
    record { spelling = spelling; level = level; parts = parts; delay = delay; decider = decider; over_space = false }

abbrev pub over_space : (spelling : List ℕ) → (level parts : ℕ) → Decider → Row
over_space spelling level parts decider =
    record { spelling = spelling; level = level; parts = parts; delay = Unjudged; decider = decider; over_space = true }

-- The row of each form. `if` binds as what is called does: its parts stand between words of their own.
abbrev pub form_row : Form → Row
form_row form.If = over_time (codes "if") 12 3 Same Test
form_row form.And = over_time (codes "and") 4 2 Same Test
form_row form.Or = over_time (codes "or") 3 2 Same Test
form_row form.First = over_time (codes "first") 11 1 Zero Point
form_row form.Next = over_time (codes "next") 11 1 Less Point
form_row form.Fby = over_time (codes "fby") 1 2 More Point
form_row form.Whenever = over_time (codes "whenever") 2 2 Unjudged Search
form_row form.Asa = over_time (codes "asa") 2 2 Unjudged Search
form_row form.Upon = over_time (codes "upon") 2 2 Unjudged Search
form_row form.Attime = over_time (codes "attime") 2 2 Unjudged Target
form_row form.Initial = over_space (codes "initial") 11 1 Point
form_row form.Succ = over_space (codes "succ") 11 1 Point
form_row form.Sby = over_space (codes "sby") 1 2 Point
form_row form.Atspace = over_space (codes "atspace") 2 2 Target

-- the number of a form's parts
abbrev pub part_count : Form → ℕ
part_count f = (form_row f).parts

-- the forms, in the order in which they are declared
abbrev pub forms : List Form
forms =
    form.If ∷ form.And ∷ form.Or ∷ form.First ∷ form.Next ∷ form.Fby ∷ form.Whenever ∷ form.Asa ∷ form.Upon
    ∷ form.Attime ∷ form.Initial ∷ form.Succ ∷ form.Sby ∷ form.Atspace ∷ []

-- The form that a word spells.
abbrev pub has_word : List ℕ → Form → Bool
has_word word f = bytes_eq word (form_row f).spelling

abbrev pub spelled : List ℕ → Option Form
spelled word = find (has_word word) forms

-- Each form is found by its word, so that no two have the same: by it the logic stores a form.
pub found : (f : Form) → spelled (form_row f).spelling ≡ Some f
found form.If = refl
found _ = refl

-- a row of the program as such a row
abbrev pub plain_row : FormRow → Row
plain_row r = record { spelling = r.spelling.now; level = r.level; parts = r.parts; delay = r.delay; decider = r.decider; over_space = r.over_space }
