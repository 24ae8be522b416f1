-- The definitions of a tree, and how one is told: its head, and where it stands.
use Rattle.std.specs.Prelude.{ℕ, List, [], ◌++◌, length, take, min, codes, nat_le, if◌then◌else◌}
use Rattle.std.specs.List.{join_by}
use Rattle.lucid_tree.specs.declared.tree.Def.{Def}
use Rattle.lucid_tree.specs.declared.tree.DefKind.{DefKind}
use Rattle.lucid_tree.specs.declared.tree.DefKind.TheVariants.{Function}
use Rattle.lucid_explain_places.specs.Positions.{where_text}

-- what stands for the bytes of a name behind the first 160
abbrev pub cut_text : List ℕ → List ℕ
cut_text name = if nat_le (length name) 160 then [] else codes ".."

-- A name as it is told: whole, or of more than 160 bytes the first 160, and `..`.
unfoldable pub name_text : List ℕ → List ℕ
name_text name = take 160 name ++ cut_text name

-- Behind the first twenty parameters `..` stands for others.
abbrev pub others_text : List (List ℕ) → List ℕ
others_text names = if nat_le (length names) 20 then [] else codes ", .."

-- the parameters as they are told
abbrev pub names_text : List (List ℕ) → List ℕ
names_text names = join_by name_text (codes ", ") (take 20 names) ++ others_text names

abbrev pub parameters_text : DefKind → List ℕ
parameters_text (Function names places right) = codes "(" ++ (names_text names ++ codes ")")
parameters_text kind = []

-- its name and parameters
abbrev pub head_text : Def → List ℕ
head_text d = name_text d.name ++ parameters_text d.kind

-- a place in words
abbrev pub spot_text : (source : List ℕ) → (at : ℕ) → List ℕ
spot_text source at = where_text (codes " is defined in line ") source at

abbrev pub definition_text : (source : List ℕ) → Def → List ℕ
definition_text source d = head_text d ++ spot_text source (min (length source) d.at)
