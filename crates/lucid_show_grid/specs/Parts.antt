-- Texts that are made of parts.
use Rattle.std.specs.Prelude.{ℕ, List, decimal}
use Rattle.std.specs.List.{flat_map}
use Rattle.lucid_show_grid.specs.declared.parts.Part.{Part}
use Rattle.lucid_show_grid.specs.declared.parts.Part.TheVariants as part
use Rattle.lucid_show_grid.specs.Arrows.{point_text}
use Rattle.lucid_show_grid.specs.Escapes.{attribute_text, escaped}

abbrev pub part_text : Part → List ℕ
part_text (part.Text text) = text.now
part_text (part.Number n) = decimal n
part_text (part.Escaped text) = escaped text.now
part_text (part.Attribute name n) = attribute_text name.now n
part_text (part.Point x y) = point_text x y

-- parts, one behind the other
abbrev pub parts_text : List Part → List ℕ
parts_text parts = flat_map part_text parts
