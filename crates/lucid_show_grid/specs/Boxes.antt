-- The boxes of values.
use Rattle.std.specs.Prelude.{ℕ, ◌+◌, Bool, List, [], ◌++◌, codes, if◌then◌else◌}
use Rattle.std.specs.List.{flat_map}
use Rattle.lucid_show_grid.specs.declared.grid.Kind.{Kind}
use Rattle.lucid_show_grid.specs.declared.grid.Kind.TheVariants.{Inner, Leaf, Test}
use Rattle.lucid_show_grid.specs.declared.places.Place.{Place}
use Rattle.lucid_show_grid.specs.Escapes.{attribute_text, escaped, label_text}
use Rattle.lucid_show_grid.specs.Places.{PlainPlaced, middle}

-- Each kind has a colour and a shape of its own: a value that needed no other is round, a test has sharp corners, and a dashed edge where it isn't true.
unfoldable pub class_text : Kind → List ℕ
class_text Inner = codes "inner"
class_text Leaf = codes "leaf"
class_text (Test h) = if h then codes "true" else codes "false"

unfoldable pub corner : Kind → ℕ
corner Inner = 4
corner Leaf = 15
corner (Test h) = 0

-- what the output needed has a thick edge
unfoldable pub output_text : (is_output : Bool) → List ℕ
output_text b = if b then codes " output" else []

unfoldable pub edges_text : Place → Kind → List ℕ
edges_text p k =
    attribute_text (codes "x") p.x ++ (attribute_text (codes "y") p.y ++ (attribute_text (codes "width") p.width ++ (attribute_text (codes "height") 30
    ++ attribute_text (codes "rx") (corner k))))

-- a value in the middle of its box
unfoldable pub value_text : Place → (value : List ℕ) → List ℕ
value_text p v = label_text (codes "value") (middle p) (p.y + 20) v

-- A box with its value, and what is told where it is pointed at.
unfoldable pub box_text : PlainPlaced → List ℕ
box_text p =
    codes "<g><title>" ++ (escaped p.mark.told ++ (codes "</title><rect class=\"" ++ (class_text p.mark.kind ++ (output_text p.mark.is_output
    ++ (codes "\"" ++ (edges_text p.place p.mark.kind ++ (codes "/>"
    ++ (value_text p.place p.mark.value ++ codes "</g>\n"))))))))

abbrev pub boxes_text : List PlainPlaced → List ℕ
boxes_text ps = flat_map box_text ps
