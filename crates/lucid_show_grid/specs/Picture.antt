-- A grid as a picture.
use Rattle.std.specs.Prelude.{ℕ, ◌+◌, ◌*◌, ◌==◌, max, List, [], ◌∷◌, ◌++◌, codes, decimal, length, if◌then◌else◌}
use Rattle.lucid_show_grid.specs.Grids.{PlainLine, PlainPanel, PlainGrid}
use Rattle.lucid_show_grid.specs.declared.places.Frame.{Frame}
use Rattle.lucid_show_grid.specs.Escapes.{attribute_text, escaped, label_text}
use Rattle.lucid_show_grid.specs.Fields.{left_out_text}
use Rattle.lucid_show_grid.specs.Places.{below, bottom, frame_of, height, middle, place_at, place_panels}
use Rattle.lucid_show_grid.specs.Arrows.{arrows_text}
use Rattle.lucid_show_grid.specs.Boxes.{boxes_text}

-- how wide a panel is: as its labels and boxes beside each other, and as its title
unfoldable pub across : Frame → PlainPanel → ℕ
across f p = max (f.label + length p.times * (f.width + 26)) (8 * length p.title)

-- a time above its column, and times from a column on
unfoldable pub head_text : Frame → (column time : ℕ) → List ℕ
head_text f k t = label_text (codes "time") (middle (place_at f 0 k)) (f.top + 34) (decimal t)

abbrev pub heads : Frame → (column : ℕ) → (times : List ℕ) → List ℕ
heads f k [] = []
heads f k (t ∷ ts) = head_text f k t ++ heads f (k + 1) ts

-- a name beside its line, and names from a line on
unfoldable pub name_text : Frame → (line : ℕ) → PlainLine → List ℕ
name_text f i l = label_text (codes "label") 20 ((place_at f i 0).y + 20) l.label

abbrev pub names : Frame → (line : ℕ) → List PlainLine → List ℕ
names f i [] = []
names f i (l ∷ ls) = name_text f i l ++ names f (i + 1) ls

unfoldable pub edge_text : Frame → PlainPanel → List ℕ
edge_text f p =
    codes "<rect class=\"panel\"" ++ (attribute_text (codes "x") 12 ++ (attribute_text (codes "y") f.top ++ (attribute_text (codes "width") (across f p + 16)
    ++ (attribute_text (codes "height") (height p) ++ (attribute_text (codes "rx") 8 ++ codes "/>\n")))))

-- The edge of a panel, its title, the times across, and the names.
unfoldable pub frame_text : Frame → PlainPanel → List ℕ
frame_text f p =
    edge_text f p ++ (label_text (codes "title") 20 (f.top + 17) p.title ++ (label_text (codes "label") 20 (f.top + 34) (codes "time")
    ++ (heads f 0 p.times ++ names f 0 p.lines)))

-- panels below each other
abbrev pub panel_frames : (top : ℕ) → List PlainPanel → List ℕ
panel_frames y [] = []
panel_frames y (p ∷ ps) = frame_text (frame_of y p) p ++ panel_frames (below y p) ps

-- as wide as this at least, and as the widest panel
abbrev pub right_edge : (least : ℕ) → List PlainPanel → ℕ
right_edge n [] = n
right_edge n (p ∷ ps) = right_edge (max n (across (frame_of 0 p) p + 40)) ps

-- what the picture is, for readers of screens
unfoldable pub about : List ℕ
about = codes "</title>\n<desc>A box for each value that was asked for and each test of a search, in the line of its name or its text and the column of its time, and an arrow from each box to each that it needed. A box with a thick edge was needed by the output itself. A round box needed no other. A box with sharp corners is a test of a search, with a dashed edge where it isn't true.</desc>\n"

unfoldable pub style : List ℕ
style = codes "<style type=\"text/css\">.panel{fill:#f7f7f7;stroke:#999}.title{font-size:12px;fill:#222}.time{font-size:12px;text-anchor:middle;fill:#222}.label,.value{font-family:DejaVu Sans Mono,monospace;fill:#000}.value{text-anchor:middle}.arrow,.key-arrow{fill:none;stroke:#1f4e8c;stroke-width:1.4;marker-end:url(#head)}.inner,.key-inner{fill:#fff;stroke:#222}.leaf,.key-leaf{fill:#dff0d8;stroke:#2d6a2d}.output,.key-output{fill:#ffe9b3;stroke:#7a4a00;stroke-width:3}.true,.key-true{fill:#b9e3b9;stroke:#1d5a1d}.false,.key-false{fill:#f6d9d9;stroke:#8c1f1f;stroke-dasharray:5 3}.heading{font-size:15px}.key{font-size:12px}</style>\n<defs><marker id=\"head\" markerWidth=\"9\" markerHeight=\"9\" refX=\"8\" refY=\"4\" orient=\"auto\"><path d=\"M 0 0 L 8 4 L 0 8 z\" fill=\"#1f4e8c\"/></marker></defs>\n<rect width=\"100%\" height=\"100%\" fill=\"#fff\"/>\n"

-- what each kind of box is, at the foot
unfoldable pub key : List ℕ
key = codes ")\"><rect class=\"key-output\" width=\"24\" height=\"16\" rx=\"4\"/><text class=\"key\" x=\"32\" y=\"13\">needed by the output</text><rect class=\"key-leaf\" x=\"180\" width=\"24\" height=\"16\" rx=\"8\"/><text class=\"key\" x=\"212\" y=\"13\">needed no other</text><rect class=\"key-true\" x=\"340\" width=\"24\" height=\"16\"/><rect class=\"key-false\" x=\"372\" width=\"24\" height=\"16\"/><text class=\"key\" x=\"404\" y=\"13\">test of a search: true, not true</text><path class=\"key-arrow\" d=\"M 616 8 L 642 8\"/><text class=\"key\" x=\"650\" y=\"13\">needed</text></g>\n"

unfoldable pub size_text : (width height : ℕ) → List ℕ
size_text w h =
    attribute_text (codes "width") w ++ (attribute_text (codes "height") h
    ++ (codes " viewBox=\"0 0 " ++ (decimal w ++ (codes " " ++ (decimal h ++ codes "\"")))))

-- how wide the picture is, at least as wide as what stands at its foot, and how high what stands above that is
unfoldable pub width_of : PlainGrid → ℕ
width_of g = right_edge (max (9 * length g.heading + 40) 720) g.panels

unfoldable pub foot_of : PlainGrid → ℕ
foot_of g = bottom 64 g.panels

unfoldable pub opening_text : PlainGrid → List ℕ
opening_text g =
    codes "<svg xmlns=\"http://www.w3.org/2000/svg\" version=\"1.1\" xml:space=\"preserve\""
    ++ (size_text (width_of g) (foot_of g + 40)
    ++ (codes " font-family=\"DejaVu Sans, Verdana, sans-serif\" font-size=\"13\">\n<title>" ++ (escaped g.heading ++ (about ++ style))))

-- how many values are left out, where there are such
unfoldable pub left_out_label : (count : ℕ) → List ℕ
left_out_label n = if n == 0 then [] else label_text (codes "title") 20 52 (left_out_text (codes "values") n)

-- what the picture is of, and how many values are left out
unfoldable pub heading_text : PlainGrid → List ℕ
heading_text g = label_text (codes "heading") 20 30 g.heading ++ left_out_label g.left_out

unfoldable pub closing_text : PlainGrid → List ℕ
closing_text g = codes "<g transform=\"translate(20 " ++ (decimal (foot_of g + 4) ++ (key ++ codes "</svg>\n"))

-- The frames of the panels, an arrow for each that is given, and a box for each value.
unfoldable pub picture_text : PlainGrid → List ℕ
picture_text g =
    opening_text g ++ (heading_text g ++ (panel_frames 64 g.panels ++ (arrows_text (place_panels 64 g.panels) g.arrows
    ++ (boxes_text (place_panels 64 g.panels) ++ closing_text g))))
