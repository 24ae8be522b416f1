-- One step more of what loops go over.
use Rattle.std.proofs.Common.{◌≡◌, ℕ, ◌+◌, ◌<◌, max, List, [], ◌∷◌, map, ◌++◌, length, get_or, drop, refl, ap, ◌∙◌}
use Rattle.std.specs.Prelude.{◌==◌, decimal, if◌then◌else◌}
use Rattle.std.specs.Option.{option_map}
use Rattle.std.specs.Prelude.{Option, Some, None, slice_get}
use Rattle.std.proofs.lemmas.List.{at_drop_more}
use Rattle.std.proofs.lemmas.Option.{slice_get-map}
use Rattle.lucid_show_grid.specs.declared.grid.Mark.{Mark}
use Rattle.lucid_show_grid.specs.declared.grid.Line.{Line}
use Rattle.lucid_show_grid.specs.declared.grid.Panel.{Panel}
use Rattle.lucid_show_grid.specs.declared.grid.Arrow.{Arrow}
use Rattle.lucid_show_grid.specs.declared.parts.Part.{Part}
use Rattle.lucid_show_grid.specs.declared.places.Frame.{Frame}
use Rattle.lucid_show_grid.specs.declared.places.Placed.{Placed}
use Rattle.lucid_show_grid.specs.declared.widths.Columns.{Columns}
use Rattle.lucid_show_grid.specs.Grids.{PlainMark, plain_line, plain_mark, plain_panel}
use Rattle.lucid_show_grid.specs.Fields.{right}
use Rattle.lucid_show_grid.specs.Widths.{labels, longest, values, values_of}
use Rattle.lucid_show_grid.specs.Text.{value_at, times_text, values_text, line_text, lines_text, panel_text, panels_text}
use Rattle.lucid_show_grid.specs.Escapes.{escaped, escaped_byte}
use Rattle.lucid_show_grid.specs.Places.{PlainPlaced, below, bottom, frame_of, index_of, plain_placed, place_lines, place_mark, place_panels}
use Rattle.lucid_show_grid.specs.Arrows.{arrow_text, arrows_text, place_of}
use Rattle.lucid_show_grid.specs.Boxes.{box_text, boxes_text}
use Rattle.lucid_show_grid.specs.Parts.{part_text, parts_text}
use Rattle.lucid_show_grid.specs.Picture.{across, frame_text, head_text, heads, name_text, names, panel_frames, right_edge}

pub labels_more : (n : ℕ) (ls : List Line) (i : ℕ) (d : Line) → i < length ls
    → longest n (labels (map plain_line (drop i ls)))
    ≡ longest (max n (length (plain_line (get_or ls i d)).label)) (labels (map plain_line (drop (i + 1) ls)))
labels_more n ls i d h = at_drop_more (λ xs. longest n (labels (map plain_line xs))) ls i d h

pub marks_more : (n : ℕ) (ms : List Mark) (i : ℕ) (d : Mark) → i < length ms
    → longest n (values_of (map plain_mark (drop i ms)))
    ≡ longest (max n (length (plain_mark (get_or ms i d)).value)) (values_of (map plain_mark (drop (i + 1) ms)))
marks_more n ms i d h = at_drop_more (λ xs. longest n (values_of (map plain_mark xs))) ms i d h

pub longest_of_both : (n : ℕ) (xs ys : List (List ℕ)) → longest n (xs ++ ys) ≡ longest (longest n xs) ys
longest_of_both n [] ys = refl
longest_of_both n (x ∷ xs) ys = longest_of_both (max n (length x)) xs ys

pub values_more : (n : ℕ) (ls : List Line) (i : ℕ) (d : Line) → i < length ls
    → longest n (values (map plain_line (drop i ls)))
    ≡ longest (longest n (values_of (plain_line (get_or ls i d)).marks)) (values (map plain_line (drop (i + 1) ls)))
values_more n ls i d h =
    at_drop_more (λ xs. longest n (values (map plain_line xs))) ls i d h
    ∙ longest_of_both n (values_of (plain_line (get_or ls i d)).marks) (values (map plain_line (drop (i + 1) ls)))

pub times_more : (n : ℕ) (ts : List ℕ) (i : ℕ) (d : ℕ) → i < length ts
    → longest n (map decimal (drop i ts))
    ≡ longest (max n (length (decimal (get_or ts i d)))) (map decimal (drop (i + 1) ts))
times_more n ts i d h = at_drop_more (λ xs. longest n (map decimal xs)) ts i d h

pub value_more : (t : ℕ) (ms : List Mark) (i : ℕ) (d : Mark) → i < length ms
    → value_at (map plain_mark (drop i ms)) t
    ≡ (if (plain_mark (get_or ms i d)).time == t then (plain_mark (get_or ms i d)).value else value_at (map plain_mark (drop (i + 1) ms)) t)
value_more t ms i d h = at_drop_more (λ xs. value_at (map plain_mark xs) t) ms i d h

pub times_text_more : (n : ℕ) (ts : List ℕ) (i : ℕ) (d : ℕ) → i < length ts
    → times_text n (drop i ts)
    ≡ right n (decimal (get_or ts i d)) ++ times_text n (drop (i + 1) ts)
times_text_more n ts i d h = at_drop_more (λ xs. times_text n xs) ts i d h

pub values_text_more : (n : ℕ) (ms : List PlainMark) (ts : List ℕ) (i : ℕ) (d : ℕ) → i < length ts
    → values_text n ms (drop i ts)
    ≡ right n (value_at ms (get_or ts i d)) ++ values_text n ms (drop (i + 1) ts)
values_text_more n ms ts i d h = at_drop_more (λ xs. values_text n ms xs) ts i d h

pub lines_text_more : (c : Columns) (ts : List ℕ) (ls : List Line) (i : ℕ) (d : Line) → i < length ls
    → lines_text c ts (map plain_line (drop i ls))
    ≡ line_text c ts (plain_line (get_or ls i d)) ++ lines_text c ts (map plain_line (drop (i + 1) ls))
lines_text_more c ts ls i d h = at_drop_more (λ xs. lines_text c ts (map plain_line xs)) ls i d h

pub panels_text_more : (ps : List Panel) (i : ℕ) (d : Panel) → i < length ps
    → panels_text (map plain_panel (drop i ps))
    ≡ panel_text (plain_panel (get_or ps i d)) ++ panels_text (map plain_panel (drop (i + 1) ps))
panels_text_more ps i d h = at_drop_more (λ xs. panels_text (map plain_panel xs)) ps i d h

pub escaped_more : (bs : List ℕ) (i : ℕ) (d : ℕ) → i < length bs
    → escaped (drop i bs)
    ≡ escaped_byte (get_or bs i d) ++ escaped (drop (i + 1) bs)
escaped_more bs i d h = at_drop_more (λ xs. escaped xs) bs i d h

pub parts_more : (ps : List Part) (i : ℕ) (d : Part) → i < length ps
    → parts_text (drop i ps)
    ≡ part_text (get_or ps i d) ++ parts_text (drop (i + 1) ps)
parts_more ps i d h = at_drop_more (λ xs. parts_text xs) ps i d h

pub index_more : (t : ℕ) (ts : List ℕ) (i : ℕ) (d : ℕ) → i < length ts
    → index_of (drop i ts) t
    ≡ (if get_or ts i d == t then 0 else index_of (drop (i + 1) ts) t + 1)
index_more t ts i d h = at_drop_more (λ xs. index_of xs t) ts i d h

pub place_marks_more : (f : Frame) (ts : List ℕ) (line : ℕ) (ms : List Mark) (i : ℕ) (d : Mark) → i < length ms
    → map (place_mark f ts line) (map plain_mark (drop i ms))
    ≡ place_mark f ts line (plain_mark (get_or ms i d)) ∷ map (place_mark f ts line) (map plain_mark (drop (i + 1) ms))
place_marks_more f ts line ms i d h = at_drop_more (λ xs. map (place_mark f ts line) (map plain_mark xs)) ms i d h

pub place_lines_more : (f : Frame) (ts : List ℕ) (line : ℕ) (ls : List Line) (i : ℕ) (d : Line) → i < length ls
    → place_lines f ts line (map plain_line (drop i ls))
    ≡ map (place_mark f ts line) (plain_line (get_or ls i d)).marks ++ place_lines f ts (line + 1) (map plain_line (drop (i + 1) ls))
place_lines_more f ts line ls i d h = at_drop_more (λ xs. place_lines f ts line (map plain_line xs)) ls i d h

pub place_panels_more : (y : ℕ) (ps : List Panel) (i : ℕ) (d : Panel) → i < length ps
    → place_panels y (map plain_panel (drop i ps))
    ≡ place_lines (frame_of y (plain_panel (get_or ps i d))) (plain_panel (get_or ps i d)).times 0 (plain_panel (get_or ps i d)).lines ++ place_panels (below y (plain_panel (get_or ps i d))) (map plain_panel (drop (i + 1) ps))
place_panels_more y ps i d h = at_drop_more (λ xs. place_panels y (map plain_panel xs)) ps i d h

pub bottom_more : (y : ℕ) (ps : List Panel) (i : ℕ) (d : Panel) → i < length ps
    → bottom y (map plain_panel (drop i ps))
    ≡ bottom (below y (plain_panel (get_or ps i d))) (map plain_panel (drop (i + 1) ps))
bottom_more y ps i d h = at_drop_more (λ xs. bottom y (map plain_panel xs)) ps i d h

pub arrows_more : (ps : List PlainPlaced) (es : List Arrow) (i : ℕ) (d : Arrow) → i < length es
    → arrows_text ps (drop i es)
    ≡ arrow_text (place_of ps (get_or es i d).from) (place_of ps (get_or es i d).to) ++ arrows_text ps (drop (i + 1) es)
arrows_more ps es i d h = at_drop_more (λ xs. arrows_text ps xs) es i d h

pub boxes_more : (ps : List Placed) (i : ℕ) (d : Placed) → i < length ps
    → boxes_text (map plain_placed (drop i ps))
    ≡ box_text (plain_placed (get_or ps i d)) ++ boxes_text (map plain_placed (drop (i + 1) ps))
boxes_more ps i d h = at_drop_more (λ xs. boxes_text (map plain_placed xs)) ps i d h

pub heads_more : (f : Frame) (k : ℕ) (ts : List ℕ) (i : ℕ) (d : ℕ) → i < length ts
    → heads f k (drop i ts)
    ≡ head_text f k (get_or ts i d) ++ heads f (k + 1) (drop (i + 1) ts)
heads_more f k ts i d h = at_drop_more (λ xs. heads f k xs) ts i d h

pub names_more : (f : Frame) (k : ℕ) (ls : List Line) (i : ℕ) (d : Line) → i < length ls
    → names f k (map plain_line (drop i ls))
    ≡ name_text f k (plain_line (get_or ls i d)) ++ names f (k + 1) (map plain_line (drop (i + 1) ls))
names_more f k ls i d h = at_drop_more (λ xs. names f k (map plain_line xs)) ls i d h

pub panel_frames_more : (y : ℕ) (ps : List Panel) (i : ℕ) (d : Panel) → i < length ps
    → panel_frames y (map plain_panel (drop i ps))
    ≡ frame_text (frame_of y (plain_panel (get_or ps i d))) (plain_panel (get_or ps i d)) ++ panel_frames (below y (plain_panel (get_or ps i d))) (map plain_panel (drop (i + 1) ps))
panel_frames_more y ps i d h = at_drop_more (λ xs. panel_frames y (map plain_panel xs)) ps i d h

pub right_edge_more : (n : ℕ) (ps : List Panel) (i : ℕ) (d : Panel) → i < length ps
    → right_edge n (map plain_panel (drop i ps))
    ≡ right_edge (max n (across (frame_of 0 (plain_panel (get_or ps i d))) (plain_panel (get_or ps i d)) + 40)) (map plain_panel (drop (i + 1) ps))
right_edge_more n ps i d h = at_drop_more (λ xs. right_edge n (map plain_panel xs)) ps i d h

-- the place of a value by its number
pub place_found : (ps : List Placed) (i : ℕ) → place_of (map plain_placed ps) i ≡ option_map (λ (p : Placed). p.place) (slice_get ps i)
place_found ps i =
    slice_get-map (λ (p : PlainPlaced). p.place) (map plain_placed ps) i
    ∙ ap (λ found. option_map (λ (p : PlainPlaced). p.place) found) (slice_get-map plain_placed ps i)
    ∙ mapped (slice_get ps i)
  where
    mapped : (found : Option Placed) → option_map (λ (p : PlainPlaced). p.place) (option_map plain_placed found) ≡ option_map (λ (p : Placed). p.place) found
    mapped None = refl
    mapped (Some p) = refl
