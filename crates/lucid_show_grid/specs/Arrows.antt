-- Arrows between boxes.
use Rattle.std.specs.Prelude.{ℕ, ◌+◌, ◌-◌, ◌/◌, ◌==◌, ◌&&◌, ◌||◌, nat_lt, Bool, List, [], ◌++◌, map, codes, decimal, Option, Some, None, slice_get, if◌then◌else◌}
use Rattle.std.specs.List.{flat_map}
use Rattle.lucid_show_grid.specs.declared.grid.Arrow.{Arrow}
use Rattle.lucid_show_grid.specs.declared.places.Place.{Place}
use Rattle.lucid_show_grid.specs.declared.arrows.Bend.{Bend}
use Rattle.lucid_show_grid.specs.Places.{PlainPlaced, middle}

-- from a box to the one at its left
unfoldable pub is_beside : (from to : Place) → Bool
is_beside p q = (p.y == q.y) && (p.x == q.x + (q.width + 26))

-- An arrow goes from the lower edge of a box down to the upper edge of another, from the upper edge up to the lower one, or over what stands between
-- two boxes of one line. What goes down is a little to the left of what goes up.
unfoldable pub bend_between : (from to : Place) → Bend
bend_between p q =
    if nat_lt p.y q.y then
    record { begin_x = middle p - 8; begin_y = p.y + 30; leave_y = p.y + 50; reach_y = q.y - 20; end_x = middle q - 8; end_y = q.y }
    else if nat_lt q.y p.y then
    record { begin_x = middle p + 8; begin_y = p.y; leave_y = p.y - 20; reach_y = q.y + 50; end_x = middle q + 8; end_y = q.y + 30 }
    else record { begin_x = middle p; begin_y = p.y; leave_y = p.y - 26; reach_y = p.y - 26; end_x = middle q; end_y = q.y }

-- how far it goes round the boxes between two that stand one below the other
unfoldable pub aside : (from to : Place) → ℕ
aside p q = if (middle p == middle q) && (nat_lt 64 (q.y - p.y) || nat_lt 64 (p.y - q.y)) then p.width / 2 + 30 else 0

unfoldable pub point_text : (x y : ℕ) → List ℕ
point_text x y = codes " " ++ (decimal x ++ (codes " " ++ decimal y))

unfoldable pub straight_text : (from to : Place) → List ℕ
straight_text p q =
    codes "<path class=\"arrow\" d=\"M" ++ (point_text p.x (p.y + 15) ++ (codes " L" ++ (point_text (q.x + q.width) (q.y + 15) ++ codes "\"/>\n")))

unfoldable pub curved_text : Bend → (aside : ℕ) → List ℕ
curved_text b s =
    codes "<path class=\"arrow\" d=\"M" ++ (point_text b.begin_x b.begin_y ++ (codes " C" ++ (point_text (b.begin_x - s) b.leave_y
    ++ (point_text (b.end_x - s) b.reach_y ++ (point_text b.end_x b.end_y ++ codes "\"/>\n")))))

unfoldable pub between : (from to : Place) → List ℕ
between p q = if is_beside p q then straight_text p q else curved_text (bend_between p q) (aside p q)

-- the arrow from a box to another, where both are there
unfoldable pub arrow_text : (from to : Option Place) → List ℕ
arrow_text (Some p) (Some q) = between p q
arrow_text (Some p) None = []
arrow_text None q = []

abbrev pub place_of : List PlainPlaced → (number : ℕ) → Option Place
place_of ps i = slice_get (map (λ (p : PlainPlaced). p.place) ps) i

-- An arrow for each that is given, between the values of its numbers.
abbrev pub arrows_text : List PlainPlaced → List Arrow → List ℕ
arrows_text ps es = flat_map (λ (a : Arrow). arrow_text (place_of ps a.from) (place_of ps a.to)) es
