-- The code's nodes build what the nodes that they stand for do.
use Rattle.lucid_parse.proofs.Common.{◌≡◌, ℕ, ◌+◌, ◌<◌, ◌≤◌, List, length, take, get_or, Option, Some, sym, ◌∙◌, ap, arith, get_or-map, length-map, Bor, Value, Item, fill_item, name_now, value_now, items_of, PlainPiles, no_piles, put_on, built}
use Rattle.lucid_parse.proofs.Built.{built-more}

abbrev CodeItem : Type 0
CodeItem = Item (Bor (List ℕ)) (Bor Value)

pub put_more : (items : List CodeItem) (i : ℕ) (d : CodeItem) (q : PlainPiles) (o : Option PlainPiles) → i < length items
    → built (take i (items_of items)) no_piles ≡ Some q → put_on (fill_item name_now value_now (get_or items i d)) q ≡ o
    → built (take (i + 1) (items_of items)) no_piles ≡ o
put_more items i d q o h e f =
    built-more (items_of items) i (fill_item name_now value_now d) no_piles q o (omega (arith, h, length-map items (fill_item name_now value_now))) e
    (ap (λ x. put_on x q) (get_or-map (fill_item name_now value_now) items i d (fill_item name_now value_now d) h) ∙ f)

-- the same of a node that stands at the index
pub put_item : (items : List CodeItem) (i : ℕ) (x : CodeItem) (q : PlainPiles) (o : Option PlainPiles) → i < length items → x ≡ get_or items i x
    → built (take i (items_of items)) no_piles ≡ Some q → put_on (fill_item name_now value_now x) q ≡ o → built (take (i + 1) (items_of items)) no_piles ≡ o
put_item items i x q o h is e f = put_more items i x q o h e (ap (λ y. put_on (fill_item name_now value_now y) q) (sym is) ∙ f)

pub items_over : (items : List CodeItem) (n : ℕ) → length items ≤ n → length (items_of items) ≤ n
items_over items n h = omega (arith, h, length-map items (fill_item name_now value_now))
