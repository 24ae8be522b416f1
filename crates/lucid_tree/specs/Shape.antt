-- What a node is, as the reader of shapes tells it, and the plain tree that it stands for.
use Rattle.std.specs.Prelude.{◌≡◌, ℕ}
use Rattle.lucid_tree.specs.Size.{count}
use Rattle.lucid_value.specs.View.{plain as plain_value}
use Rattle.lucid_tree.specs.Forms.{part_count}
use Rattle.lucid_tree.specs.Tree.{Head, const, apply, stream, PlainTree, form, name, call, block}
use Rattle.lucid_tree.specs.declared.shape.Head.{Head as Reader}
use Rattle.lucid_tree.specs.declared.shape.Head.TheVariants.{Const, Apply, Stream}
use Rattle.lucid_tree.specs.declared.shape.Shape.{Shape}
use Rattle.lucid_tree.specs.declared.shape.Shape.TheVariants.{Form, Name, Call, Scope}

-- the plain head of a form
abbrev pub head_of : Reader → Head
head_of (Const v) = const (plain_value v.now)
head_of (Apply op n) = apply op n
head_of (Stream f) = stream f

-- the plain tree of a shape
abbrev pub shape_tree : Shape → PlainTree
shape_tree (Form at h es) = form at (head_of h) es
shape_tree (Name at n) = name at n.now
shape_tree (Call at n es) = call at n.now es.now
shape_tree (Scope at e ds) = block at e.now ds.now

-- A form of this head has so many parts as its row says; a data operator as many as its head tells, and a constant none.
abbrev pub FitsHead : Head → ℕ → Type 0
FitsHead (const v) n = n ≡ 0
FitsHead (apply op k) n = k ≡ n
FitsHead (stream f) n = n ≡ part_count f

-- A shape that is a form has the number of parts of its head.
abbrev pub FitsShape : Shape → Type 0
FitsShape (Form at h es) = FitsHead (head_of h) (count es)
FitsShape (Name at n) = Unit {0}
FitsShape (Call at n es) = Unit {0}
FitsShape (Scope at e ds) = Unit {0}
