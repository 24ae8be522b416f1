-- The plain form of a tree, one level at a time: the trees inside are seen as their plain forms.
use Rattle.std.specs.Prelude.{ℕ}
use Rattle.lucid_value.specs.View.{plain as plain_value}
use Rattle.lucid_tree.specs.declared.form.Form.{Form}
use Rattle.lucid_tree.specs.declared.form.Form.TheVariants as forms
use Rattle.lucid_tree.specs.Tree.{const, apply, stream, PlainTree, form, name, call, block, no_trees, tree}
use Rattle.lucid_tree.specs.Size.{count}
use Rattle.lucid_tree.specs.declared.tree.Kind.{Kind}
use Rattle.lucid_tree.specs.declared.tree.Kind.TheVariants.{Const, Name, Call, Apply, If, And, Or, First, Next, Fby, Whenever, Asa, Upon, Attime, Initial, Succ, Sby, Atspace, Scope}

-- a form over streams with one part, and with two
abbrev one : ℕ → Form → PlainTree → PlainTree
one at f a = form at (stream f) (tree a no_trees)

abbrev two : ℕ → Form → PlainTree → PlainTree → PlainTree
two at f a b = form at (stream f) (tree a (tree b no_trees))

-- the plain tree of a node at a place
abbrev pub tree_of : ℕ → Kind → PlainTree
tree_of at (Const v) = form at (const (plain_value v)) no_trees
tree_of at (Name n) = name at n
tree_of at (Call n es) = call at n es
tree_of at (Apply op es) = form at (apply op (count es)) es
tree_of at (If c a b) = form at (stream forms.If) (tree c.value (tree a.value (tree b.value no_trees)))
tree_of at (And a b) = two at forms.And a.value b.value
tree_of at (Or a b) = two at forms.Or a.value b.value
tree_of at (First a) = one at forms.First a.value
tree_of at (Next a) = one at forms.Next a.value
tree_of at (Fby a b) = two at forms.Fby a.value b.value
tree_of at (Whenever a b) = two at forms.Whenever a.value b.value
tree_of at (Asa a b) = two at forms.Asa a.value b.value
tree_of at (Upon a b) = two at forms.Upon a.value b.value
tree_of at (Attime a b) = two at forms.Attime a.value b.value
tree_of at (Initial a) = one at forms.Initial a.value
tree_of at (Succ a) = one at forms.Succ a.value
tree_of at (Sby a b) = two at forms.Sby a.value b.value
tree_of at (Atspace a b) = two at forms.Atspace a.value b.value
tree_of at (Scope b) = block at b.value.subject b.value.defs
