-- The canonical source of a tree: one line, with the least parentheses. It is this language's own.
use Rattle.std.specs.Prelude.{ℕ, List, [], ◌∷◌, ◌++◌, codes, nat_lt, if◌then◌else◌}
use Rattle.lucid_value.specs.Plain.{PlainValue, word, list, no_items}
use Rattle.lucid_value.specs.ValueText.{value_text}
use Rattle.lucid_tree.specs.Tree.{PlainTree, form, name, call, block, PlainTrees, no_trees, tree, PlainDefs, no_defs, defines, defines_function, defines_current}
use Rattle.lucid_print.specs.Styles.{Style, constant, conditional, between, before, called, style, level}

-- The text of a constant is that of its value, but a word stands between two `"` (34), and the empty list is `[]`.
abbrev pub constant_text : PlainValue → List ℕ
constant_text (word bs) = 34 ∷ (bs ++ 34 ∷ [])
constant_text (list no_items) = codes "[]"
constant_text v = value_text v

-- A part of a form: its level and its text.
pub record Part : Type 0 where
  pub level : ℕ
  pub text : List ℕ

abbrev pub part : ℕ → List ℕ → Part
part k s = record { level = k; text = s }

-- The part in a place that wants level k: in parentheses exactly where its own level is below.
abbrev pub placed : ℕ → Part → List ℕ
placed k p = if nat_lt p.level k then codes "(" ++ p.text ++ codes ")" else p.text

-- texts parted by commas
abbrev pub parted_more : List (List ℕ) → List ℕ
parted_more [] = []
parted_more (s ∷ ss) = codes ", " ++ s ++ parted_more ss

abbrev pub parted : List (List ℕ) → List ℕ
parted [] = []
parted (s ∷ ss) = s ++ parted_more ss

abbrev pub texts : List Part → List (List ℕ)
texts [] = []
texts (p ∷ ps) = p.text ∷ texts ps

-- A form of these parts. An operator of another number of parts than its own is in no tree that is well made.
abbrev pub form_text : Style → List Part → List ℕ
form_text (constant v) ps = constant_text v
form_text conditional (c ∷ x ∷ y ∷ []) = codes "if " ++ c.text ++ codes " then " ++ x.text ++ codes " else " ++ y.text ++ codes " fi"
form_text (between s k l r) (x ∷ y ∷ []) = placed l x ++ codes " " ++ s ++ codes " " ++ placed r y
form_text (before s k) (x ∷ []) = s ++ codes " " ++ placed k x
form_text (called s) ps = s ++ codes "(" ++ parted (texts ps) ++ codes ")"
form_text _ _ = []

-- The text of a tree, without the line's end.
unfoldable mutual
  pub source : PlainTree → List ℕ
  source (form at h es) = form_text (style h) (parts es)
  source (name at n) = n
  source (call at n es) = n ++ codes "(" ++ parted (texts (parts es)) ++ codes ")"
  source (block at e ds) = source e ++ codes " where " ++ definitions ds ++ codes "end"

  pub parts : PlainTrees → List Part
  parts no_trees = []
  parts (tree e es) = part (level e) (source e) ∷ parts es

  pub definitions : PlainDefs → List ℕ
  definitions no_defs = []
  definitions (defines at n e ds) = n ++ codes " = " ++ source e ++ codes "; " ++ definitions ds
  definitions (defines_function at n ps ats e ds) = n ++ codes "(" ++ parted ps ++ codes ") = " ++ source e ++ codes "; " ++ definitions ds
  definitions (defines_current at n e ds) = n ++ codes " is current " ++ source e ++ codes "; " ++ definitions ds

-- The canonical source: the text and the line's end (10).
abbrev pub canonical : PlainTree → List ℕ
canonical e = source e ++ 10 ∷ []
