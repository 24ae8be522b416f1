-- The terminals of the canonical source of a tree that was parsed spell the tree again, up to places.
use Rattle.lucid_print.proofs.Common.{◌≡◌, ℕ, ◌+◌, List, [], ◌∷◌, ◌++◌, Some, Bool, true, false, refl, sym, ◌∙◌, ap, subst, arith, zero-le, append_assoc, append-nil, codes, cond-true, cond-false, PlainValue, TextIsRead, PlainTree, form, name, call, block, PlainTrees, no_trees, tree, PlainDefs, no_defs, defines, defines_function, defines_current, Before, Between, Called, Operator, PlainTerminal, PlacedTerminal, terminal_at, as_form, Spells, looser, placed, parted, parted_more, texts, form_text, source, parts, definitions, unplaced, all_unplaced, defs_unplaced, part_of, ltb-false}
use Rattle.std.specs.Prelude.{nat_lt}
use Rattle.lucid_tree.specs.Tree.{const, choose}
use Rattle.lucid_tree.specs.Size.{count}
use Rattle.lucid_parse.specs.declared.terminal.Terminal.TheVariants as terminal
use Rattle.lucid_parse.specs.Grammar
use Rattle.lucid_parse.specs.Grammar.{SpellsArgs, SpellsDefs, SpellsNames, trees_and, def_before, defs_and, Parameter, parameter, names_of, Defined, Plain, Function, Current, head, arity_of}
use Rattle.lucid_print.specs.Styles.{style_level, level}
use Rattle.lucid_print.proofs.Terminals.{terminal_of, stands_as, terminal_is, terminal_text, is_open, after, not_open, not_closer, between_not_callable, before_not_callable, callable, style-between, style-before, style-called}
use Rattle.lucid_print.proofs.Goods.{Good, IsWritten, open_good, close_good, comma_good, semicolon_good, equals_good, is_good, current_good, where_good, end_good, if_good, then_good, else_good, fi_good, operator_good, const_good, written_name_good}
use Rattle.lucid_print.proofs.Chunks.{Chunk, chunk_as, IsPlain, single, led, operated, trailed, ended, closed, called, with_comma, Definitions, no_definitions, and_definition, blocked}

abbrev pub terminals_of : List PlacedTerminal → List PlainTerminal
terminals_of [] = []
terminals_of (w ∷ ws) = w.terminal ∷ terminals_of ws

-- words with the terminals of two lists are two lists of words
record Parts (ws : List PlacedTerminal) (a b : List PlainTerminal) : Type 0 where
  front : List PlacedTerminal
  back : List PlacedTerminal
  is : ws ≡ front ++ back
  of_front : terminals_of front ≡ a
  of_back : terminals_of back ≡ b

split : (ws : List PlacedTerminal) (a b : List PlainTerminal) → terminals_of ws ≡ a ++ b → Parts ws a b
split ws [] b e = record { front = []; back = ws; is = refl; of_front = refl; of_back = e }
split [] (s ∷ a) b e = cc
split (w ∷ ws) (s ∷ a) b e =
    let same : w.terminal ≡ s = cc in
    let r = split ws a b (cc) in
    record {
      front = w ∷ r.front;
      back = r.back;
      is = ap (λ l. w ∷ l) r.is;
      of_front = ap (λ l. w.terminal ∷ l) r.of_front ∙ ap (λ y. y ∷ a) same;
      of_back = r.of_back;
    }

-- words with a terminal in front
record First (ws : List PlacedTerminal) (s : PlainTerminal) (b : List PlainTerminal) : Type 0 where
  at : ℕ
  rest : List PlacedTerminal
  is : ws ≡ terminal_at s at ∷ rest
  of_rest : terminals_of rest ≡ b

first : (ws : List PlacedTerminal) (s : PlainTerminal) (b : List PlainTerminal) → terminals_of ws ≡ s ∷ b → First ws s b
first [] s b e = cc
first (w ∷ ws) s b e = let same : w.terminal ≡ s = cc in record { at = w.at; rest = ws; is = ap (λ y. terminal_at y w.at ∷ ws) same; of_rest = cc }

-- words with one terminal between two lists
record Between2 (ws : List PlacedTerminal) (a : List PlainTerminal) (s : PlainTerminal) (b : List PlainTerminal) : Type 0 where
  front : List PlacedTerminal
  at : ℕ
  back : List PlacedTerminal
  is : ws ≡ front ++ terminal_at s at ∷ back
  of_front : terminals_of front ≡ a
  of_back : terminals_of back ≡ b

between2 : (ws : List PlacedTerminal) (a : List PlainTerminal) (s : PlainTerminal) (b : List PlainTerminal) → terminals_of ws ≡ a ++ s ∷ b → Between2 ws a s b
between2 ws a s b e =
    let p = split ws a (s ∷ b) e in
    let q = first p.back s b p.of_back in
    record { front = p.front; at = q.at; back = q.rest; is = p.is ∙ ap (λ l. p.front ++ l) q.is; of_front = p.of_front; of_back = q.of_rest }

no_words : (ws : List PlacedTerminal) → terminals_of ws ≡ [] → ws ≡ []
no_words [] h = refl
no_words (w ∷ ws) h = cc

along : {k : ℕ} {ts us : List PlacedTerminal} {t : PlainTree} → us ≡ ts → Spells k ts t → Spells k us t
along {k} {ts} {us} {t} e s = subst (λ l. Spells k l t) (sym e) s

-- the words spell the tree up to places
pub record Again (k : ℕ) (ws : List PlacedTerminal) (t : PlainTree) : Type 0 where
  pub tree : PlainTree
  pub spells : Spells k ws tree
  pub same : unplaced tree ≡ unplaced t

-- the tree's text is one of terminals, and words of these terminals spell the tree up to places
pub record Printed (t : PlainTree) : Type 0 where
  pub chunk : Chunk (source t)
  pub again : (us : List PlacedTerminal) → terminals_of us ≡ chunk.first ∷ chunk.rest → Again (level t) us t

-- the same in a place that wants a level
record PrintedAt (k : ℕ) (t : PlainTree) : Type 0 where
  chunk : Chunk (placed k (part_of t))
  again : (us : List PlacedTerminal) → terminals_of us ≡ chunk.first ∷ chunk.rest → Again k us t

at_level : (k : ℕ) (t : PlainTree) → Printed t → PrintedAt k t
at_level k t p = of (nat_lt (level t) k) refl
  where
    bare : nat_lt (level t) k ≡ false → PrintedAt k t
    bare e = record {
      chunk = chunk_as (sym (cond-false (nat_lt (level t) k) (codes "(" ++ source t ++ codes ")") (source t) e)) p.chunk;
      again = λ us h. let a = p.again us h in record { tree = a.tree; spells = looser a.spells k (ltb-false (level t) k e); same = a.same };
    }

    inside : nat_lt (level t) k ≡ true → PrintedAt k t
    inside e = record {
      chunk = chunk_as (sym (cond-true (nat_lt (level t) k) (codes "(" ++ source t ++ codes ")") (source t) e)) (closed open_good close_good p.chunk);
      again = λ us h.
          let f = first us terminal.Open (p.chunk.first ∷ (p.chunk.rest ++ terminal.Close ∷ [])) h in
          let m = between2 f.rest (p.chunk.first ∷ p.chunk.rest) terminal.Close [] f.of_rest in
          let a = p.again m.front m.of_front in
          let all : us ≡ terminal_at terminal.Open f.at ∷ (m.front ++ terminal_at terminal.Close m.at ∷ []) =
          f.is ∙ ap (λ l. terminal_at terminal.Open f.at ∷ l) m.is
          ∙ ap (λ l. terminal_at terminal.Open f.at ∷ (m.front ++ terminal_at terminal.Close m.at ∷ l)) (no_words m.back m.of_back) in
          record { tree = a.tree; spells = along all (Grammar.spells_inner m.at (looser a.spells 0 zero-le)); same = a.same };
    }

    of : (b : Bool) → nat_lt (level t) k ≡ b → PrintedAt k t
    of true e = inside e
    of false e = bare e

-- the operators stand with blanks
between_plain : (b : Operator) → as_form Between b ≡ Some b → IsPlain (terminal_of b)
between_plain b w = record { opens = not_open b; closes = not_closer b; calls = between_not_callable b w; good = operator_good b }

before_plain : (u : Operator) → as_form Before u ≡ Some u → IsPlain (terminal_of u)
before_plain u w = record { opens = not_open u; closes = not_closer u; calls = before_not_callable u w; good = operator_good u }

plain_if : IsPlain terminal.If
plain_if = record { opens = refl; closes = refl; calls = refl; good = if_good }

plain_then : IsPlain terminal.Then
plain_then = record { opens = refl; closes = refl; calls = refl; good = then_good }

plain_else : IsPlain terminal.Else
plain_else = record { opens = refl; closes = refl; calls = refl; good = else_good }

plain_fi : IsPlain terminal.Fi
plain_fi = record { opens = refl; closes = refl; calls = refl; good = fi_good }

plain_equals : IsPlain terminal.Equals
plain_equals = record { opens = refl; closes = refl; calls = refl; good = equals_good }

plain_is : IsPlain terminal.Is
plain_is = record { opens = refl; closes = refl; calls = refl; good = is_good }

plain_current : IsPlain terminal.Current
plain_current = record { opens = refl; closes = refl; calls = refl; good = current_good }

-- The forms.
print_const : (at : ℕ) (v : PlainValue) → Good (terminal.Const v) → Printed (form at (const v) no_trees)
unfolding source
print_const at v g = record {
  chunk = single (terminal.Const v) refl refl g;
  again = λ us h.
      let f = first us (terminal.Const v) [] h in
      record {
        tree = form f.at (const v) no_trees;
        spells = along (f.is ∙ ap (λ l. terminal_at (terminal.Const v) f.at ∷ l) (no_words f.rest f.of_rest)) Grammar.spells_const;
        same = refl;
      };
}

print_name : (at : ℕ) (n : List ℕ) → Good (terminal.Name n) → Printed (name at n)
unfolding source
print_name at n g = record {
  chunk = single (terminal.Name n) refl refl g;
  again = λ us h.
      let f = first us (terminal.Name n) [] h in
      record {
        tree = name f.at n;
        spells = along (f.is ∙ ap (λ l. terminal_at (terminal.Name n) f.at ∷ l) (no_words f.rest f.of_rest)) Grammar.spells_name;
        same = refl;
      };
}

between_text : (b : Operator) → as_form Between b ≡ Some b → (at : ℕ) (x y : PlainTree)
    → placed (Grammar.left b) (part_of x) ++ 32 ∷ (terminal_text (terminal_of b) ++ 32 ∷ placed (Grammar.right b) (part_of y))
    ≡ source (form at (head b) (tree x (tree y no_trees)))
unfolding source
between_text b w at x y =
    sym (ap (λ s. form_text s (part_of x ∷ part_of y ∷ [])) (style-between b w) ∙ simp append_assoc)

print_between : (b : Operator) → as_form Between b ≡ Some b → (at : ℕ) (x y : PlainTree) → Printed x → Printed y
    → Printed (form at (head b) (tree x (tree y no_trees)))
print_between b w at x y px py =
    let l = at_level (Grammar.left b) x px in
    let r = at_level (Grammar.right b) y py in
    record {
      chunk = chunk_as (between_text b w at x y) (operated (terminal_of b) (between_plain b w) l.chunk r.chunk);
      again = λ us h.
          let m = between2 us (l.chunk.first ∷ l.chunk.rest) (terminal_of b) (r.chunk.first ∷ r.chunk.rest) h in
          let i = l.again m.front m.of_front in
          let j = r.again m.back m.of_back in
          record {
            tree = form m.at (head b) (tree i.tree (tree j.tree no_trees));
            spells = along m.is (Grammar.spells_infix (terminal_of b) b (terminal_is Between b w) (omega (arith, ap style_level (style-between b w))) i.spells
                j.spells);
            same = ap (λ z. form 0 (head b) (tree z (tree (unplaced j.tree) no_trees))) i.same
                ∙ ap (λ z. form 0 (head b) (tree (unplaced x) (tree z no_trees))) j.same;
          };
    }

before_text : (u : Operator) → as_form Before u ≡ Some u → (at : ℕ) (x : PlainTree)
    → terminal_text (terminal_of u) ++ 32 ∷ placed (Grammar.level_of u) (part_of x) ≡ source (form at (head u) (tree x no_trees))
unfolding source
before_text u w at x = sym (ap (λ s. form_text s (part_of x ∷ [])) (style-before u w) ∙ simp append_assoc)

print_before : (u : Operator) → as_form Before u ≡ Some u → (at : ℕ) (x : PlainTree) → Printed x → Printed (form at (head u) (tree x no_trees))
print_before u w at x px =
    let r = at_level (Grammar.level_of u) x px in
    record {
      chunk = chunk_as (before_text u w at x) (led (terminal_of u) (before_plain u w) r.chunk);
      again = λ us h.
          let f = first us (terminal_of u) (r.chunk.first ∷ r.chunk.rest) h in
          let i = r.again f.rest f.of_rest in
          record {
            tree = form f.at (head u) (tree i.tree no_trees);
            spells = along f.is (Grammar.spells_prefix (terminal_of u) u (terminal_is Before u w) (omega (arith, ap style_level (style-before u w))) i.spells);
            same = ap (λ z. form 0 (head u) (tree z no_trees)) i.same;
          };
    }

if_text : (at : ℕ) (x y z : PlainTree)
    → terminal_text
    terminal.If ++ 32 ∷ (source x ++ 32 ∷ (terminal_text
    terminal.Then ++ 32 ∷ (source y ++ 32 ∷ (terminal_text terminal.Else ++ 32 ∷ (source z ++ 32 ∷ terminal_text terminal.Fi)))))
    ≡ source (form at choose (tree x (tree y (tree z no_trees))))
unfolding source
if_text at x y z = sym (simp append_assoc)

print_if : (at : ℕ) (x y z : PlainTree) → Printed x → Printed y → Printed z → Printed (form at choose (tree x (tree y (tree z no_trees))))
print_if at x y z px py pz = record {
  chunk = chunk_as (if_text at x y z) (led terminal.If plain_if
      (operated terminal.Then plain_then px.chunk (operated terminal.Else plain_else py.chunk (trailed terminal.Fi plain_fi pz.chunk))));
  again = λ us h.
      let xs = px.chunk.first ∷ px.chunk.rest in
      let ys = py.chunk.first ∷ py.chunk.rest in
      let zs = pz.chunk.first ∷ pz.chunk.rest in
      let f = first us terminal.If (xs ++ terminal.Then ∷ (ys ++ terminal.Else ∷ (zs ++ terminal.Fi ∷ []))) h in
      let a = between2 f.rest xs terminal.Then (ys ++ terminal.Else ∷ (zs ++ terminal.Fi ∷ [])) f.of_rest in
      let b = between2 a.back ys terminal.Else (zs ++ terminal.Fi ∷ []) a.of_back in
      let c = between2 b.back zs terminal.Fi [] b.of_back in
      let i = px.again a.front a.of_front in
      let j = py.again b.front b.of_front in
      let k = pz.again c.front c.of_front in
      let is = f.is ∙ ap (λ l. terminal_at terminal.If f.at ∷ l)
      (a.is ∙ ap (λ l. a.front ++ terminal_at terminal.Then a.at ∷ l) (b.is ∙ ap (λ l. b.front ++ terminal_at terminal.Else b.at ∷ l)
      (c.is ∙ ap (λ l. c.front ++ terminal_at terminal.Fi c.at ∷ l) (no_words c.back c.of_back)))) in
      record {
        tree = form f.at choose (tree i.tree (tree j.tree (tree k.tree no_trees)));
        spells = along is (Grammar.spells_if a.at b.at c.at (looser i.spells 0 zero-le) (looser j.spells 0 zero-le) (looser k.spells 0 zero-le));
        same =
            ap (λ w. form 0 choose (tree w (tree (unplaced j.tree) (tree (unplaced k.tree) no_trees)))) i.same
            ∙ ap (λ w. form 0 choose (tree (unplaced x) (tree w (tree (unplaced k.tree) no_trees)))) j.same
            ∙ ap (λ w. form 0 choose (tree (unplaced x) (tree (unplaced y) (tree w no_trees)))) k.same;
      };
}

-- Arguments.
pub record AgainArgs (ws : List PlacedTerminal) (all : PlainTrees) : Type 0 where
  pub args : PlainTrees
  pub spells : SpellsArgs ws args
  pub same : all_unplaced args ≡ all_unplaced all

pub record PrintedArgs (all : PlainTrees) : Type 0 where
  pub chunk : Chunk (parted (texts (parts all)))
  pub again : (us : List PlacedTerminal) → terminals_of us ≡ chunk.first ∷ chunk.rest → AgainArgs us all

count-unplaced : (all : PlainTrees) → count (all_unplaced all) ≡ count all
count-unplaced no_trees = refl
count-unplaced (tree t ts) = ap (λ n. n + 1) (count-unplaced ts)

call_text : (at : ℕ) (n : List ℕ) (all : PlainTrees) → n ++ 40 ∷ (parted (texts (parts all)) ++ 41 ∷ []) ≡ source (call at n all)
unfolding source
call_text at n all = sym (simp append_assoc)

print_call : (at : ℕ) (n : List ℕ) (all : PlainTrees) → Good (terminal.Name n) → PrintedArgs all → Printed (call at n all)
print_call at n all g pa = record {
  chunk = chunk_as (call_text at n all) (called (terminal.Name n) refl refl g open_good close_good pa.chunk);
  again = λ us h.
      let xs = pa.chunk.first ∷ pa.chunk.rest in
      let f = first us (terminal.Name n) (terminal.Open ∷ (xs ++ terminal.Close ∷ [])) h in
      let o = first f.rest terminal.Open (xs ++ terminal.Close ∷ []) f.of_rest in
      let m = between2 o.rest xs terminal.Close [] o.of_rest in
      let a = pa.again m.front m.of_front in
      let is = f.is ∙ ap (λ l. terminal_at (terminal.Name n) f.at ∷ l)
      (o.is ∙ ap (λ l. terminal_at terminal.Open o.at ∷ l) (m.is ∙ ap (λ l. m.front ++ terminal_at terminal.Close m.at ∷ l) (no_words m.back m.of_back))) in
      record { tree = call f.at n a.args; spells = along is (Grammar.spells_call m.at a.spells); same = ap (call 0 n) a.same };
}

operated_text : (at : ℕ) (c : Operator) → as_form Called c ≡ Some c → (all : PlainTrees)
    → terminal_text (terminal_of c) ++ 40 ∷ (parted (texts (parts all)) ++ 41 ∷ []) ≡ source (form at (head c) all)
unfolding source
operated_text at c w all = sym (ap (λ s. form_text s (parts all)) (style-called c w) ∙ simp append_assoc)

print_operated : (at : ℕ) (c : Operator) → as_form Called c ≡ Some c → (all : PlainTrees) → count all ≡ arity_of c → PrintedArgs all
    → Printed (form at (head c) all)
print_operated at c w all n pa = record {
  chunk = chunk_as (operated_text at c w all) (called (terminal_of c) (callable c w) (not_closer c) (operator_good c) open_good close_good pa.chunk);
  again = λ us h.
      let xs = pa.chunk.first ∷ pa.chunk.rest in
      let f = first us (terminal_of c) (terminal.Open ∷ (xs ++ terminal.Close ∷ [])) h in
      let o = first f.rest terminal.Open (xs ++ terminal.Close ∷ []) f.of_rest in
      let m = between2 o.rest xs terminal.Close [] o.of_rest in
      let a = pa.again m.front m.of_front in
      let is = f.is ∙ ap (λ l. terminal_at (terminal_of c) f.at ∷ l)
      (o.is ∙ ap (λ l. terminal_at terminal.Open o.at ∷ l) (m.is ∙ ap (λ l. m.front ++ terminal_at terminal.Close m.at ∷ l) (no_words m.back m.of_back))) in
      let fits : count a.args ≡ arity_of c = sym (count-unplaced a.args) ∙ ap count a.same ∙ count-unplaced all ∙ n in
      record {
        tree = form f.at (head c) a.args;
        spells = along is (Grammar.spells_called m.at (terminal_of c) c (terminal_is Called c w) fits a.spells);
        same = ap (form 0 (head c)) a.same;
      };
}

one_text : (x : PlainTree) → source x ≡ parted (texts (parts (tree x no_trees)))
unfolding source
one_text x = sym (append-nil (source x))

print_one : (x : PlainTree) → Printed x → PrintedArgs (tree x no_trees)
print_one x px = record {
  chunk = chunk_as (one_text x) px.chunk;
  again = λ us h.
      let a = px.again us h in
      record { args = tree a.tree no_trees; spells = Grammar.spells_one (looser a.spells 0 zero-le); same = ap (λ w. tree w no_trees) a.same };
}

data SomeTrees : PlainTrees → Type 0 where
  some_trees : {t : PlainTree} {ts : PlainTrees} → SomeTrees (tree t ts)

some_and : (all : PlainTrees) (y : PlainTree) → SomeTrees (trees_and all y)
some_and no_trees y = some_trees
some_and (tree t ts) y = some_trees

args_some : {xs : List PlacedTerminal} {all : PlainTrees} → SpellsArgs xs all → SomeTrees all
args_some (Grammar.spells_one sx) = some_trees
args_some (Grammar.spells_more p {all = all} {y = y} sa sy) = some_and all y

parted_more-and : (ts : PlainTrees) (y : PlainTree) → parted_more (texts (parts (trees_and ts y))) ≡ parted_more (texts (parts ts)) ++ 44 ∷ 32 ∷ source y
unfolding source
parted_more-and no_trees y = ap (λ l. 44 ∷ 32 ∷ l) (append-nil (source y))
parted_more-and (tree t ts) y =
    ap (λ l. 44 ∷ 32 ∷ (source t ++ l)) (parted_more-and ts y)
    ∙ ap (λ l. 44 ∷ 32 ∷ l) (sym (append_assoc (source t) (parted_more (texts (parts ts))) (44 ∷ 32 ∷ source y)))

parted-and : (all : PlainTrees) (y : PlainTree) → SomeTrees all → parted (texts (parts all)) ++ 44 ∷ 32 ∷ source y ≡ parted (texts (parts (trees_and all y)))
unfolding source
parted-and (tree t ts) y some =
    append_assoc (source t) (parted_more (texts (parts ts))) (44 ∷ 32 ∷ source y) ∙ ap (λ l. source t ++ l) (sym (parted_more-and ts y))
parted-and no_trees y some = elim some [ ]

all_unplaced-and : (all : PlainTrees) (y : PlainTree) → all_unplaced (trees_and all y) ≡ trees_and (all_unplaced all) (unplaced y)
all_unplaced-and no_trees y = refl
all_unplaced-and (tree t ts) y = ap (tree (unplaced t)) (all_unplaced-and ts y)

print_more : (all : PlainTrees) (y : PlainTree) → SomeTrees all → PrintedArgs all → Printed y → PrintedArgs (trees_and all y)
print_more all y some pa py = record {
  chunk = chunk_as (parted-and all y some) (with_comma comma_good pa.chunk py.chunk);
  again = λ us h.
      let m = between2 us (pa.chunk.first ∷ pa.chunk.rest) terminal.Comma (py.chunk.first ∷ py.chunk.rest) h in
      let a = pa.again m.front m.of_front in
      let i = py.again m.back m.of_back in
      record {
        args = trees_and a.args i.tree;
        spells = subst (λ l. SpellsArgs l (trees_and a.args i.tree)) (sym m.is) (Grammar.spells_more m.at a.spells (looser i.spells 0 zero-le));
        same = all_unplaced-and a.args i.tree ∙ ap (λ w. trees_and w (unplaced i.tree)) a.same ∙ ap (trees_and (all_unplaced all)) i.same
            ∙ sym (all_unplaced-and all y);
      };
}

-- Parameters.
pub record AgainNames (ws : List PlacedTerminal) (all : List Parameter) : Type 0 where
  pub parameters : List Parameter
  pub spells : SpellsNames ws parameters
  pub same : names_of parameters ≡ names_of all

pub record PrintedNames (all : List Parameter) : Type 0 where
  pub chunk : Chunk (parted (names_of all))
  pub again : (us : List PlacedTerminal) → terminals_of us ≡ chunk.first ∷ chunk.rest → AgainNames us all

print_first_name : (at : ℕ) (n : List ℕ) → Good (terminal.Name n) → PrintedNames (parameter at n ∷ [])
print_first_name at n g = record {
  chunk = chunk_as (sym (append-nil n)) (single (terminal.Name n) refl refl g);
  again = λ us h.
      let f = first us (terminal.Name n) [] h in
      record {
        parameters = parameter f.at n ∷ [];
        spells = subst (λ l. SpellsNames l (parameter f.at n ∷ [])) (sym (f.is ∙ ap (λ l. terminal_at (terminal.Name n) f.at ∷ l) (no_words f.rest f.of_rest)))
            Grammar.spells_first_name;
        same = refl;
      };
}

data SomeNames : List Parameter → Type 0 where
  some_names : {p : Parameter} {ps : List Parameter} → SomeNames (p ∷ ps)

names_and : (all : List Parameter) (p : Parameter) → SomeNames (all ++ p ∷ [])
names_and [] p = some_names
names_and (q ∷ all) p = some_names

names_some : {xs : List PlacedTerminal} {all : List Parameter} → SpellsNames xs all → SomeNames all
names_some Grammar.spells_first_name = some_names
names_some (Grammar.spells_more_names p at n {all = all} sn) = names_and all (parameter at n)

more_names-and : (all : List Parameter) (at : ℕ) (n : List ℕ) → parted_more (names_of (all ++ parameter at n ∷ [])) ≡ parted_more (names_of all) ++ 44 ∷ 32 ∷ n
more_names-and [] at n = ap (λ l. 44 ∷ 32 ∷ l) (append-nil n)
more_names-and (p ∷ all) at n =
    ap (λ l. 44 ∷ 32 ∷ (p.name ++ l)) (more_names-and all at n)
    ∙ ap (λ l. 44 ∷ 32 ∷ l) (sym (append_assoc p.name (parted_more (names_of all)) (44 ∷ 32 ∷ n)))

parted_names-and : (all : List Parameter) (at : ℕ) (n : List ℕ) → SomeNames all
    → parted (names_of all) ++ 44 ∷ 32 ∷ n ≡ parted (names_of (all ++ parameter at n ∷ []))
parted_names-and (p ∷ all) at n some =
    append_assoc p.name (parted_more (names_of all)) (44 ∷ 32 ∷ n) ∙ ap (λ l. p.name ++ l) (sym (more_names-and all at n))
parted_names-and [] at n some = elim some [ ]

names_of-and : (all : List Parameter) (at : ℕ) (n : List ℕ) → names_of (all ++ parameter at n ∷ []) ≡ names_of all ++ n ∷ []
names_of-and [] at n = refl
names_of-and (p ∷ all) at n = ap (λ l. p.name ∷ l) (names_of-and all at n)

print_more_names : (all : List Parameter) (at : ℕ) (n : List ℕ) → SomeNames all → PrintedNames all → Good (terminal.Name n)
    → PrintedNames (all ++ parameter at n ∷ [])
print_more_names all at n some pn g = record {
  chunk = chunk_as (parted_names-and all at n some) (with_comma comma_good pn.chunk (single (terminal.Name n) refl refl g));
  again = λ us h.
      let m = between2 us (pn.chunk.first ∷ pn.chunk.rest) terminal.Comma (terminal.Name n ∷ []) h in
      let f = first m.back (terminal.Name n) [] m.of_back in
      let a = pn.again m.front m.of_front in
      let is = m.is ∙ ap (λ l. m.front ++ terminal_at terminal.Comma m.at ∷ l)
      (f.is ∙ ap (λ l. terminal_at (terminal.Name n) f.at ∷ l) (no_words f.rest f.of_rest)) in
      record {
        parameters = a.parameters ++ parameter f.at n ∷ [];
        spells = subst (λ l. SpellsNames l (a.parameters ++ parameter f.at n ∷ [])) (sym is) (Grammar.spells_more_names m.at f.at n a.spells);
        same = names_of-and a.parameters f.at n ∙ ap (λ l. l ++ n ∷ []) a.same ∙ sym (names_of-and all at n);
      };
}

-- Definitions.
abbrev defs_append : PlainDefs → PlainDefs → PlainDefs
defs_append no_defs es = es
defs_append (defines at n t ds) es = defines at n t (defs_append ds es)
defs_append (defines_function at n ns ats t ds) es = defines_function at n ns ats t (defs_append ds es)
defs_append (defines_current at n t ds) es = defines_current at n t (defs_append ds es)

abbrev one_def : ℕ → List ℕ → Defined → PlainTree → PlainDefs
one_def at n h t = def_before at n h t no_defs

defs_unplaced-and : (ds : PlainDefs) (at : ℕ) (n : List ℕ) (h : Defined) (t : PlainTree)
    → defs_unplaced (defs_and ds at n h t) ≡ defs_append (defs_unplaced ds) (defs_unplaced (one_def at n h t))
defs_unplaced-and no_defs at n h t = refl
defs_unplaced-and (defines a m s ds) at n h t = ap (defines 0 m (unplaced s)) (defs_unplaced-and ds at n h t)
defs_unplaced-and (defines_function a m ns ats s ds) at n h t = ap (defines_function 0 m ns [] (unplaced s)) (defs_unplaced-and ds at n h t)
defs_unplaced-and (defines_current a m s ds) at n h t = ap (defines_current 0 m (unplaced s)) (defs_unplaced-and ds at n h t)

definitions-and : (ds : PlainDefs) (at : ℕ) (n : List ℕ) (h : Defined) (t : PlainTree)
    → definitions (defs_and ds at n h t) ≡ definitions ds ++ definitions (one_def at n h t)
unfolding definitions
definitions-and no_defs at n h t = refl
definitions-and (defines a m s ds) at n h t =
    ap (λ l. (m ++ codes " = " ++ source s ++ codes "; ") ++ l) (definitions-and ds at n h t)
    ∙ sym (append_assoc (m ++ codes " = " ++ source s ++ codes "; ") (definitions ds) (definitions (one_def at n h t)))
definitions-and (defines_function a m ns ats s ds) at n h t =
    ap (λ l. (m ++ codes "(" ++ parted ns ++ codes ") = " ++ source s ++ codes "; ") ++ l) (definitions-and ds at n h t)
    ∙ sym (append_assoc (m ++ codes "(" ++ parted ns ++ codes ") = " ++ source s ++ codes "; ") (definitions ds) (definitions (one_def at n h t)))
definitions-and (defines_current a m s ds) at n h t =
    ap (λ l. (m ++ codes " is current " ++ source s ++ codes "; ") ++ l) (definitions-and ds at n h t)
    ∙ sym (append_assoc (m ++ codes " is current " ++ source s ++ codes "; ") (definitions ds) (definitions (one_def at n h t)))

pub record AgainDefs (ws : List PlacedTerminal) (all : PlainDefs) : Type 0 where
  pub defs : PlainDefs
  pub spells : SpellsDefs ws defs
  pub same : defs_unplaced defs ≡ defs_unplaced all

pub record PrintedDefs (all : PlainDefs) : Type 0 where
  pub terminals : Definitions (definitions all)
  pub again : (us : List PlacedTerminal) → terminals_of us ≡ terminals.all → AgainDefs us all

abbrev definitions_as : {xs ys : List ℕ} → xs ≡ ys → Definitions xs → Definitions ys
definitions_as e d = record {
  all = d.all;
  text = λ l s more o p c. d.text l s more o p c ∙ ap (λ t. 32 ∷ (t ++ (terminal_text s ++ after s more))) e;
  good = d.good;
}

print_none : PrintedDefs no_defs
unfolding definitions
print_none = record {
  terminals = no_definitions;
  again = λ us h. record { defs = no_defs; spells = subst (λ l. SpellsDefs l no_defs) (sym (no_words us h)) Grammar.spells_none; same = refl };
}

-- one definition, behind others
record AgainDef (ws : List PlacedTerminal) (n : List ℕ) (h : Defined) (y : PlainTree) : Type 0 where
  at : ℕ
  header : Defined
  right : PlainTree
  spells : (ds : List PlacedTerminal) (all : PlainDefs) → SpellsDefs ds all → SpellsDefs (ds ++ ws) (defs_and all at n header right)
  same : defs_unplaced (one_def at n header right) ≡ defs_unplaced (one_def 0 n h y)

record PrintedDef (at : ℕ) (n : List ℕ) (h : Defined) (y : PlainTree) : Type 0 where
  bytes : List ℕ
  chunk : Chunk bytes
  begins : is_open chunk.first ≡ false
  text : bytes ++ 32 ∷ [] ≡ definitions (one_def at n h y)
  again : (us : List PlacedTerminal) → terminals_of us ≡ chunk.first ∷ chunk.rest → AgainDef us n h y

placeless : (at : ℕ) (n : List ℕ) (h : Defined) (y : PlainTree) → defs_unplaced (one_def 0 n h y) ≡ defs_unplaced (one_def at n h y)
placeless at n Plain y = refl
placeless at n (Function ps) y = refl
placeless at n Current y = refl

print_def : (all : PlainDefs) (at : ℕ) (n : List ℕ) (h : Defined) (y : PlainTree) → PrintedDefs all → PrintedDef at n h y → PrintedDefs (defs_and all at n h y)
print_def all at n h y pd p = record {
  terminals = definitions_as (ap (λ l. definitions all ++ l) p.text ∙ sym (definitions-and all at n h y)) (and_definition pd.terminals p.chunk p.begins);
  again = λ us e.
      let s = split us pd.terminals.all (p.chunk.first ∷ p.chunk.rest) e in
      let d = pd.again s.front s.of_front in
      let i = p.again s.back s.of_back in
      record {
        defs = defs_and d.defs i.at n i.header i.right;
        spells = subst (λ l. SpellsDefs l (defs_and d.defs i.at n i.header i.right)) (sym s.is) (i.spells s.front d.defs d.spells);
        same =
            defs_unplaced-and d.defs i.at n i.header i.right
            ∙ ap (λ w. defs_append w (defs_unplaced (one_def i.at n i.header i.right))) d.same
            ∙ ap (defs_append (defs_unplaced all)) (i.same ∙ placeless at n h y)
            ∙ sym (defs_unplaced-and all at n h y);
      };
}

plain_text : (at : ℕ) (n : List ℕ) (y : PlainTree)
    → ((n ++ 32 ∷ (terminal_text terminal.Equals ++ 32 ∷ source y)) ++ terminal_text terminal.Semicolon) ++ 32 ∷ [] ≡ definitions (one_def at n Plain y)
unfolding definitions
plain_text at n y = simp (append_assoc, append-nil)

plain_def : (at : ℕ) (n : List ℕ) (y : PlainTree) → Good (terminal.Name n) → Printed y → PrintedDef at n Plain y
plain_def at n y g py = record {
  bytes = (n ++ 32 ∷ (terminal_text terminal.Equals ++ 32 ∷ source y)) ++ terminal_text terminal.Semicolon;
  chunk = ended terminal.Semicolon refl refl semicolon_good (operated terminal.Equals plain_equals (single (terminal.Name n) refl refl g) py.chunk);
  begins = refl;
  text = plain_text at n y;
  again = λ us h.
      let ys = py.chunk.first ∷ py.chunk.rest in
      let f = first us (terminal.Name n) (terminal.Equals ∷ (ys ++ terminal.Semicolon ∷ [])) h in
      let e = first f.rest terminal.Equals (ys ++ terminal.Semicolon ∷ []) f.of_rest in
      let o = between2 e.rest ys terminal.Semicolon [] e.of_rest in
      let i = py.again o.front o.of_front in
      let is : us ≡ terminal_at (terminal.Name n) f.at ∷ terminal_at terminal.Equals e.at ∷ (o.front ++ terminal_at terminal.Semicolon o.at ∷ []) =
      f.is ∙ ap (λ l. terminal_at (terminal.Name n) f.at ∷ l)
      (e.is ∙ ap (λ l. terminal_at terminal.Equals e.at ∷ l)
      (o.is ∙ ap (λ l. o.front ++ terminal_at terminal.Semicolon o.at ∷ l) (no_words o.back o.of_back))) in
      record {
        at = f.at;
        header = Plain;
        right = i.tree;
        spells = λ ds all s. subst (λ l. SpellsDefs (ds ++ l) (defs_and all f.at n Plain i.tree)) (sym is)
            (Grammar.spells_def f.at n e.at o.at s (looser i.spells 0 zero-le));
        same = ap (λ w. defines 0 n w no_defs) i.same;
      };
}

current_text : (at : ℕ) (n : List ℕ) (y : PlainTree)
    → ((n ++ 32 ∷ (terminal_text terminal.Is ++ 32 ∷ (terminal_text terminal.Current ++ 32 ∷ source y))) ++ terminal_text
    terminal.Semicolon) ++ 32 ∷ [] ≡ definitions (one_def at n Current y)
unfolding definitions
current_text at n y = simp (append_assoc, append-nil)

current_def : (at : ℕ) (n : List ℕ) (y : PlainTree) → Good (terminal.Name n) → Printed y → PrintedDef at n Current y
current_def at n y g py = record {
  bytes = (n ++ 32 ∷ (terminal_text terminal.Is ++ 32 ∷ (terminal_text terminal.Current ++ 32 ∷ source y))) ++ terminal_text terminal.Semicolon;
  chunk = ended terminal.Semicolon refl refl semicolon_good
      (operated terminal.Is plain_is (single (terminal.Name n) refl refl g) (led terminal.Current plain_current py.chunk));
  begins = refl;
  text = current_text at n y;
  again = λ us h.
      let ys = py.chunk.first ∷ py.chunk.rest in
      let f = first us (terminal.Name n) (terminal.Is ∷ terminal.Current ∷ (ys ++ terminal.Semicolon ∷ [])) h in
      let e = first f.rest terminal.Is (terminal.Current ∷ (ys ++ terminal.Semicolon ∷ [])) f.of_rest in
      let c = first e.rest terminal.Current (ys ++ terminal.Semicolon ∷ []) e.of_rest in
      let o = between2 c.rest ys terminal.Semicolon [] c.of_rest in
      let i = py.again o.front o.of_front in
      let is : us ≡ terminal_at (terminal.Name n) f.at ∷ terminal_at terminal.Is e.at ∷ terminal_at terminal.Current
      c.at ∷ (o.front ++ terminal_at terminal.Semicolon o.at ∷ []) =
      f.is ∙ ap (λ l. terminal_at (terminal.Name n) f.at ∷ l)
      (e.is ∙ ap (λ l. terminal_at terminal.Is e.at ∷ l) (c.is ∙ ap (λ l. terminal_at terminal.Current c.at ∷ l)
      (o.is ∙ ap (λ l. o.front ++ terminal_at terminal.Semicolon o.at ∷ l) (no_words o.back o.of_back)))) in
      record {
        at = f.at;
        header = Current;
        right = i.tree;
        spells = λ ds all s. subst (λ l. SpellsDefs (ds ++ l) (defs_and all f.at n Current i.tree)) (sym is)
            (Grammar.spells_current f.at n e.at c.at o.at s (looser i.spells 0 zero-le));
        same = ap (λ w. defines_current 0 n w no_defs) i.same;
      };
}

function_text : (at : ℕ) (n : List ℕ) (ps : List Parameter) (y : PlainTree)
    → (((n ++ 40 ∷ (parted (names_of ps) ++ 41 ∷ [])) ++ 32 ∷ (terminal_text terminal.Equals ++ 32 ∷ source y)) ++ terminal_text
    terminal.Semicolon) ++ 32 ∷ [] ≡ definitions (one_def at n (Function ps) y)
unfolding definitions
function_text at n ps y = simp (append_assoc, append-nil)

regroup : (p q : List PlainTerminal) (c e s : PlainTerminal) → ((p ++ c ∷ []) ++ e ∷ q) ++ s ∷ [] ≡ p ++ c ∷ e ∷ (q ++ s ∷ [])
regroup p q c e s = simp append_assoc

function_def : (at : ℕ) (n : List ℕ) (ps : List Parameter) (y : PlainTree) → Good (terminal.Name n) → PrintedNames ps → Printed y
    → PrintedDef at n (Function ps) y
function_def at n ps y g pn py = record {
  bytes = ((n ++ 40 ∷ (parted (names_of ps) ++ 41 ∷ [])) ++ 32 ∷ (terminal_text terminal.Equals ++ 32 ∷ source y)) ++ terminal_text terminal.Semicolon;
  chunk = ended terminal.Semicolon refl refl semicolon_good
      (operated terminal.Equals plain_equals (called (terminal.Name n) refl refl g open_good close_good pn.chunk) py.chunk);
  begins = refl;
  text = function_text at n ps y;
  again = λ us h.
      let xs = pn.chunk.first ∷ pn.chunk.rest in
      let ys = py.chunk.first ∷ py.chunk.rest in
      let f = first us (terminal.Name n) (terminal.Open ∷ (xs ++ terminal.Close ∷ terminal.Equals ∷ (ys ++ terminal.Semicolon ∷ [])))
      (h ∙ ap (λ l. terminal.Name n ∷ terminal.Open ∷ l) (regroup xs ys terminal.Close terminal.Equals terminal.Semicolon)) in
      let o = first f.rest terminal.Open (xs ++ terminal.Close ∷ terminal.Equals ∷ (ys ++ terminal.Semicolon ∷ [])) f.of_rest in
      let m = between2 o.rest xs terminal.Close (terminal.Equals ∷ (ys ++ terminal.Semicolon ∷ [])) o.of_rest in
      let e = first m.back terminal.Equals (ys ++ terminal.Semicolon ∷ []) m.of_back in
      let q = between2 e.rest ys terminal.Semicolon [] e.of_rest in
      let a = pn.again m.front m.of_front in
      let i = py.again q.front q.of_front in
      let is : us ≡ terminal_at (terminal.Name n) f.at ∷ terminal_at terminal.Open
      o.at ∷ (m.front ++ terminal_at terminal.Close m.at ∷ terminal_at terminal.Equals e.at ∷ (q.front ++ terminal_at terminal.Semicolon q.at ∷ [])) =
      f.is ∙ ap (λ l. terminal_at (terminal.Name n) f.at ∷ l)
      (o.is ∙ ap (λ l. terminal_at terminal.Open o.at ∷ l) (m.is ∙ ap (λ l. m.front ++ terminal_at terminal.Close m.at ∷ l)
      (e.is ∙ ap (λ l. terminal_at terminal.Equals e.at ∷ l)
      (q.is ∙ ap (λ l. q.front ++ terminal_at terminal.Semicolon q.at ∷ l) (no_words q.back q.of_back))))) in
      record {
        at = f.at;
        header = Function a.parameters;
        right = i.tree;
        spells = λ ds all s. subst (λ l. SpellsDefs (ds ++ l) (defs_and all f.at n (Function a.parameters) i.tree)) (sym is)
            (Grammar.spells_function f.at n o.at m.at e.at q.at s a.spells (looser i.spells 0 zero-le));
        same = ap (λ l. defines_function 0 n l [] (unplaced i.tree) no_defs) a.same ∙ ap (λ w. defines_function 0 n (names_of ps) [] w no_defs) i.same;
      };
}

-- A block.
block_text : (at : ℕ) (x : PlainTree) (all : PlainDefs)
    → source x ++ 32 ∷ (terminal_text terminal.Where ++ 32 ∷ (definitions all ++ terminal_text terminal.End)) ≡ source (block at x all)
unfolding source
block_text at x all = sym (simp append_assoc)

print_block : (at : ℕ) (x : PlainTree) (all : PlainDefs) → Printed x → PrintedDefs all → Printed (block at x all)
print_block at x all px pd = record {
  chunk = chunk_as (block_text at x all) (blocked where_good end_good px.chunk pd.terminals);
  again = λ us h.
      let m = between2 us (px.chunk.first ∷ px.chunk.rest) terminal.Where (pd.terminals.all ++ terminal.End ∷ []) h in
      let n = between2 m.back pd.terminals.all terminal.End [] m.of_back in
      let i = px.again m.front m.of_front in
      let d = pd.again n.front n.of_front in
      let is = m.is ∙ ap (λ l. m.front ++ terminal_at terminal.Where m.at ∷ l)
      (n.is ∙ ap (λ l. n.front ++ terminal_at terminal.End n.at ∷ l) (no_words n.back n.of_back)) in
      record {
        tree = block m.at i.tree d.defs;
        spells = along is (Grammar.spells_block n.at zero-le (looser i.spells 0 zero-le) d.spells);
        same = ap (λ w. block 0 w (defs_unplaced d.defs)) i.same ∙ ap (block 0 (unplaced x)) d.same;
      };
}

-- Terminals that tokens stand for.
abbrev pub AllWritten : List PlacedTerminal → Type 0
AllWritten [] = Unit {0}
AllWritten (w ∷ ws) = IsWritten w.terminal × AllWritten ws

front : (a b : List PlacedTerminal) → AllWritten (a ++ b) → AllWritten a
front [] b h = tt
front (w ∷ a) b h = (h.0, front a b h.1)

back : (a b : List PlacedTerminal) → AllWritten (a ++ b) → AllWritten b
back [] b h = h
back (w ∷ a) b h = back a b h.1

module _ (law : TextIsRead) where
  print_names : {ws : List PlacedTerminal} {all : List Parameter} → SpellsNames ws all → AllWritten ws → PrintedNames all
  print_names (Grammar.spells_first_name {at = at} {n = n}) h = print_first_name at n (written_name_good n h.0)
  print_names (Grammar.spells_more_names p at n {xs = xs} {all = all} sn) h =
      print_more_names all at n (names_some sn) (print_names sn (front xs _ h))
      (written_name_good n (back xs (terminal_at terminal.Comma p ∷ terminal_at (terminal.Name n) at ∷ []) h).1.0)

  mutual
    pub print : {k : ℕ} {ws : List PlacedTerminal} {t : PlainTree} → Spells k ws t → AllWritten ws → Printed t
    print (Grammar.spells_const {at = at} {v = v}) h = print_const at v (const_good law v h.0)
    print (Grammar.spells_name {at = at} {n = n}) h = print_name at n (written_name_good n h.0)
    print (Grammar.spells_infix {at = at} {xs = xs} {ys = ys} {x = x} {y = y} s b is low sx sy) h =
        print_between b (stands_as Between s b is) at x y (print sx (front xs (terminal_at s at ∷ ys) h)) (print sy (back xs (terminal_at s at ∷ ys) h).1)
    print (Grammar.spells_prefix {at = at} {x = x} s u is low sx) h = print_before u (stands_as Before s u is) at x (print sx h.1)
    print (Grammar.spells_inner {p = p} q {xs = xs} sx) h = print sx (front xs (terminal_at terminal.Close q ∷ []) h.1)
    print (Grammar.spells_if {at = at} p q r {xs = xs} {ys = ys} {zs = zs} {x = x} {y = y} {z = z} sx sy sz) h =
        let zw = zs ++ terminal_at terminal.Fi r ∷ [] in
        let yw = ys ++ terminal_at terminal.Else q ∷ zw in
        let more = (back xs (terminal_at terminal.Then p ∷ yw) h.1).1 in
        print_if at x y z (print sx (front xs (terminal_at terminal.Then p ∷ yw) h.1)) (print sy (front ys (terminal_at terminal.Else q ∷ zw) more))
        (print sz (front zs (terminal_at terminal.Fi r ∷ []) (back ys (terminal_at terminal.Else q ∷ zw) more).1))
    print (Grammar.spells_call {at = at} {p = p} q {n = n} {xs = xs} {args = all} sa) h =
        print_call at n all (written_name_good n h.0) (print_args sa (front xs (terminal_at terminal.Close q ∷ []) h.1.1))
    print (Grammar.spells_called {at = at} {p = p} q s c {xs = xs} {args = all} is n sa) h =
        print_operated at c (stands_as Called s c is) all n (print_args sa (front xs (terminal_at terminal.Close q ∷ []) h.1.1))
    print (Grammar.spells_block {at = at} p {xs = xs} {ds = ds} {x = x} {all = all} low sx sd) h =
        print_block at x all (print sx (front xs (terminal_at terminal.Where at ∷ (ds ++ terminal_at terminal.End p ∷ [])) h))
        (print_defs sd (front ds (terminal_at terminal.End p ∷ []) (back xs (terminal_at terminal.Where at ∷ (ds ++ terminal_at terminal.End p ∷ [])) h).1))

    print_args : {ws : List PlacedTerminal} {all : PlainTrees} → SpellsArgs ws all → AllWritten ws → PrintedArgs all
    print_args (Grammar.spells_one {x = x} sx) h = print_one x (print sx h)
    print_args (Grammar.spells_more p {xs = xs} {ys = ys} {all = all} {y = y} sa sy) h =
        print_more all y (args_some sa) (print_args sa (front xs (terminal_at terminal.Comma p ∷ ys) h))
        (print sy (back xs (terminal_at terminal.Comma p ∷ ys) h).1)

    print_defs : {ws : List PlacedTerminal} {all : PlainDefs} → SpellsDefs ws all → AllWritten ws → PrintedDefs all
    print_defs Grammar.spells_none h = print_none
    print_defs (Grammar.spells_def at n p q {ds = ds} {ys = ys} {all = all} {y = y} sd sy) h =
        let w = back ds (terminal_at (terminal.Name n) at ∷ terminal_at terminal.Equals p ∷ (ys ++ terminal_at terminal.Semicolon q ∷ [])) h in
        print_def all at n Plain y
        (print_defs sd (front ds (terminal_at (terminal.Name n) at ∷ terminal_at terminal.Equals p ∷ (ys ++ terminal_at terminal.Semicolon q ∷ [])) h))
        (plain_def at n y (written_name_good n w.0) (print sy (front ys (terminal_at terminal.Semicolon q ∷ []) w.1.1)))
    print_defs (Grammar.spells_function at n o p q r {ds = ds} {ns = ns} {ys = ys} {all = all} {parameters = ps} {y = y} sd sn sy) h =
        let yw = ys ++ terminal_at terminal.Semicolon r ∷ [] in
        let dw = terminal_at (terminal.Name n) at ∷ terminal_at terminal.Open o ∷ (ns ++ terminal_at terminal.Close p ∷ terminal_at terminal.Equals q ∷ yw) in
        let w = back ds dw h in
        print_def all at n (Function ps) y (print_defs sd (front ds dw h))
        (function_def at n ps y (written_name_good n w.0) (print_names sn (front ns (terminal_at terminal.Close p ∷ terminal_at terminal.Equals q ∷ yw) w.1.1))
        (print sy (front ys (terminal_at terminal.Semicolon r ∷ []) (back ns (terminal_at terminal.Close p ∷ terminal_at terminal.Equals q ∷ yw) w.1.1).1.1)))
    print_defs (Grammar.spells_current at n o p q {ds = ds} {ys = ys} {all = all} {y = y} sd sy) h =
        let yw = ys ++ terminal_at terminal.Semicolon q ∷ [] in
        let dw = terminal_at (terminal.Name n) at ∷ terminal_at terminal.Is o ∷ terminal_at terminal.Current p ∷ yw in
        let w = back ds dw h in
        print_def all at n Current y (print_defs sd (front ds dw h))
        (current_def at n y (written_name_good n w.0) (print sy (front ys (terminal_at terminal.Semicolon q ∷ []) w.1.1.1)))
