-- Bytes that begin with lines of a text, and what goes on with them.
use Rattle.lucid_texts.proofs.Common.{◌≡◌, ℕ, ◌<◌, ◌≤◌, ◌+◌, List, [], ◌∷◌, ◌++◌, take, drop, length, refl, sym, ap, ◌∙◌, subst, arith, append_assoc, length-append, AllByRecursion, append-nil, HasNone, Lacks, text_of, whole_lines, CanGoOn, CannotGoOn, IsFirstWrongLine, ◌⊎◌, inl, inr, cases_order, take-take, take-append-drop, recursion_from_All}
use Rattle.lucid_texts.specs.TextLines.{IsLine, GoesOn}
use Rattle.lucid_texts.proofs.LineEnds.{whole_more, whole_none, whole-append, split_at, take_front, take_one_more, none_behind, ended-append}

-- lines without line ends
abbrev AreLines : List (List ℕ) → Type 0
AreLines ls = AllByRecursion IsLine ls

line_ends : (ls : List (List ℕ)) → AreLines ls → AllByRecursion (Lacks 10) ls
line_ends [] h = tt
line_ends (l ∷ ls) h = (h.0.1, line_ends ls h.1)

pub front_lines : (ls ms : List (List ℕ)) → AreLines (ls ++ ms) → AreLines ls
front_lines [] ms h = tt
front_lines (l ∷ ls) ms h = (h.0, front_lines ls ms h.1)

last_line : (ls : List (List ℕ)) (l : List ℕ) (ms : List (List ℕ)) → AreLines ((ls ++ l ∷ []) ++ ms) → IsLine l
last_line [] l ms h = h.0
last_line (x ∷ ls) l ms h = last_line ls l ms h.1

-- What is known of a family: no line of a text is empty or has a line end.
module _ (Is : List (List ℕ) → Type 0) (law : (ls : List (List ℕ)) → Is ls → AllByRecursion IsLine ls) where
  begun_lines : (ls : List (List ℕ)) → CanGoOn Is ls → AreLines ls
  begun_lines ls (more, h) = front_lines ls more (law (ls ++ more) h)

  -- a line with which a text goes on has a byte
  pub line_has : (ls : List (List ℕ)) (l : List ℕ) → CanGoOn Is (ls ++ l ∷ []) → 0 < length l
  line_has ls l (more, h) = (last_line ls l more (law ((ls ++ l ∷ []) ++ more) h)).0

  -- the whole lines of a text are its lines
  pub text_lines : (bytes : List ℕ) (ls : List (List ℕ)) → Is ls → bytes ≡ text_of ls → whole_lines bytes ≡ ls
  text_lines bytes ls h e =
      ap whole_lines (e ∙ sym (append-nil (text_of ls))) ∙ (whole-append ls [] (line_ends ls (law ls h)) ∙ append-nil ls)

  -- a text goes on with each of its lines
  text_goes_on : (bytes : List ℕ) (ls : List (List ℕ)) → Is ls → bytes ≡ text_of ls → (n : ℕ) → n ≤ length (whole_lines bytes) → GoesOn Is bytes n
  text_goes_on bytes ls h e n l = record {
    whole = l;
    can = (drop n (whole_lines bytes), subst Is (sym (text_lines bytes ls h e) ∙ split_at n (whole_lines bytes)) h);
  }

  module _ (bytes : List ℕ) (ls : List (List ℕ)) (rest : List ℕ) (begins : bytes ≡ text_of ls ++ rest) (can : CanGoOn Is ls) where
    lines_begun : whole_lines bytes ≡ ls ++ whole_lines rest
    lines_begun = ap whole_lines begins ∙ whole-append ls rest (line_ends ls (begun_lines ls can))

    -- a text goes on with the lines so far
    goes_so_far : GoesOn Is bytes (length ls)
    goes_so_far = record {
      whole = omega (arith, ap length lines_begun, length-append ls (whole_lines rest));
      can = subst (CanGoOn Is) (sym (ap (take (length ls)) lines_begun ∙ take_front ls (whole_lines rest))) can;
    }

    module _ (line behind : List ℕ) (cut : rest ≡ line ++ 10 ∷ behind) (lacks : Lacks 10 line) (cannot : CannotGoOn Is (ls ++ line ∷ [])) where
      one_more_line : whole_lines bytes ≡ ls ++ line ∷ whole_lines behind
      one_more_line = lines_begun ∙ ap (λ (ms : List (List ℕ)). ls ++ ms) (ap whole_lines cut ∙ whole_more line behind lacks)

      line_goes_nowhere : GoesOn Is bytes (length ls + 1) → ⊥
      line_goes_nowhere g = cannot (subst (CanGoOn Is) (ap (take (length ls + 1)) one_more_line ∙ take_one_more ls line (whole_lines behind)) g.can)

      refused_line_by : IsFirstWrongLine Is bytes (length ls + 1)
      refused_line_by = record {
        no_text = λ ms h e.
            line_goes_nowhere (text_goes_on bytes ms h e (length ls + 1)
            (omega (arith, ap length one_more_line, length-append ls (line ∷ whole_lines behind))));
        before = length ls;
        is = refl;
        goes = goes_so_far;
        ends = line_goes_nowhere;
      }

    module _ (lacks : Lacks 10 rest) where
      all_lines : whole_lines bytes ≡ ls
      all_lines = lines_begun ∙ (ap (λ (ms : List (List ℕ)). ls ++ ms) (whole_none rest lacks) ∙ append-nil ls)

      refused_end_by : (rest ≡ [] → Is ls → ⊥) → IsFirstWrongLine Is bytes (length ls + 1)
      refused_end_by h = record {
        no_text = λ ms d e.
            let same = sym (text_lines bytes ms d e) ∙ all_lines in
            h (none_behind (text_of ls) rest (sym begins ∙ (e ∙ ap text_of same))) (subst Is same d);
        before = length ls;
        is = refl;
        goes = goes_so_far;
        ends = λ g. let w = g.whole in omega (arith, w, ap length all_lines);
      }

  -- Bytes whose next line no text has there are refused at it.
  pub refused_line : (bytes : List ℕ) (ls : List (List ℕ)) (rest line behind : List ℕ) → bytes ≡ text_of ls ++ rest → CanGoOn Is ls → rest ≡ line ++ 10 ∷ behind
      → HasNone 10 line → CannotGoOn Is (ls ++ line ∷ []) → IsFirstWrongLine Is bytes (length ls + 1)
  refused_line bytes ls rest line behind b c e f h = refused_line_by bytes ls rest b c line behind e (recursion_from_All _ line f) h

  -- Bytes that end too early are refused at the line behind the last whole one.
  pub refused_end : (bytes : List ℕ) (ls : List (List ℕ)) (rest : List ℕ) → bytes ≡ text_of ls ++ rest → CanGoOn Is ls → HasNone 10 rest
      → (rest ≡ [] → Is ls → ⊥)
      → IsFirstWrongLine Is bytes (length ls + 1)
  refused_end bytes ls rest b c f h = refused_end_by bytes ls rest b c (recursion_from_All _ rest f) h

-- one more line
pub read_more : (bytes : List ℕ) (ls new : List (List ℕ)) (rest line behind : List ℕ) → bytes ≡ text_of ls ++ rest → rest ≡ line ++ 10 ∷ behind
    → new ≡ ls ++ line ∷ []
    → bytes ≡ text_of new ++ behind
read_more bytes ls new rest line behind e f n =
    (e ∙ ap (λ (x : List ℕ). text_of ls ++ x) f) ∙ (sym (moved ls line behind) ∙ ap (λ (ms : List (List ℕ)). text_of ms ++ behind) (sym n))
  where
    moved : (xs : List (List ℕ)) (y z : List ℕ) → text_of (xs ++ y ∷ []) ++ z ≡ text_of xs ++ (y ++ 10 ∷ z)
    moved xs y z = ap (λ (x : List ℕ). x ++ z) (ended-append xs (y ∷ [])) ∙ simp (append_assoc, append-nil)

-- what goes on with some lines goes on with fewer
goes_less : (Is : List (List ℕ) → Type 0) (bytes : List ℕ) (m n : ℕ) → m ≤ n → GoesOn Is bytes n → GoesOn Is bytes m
goes_less Is bytes m n le g =
    let lines = whole_lines bytes in
    let parts : take n lines ≡ take m lines ++ drop m (take n lines) =
    sym (take-append-drop m (take n lines)) ∙ ap (λ front. front ++ drop m (take n lines)) (take-take m n lines le) in
    let rest = g.can.0 in
    record {
      whole = let few = g.whole in omega (arith, few, le);
      can = (
        drop m (take n lines) ++ rest,
        subst Is (ap (λ front. front ++ rest) parts ∙ append_assoc (take m lines) (drop m (take n lines)) rest) g.can.1,
      );
    }

-- One line is the first with which no text goes on.
pub line_once : (Is : List (List ℕ) → Type 0) (bytes : List ℕ) (a b : ℕ) → IsFirstWrongLine Is bytes a → IsFirstWrongLine Is bytes b → a ≡ b
line_once Is bytes a b x y = ordered (cases_order x.before y.before)
  where
    ordered : (x.before ≡ y.before) ⊎ ((x.before < y.before) ⊎ (y.before < x.before)) → a ≡ b
    ordered (inl same) = x.is ∙ ap (λ n. n + 1) same ∙ sym y.is
    ordered (inr (inl below)) = absurd (x.ends (goes_less Is bytes (x.before + 1) y.before (omega (arith, below)) y.goes))
    ordered (inr (inr above)) = absurd (y.ends (goes_less Is bytes (y.before + 1) x.before (omega (arith, above)) x.goes))
