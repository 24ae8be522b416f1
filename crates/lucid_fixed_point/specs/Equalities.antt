-- Equalities of streams: the equations of the book, each of any streams X and P, at all times and spaces.
use Rattle.std.specs.Prelude.{ℕ, suc, ◌<◌, ◌≤◌, ◌↔◌}
use Rattle.lucid_value.specs.Plain.{PlainValue}
use Rattle.lucid_tree.specs.Tree.{choose, first, next, fby, whenever, asa, upon, initial, succ, sby}
use Rattle.lucid_tree.specs.Rows.{last}
use Rattle.lucid_fixed_point.specs.Streams.{Stream, operator, IsSame, one, two, three, later, cut}

-- `next` is the stream from time 1 on below the last time, and an error from there on.
abbrev pub next_of : Stream → Stream
next_of x = operator next (one x)

-- if first P then X fby (Y whenever Q) else (Y whenever Q) fi, where Y and Q are X and P from time 1 on
abbrev pub whenever_unfolded : (x p y q : Stream) → Stream
whenever_unfolded x p y q =
    operator choose (three (operator first (one p)) (operator fby (two x (operator whenever (two y q)))) (operator whenever (two y q)))

-- X fby (if first P then Y upon Q else X upon Q fi)
abbrev pub upon_unfolded : (x p y q : Stream) → Stream
upon_unfolded x p y q = operator fby (two x (operator choose (three (operator first (one p)) (operator upon (two y q)) (operator upon (two x q)))))

pub record EquationsOfTheBook (x p : Stream) : Type 0 where
  pub first_of_fby : IsSame (operator first (one (operator fby (two x p)))) (operator first (one x))
  pub next_of_fby : (t s : ℕ) (v : PlainValue) → t < last → next_of (operator fby (two x p)) t s v ↔ p t s v
  pub initial_of_sby : IsSame (operator initial (one (operator sby (two x p)))) (operator initial (one x))
  pub succ_of_sby : (t s : ℕ) (v : PlainValue) → s < last → operator succ (one (operator sby (two x p))) t s v ↔ p t s v
  -- X asa P = first (X whenever P)
  pub asa_is_first : IsSame (operator asa (two x p)) (operator first (one (operator whenever (two x p))))
  -- X whenever P and X upon P, by X and P from time 1 on
  pub whenever_unfolds : IsSame (operator whenever (two x p)) (whenever_unfolded x p (later x) (later p))
  pub upon_unfolds : IsSame (operator upon (two x p)) (upon_unfolded x p (later x) (later p))
  -- The same with `next`, as the book writes them: for searches that look at so many times as `next` has, and at times up to the last.
  pub whenever_by_next : (n : ℕ) → n ≤ last → IsSame (operator whenever (two x (cut (suc n) p))) (whenever_unfolded x p (next_of x) (cut n (next_of p)))
  pub upon_by_next : (t s : ℕ) (v : PlainValue) → t ≤ last → operator upon (two x p) t s v ↔ upon_unfolded x p (next_of x) (next_of p) t s v
