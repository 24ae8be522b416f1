-- Places in memory after a call.
use Rattle.lucid_ports.proofs.Common.{◌≡◌, ◌⊎◌, ℕ, ◌+◌, ◌-◌, ◌≤◌, List, [], length, take, Option, None, Some, Contains, Ok, IfSome, inl, inr, sym, ap, subst, ◌∙◌, arith, le_refl, take_all, take-add, drop-drop, option_map, MemoryFile, FailAt, MemoryPlace, bytes_at, bytes_named, fail_at, memory_place, Contents, IsShown, advanced, ◌↔◌, IsSomeAnd, length-take-le, nil_from_length, StartsWith}
use Rattle.std.proofs.Common.{min, drop, ◌++◌}
use Rattle.std.proofs.lemmas.List.{take_min, drop_min}
use denote.Ref.{Bor}
use Rattle.lucid_ports.proofs.SupplyLemmas.{same_contents}
use Rattle.lucid_ports.specs.Memory.{ShowsUpToFailure}
use Rattle.lucid_ports.specs.MemoryView.{read_to}
use Rattle.lucid_ports.specs.World.{IsConsumed, IsFresh, unread}

advanced-read_to : (position n : ℕ) (bytes : List ℕ) → read_to (position + n) bytes ≡ advanced n (read_to position bytes)
advanced-read_to position n bytes = cc (take-add position n bytes, drop-drop n position bytes)

-- as many bytes more as there are
pub read_to-min : (position n few : ℕ) (bytes : List ℕ) → few ≡ min n (length (drop position bytes))
    → read_to (position + few) bytes ≡ advanced n (read_to position bytes)
read_to-min position n few bytes is =
    let left = drop position bytes in
    advanced-read_to position few bytes ∙ ap (λ k. advanced k (read_to position bytes)) is
    ∙ same_contents _ _ _ _ (ap (λ l. take position bytes ++ l) (take_min n left)) (drop_min n left)

-- the place p is q after n bytes more
pub place_consumed : (files : List MemoryFile) (old new : Option MemoryPlace) (p q : MemoryPlace) (n : ℕ) → old ≡ Some p → new ≡ Some q
    → q.file ≡ p.file → q.mark.position ≡ p.mark.position + n → q.mark.shown ≡ p.mark.shown - n → q.mark.used ≡ p.mark.used + n
    → IsConsumed n (memory_place files old) (memory_place files new)
place_consumed files old new p q n was is file position shown used =
    rw (was, is) (
    record {
      contents = ap (λ k. Some (read_to q.mark.position (bytes_at files k))) file
          ∙ ap (λ k. Some (read_to k (bytes_at files p.file))) position
          ∙ ap Some (advanced-read_to p.mark.position n (bytes_at files p.file));
      shown = shown;
      used = used;
    }
    )

-- a place just reached, of the file of that name
pub place_fresh : (files : List MemoryFile) (name : List ℕ) (place : Option MemoryPlace) (p : MemoryPlace) → place ≡ Some p
    → bytes_named files name ≡ Some (bytes_at files p.file) → p.mark.position ≡ 0 → p.mark.shown ≡ 0 → p.mark.used ≡ 0
    → IsFresh (bytes_named files name) (memory_place files place)
place_fresh files name place p is named position shown used =
    rw is (
    record {
      contents = ap (λ k. Some (read_to k (bytes_at files p.file))) position ∙ sym (ap (option_map unread) named);
      shown = shown;
      used = used;
    }
    )

-- the place p is q, which shows n bytes
pub place_shown : (files : List MemoryFile) (old new : Option MemoryPlace) (p q : MemoryPlace) (n : ℕ) → old ≡ Some p → new ≡ Some q
    → q.file ≡ p.file → q.mark.position ≡ p.mark.position → q.mark.shown ≡ n → q.mark.used ≡ 0
    → IsShown n (memory_place files old) (memory_place files new)
place_shown files old new p q n was is file position shown used =
    rw (was, is) (
    record {
      contents = ap (λ k. Some (read_to q.mark.position (bytes_at files k))) file ∙ ap (λ k. Some (read_to k (bytes_at files p.file))) position;
      shown = shown;
      used = used;
    }
    )

-- the first bytes that are left make a piece of them
front_shown : (left : List ℕ) (shown : ℕ) → shown ≤ length left → (length (take shown left) ≡ shown) × StartsWith left (take shown left)
front_shown left shown within =
    let long = length-take-le shown left within in
    (long, ap (λ n. take n left) long)

-- A piece of all that is left, or up to a failure that doesn't stand at the next position, is empty only at the end.
empty_at_end : (left : List ℕ) (failures : List FailAt) (place position shown : ℕ) → shown ≤ length left
    → (Contains failures (fail_at place position) → ⊥) → (shown ≡ length left) ⊎ Contains failures (fail_at place (position + shown))
    → (take shown left ≡ []) ↔ (left ≡ [])
empty_at_end left failures place position shown within none cut =
    let long = (front_shown left shown within).0 in (
      λ empty.
          let zero : shown ≡ 0 = sym long ∙ ap length empty in
          elim cut [
            | inl e ↦ nil_from_length left (omega arith)
            | inr fails ↦ absurd (none (subst (λ n. Contains failures (fail_at place n)) (omega arith) fails))
          ],
      λ ended. nil_from_length (take shown left) (omega (arith, ap length ended)),
    )

-- What holds of a piece that is shown at a place with these contents, where no failure stands at the next position.
pub record PieceClauses (o : Option Contents) (place : ℕ) (old new : List FailAt) (shown : ℕ) (piece : List ℕ) : Type 0 where
  pub long : length piece ≡ shown
  pub front : IfSome o (λ c. StartsWith c.left piece)
  pub end : IfSome o (λ c. (piece ≡ []) ↔ (c.left ≡ []))
  pub none : IsSomeAnd o (λ c. Contains old (fail_at place (length c.consumed)) → ⊥)
  pub before : IfSome o (λ c. (p : ℕ) → length c.consumed ≤ p → Contains old (fail_at place p) → length c.consumed + length piece ≤ p)
  pub whole : IfSome o (λ c. (piece ≡ c.left) ⊎ Contains old (fail_at place (length c.consumed + length piece)))
  pub kept : new ≡ old

pub piece_clauses : (o : Option Contents) (place : ℕ) (old new : List FailAt) (position shown : ℕ) (left : List ℕ)
    → IsSomeAnd o (λ c. position ≡ length c.consumed) → IfSome o (λ c. left ≡ c.left) → shown ≤ length left → new ≡ old
    → (Contains old (fail_at place position) → ⊥)
    → ((p : ℕ) → position ≤ p → Contains old (fail_at place p) → position + shown ≤ p)
    → (shown ≡ length left) ⊎ Contains old (fail_at place (position + shown))
    → PieceClauses o place old new shown (take shown left)
piece_clauses None place old new position shown left start rest within same none before cut = absurd start
piece_clauses (Some c) place old new position shown left start rest within same none before cut =
    let front = front_shown left shown within in
    record {
      long = front.0;
      front = subst (λ l. StartsWith l (take shown left)) rest front.1;
      end = subst (λ l. (take shown left ≡ []) ↔ (l ≡ [])) rest (empty_at_end left old place position shown within none cut);
      none = λ fails. none (subst (λ n. Contains old (fail_at place n)) (sym start) fails);
      before = λ p past fails. let bound = before p (omega (arith, start)) fails in omega (arith, start, front.0);
      whole = elim cut [
        | inl e ↦ inl (ap (λ n. take n left) e ∙ take_all (length left) left (le_refl _) ∙ rest)
        | inr fails ↦ inr (subst (λ n. Contains old (fail_at place n)) (omega (arith, start, front.0)) fails)
      ];
      kept = same;
    }

-- Such a piece is what a place in memory shows.
pub shows_piece : (o : Option Contents) (place : ℕ) (old new : List FailAt) (shown : ℕ) (piece : Bor (List ℕ))
    → PieceClauses o place old new shown piece.now → IsSomeAnd o (λ c. ShowsUpToFailure c place old (Ok piece) new)
shows_piece None place old new shown piece clauses = clauses.none
shows_piece (Some c) place old new shown piece clauses = record {
  failing = (λ fails. cc, λ fails. absurd (clauses.none fails));
  spent = tt;
  kept = clauses.kept;
  memory = λ lacks. cc;
  before = clauses.before;
  whole = clauses.whole;
}
