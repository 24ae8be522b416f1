-- Places without end after a call.
use Rattle.lucid_ports.proofs.Common.{◌≡◌, ℕ, ◌+◌, List, length, Option, None, Some, IfSome, option_map, refl, sym, ap, ◌∙◌, MemoryFile, EndlessPlace, position_in, moved, spot_of, endless_place, bytes_at, Contents, IsShown, ◌%◌, add_comm, mod-mod, add-mod-mod}

position_in-add : (turn position n : ℕ) (file : Option ℕ) (f : ℕ → List ℕ)
    → position_in turn file (position + n) ≡ position_in turn (option_map f file) (position_in turn file position + n)
position_in-add turn position n None f =
    ap (λ k. k % turn) (add_comm position n) ∙ sym (add-mod-mod n position turn) ∙ ap (λ k. k % turn) (add_comm n (position % turn))
position_in-add turn position n (Some file) f = refl

position_in-position_in : (turn position : ℕ) (file : Option ℕ) → position_in turn file (position_in turn file position) ≡ position_in turn file position
position_in-position_in turn position None = mod-mod position turn
position_in-position_in turn position (Some file) = refl

-- a place of the same file, n bytes further
pub spot_of-after : (files : List MemoryFile) (piece : List ℕ) (p q : EndlessPlace) (n : ℕ) → q.file ≡ p.file
    → q.mark.position ≡ p.mark.position + n → spot_of files piece q ≡ moved piece n (spot_of files piece p)
spot_of-after files piece p q n file position =
    let there = ap (λ k. position_in (length piece) p.file k) position ∙ position_in-add (length piece) p.mark.position n p.file (bytes_at files) in
    rw file (ap (λ k. record { source = option_map (bytes_at files) p.file; position = k }) there)

-- a place of the same file, at the same position in this turn
pub spot_of-turned : (files : List MemoryFile) (piece : List ℕ) (p q : EndlessPlace) → q.file ≡ p.file
    → q.mark.position ≡ position_in (length piece) p.file p.mark.position → spot_of files piece q ≡ spot_of files piece p
spot_of-turned files piece p q file position =
    let there = ap (λ k. position_in (length piece) p.file k) position ∙ position_in-position_in (length piece) p.mark.position p.file in
    rw file (ap (λ k. record { source = option_map (bytes_at files) p.file; position = k }) there)

-- the place p is q, which shows n bytes
pub endless_shown : (old new : Option EndlessPlace) (p q : EndlessPlace) (n : ℕ) → old ≡ Some p → new ≡ Some q
    → q.mark.shown ≡ n → q.mark.used ≡ 0 → IsShown n (endless_place old) (endless_place new)
endless_shown old new p q n was is shown used = rw (was, is) (record { contents = refl; shown = shown; used = used })

-- nothing is told of contents
pub untold : (o : Option EndlessPlace) (P : Contents → Type 0) → IfSome (endless_place o).contents P
untold None P = tt
untold (Some p) P = tt
