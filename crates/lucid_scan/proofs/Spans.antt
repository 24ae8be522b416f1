-- The spans of tokens.
use Rattle.lucid_scan.proofs.Common.{◌≡◌, ℕ, ◌+◌, ◌-◌, ◌≤◌, List, length, drop, sym, ◌∙◌, ap, subst, arith, length-drop, drop-drop, Token, TokenKind, gap, past_gap, token, Stands, Tokens, tokens_end, tokens_next, All, All-nil, All-cons}
use Rattle.lucid_scan.specs.Laws.{IsInOrder, StandsIn}

pub in_order : {bytes : List ℕ} {p : ℕ} {ts : List Token} → Tokens bytes p ts → (limit : ℕ) → p + length bytes ≤ limit → IsInOrder p ts limit
in_order (tokens_end e) limit h = omega (arith, h)
in_order {bytes} {p} (tokens_next k n l r) limit h =
    let within = l.stands.within in
    let some = l.stands.some in (
      omega arith,
      omega (arith, some),
      in_order r limit (omega (arith, h, within, some, length-drop n (past_gap bytes), length-drop (gap bytes) bytes)),
    )

pub few : {bytes : List ℕ} {p : ℕ} {ts : List Token} → Tokens bytes p ts → length ts ≤ length bytes
few (tokens_end e) = omega arith
few {bytes} {p} (tokens_next k n l r) =
    let more = few r in
    omega (arith, more, l.stands.within, l.stands.some, length-drop n (past_gap bytes), length-drop (gap bytes) bytes)

stands_there : (source rest : List ℕ) (k : TokenKind) (from n : ℕ) → drop from source ≡ rest → Stands rest k n → StandsIn source (token k from (from + n))
stands_there source rest k from n e s =
    let len : n ≡ from + n - from = omega arith in
    subst (λ l. Stands l k (from + n - from)) (sym e) (subst (Stands rest k) len s)

pub stand : {bytes : List ℕ} {p : ℕ} {ts : List Token} → Tokens bytes p ts → (source : List ℕ) → drop p source ≡ bytes → All (StandsIn source) ts
stand (tokens_end e) source h = All-nil (StandsIn source)
stand {bytes} {p} (tokens_next {ts = ts} k n l r) source h =
    let here : drop (p + gap bytes) source ≡ past_gap bytes = sym (drop-drop (gap bytes) p source) ∙ ap (drop (gap bytes)) h in
    let behind : drop ((p + gap bytes) + n) source ≡ drop n (past_gap bytes) = sym (drop-drop n (p + gap bytes) source) ∙ ap (drop n) here in
    All-cons (StandsIn source) (token k (p + gap bytes) ((p + gap bytes) + n)) ts (stands_there source (past_gap bytes) k (p + gap bytes) n here l.stands)
    (stand r source behind)
