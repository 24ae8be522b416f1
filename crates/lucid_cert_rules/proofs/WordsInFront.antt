-- Words of letters and digits in front of bytes that may have blanks.
use Rattle.lucid_cert_rules.proofs.Common.{◌≡◌, ℕ, false, List, [], ◌∷◌, ◌++◌, refl, sym, ap, ◌∙◌, AllByRecursion, join_with_byte, join_with_byte-slice_split, words_of, is_end, IsSolid, solid_lacks, is_end-words_of}
use Rattle.lucid_texts.proofs.Bytes.{has_none}
use Rattle.lucid_texts.proofs.WordLemmas.{words_of_more}

pub words_in_front : (ws : List (List ℕ)) (b : List ℕ) → AllByRecursion IsSolid ws → words_of (join_with_byte 32 (ws ++ b ∷ [])) ≡ ws ++ words_of b
words_in_front [] b h = refl
words_in_front (w ∷ []) b h = words_of_more w b _ refl (has_none 32 w (solid_lacks 32 refl w h.0))
words_in_front (w ∷ v ∷ ws) b h =
    words_of_more w (join_with_byte 32 (v ∷ ws ++ b ∷ [])) _ refl (has_none 32 w (solid_lacks 32 refl w h.0))
    ∙ ap (λ (us : List (List ℕ)). w ∷ us) (words_in_front (v ∷ ws) b h.1)

join_more : (w : List ℕ) (ws : List (List ℕ)) → is_end ws ≡ false → join_with_byte 32 (w ∷ ws) ≡ w ++ 32 ∷ join_with_byte 32 ws
join_more w [] h = absurd (cc)
join_more w (v ∷ ws) h = refl

some_behind : (ws vs : List (List ℕ)) → is_end vs ≡ false → is_end (ws ++ vs) ≡ false
some_behind [] vs h = h
some_behind (w ∷ ws) vs h = refl

-- the words of the bytes, joined behind them, are the bytes
pub join_behind : (ws : List (List ℕ)) (b : List ℕ) → join_with_byte 32 (ws ++ words_of b) ≡ join_with_byte 32 (ws ++ b ∷ [])
join_behind [] b = join_with_byte-slice_split 32 b
join_behind (w ∷ ws) b =
    join_more w (ws ++ words_of b) (some_behind ws (words_of b) (is_end-words_of b))
    ∙ (ap (λ (x : List ℕ). w ++ 32 ∷ x) (join_behind ws b) ∙ sym (join_more w (ws ++ b ∷ []) (some_behind ws (b ∷ []) refl)))

-- bytes with the same words are the same
pub same_bytes : (a b : List ℕ) → words_of a ≡ words_of b → a ≡ b
same_bytes a b e = sym (join_with_byte-slice_split 32 a) ∙ (ap (join_with_byte 32) e ∙ join_with_byte-slice_split 32 b)
