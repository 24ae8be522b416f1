use Rattle.lucid_texts.proofs.Common.{◌≡◌, Bool, true, false, Option, Some, None, refl, sym, ◌∙◌, List, ℕ, words_left, is_end, is_some, option_copied}
use Rattle.std.proofs.Common.{not}
use denote.Ref.{Bor}
use Rattle.lucid_texts.proofs.WordLemmas.{is_end-words_of}
use Rattle.lucid_texts.proofs.words.at_end.Goals as goal

turned : (a b : Bool) → a ≡ not b → b ≡ not a
turned true true e = absurd (cc)
turned true false e = refl
turned false true e = refl
turned false false e = absurd (cc)

tells : (r : Option (Bor (List ℕ))) (b : Bool) → is_some r ≡ not b → b ≡ is_end (words_left (option_copied r))
tells None b e = turned false b e
tells (Some x) b e = turned true b e ∙ sym (is_end-words_of x.now)

pub returns : goal.returns
returns c = tells c.args.rest c.is_none.result c.is_none.ensures
