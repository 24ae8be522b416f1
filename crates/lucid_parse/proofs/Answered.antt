-- What is answered for the terminals is answered for the tokens whose terminals they are.
use Rattle.lucid_parse.proofs.Common.{◌≡◌, ℕ, List, length, sym, subst, Err, PlainTree, Token, PlacedTerminal, Spells, Terminals, SpellsTree, TerminalsAreUnique, Result, Ok, IfOk, IfErr}
use Rattle.lucid_parse.specs.declared.refusal.ParseRefusal.{ParseRefusal}
use Rattle.lucid_parse.specs.declared.refusal.ParseRefusal.TheVariants as refusal
use Rattle.lucid_parse.specs.Refused.{AreRefused}
use Rattle.lucid_parse.specs.Spelled.{IsSourceRefused}
use Rattle.lucid_parse.specs.Laws.{TokensSpellOneTree}
use Rattle.lucid_parse.proofs.Built.{one_tree}

-- for want of memory any tokens may be refused
pub refused_memory : (source : List ℕ) (tokens : List Token) (why : ParseRefusal) → why ≡ refusal.NoMemory → IsSourceRefused source tokens why
refused_memory source tokens why is = subst (IsSourceRefused source tokens) (sym is) tt

refused_as : (source : List ℕ) (tokens : List Token) (terminals : List PlacedTerminal) (why : ParseRefusal) → Terminals source tokens terminals
    → AreRefused why terminals (length source)
    → IsSourceRefused source tokens why
refused_as source tokens terminals (refusal.Syntax at) stand refused = (terminals, stand, refused)
refused_as source tokens terminals (refusal.TooNested at) stand refused = (terminals, stand, refused)
refused_as source tokens terminals refusal.NoMemory stand refused = tt

module _ (source : List ℕ) (tokens : List Token) (terminals : List PlacedTerminal) (stand : Terminals source tokens terminals) where
  pub spelled : (r : Result PlainTree ParseRefusal) → IfOk r (λ tree. Spells 0 terminals tree) → IfOk r (λ tree. SpellsTree source tokens tree)
  spelled (Ok tree) h = (terminals, stand, h)
  spelled (Err why) h = tt

  pub refused : (r : Result PlainTree ParseRefusal) (end : ℕ) → end ≡ length source → IfErr r (λ why. AreRefused why terminals end)
      → IfErr r (λ why. IsSourceRefused source tokens why)
  refused (Ok tree) end is h = tt
  refused (Err why) end is h = refused_as source tokens terminals why stand (subst (AreRefused why terminals) is h)

-- tokens of one list of terminals spell at most one tree
pub tokens-one : TerminalsAreUnique → TokensSpellOneTree
tokens-one unique source tokens tree other g h = one_tree h.0 tree other (subst (λ l. Spells 0 l tree) (unique source tokens g.0 h.0 g.1 h.1) g.2) h.2
