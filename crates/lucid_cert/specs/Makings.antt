-- A judgment in the making.
use Rattle.std.specs.Prelude.{◌≡◌, ℕ, [], ◌∷◌, ◌++◌}
use Rattle.lucid_cert.specs.declared.making.Making.{Making}

-- the same judgment with one more use
pub record HasUse (old : Making) (number : ℕ) (new : Making) : Type 0 where
  pub at : new.at ≡ old.at
  pub space : new.space ≡ old.space
  pub limit : new.limit ≡ old.limit
  pub next : new.next ≡ old.next
  pub uses : new.uses.items ≡ old.uses.items ++ number ∷ []
