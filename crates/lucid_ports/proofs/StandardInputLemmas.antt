-- Standard input after bytes are consumed, by the manner in which it is read.
use Rattle.std.proofs.Common.{◌≡◌, ℕ, ◌≤◌, List, Option, length, drop, option_map, refl}
use Rattle.lucid_ports.proofs.SupplyLemmas.{consumed_contents}
use Rattle.lucid_ports.specs.StandardInput.{shown_of, contents_of}
use Rattle.lucid_ports.specs.World.{Contents, advanced}
use Rattle.lucid_ports.specs.declared.standard_input.Manner.{Manner}
use Rattle.lucid_ports.specs.declared.standard_input.Manner.TheVariants.{Unknown, Kept, Taken}

-- of a window that holds what was taken
pub taken_consumed : (m : Manner) (old new : List ℕ) (o : Option Contents) (n : ℕ) → (m ≡ Kept → ⊥) → new ≡ drop n old → n ≤ length old
    → shown_of m old o ≡ old → contents_of m new o ≡ option_map (advanced n) (contents_of m old o)
taken_consumed Unknown old new o n other fewer within tied = consumed_contents old new n fewer within o tied
taken_consumed Kept old new o n other fewer within tied = absurd (other refl)
taken_consumed Taken old new o n other fewer within tied = consumed_contents old new n fewer within o tied

-- of a reader that keeps what is shown
pub kept_consumed : (m : Manner) (old new : List ℕ) (o p : Option Contents) (n : ℕ) → m ≡ Kept → p ≡ option_map (advanced n) o
    → contents_of m new p ≡ option_map (advanced n) (contents_of m old o)
kept_consumed Unknown old new o p n is rest = cc
kept_consumed Kept old new o p n is rest = rest
kept_consumed Taken old new o p n is rest = cc
