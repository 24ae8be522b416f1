-- The line of a time, and how writing it ends early.
use Rattle.std.specs.Prelude.{◌≡◌, ℕ, ◌≤◌, List, length, Option, Some, None}
use Rattle.lucid_value.specs.Plain.{PlainValue, eod}
use Rattle.lucid_tree.specs.Tree.{PlainTree}
use Rattle.lucid_tree.specs.Levels.{Elements}
use Rattle.lucid_tree.specs.Env.{empty}
use Rattle.lucid_tree.specs.Meaning.{val}
use Rattle.lucid_tree.specs.Output.{line}
use Rattle.lucid_ports.specs.Faults.{Rises}
use Rattle.lucid_ports.specs.Writing.{with_front}
use Rattle.lucid_ports.specs.declared.run.RunFault.{RunFault}
use Rattle.lucid_ports.specs.declared.run.RunFault.TheVariants.{TooDeep, ReadFault, WriteFault, TooLarge, NoMemory}
use Rattle.lucid_test_programs.specs.declared.running.Line.{Line}
use Rattle.lucid_test_programs.specs.declared.running.Line.TheVariants.{Bytes, End, Undefined}

-- The approximation n has the value at time t, which isn't end of data, and the bytes are its line.
pub record HasLine (b : Elements) (n : ℕ) (p : PlainTree) (t : ℕ) (bytes : List ℕ) : Type 0 where
  pub v : PlainValue
  pub is : val b n p empty t 0 ≡ Some v
  pub goes_on : v ≡ eod → ⊥
  pub shown : bytes ≡ line v

-- what the approximation n gives at time t
abbrev pub IsLineAt : Elements → (n : ℕ) → PlainTree → (t : ℕ) → Line → Type 0
IsLineAt b n p t (Bytes bytes) = HasLine b n p t bytes.items
IsLineAt b n p t End = val b n p empty t 0 ≡ Some eod
IsLineAt b n p t Undefined = val b n p empty t 0 ≡ None

-- a front of the piece is written
abbrev pub FrontOf : List ℕ → (old new : Option (List ℕ)) → Type 0
FrontOf piece old new = (n : ℕ) × (n ≤ length piece) × (new ≡ with_front n piece old)

abbrev pub StopsLine : List ℕ → (old new : Option (List ℕ)) → (faults_before faults_after : ℕ) → RunFault → Type 0
StopsLine piece old new f g WriteFault = FrontOf piece old new × Rises f g
StopsLine piece old new f g NoMemory = FrontOf piece old new
StopsLine piece old new f g (TooDeep t lost cleared) = ⊥
StopsLine piece old new f g ReadFault = ⊥
StopsLine piece old new f g (TooLarge stream) = ⊥
