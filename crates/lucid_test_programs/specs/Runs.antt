-- What a run by the plain evaluator writes, and how it ends.
use Rattle.std.specs.Prelude.{◌≡◌, ℕ, zero, suc, ◌<◌, ◌≤◌, List, [], ◌++◌, length, Option, Some, None, Bool, true, false}
use Rattle.lucid_value.specs.Plain.{PlainValue, eod}
use Rattle.lucid_tree.specs.Tree.{PlainTree}
use Rattle.lucid_tree.specs.Levels.{Elements}
use Rattle.lucid_tree.specs.Env.{empty}
use Rattle.lucid_tree.specs.Meaning.{val}
use Rattle.lucid_tree.specs.Output.{line}
use Rattle.lucid_ports.specs.Faults.{Rises}
use Rattle.lucid_ports.specs.Writing.{with_front, with_all}
use Rattle.lucid_ports.specs.declared.run.RunFault.{RunFault}
use Rattle.lucid_ports.specs.declared.run.RunFault.TheVariants.{TooDeep, ReadFault, WriteFault, TooLarge, NoMemory}
use Rattle.lucid_ports.specs.declared.run.Summary.{Summary}

module _ (b : Elements) (n : ℕ) (p : PlainTree) where
  -- The lines of the first k times by the approximation n: it is defined at each of them, and its value isn't end of data.
  pub data Lines : (k : ℕ) → (bytes : List ℕ) → Type 0 where
    no_lines : Lines zero []
    one_more : {k : ℕ} {bytes : List ℕ} → Lines k bytes → (v : PlainValue) → val b n p empty k 0 ≡ Some v → (v ≡ eod → ⊥)
        → Lines (suc k) (bytes ++ line v)

  -- The lines of the first k times are written whole, and nothing else.
  pub record Writes (k : ℕ) (old new : Option (List ℕ)) : Type 0 where
    pub bytes : List ℕ
    pub lines : Lines k bytes
    pub written : new ≡ with_all bytes old

  -- The bytes written are a front of the lines of some of the first c times.
  pub record WritesFront (c : ℕ) (old new : Option (List ℕ)) : Type 0 where
    pub times : ℕ
    pub bytes : List ℕ
    pub lines : Lines times bytes
    pub within : times ≤ c
    pub front : ℕ
    pub fits : front ≤ length bytes
    pub written : new ≡ with_front front bytes old

  -- how a run that wrote k of c lines ended: by end of data at time k, or by the count
  abbrev pub EndsAt : (ended : Bool) → (k c : ℕ) → Type 0
  EndsAt true k c = (k < c) × (val b n p empty k 0 ≡ Some eod)
  EndsAt false k c = k ≡ c

  -- A run that is done: the lines to the first end of data or to the count are written; nothing is stored.
  pub record Finishes (c : ℕ) (summary : Summary) (old new : Option (List ℕ)) : Type 0 where
    pub writes : Writes summary.lines old new
    pub ends : EndsAt summary.ended summary.lines c
    pub held : summary.held ≡ 0
    pub lost : summary.lost ≡ 0
    pub cleared : summary.cleared ≡ 0

  -- A run that is too deep at t: the lines of the times below t are written, and the approximation is undefined at t.
  pub record StopsAt (t c : ℕ) (old new : Option (List ℕ)) : Type 0 where
    pub writes : Writes t old new
    pub within : t < c
    pub undefined : val b n p empty t 0 ≡ None

  -- A run that ends early, by its cause.
  abbrev pub Stops : (c : ℕ) → (old new : Option (List ℕ)) → (faults_before faults_after : ℕ) → RunFault → Type 0
  Stops c old new f g (TooDeep t lost cleared) = StopsAt t c old new × (lost ≡ 0) × (cleared ≡ 0)
  Stops c old new f g WriteFault = WritesFront c old new × Rises f g
  Stops c old new f g NoMemory = WritesFront c old new
  Stops c old new f g ReadFault = ⊥
  Stops c old new f g (TooLarge stream) = ⊥
