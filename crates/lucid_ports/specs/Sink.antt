-- What a sink in memory does.
use Rattle.std.specs.Prelude.{◌≡◌, ◌↔◌, ℕ, ◌+◌, ◌^◌, List, length, min, Option, None, Some, Result, IfOk, IsErrOf, Contains, nat_lt, if◌then◌else◌}
use Rattle.lucid_ports.specs.declared.fault.PortFault.{PortFault}
use Rattle.lucid_ports.specs.declared.fault.PortFault.TheVariants.{Failed}
use Rattle.lucid_ports.specs.declared.memory_sink.MemorySink.{MemorySink}
use Rattle.lucid_ports.specs.Faults.{faults_after}

-- the bytes written
abbrev pub sink_bytes : MemorySink → List ℕ
sink_bytes s = s.bytes.items

-- how many bytes a write takes at most
abbrev pub sink_most : MemorySink → ℕ
sink_most s = s.most.bytes

-- the numbers of the writes that fail
abbrev pub sink_failures : MemorySink → List ℕ
sink_failures s = s.failures.items

-- the number of the next write, or none after write 2^64 - 1
abbrev pub sink_next : MemorySink → Option ℕ
sink_next s = s.next

-- how often a write has failed, and how many came late, once one had
abbrev pub sink_faults : MemorySink → ℕ
sink_faults s = s.faults

abbrev pub sink_late : MemorySink → ℕ
sink_late s = s.late

-- the number after a number, below 2^64
abbrev pub number_after : Option ℕ → Option ℕ
number_after None = None
number_after (Some n) = if nat_lt (n + 1) (2 ^ 64) then Some (n + 1) else None

-- the write of this number is to fail
abbrev pub IsListed : List ℕ → Option ℕ → Type 0
IsListed failures None = ⊥
IsListed failures (Some n) = Contains failures n

-- Exactly the writes that are listed fail, any other takes the shorter of the piece and the most, and each is counted.
pub record WritesToMemory (old : MemorySink) (piece : List ℕ) (result : Result ℕ PortFault) (new : MemorySink) : Type 0 where
  pub failing : IsErrOf result Failed ↔ IsListed (sink_failures old) (sink_next old)
  pub count : IfOk result (λ n. n ≡ min (length piece) (sink_most old))
  pub next : sink_next new ≡ number_after (sink_next old)
  pub faults : sink_faults new ≡ faults_after (sink_faults old) result
  pub failures : sink_failures new ≡ sink_failures old
  pub most : sink_most new ≡ sink_most old
