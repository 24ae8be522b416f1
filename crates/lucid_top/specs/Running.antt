-- What the outcome of a run says besides the lines.
use Rattle.std.specs.Prelude.{◌≡◌, ℕ, ◌+◌, ◌≤◌, Bool, List, Some, IfSome, Ok, Err, slice_get}
use Rattle.lucid_ports.specs.Faults.{Rises}
use Rattle.lucid_ports.specs.declared.run.RunFault.{RunFault}
use Rattle.lucid_ports.specs.declared.run.RunFault.TheVariants as fault
use Rattle.lucid_words.specs.Asked.{PlainWords}
use Rattle.lucid_report.specs.declared.stop.Done.TheVariants as done
use Rattle.lucid_report.specs.declared.stop.Stop.{Stop}
use Rattle.lucid_report.specs.declared.stop.Stop.TheVariants as stop
use Rattle.lucid_report.specs.Status.{Outcome}
use Rattle.lucid_top.specs.Tasks.{wants_figures}
use Rattle.lucid_session.specs.Runs.{PolicyView}

-- the number of held values is at most one more than the policy leaves
abbrev pub HoldsWithin : PolicyView → (held : ℕ) → Type 0
HoldsWithin policy held = IfSome policy.room (λ most. held ≤ most + 1)

-- A run under this policy by these words, of a program with inputs of these names, has such outcomes alone. The counts of faults are those of the places and
-- of the output.
abbrev pub RunComesOnly : PolicyView → PlainWords → (free : List (List ℕ)) → (faults faults' out_faults out_faults' : ℕ) → Outcome → Type 0
RunComesOnly y w free f f' g g' (Ok (done.Ran summary stats)) = (stats ≡ wants_figures w) × HoldsWithin y summary.held
RunComesOnly y w free f f' g g' (Ok done.Written) = ⊥
RunComesOnly y w free f f' g g' (Err (stop.Refused why)) = ⊥
RunComesOnly y w free f f' g g' (Err stop.ReadFault) = Rises f f'
RunComesOnly y w free f f' g g' (Err stop.WriteFault) = Rises g g'
RunComesOnly y w free f f' g g' (Err (stop.TooDeep time lost cleared stats)) = stats ≡ wants_figures w
RunComesOnly y w free f f' g g' (Err (stop.TooLarge stream name)) = slice_get free stream ≡ Some name
RunComesOnly y w free f f' g g' (Err (stop.Wrong judgment)) = ⊥
RunComesOnly y w free f f' g g' (Err stop.NoMemory) = Unit {0}

-- the input of that number is too large, by its name, or there was no memory
abbrev pub IsLargeStop : (free : List (List ℕ)) → (stream : ℕ) → Stop → Type 0
IsLargeStop free k (stop.TooLarge stream name) = (stream ≡ k) × (slice_get free k ≡ Some name)
IsLargeStop free k stop.NoMemory = Unit {0}
IsLargeStop free k _ = ⊥

-- why a run stopped, as what stops the call
abbrev pub IsRunStop : (free : List (List ℕ)) → (stats : Bool) → RunFault → Stop → Type 0
IsRunStop free stats (fault.TooDeep time lost cleared) s = s ≡ stop.TooDeep time lost cleared stats
IsRunStop free stats fault.ReadFault s = s ≡ stop.ReadFault
IsRunStop free stats fault.WriteFault s = s ≡ stop.WriteFault
IsRunStop free stats (fault.TooLarge stream) s = IsLargeStop free stream s
IsRunStop free stats fault.NoMemory s = s ≡ stop.NoMemory
