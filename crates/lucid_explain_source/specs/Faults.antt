-- Why a source is refused: by the scanner, and by the names of its tree. Want of memory is no reason.
use Rattle.std.specs.Prelude.{Option, Some, None}
use Rattle.lucid_scan.specs.declared.refusal.ScanRefusal.{ScanRefusal}
use Rattle.lucid_scan.specs.declared.refusal.ScanRefusal.TheVariants as scanned
use Rattle.lucid_scope.specs.declared.refusal.ScopeRefusal.{ScopeRefusal}
use Rattle.lucid_scope.specs.declared.refusal.ScopeRefusal.TheVariants as scoped
use Rattle.lucid_explain_source.specs.declared.fault.Fault.{Fault}
use Rattle.lucid_explain_source.specs.declared.fault.Fault.TheVariants as faults

abbrev pub scan_fault : ScanRefusal → Option Fault
scan_fault scanned.TooLong = Some faults.TooLong
scan_fault (scanned.BadByte at) = Some (faults.BadByte at)
scan_fault (scanned.OpenText at) = Some (faults.OpenText at)
scan_fault (scanned.BigNumber at) = Some (faults.BigNumber at)
scan_fault scanned.NoMemory = None

abbrev pub names_fault : ScopeRefusal → Option Fault
names_fault (scoped.Twice at) = Some (faults.Twice at)
names_fault (scoped.NoFunction at) = Some (faults.NoFunction at)
names_fault (scoped.NotFunction at) = Some (faults.NotFunction at)
names_fault (scoped.IsFunction at) = Some (faults.IsFunction at)
names_fault (scoped.Arity at wanted given) = Some (faults.Arity at wanted given)
names_fault scoped.NoMemory = None
