use Rattle.lucid_scan.proofs.Common.{◌≡◌, ◌<◌, ◌^◌, take, number_of}
use Rattle.lucid_scan.proofs.bytes.fits.Given as goal

-- the value of the digits so far
abbrev pub invariant-loop-digit : goal.invariant-loop-digit
invariant-loop-digit l = record { value : l.value ≡ number_of (take l.digit-index l.digits); small : l.value < 2 ^ 127 }
