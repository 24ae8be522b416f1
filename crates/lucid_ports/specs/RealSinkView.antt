-- What a real sink writes to, and how often it has failed.
use Rattle.std.specs.Prelude.{ℕ}
use Rattle.lucid_ports.specs.declared.real_sink.RealSink.{RealSink}

-- what it writes to
abbrev pub sink_writer : {W : Type 0} → RealSink W → W
sink_writer s = s.writer

-- the count of faults, and that of late calls
abbrev pub sink_count : {W : Type 0} → RealSink W → ℕ
sink_count s = s.faults

abbrev pub real_sink_late : {W : Type 0} → RealSink W → ℕ
real_sink_late s = s.late
