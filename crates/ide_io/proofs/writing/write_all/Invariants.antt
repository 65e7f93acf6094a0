use Rattle.std.proofs.Common.{◌≡◌, ◌-◌, ◌≤◌, length, take}
use Rattle.std.specs.Io.KnownBytes.{append_known}
use Rattle.ide_io.proofs.writing.write_all.Given as goal

-- the bytes before `sent` were taken, with no fault
abbrev pub invariant-writes : goal.invariant-writes
invariant-writes g l = record {
  within : l.sent ≤ length l.bytes;
  taken : g.K.Sink.taken l.sink ≡ append_known (g.K.Sink.taken l.fn.sink) (take l.sent l.bytes);
  kept : g.K.Sink.faults l.sink ≡ g.K.Sink.faults l.fn.sink;
}

abbrev pub decreases-writes : goal.decreases-writes
decreases-writes g l = length l.bytes - l.sent
