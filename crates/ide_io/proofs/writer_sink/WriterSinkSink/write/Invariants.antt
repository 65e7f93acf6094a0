use Rattle.std.proofs.Common.{◌≡◌}
use Rattle.std.specs.Io.KnownBytes.{Keeps}
use Rattle.ide_io.proofs.writer_sink.WriterSinkSink.write.Given as goal

-- nothing was written, and no fault was counted
abbrev pub invariant-tries : goal.invariant-tries
invariant-tries g l = (l.self.faults ≡ l.fn.self.faults) × (l.self.tells ≡ l.fn.self.tells)
    × Keeps (g.W.Write.contents l.fn.self.writer) (g.W.Write.contents l.self.writer)
