use Rattle.std.proofs.Common.{◌≡◌}
use Rattle.std.specs.Io.KnownBytes.{Keeps}
use Rattle.ide_io.proofs.reader_source.ReaderSourceSource.read.Given as goal

-- nothing was read, and no end and no fault was counted
abbrev pub invariant-tries : goal.invariant-tries
invariant-tries g l = (l.self.ends ≡ l.fn.self.ends) × (l.self.faults ≡ l.fn.self.faults) × (l.self.tells ≡ l.fn.self.tells)
    × Keeps (g.R.Read.remaining l.fn.self.reader) (g.R.Read.remaining l.self.reader)
