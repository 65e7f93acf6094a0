-- The objects of a run, each before it and after it.
use Rattle.ide_io.specs.declared.source.Source
use Rattle.ide_io.specs.declared.tree.Tree
use Rattle.ide_io.specs.declared.sink.Sink

-- a source before a run and after it; its contract says what of it is known
pub record SourceRun {S : Type 0} (s : Source.Ghosts S) : Type 0 where
  pub old : S
  pub new : S

-- a tree before a run and after it
pub record TreeRun {T : Type 0} (t : Tree.Ghosts T) : Type 0 where
  pub old : T
  pub new : T

-- a sink before a run and after it
pub record SinkRun {K : Type 0} (k : Sink.Ghosts K) : Type 0 where
  pub old : K
  pub new : K

-- a source that was this and then that
abbrev pub read : {S : Type 0} (s : Source.Ghosts S) → S → S → SourceRun s
read s old new = record { old = old; new = new }

-- a tree that was this and then that
abbrev pub asked : {T : Type 0} (t : Tree.Ghosts T) → T → T → TreeRun t
asked t old new = record { old = old; new = new }

-- a sink that was this and then that
abbrev pub written : {K : Type 0} (k : Sink.Ghosts K) → K → K → SinkRun k
written k old new = record { old = old; new = new }
