use Rattle.std.proofs.Common.{◌≡◌, ◌≤◌, length, drop}
use Rattle.script_store.specs.Indexed.{with_files, entries_of}
use Rattle.script_store.proofs.keeping.kept_of.Given as goal

-- with what is kept of the files to come, the store is that of the world
abbrev pub invariant-loop-place : goal.invariant-loop-place
invariant-loop-place l = record {
  whole : with_files (drop l.place l.replay.files) l.store ≡ entries_of l.replay;
  few : length l.store ≤ l.place;
}
