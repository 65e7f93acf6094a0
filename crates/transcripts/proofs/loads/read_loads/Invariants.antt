use Rattle.transcripts.proofs.Words.{◌≡◌, ◌++◌, List, drop, Loaded, AreLoadsOf}
use Rattle.transcripts.proofs.LoadsLemmas.{HasAsked}
use Rattle.transcripts.proofs.loads.read_loads.Given as goal

-- what was read so far and what is read for the rest are all; the tree was asked for the files of the lines so far, and no fault was met
abbrev pub invariant-loop-line : goal.invariant-loop-line
invariant-loop-line g l = record {
  files : g.T.Tree.files l.tree ≡ g.T.Tree.files l.fn.tree;
  quiet : g.T.Tree.faults l.tree ≡ g.T.Tree.faults l.fn.tree;
  asked : HasAsked g.T.Tree.asks l.fn.tree l.lines l.line-index l.tree;
  loads : (rest : List Loaded) → AreLoadsOf (g.T.Tree.files l.fn.tree) (drop l.line-index l.lines) rest → AreLoadsOf (g.T.Tree.files l.fn.tree) l.lines (l.loads.items ++ rest);
}
