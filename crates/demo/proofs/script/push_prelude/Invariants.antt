use Rattle.std.proofs.Common.{◌≡◌, ◌++◌, drop}
use Rattle.demo.specs.Script.{lines_of}
use Rattle.demo.proofs.script.push_prelude.Given as goal

-- the lines so far and those of the rest are all lines
abbrev pub invariant-loop-command : goal.invariant-loop-command
invariant-loop-command l = l.script.items ++ lines_of (drop l.command-index l.commands) ≡ l.fn.script.items ++ lines_of l.commands
