use Rattle.std.proofs.Common.{◌≡◌, ◌++◌, drop, filter}
use Rattle.demo.specs.Commands.{is_of_first_lane}
use Rattle.demo.specs.Script.{lines_of}
use Rattle.demo.proofs.script.push_first_lane.Given as goal

-- the lines so far and those of the rest are all lines of the lane
abbrev pub invariant-loop-command : goal.invariant-loop-command
invariant-loop-command l =
    l.script.items ++ lines_of (filter is_of_first_lane (drop l.command-index l.commands))
    ≡ l.fn.script.items ++ lines_of (filter is_of_first_lane l.commands)
