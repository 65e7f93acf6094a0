-- The numbers and the words of the ways in which a run ends.
use Rattle.std.specs.Prelude.{ℕ, List, [], ◌++◌, codes}
use Rattle.std.specs.Fmt.{decimal}
use Rattle.ide_script.specs.declared.status.Status.{Status}
use Rattle.ide_script.specs.declared.status.Status.TheVariants.{Done, Usage, BadScript, SourceFault, TreeFault, SinkFault, OutOfMemory, ScriptTooLong, Rejected}

-- the status of the process
abbrev pub exit_code : Status → ℕ
exit_code Done = 0
exit_code Usage = 1
exit_code (BadScript line) = 2
exit_code SourceFault = 3
exit_code TreeFault = 4
exit_code SinkFault = 5
exit_code OutOfMemory = 6
exit_code ScriptTooLong = 7
exit_code Rejected = 8

-- the line on standard error; a run that is done writes none
abbrev pub fault_line : Status → List ℕ
fault_line Done = []
fault_line Usage = codes "ide: usage\n"
fault_line (BadScript line) = codes "ide: bad script line " ++ decimal line ++ codes "\n"
fault_line SourceFault = codes "ide: source fault\n"
fault_line TreeFault = codes "ide: tree fault\n"
fault_line SinkFault = codes "ide: sink fault\n"
fault_line OutOfMemory = codes "ide: out of memory\n"
fault_line ScriptTooLong = codes "ide: script too long\n"
fault_line Rejected = codes "ide: bad transcript\n"
