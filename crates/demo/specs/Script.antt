-- The script: a prelude that creates files, two lanes that rewrite them, and a last section that asks.
use Rattle.std.specs.Prelude.{ℕ, List, ◌++◌, codes, filter}
use Rattle.std.specs.List.{flat_map}
use Rattle.demo.specs.declared.command.Command.{Command}
use Rattle.demo.specs.Draws.{state_after}
use Rattle.demo.specs.Line.{line_of}
use Rattle.demo.specs.Commands.{creates, edits, is_of_first_lane, is_of_second_lane}

-- the lines of commands
abbrev pub lines_of : List Command → List ℕ
lines_of commands = flat_map line_of commands

-- the last section
abbrev pub last_section : List ℕ
last_section = codes "finally\nsettle\nstatus\nsupers G0\nsupers G1\n"

-- the edits of both lanes: their draws come behind those of the files
abbrev pub edits_of : ℕ → ℕ → ℕ → List Command
edits_of seed files edited = edits (state_after seed files) files edited

-- the bytes of the script of a seed, so many files and so many edits
abbrev pub demo_bytes : ℕ → ℕ → ℕ → List ℕ
demo_bytes seed files edited =
    lines_of (creates seed files)
    ++ codes "lane\n" ++ lines_of (filter is_of_first_lane (edits_of seed files edited))
    ++ codes "lane\n" ++ lines_of (filter is_of_second_lane (edits_of seed files edited))
    ++ last_section

-- how long a script is at most, as any script that is played
abbrev pub max_len : ℕ
max_len = 16777216
