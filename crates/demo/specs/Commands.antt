-- The commands of the script, from the seed.
use Rattle.std.specs.Prelude.{ℕ, zero, suc, ◌+◌, ◌*◌, ◌%◌, ◌==◌, Bool, not, List, [], ◌∷◌, ◌++◌}
use Rattle.demo.specs.declared.command.Command.{Command}
use Rattle.demo.specs.declared.command.Verb.TheVariants.{Create, Write}
use Rattle.demo.specs.Draws.{draw_of}

-- the creation of a file, whose parent comes before it, or is `G0`; it takes one draw
abbrev pub create_of : ℕ → ℕ → Command
create_of seed file = record { verb = Create; file = file; parent = draw_of seed file % file; method = file }

-- the creations of so many files, in order
abbrev pub creates : ℕ → ℕ → List Command
creates seed zero = []
creates seed (suc before) = creates seed before ++ create_of seed (suc before) ∷ []

-- an edit of the file that one draw tells, whose parent is told by the next
abbrev pub edit_by : ℕ → ℕ → ℕ → Command
edit_by file number edit = record { verb = Write; file = file; parent = number % file; method = edit }

-- the edit behind so many others, each of which took two draws from this state on
abbrev pub edit_after : ℕ → ℕ → ℕ → Command
edit_after state files before =
    let drawn = 2 * before in
    edit_by (1 + draw_of state (suc drawn) % files) (draw_of state (suc (suc drawn))) (suc before)

-- so many edits of so many files, in order
abbrev pub edits : ℕ → ℕ → ℕ → List Command
edits state files zero = []
edits state files (suc before) = edits state files before ++ edit_after state files before ∷ []

-- the edits of the first lane are those of files with an odd number
abbrev pub is_of_first_lane : Command → Bool
is_of_first_lane command = command.file % 2 == 1

-- those of the second lane are the others
abbrev pub is_of_second_lane : Command → Bool
is_of_second_lane command = not (is_of_first_lane command)
