-- The line of a command.
use Rattle.std.specs.Prelude.{ℕ, List, ◌++◌, codes, decimal}
use Rattle.demo.specs.declared.command.Command.{Command}
use Rattle.demo.specs.declared.command.Verb.{Verb}
use Rattle.demo.specs.declared.command.Verb.TheVariants.{Create, Write}

-- the word of a command
abbrev pub word_of : Verb → List ℕ
word_of Create = codes "create"
word_of Write = codes "write"

-- what stands before the number of the class's method
abbrev pub letter_of : Verb → List ℕ
letter_of Create = codes "m"
letter_of Write = codes "w"

-- the path of a file
abbrev pub path_of : ℕ → List ℕ
path_of file = codes "G" ++ decimal file ++ codes ".java"

-- the name of a method
abbrev pub method_of : Command → List ℕ
method_of command = letter_of command.verb ++ decimal command.method

-- the text of a class
abbrev pub class_of : Command → List ℕ
class_of command =
    codes "class G" ++ decimal command.file ++ codes " extends G" ++ decimal command.parent
    ++ codes " { void " ++ method_of command ++ codes "() {} }"

-- the whole line
abbrev pub line_of : Command → List ℕ
line_of command = word_of command.verb ++ codes " " ++ path_of command.file ++ codes " \"" ++ class_of command ++ codes "\"\n"
