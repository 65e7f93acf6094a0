-- The forms of the lines of a script: a row for each word.
use Rattle.std.specs.Prelude.{List, [], ◌∷◌, codes}
use Rattle.write_history.specs.declared.change.Change.{Change}
use Rattle.write_history.specs.declared.change.Change.TheVariants as change
use Rattle.queries.specs.declared.query.Query.{Query}
use Rattle.queries.specs.declared.query.Query.TheVariants as query
use Rattle.script_lang.specs.Forms.{Path, Word, Number, Text, Form}
use Rattle.script_lang.specs.declared.command.Command.{Command}
use Rattle.script_lang.specs.declared.command.Command.TheVariants as command

-- the questions about something
abbrev pub query_forms : List (Form Query)
query_forms =
    record { word = codes "class"; kinds = Word ∷ []; make = query.Class }
    ∷ record { word = codes "supers"; kinds = Word ∷ []; make = query.Supers }
    ∷ record { word = codes "method"; kinds = Word ∷ []; make = query.Method }
    ∷ record { word = codes "word"; kinds = Word ∷ []; make = query.Word }
    ∷ record { word = codes "usages"; kinds = Word ∷ []; make = query.Usages }
    ∷ record { word = codes "inheritors"; kinds = Word ∷ []; make = query.Inheritors }
    ∷ record { word = codes "key"; kinds = Text ∷ []; make = query.Key }
    ∷ record { word = codes "outline"; kinds = Path ∷ []; make = query.Outline }
    ∷ []

-- the load
abbrev pub load_forms : List (Form Command)
load_forms = record { word = codes "load"; kinds = Path ∷ []; make = command.Load } ∷ []

-- the changes. An intake has no form: settles and workers make them
abbrev pub change_forms : List (Form Change)
change_forms =
    record { word = codes "create"; kinds = Path ∷ Text ∷ []; make = change.Create }
    ∷ record { word = codes "write"; kinds = Path ∷ Text ∷ []; make = change.Write }
    ∷ record { word = codes "delete"; kinds = Path ∷ []; make = change.Delete }
    ∷ record { word = codes "open"; kinds = Path ∷ []; make = change.OpenDoc }
    ∷ record { word = codes "insert"; kinds = Path ∷ Number ∷ Text ∷ []; make = change.Insert }
    ∷ record { word = codes "erase"; kinds = Path ∷ Number ∷ Number ∷ []; make = change.Erase }
    ∷ record { word = codes "commit"; kinds = Path ∷ []; make = change.Commit }
    ∷ record { word = codes "save"; kinds = Path ∷ []; make = change.Save }
    ∷ record { word = codes "close"; kinds = Path ∷ []; make = change.CloseDoc }
    ∷ record { word = codes "move"; kinds = Path ∷ Path ∷ []; make = change.Move }
    ∷ []
