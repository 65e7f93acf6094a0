-- What the words of the command line ask for.
use Rattle.std.specs.Prelude.{ℕ, ◌≡◌, ◌≤◌, ◌⊎◌, List, Option, Some, None, Result, Ok, Err, option_and_then, option_map, codes, if◌then◌else◌}
use Rattle.std.specs.Str.{bytes_eq, chars}
use Rattle.clap.specs.Walk.{Row, Text, first_of, is_empty}
use Rattle.clap.specs.Words.{fault_of, subcommand_of}
use Rattle.command_line.specs.declared.request.Request.{Request}
use Rattle.command_line.specs.declared.request.Request.TheVariants.{Play, Demo, Check, Index}
use Rattle.command_line.specs.declared.request.WordsRefusal.{WordsRefusal}
use Rattle.command_line.specs.declared.request.WordsRefusal.TheVariants as refusal
use Rattle.command_line.specs.Grammar.{command}
use Rattle.command_line.specs.Number.{number_between}

-- the highest seed
abbrev pub max_seed : ℕ
max_seed = 2147483647

-- the highest number of files, of which there is at least one
abbrev pub max_files : ℕ
max_files = 10000

-- the highest number of edits
abbrev pub max_edits : ℕ
max_edits = 50000

-- the highest number of workers
abbrev pub max_workers : ℕ
max_workers = 8

-- the word that an option or an argument has
abbrev pub text_in : List Row → Text → Option Text
text_in options name = first_of name options

-- the number that an option has, where its value spells one within bounds
abbrev pub number_in : List Row → Text → ℕ → ℕ → Option ℕ
number_in options name least most = option_and_then (number_between least most) (text_in options name)

-- the path that an option has, where it is given: the characters of its word
abbrev pub path_in : List Row → Text → Option Text
path_in options name = option_map (λ word. chars word) (text_in options name)

-- what `play` with these options asks for
abbrev pub play_by : List Row → Option Request
play_by options = option_map (λ workers. Play workers (path_in options (codes "store"))) (number_in options (codes "workers") 0 max_workers)

-- what `demo` with these options asks for
abbrev pub demo_by : List Row → Option Request
demo_by options =
    option_and_then (λ seed.
    option_and_then (λ files.
    option_and_then (λ edits.
    option_map (λ workers. Demo seed files edits workers)
    (number_in options (codes "workers") 0 max_workers))
    (number_in options (codes "edits") 0 max_edits))
    (number_in options (codes "files") 1 max_files))
    (number_in options (codes "seed") 0 max_seed)

-- what `check` with these options asks for: the path is the characters of its word
abbrev pub check_by : List Row → Option Request
check_by options =
    option_and_then (λ workers. option_map (λ path. Check (chars path) workers) (text_in options (codes "path")))
    (number_in options (codes "workers") 0 max_workers)

-- what the subcommand of this name with its options asks for
abbrev pub named_by : Text → List Row → Option Request
named_by name options =
    if bytes_eq name (codes "play") then play_by options
    else (if bytes_eq name (codes "demo") then demo_by options
    else (if bytes_eq name (codes "index") then Some Index else check_by options))

-- what a subcommand with its options asks for; without one it is `play` with no worker and no store
abbrev pub request_by : Option (Text × List Row) → Option Request
request_by None = Some (Play 0 None)
request_by (Some (name, options)) = named_by name options

-- what the words ask for, where clap takes them and no help is asked for: then it has no fault to tell of them
abbrev pub request_of : List Text → Option Request
request_of words = if is_empty (fault_of command words) then request_by (subcommand_of command words) else None

-- whether a request is kept with a text of its own, for which memory may be short
abbrev pub HoldsText : Request → Type 0
HoldsText (Play workers None) = ⊥
HoldsText (Play workers (Some store)) = Unit {0}
HoldsText (Demo seed files edits workers) = ⊥
HoldsText (Check path workers) = Unit {0}
HoldsText Index = ⊥

-- how the reading of what is asked for ends: with it, or where it is nothing with the refusal of the words; memory may be short for a text alone
abbrev pub ReadsAs : Option Request → Result Request WordsRefusal → Type 0
ReadsAs None result = result ≡ Err refusal.Usage
ReadsAs (Some request) result = (result ≡ Ok request) ⊎ ((result ≡ Err refusal.OutOfMemory) × HoldsText request)

-- the numbers of a request lie within their bounds
abbrev pub IsInRange : Request → Type 0
IsInRange (Play workers store) = workers ≤ max_workers
IsInRange (Demo seed files edits workers) = (seed ≤ max_seed) × (1 ≤ files) × (files ≤ max_files) × (edits ≤ max_edits) × (workers ≤ max_workers)
IsInRange (Check path workers) = workers ≤ max_workers
IsInRange Index = Unit {0}
