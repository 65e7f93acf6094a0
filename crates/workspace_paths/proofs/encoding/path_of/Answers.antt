use Rattle.std.proofs.Common.{ℕ, ◌≡◌, ◌∙◌, Bool, true, false, List, Some, None, if◌then◌else◌, chars, refl, ap, rules}
use Rattle.std.specs.Bool.{then_some}
use Rattle.std.proofs.lemmas.Str.{scalars-chars, chars-encodes}
use Rattle.write_history.specs.Path.{is_path}
use Rattle.workspace_paths.specs.Paths.{encoded}
use Rattle.workspace_paths.proofs.PathLemmas.{scalars-encoded}
use Rattle.workspace_paths.proofs.encoding.path_of.Goals as goal

-- what is kept under a test is given where it stands
then_some-is : (test : Bool) (path : List ℕ) → then_some test path ≡ (if test then Some path else None)
then_some-is true path = refl
then_some-is false path = refl

pub returns : goal.returns
returns c =
    let name = chars c.args.name.now in
    let read = chars-encodes (encoded name) (scalars-encoded name (scalars-chars _ c.utf8.name)) in
    let path : c.in_ok-path.path ≡ encoded name = c.in_ok-path.ensures ∙ ap chars c.in_ok-encoded.ensures ∙ read in
    let (test, (lent, gives, is), kept) = c.filter.ensures in
    let lawful : test ≡ is_path lent.now = search (rules, gives) in
    kept ∙ rw (lawful, is, path) (then_some-is (is_path (encoded name)) (encoded name))
