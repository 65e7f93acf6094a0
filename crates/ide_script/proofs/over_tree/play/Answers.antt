use Rattle.std.proofs.lemmas.List.{nil_from_length}
use Rattle.ide_script.proofs.RunLemmas.{◌∙◌, PlaysWith, rules}
use Rattle.ide_script.proofs.over_tree.play.Goals as goal

pub returns-in_err-loads-clause-asks_some : goal.returns-in_err-loads-clause-asks_some
returns-in_err-loads-clause-asks_some g c = λ failed. c.read_loads_of.ensures.asks_some (search (rules, failed))

pub returns-clause-plays : goal.returns-clause-plays
returns-clause-plays g c =
    let count = c.in_ok-play.ensures.workers in
    let fits = c.in_ok-play.ensures.fits in
    let leads : PlaysWith _ _ _ _ _ =
    record { count = count; fits = fits; alone = λ lanes none. c.a_run_alone_is_serial.ensures _ _ _ lanes (rw (nil_from_length _ (count ∙ none)) at fits) } in
    record { loads = _; read = search rules; leads = leads }
