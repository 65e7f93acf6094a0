use Rattle.playing.proofs.Words.{on_ok_weaker}
use Rattle.playing.proofs.RunLemmas.{run_all}
use Rattle.playing.proofs.run.play_all.Goals as goal

pub returns-clause-run : goal.returns-clause-run
returns-clause-run g c =
    let opening = c.in_ok-do_alone.ensures in let none = c.requires.no_answers in
    on_ok_weaker c.do_alone-2.result (run_all _ c.args.script.now _ _ _ _ _ _ c.args.answers.now _ _ _ _ _ _ c.prelude-prelude.ensures.lines c.last.ensures.lines
    c.requires.first.1 none.0 none.1 none.2 opening.drawn opening.done c.in_ok-play_round.ensures.played) c.do_alone-2.ensures.done
