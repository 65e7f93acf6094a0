use Rattle.playing.proofs.Words.{HasRun}
use Rattle.playing.proofs.RoundLemmas.{turned_round}
use Rattle.playing.proofs.round.run_reversed.Goals as goal

pub returns-clause-run : goal.returns-clause-run
returns-clause-run g c = turned_round (HasRun c.args.ide.now c.args.script.now c.args.beside) _ _ _ _ c.reverse.ensures.after c.run_each.ensures.same
    c.run_each.ensures.run c.reverse-2.ensures.after
