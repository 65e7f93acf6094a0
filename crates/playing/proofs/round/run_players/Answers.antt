use Rattle.playing.proofs.Words.{length, ap, ◌∙◌}
use Rattle.playing.proofs.RoundLemmas.{given_back}
use Rattle.playing.proofs.round.run_players.Goals as goal

pub returns-clause-run : goal.returns-clause-run
returns-clause-run g c k d less =
    let lent = c.as_mut_slice.ensures.value in
    rw (given_back c.args.players.now.len _ c.args.players.now.items (c.run_reversed.ensures.same ∙ ap length lent) c.args.players.now.ok.0)
    (rw lent at (c.run_reversed.ensures.run k d (rw lent less)))
