use Rattle.playing.proofs.Words.{on_ok_weaker}
use Rattle.playing.proofs.RoundLemmas.{can_meet, can_run, played, round_ends}
use Rattle.playing.proofs.round.play_round.Goals as goal

pub run_players-requires-after_bounds : goal.run_players-requires-after_bounds
run_players-requires-after_bounds g c κs within = can_run c.args.script.now c.lanes.ensures.count c.in_ok-players.ensures.players

pub meet_players-met-requires-clause-players : goal.meet_players-met-requires-clause-players
meet_players-met-requires-clause-players g c =
    can_meet _ c.args.script.now _ _ _ _ c.lanes.ensures.count c.in_ok-players.ensures.players c.in_ok-players.ensures.count c.run_players.ensures.same
    c.run_players.ensures.run c.requires.one

pub returns-clause-alone : goal.returns-clause-alone
returns-clause-alone g c =
    round_ends _ c.args.script.now _ _ _ _ c.lanes.ensures.count c.in_ok-players.ensures.players c.in_ok-players.ensures.count c.run_players.ensures.same
    c.run_players.ensures.run _ c.requires.alone (rw c.is_last.ensures.view c.meet_players-met.ensures.met) c.is_last.ensures.knows

pub returns-clause-played : goal.returns-clause-played
returns-clause-played g c =
    on_ok_weaker c.meet_players-met.result
    (played _ c.args.script.now _ _ _ _ c.lanes.ensures.count c.in_ok-players.ensures.players c.in_ok-players.ensures.count c.run_players.ensures.same
    c.run_players.ensures.run _ c.requires.alone (rw c.is_last.ensures.view c.meet_players-met.ensures.met) c.is_last.ensures.knows _ _ c.beside.ensures)
    c.meet_players-met.ensures.taken
