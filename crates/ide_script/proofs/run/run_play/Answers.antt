use Rattle.ide_script.proofs.RunLemmas.{IsTranscript, refl, script_ends}
use Rattle.ide_script.proofs.run.run_play.Goals as goal

pub returns-in-Ok-play_stored-clause-ends : goal.returns-in-Ok-play_stored-clause-ends
returns-in-Ok-play_stored-clause-ends g c =
    let plays = c.in-Ok-play_stored.ensures.plays in
    let is : IsTranscript _ _ _ _ = record { loads = _; read = plays.read; is = record { told = _; ended = _; played = plays.leads; printed = refl } } in
    script_ends _ (record { script = _; read = c.in-Ok.ensures.ok; asked = c.in-Ok-play_stored.ensures.asks_each; is = is }) _ c.write_transcript.ensures.ends
