use Rattle.transcripts.proofs.Words.{refl, string_bytes}
use Rattle.transcripts.proofs.PrintLemmas.{entries_turn}
use Rattle.transcripts.proofs.print.push_entries.Goals as goal

pub loop-before-preserved : goal.loop-before-preserved
loop-before-preserved c =
    entries_turn (string_bytes c.loop-before.out) (string_bytes c.push_line.new.out) _ _ c.args.history.now.entries c.loop-before.before c.get.result.now c.get.ensures
    c.in_ok-push_line.ensures refl c.loop-before.invariant
