use Rattle.transcript_check.proofs.SideLemmas.{none_waits, one_waits, sym, ◌∙◌}
use Rattle.transcript_check.proofs.sides.where_over.Goals as goal

pub returns-in-None : goal.returns-in-None
returns-in-None c = none_waits c.args.cursors.now (sym c.waiting.ensures ∙ c.in-None.is)

pub returns-in-Some : goal.returns-in-Some
returns-in-Some c = one_waits c.args.cursors.now c.args.left.now (sym c.waiting.ensures ∙ c.in-Some.is) c.index-cursors-place.is c.waits_at.ensures
