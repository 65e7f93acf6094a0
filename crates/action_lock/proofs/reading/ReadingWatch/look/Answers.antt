use Rattle.action_lock.proofs.RuleLemmas.{ap, ◌∙◌, found_mark}
use Rattle.action_lock.proofs.reading.ReadingWatch.look.Goals as goal

pub returns-clause-seen : goal.returns-clause-seen
returns-clause-seen g c = λ e. ap (λ v. v.sights) c.check.ensures.view ∙ found_mark _ _ _ c.check.ensures.found e
