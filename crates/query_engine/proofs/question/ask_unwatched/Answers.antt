use Rattle.query_engine.proofs.LookLemmas.{never_stopped, refl}
use Rattle.query_engine.proofs.question.ask_unwatched.Goals as goal

pub returns-clause-not_stopped : goal.returns-clause-not_stopped
returns-clause-not_stopped c = never_stopped (λ watch. refl) c.ask.ensures.looked
