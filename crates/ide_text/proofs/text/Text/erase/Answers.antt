use Rattle.ide_text.proofs.TextLemmas.{rules, IsText-without_part}
use Rattle.ide_text.proofs.text.Text.erase.Goals as goal

pub invariant_of-self : goal.invariant_of-self
invariant_of-self c = search (rules, IsText-without_part)
