use Rattle.ide_world.proofs.Words.{ap, length, ◌∙◌, length-with_row}
use Rattle.ide_world.proofs.apply.apply_row.Goals as goal

pub returns-in-Put-clause-made : goal.returns-in-Put-clause-made
returns-in-Put-clause-made c = ap length c.put.ensures.rows ∙ length-with_row _ _ _ c.requires.some c.requires.within

pub returns-in-Remove-clause-made : goal.returns-in-Remove-clause-made
returns-in-Remove-clause-made c = ap length c.put-in-Remove.ensures.rows ∙ length-with_row _ _ _ c.requires.some c.requires.within
