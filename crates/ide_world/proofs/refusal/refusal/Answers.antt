use Rattle.ide_world.proofs.refusal.refusal.Goals as goal

pub returns-in-Create-clause-value : goal.returns-in-Create-clause-value
returns-in-Create-clause-value c = rw c.in-Create.is (c.create_refusal.ensures c.in-Create.text)
