use Rattle.ide_world.proofs.Words.{arith, nat_tests, same_stamp-fold}
use Rattle.ide_world.proofs.laws.a_task_stays_of_the_world.Goals as goal

pub returns : goal.returns
returns c = λ earlier later id task legal e. grind (arith, nat_tests, same_stamp-fold earlier later id)
