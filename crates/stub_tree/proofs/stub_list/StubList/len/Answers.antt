use Rattle.std.proofs.Common.{arith, ◌≤◌, length}
use Rattle.ide_text.specs.Text.{max_chars}
use Rattle.stub_tree.proofs.LawfulLemmas.{lawful_list_few}
use Rattle.stub_tree.proofs.stub_list.StubList.len.Goals as goal

-- a lawful list has no more stubs than a text has characters
pub overflow_cast-result : goal.overflow_cast-result
overflow_cast-result c =
    let few : length c.self.inside.stubs.items ≤ max_chars = lawful_list_few c.self.inside.stubs.items c.self.invariant in
    omega arith

pub returns-clause-few : goal.returns-clause-few
returns-clause-few c =
    let few : length c.self.inside.stubs.items ≤ max_chars = lawful_list_few c.self.inside.stubs.items c.self.invariant in
    omega arith
