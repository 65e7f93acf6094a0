use Rattle.stub_tree.proofs.LawfulLemmas.{lawful_list_few}
use Rattle.stub_tree.proofs.laws.lawful_lists_are_short.Goals as goal

pub returns : goal.returns
returns c = lawful_list_few
