use Rattle.stub_tree.proofs.LawfulLemmas.{lawful_list_push}
use Rattle.stub_tree.proofs.laws.a_lawful_list_grows.Goals as goal

pub returns : goal.returns
returns c = lawful_list_push
