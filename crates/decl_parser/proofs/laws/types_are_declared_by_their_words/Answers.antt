use Rattle.decl_parser.proofs.Stages.{listing-no_types}
use Rattle.decl_parser.proofs.laws.types_are_declared_by_their_words.Goals as goal

pub returns : goal.returns
returns c = listing-no_types
