use Rattle.decl_parser.proofs.Stages.{fold-comments}
use Rattle.decl_parser.specs.Forest.{forest_of}
use Rattle.decl_parser.proofs.laws.comments_count_for_nothing.Goals as goal

pub returns : goal.returns
unfolding forest_of
returns c text ts = rw (fold-comments text _ ts)
