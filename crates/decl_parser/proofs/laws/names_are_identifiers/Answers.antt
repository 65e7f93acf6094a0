use Rattle.decl_parser.proofs.Stages.{listing-sound}
use Rattle.decl_parser.proofs.laws.names_are_identifiers.Goals as goal

pub returns : goal.returns
returns c text k d l = ((listing-sound text (c.tokens_cover_their_text.ensures.follow text) (c.tokens_cover_their_text.ensures.inside text)).0 k d l).0
