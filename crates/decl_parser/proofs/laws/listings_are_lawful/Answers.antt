use Rattle.decl_parser.proofs.Stages.{listing-sound}
use Rattle.decl_parser.proofs.laws.listings_are_lawful.Goals as goal

pub returns : goal.returns
returns c text = (listing-sound text (c.tokens_cover_their_text.ensures.follow text) (c.tokens_cover_their_text.ensures.inside text)).2
