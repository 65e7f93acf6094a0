use Rattle.decl_parser.proofs.Words.{arith, common_steps}
use Rattle.decl_parser.specs.Listing.{listing_of}
use Rattle.decl_parser.proofs.Stages.{listing-sound, tokens-few}
use Rattle.decl_parser.proofs.listing.stubs.Goals as goal

-- the tokens of a text are no more than its characters
pub forest-requires-clause-few : goal.forest-requires-clause-few
forest-requires-clause-few c =
    let cut = c.tokens_cover_their_text.ensures in
    rw (c.deref.ensures.value, c.requires) (omega (arith, tokens-few c.args.text.now (cut.follow _) (cut.inside _)))

pub from_vec-requires : goal.from_vec-requires
unfolding listing_of
from_vec-requires c =
    let cut = c.tokens_cover_their_text.ensures in
    rw (c.in_ok-add_level.ensures, c.new-stubs.ensures.items, c.deref-2.ensures.value, c.in_ok-forest.ensures, c.deref.ensures.value, c.requires)
    ((listing-sound c.args.text.now (cut.follow _) (cut.inside _)).2 c.len.ensures.text.few)

pub returns : goal.returns
unfolding listing_of
returns c = grind (arith, common_steps)
