use Rattle.java_tokens.proofs.Common.{◌∙◌}
use Rattle.java_tokens.specs.Front.{weights}
use Rattle.java_tokens.proofs.FrontLemmas.{front_fits, front-encodes}
use Rattle.java_tokens.proofs.fronted.front_of_name.Goals as goal

pub front_of-requires : goal.front_of-requires
unfolding weights
front_of-requires c = front_fits c.as_bytes.result.now

-- the front of its UTF-8
pub returns : goal.returns
unfolding weights
returns c = c.front_of.ensures ∙ rw (c.as_bytes.ensures.value, c.as_str.ensures.utf8) (front-encodes weights c.args.name.now)
