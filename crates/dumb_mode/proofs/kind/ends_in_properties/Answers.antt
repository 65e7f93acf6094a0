use Rattle.dumb_mode.proofs.KindLemmas.{codes, refl, ends_text}
use Rattle.dumb_mode.proofs.kind.ends_in_properties.Goals as goal

pub returns : goal.returns
returns c = ends_text (codes ".properties") c.args.path.now refl c.utf8.path c.ends_with.result c.ends_with.ensures.cases
