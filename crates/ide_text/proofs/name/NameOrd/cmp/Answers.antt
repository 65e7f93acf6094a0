use Rattle.ide_text.proofs.Utf8Lemmas.{◌∙◌, cmp-encodes}
use Rattle.ide_text.proofs.name.NameOrd.cmp.Goals as goal

pub returns : goal.returns
returns c = rw (c.as_str.ensures.utf8, c.as_str-2.ensures.utf8) at c.cmp.ensures ∙ cmp-encodes c.args.self.now c.args.other.now
