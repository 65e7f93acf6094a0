use Rattle.script_lang.proofs.FieldLemmas.{parts_from_split}
use Rattle.script_lang.proofs.field.parts_at_space.Goals as goal

pub returns : goal.returns
returns c = parts_from_split _ _ c.utf8.text c.split_once.ensures.cases
