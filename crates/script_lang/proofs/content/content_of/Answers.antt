use Rattle.script_lang.proofs.Words.{arith, is_utf8-from_IsUtf8, IsUtf8-from_is_utf8}
use Rattle.script_lang.specs.Contents.{content_of}
use Rattle.script_lang.proofs.content.content_of.Goals as goal

pub returns-in_default : goal.returns-in_default
unfolding content_of
returns-in_default c = grind (arith, IsUtf8-from_is_utf8)

pub returns : goal.returns
unfolding content_of
returns c = grind (arith, is_utf8-from_IsUtf8)
