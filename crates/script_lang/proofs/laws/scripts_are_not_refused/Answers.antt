use Rattle.script_lang.proofs.GrammarScript.{never_refused}
use Rattle.script_lang.proofs.laws.scripts_are_not_refused.Goals as goal

pub returns : goal.returns
returns c = never_refused
