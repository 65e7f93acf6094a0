use Rattle.script_lang.proofs.PrintLemmas.{is_read_back}
use Rattle.script_lang.proofs.laws.printed_scripts_are_read_back.Goals as goal

pub returns : goal.returns
returns c = is_read_back
