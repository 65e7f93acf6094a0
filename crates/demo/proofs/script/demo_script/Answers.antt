use Rattle.demo.proofs.ScriptLemmas.{demo-short}
use Rattle.demo.proofs.script.demo_script.Goals as goal

pub returns-clause-fits : goal.returns-clause-fits
returns-clause-fits c = demo-short c.args.seed c.args.files c.args.edits c.requires.some_file c.requires.few_files c.requires.few_edits
