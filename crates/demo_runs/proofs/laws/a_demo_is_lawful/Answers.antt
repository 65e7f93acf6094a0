use Rattle.demo_runs.proofs.ScriptLemmas.{demo_is_script}
use Rattle.demo_runs.proofs.laws.a_demo_is_lawful.Goals as goal

pub returns : goal.returns
returns c =
    let is_script = demo_is_script c.printed_scripts_are_read_back.ensures c.demos_are_short.ensures in record {
      script = is_script;
      only = λ seed files edits script some few fits is.
          c.scripts_are_read_in_one_way.ensures _ script _ is (is_script seed files edits some few fits);
    }
