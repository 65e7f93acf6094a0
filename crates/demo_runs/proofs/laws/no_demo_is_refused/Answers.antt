use Rattle.demo_runs.proofs.laws.no_demo_is_refused.Goals as goal

pub returns : goal.returns
returns c = λ seed files edits line some few fits refused.
    c.scripts_are_not_refused.ensures _ _ line (c.a_demo_is_lawful.ensures.script seed files edits some few fits) refused
