use Rattle.query_engine.proofs.SearchLemmas.{asked_is, asked_more, ap, ◌||◌, ◌∙◌, not, bytes_eq, is_asked}
use Rattle.query_engine.proofs.asked_names.AskedNames.add.Goals as goal

pub returns-clause-fresh : goal.returns-clause-fresh
returns-clause-fresh c =
    c.in_ok-insert.ensures.added ∙ ap not (asked_is c.args.name.now c.self.inside.names.keys)
    ∙ ap (λ names. not (is_asked c.args.name.now names)) c.self.view_is

pub returns-clause-asks : goal.returns-clause-asks
returns-clause-asks c other =
    asked_more c.args.name c.self.inside.names c.insert.new.self c.in_ok-insert.ensures.updates other
    ∙ ap (λ names. bytes_eq other c.args.name.now || is_asked other names) c.self.view_is
