use Rattle.vfs_core.proofs.Words.{sym, ◌∙◌, rules, indexed_now}
use Rattle.vfs_core.proofs.KeptLemmas.{set_twice}
use Rattle.vfs_core.proofs.files.Files.set_indexed.Goals as goal

pub returns-in-Some-clause-rows : goal.returns-in-Some-clause-rows
returns-in-Some-clause-rows c =
    let after = set_twice c.self.inside.rows.rows c.put.new.self.rows c.put-in-Some.new.self.rows c.args.id indexed_now c.in-Some.row
    (sym c.put.ensures.old ∙ c.in-Some.is) c.put.ensures.kept c.put.ensures.made c.put-in-Some.ensures.kept in
    rw (← c.self.view_is) (search (rules, after))
