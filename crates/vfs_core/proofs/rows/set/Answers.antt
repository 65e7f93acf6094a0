use Rattle.vfs_core.proofs.Words.{sym, ◌∙◌, arith, put_at-set, put_at-push}
use Rattle.vfs_core.proofs.rows.set.Goals as goal

pub returns-then-place-len-clause-rows : goal.returns-then-place-len-clause-rows
returns-then-place-len-clause-rows c =
    rw c.replace.ensures.after (sym (put_at-set c.args.place c.args.row c.args.rows.now.items (omega (arith, c.if-place-len.true, c.len.ensures))))

pub returns-clause-rows : goal.returns-clause-rows
returns-clause-rows c =
    c.in-Ok.ensures.items
    ∙ sym (put_at-push c.args.place c.args.row c.args.rows.now.items (omega (arith, c.if-place-len.false, c.len.ensures, c.requires.inside)))
