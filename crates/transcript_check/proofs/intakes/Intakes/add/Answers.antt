use Rattle.transcript_check.proofs.SideLemmas.{among_more, ap, ◌∙◌, ◌||◌, is_taking, is_among}
use Rattle.transcript_check.proofs.intakes.Intakes.add.Goals as goal

pub returns-clause-among : goal.returns-clause-among
returns-clause-among c s f t =
    among_more c.args.seat c.args.file c.args.stamp c.self.inside.intakes c.insert.new.self c.in_ok-insert.ensures.updates s f t
    ∙ ap (λ taken. is_taking s f t (c.args.seat, c.args.file, c.args.stamp) || is_among s f t taken) c.self.view_is
