use Rattle.demo.proofs.ScriptLemmas.{edit_more}
use Rattle.demo.proofs.commands.edit_commands.Goals as goal

pub loop-before-preserved : goal.loop-before-preserved
loop-before-preserved c =
    edit_more _ _ _ _ _ _ _ _ _ _ c.loop-before.invariant.0 c.loop-before.invariant.1 c.draw.ensures.drawn c.draw.ensures.after
    c.draw-in-loop-before.ensures.drawn c.draw-in-loop-before.ensures.after c.in_ok-push.ensures.items
