use Rattle.ide_world.proofs.Words.{refl}
use Rattle.ide_world.proofs.WalkLemmas.{kept_after}
use Rattle.ide_world.proofs.draft.Draft.push.Goals as goal

pub invariant_of-self-2 : goal.invariant_of-self-2
invariant_of-self-2 c = kept_after c.self.inside _ c.args.step c.self.invariant (rw (← c.self.view_is) at c.requires.lawful)
    (rw (← c.self.view_is) at c.requires.few) refl c.in_ok-push.ensures.ok (rw (← c.self.view_is) at c.made_after-made.ensures.value)
    c.made_after-made.ensures.few (rw (← c.self.view_is) at c.opened_after-opened.ensures) c.later-next_stamp.ensures
