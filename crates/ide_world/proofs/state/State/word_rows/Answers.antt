use Rattle.ide_world.proofs.Words.{refl, Java, masks_in}
use Rattle.ide_world.proofs.FoundLemmas.{walked}
use Rattle.ide_world.proofs.state.State.word_rows.Goals as goal

pub returns : goal.returns
returns c = rw (← c.self.view_is) (assumption (walked Java (λ p. p.words) c.args.name.now (masks_in c.args.name.now)
    (c.a_path_has_one_kind.ensures Java) refl (λ text. c.a_word_finds_its_mask.ensures.java text _)
    (λ text. c.a_word_finds_its_mask.ensures.properties text _) c.self.inside c.self.invariant _ c.word_rows.ensures))
