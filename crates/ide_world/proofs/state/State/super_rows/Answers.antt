use Rattle.ide_world.proofs.Words.{refl, Java, names_super, stubs_in}
use Rattle.ide_world.proofs.FoundLemmas.{walked}
use Rattle.ide_world.proofs.state.State.super_rows.Goals as goal

pub returns : goal.returns
returns c = rw (← c.self.view_is) (assumption (walked Java (λ p. p.supers) c.args.name.now (stubs_in (names_super c.args.name.now))
    (c.a_path_has_one_kind.ensures Java) refl (λ text. c.a_name_finds_its_subtypes.ensures.java text _)
    (λ text. c.a_name_finds_its_subtypes.ensures.properties text _) c.self.inside c.self.invariant _ c.super_rows.ensures))
