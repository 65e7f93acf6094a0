use Rattle.ide_world.proofs.Words.{refl, Java, is_type_named, stubs_in}
use Rattle.ide_world.proofs.FoundLemmas.{walked}
use Rattle.ide_world.proofs.state.State.type_rows.Goals as goal

pub returns : goal.returns
returns c = rw (← c.self.view_is) (assumption (walked Java (λ p. p.types) c.args.name.now (stubs_in (is_type_named c.args.name.now))
    (c.a_path_has_one_kind.ensures Java) refl (λ text. c.a_name_finds_its_types.ensures.java text _)
    (λ text. c.a_name_finds_its_types.ensures.properties text _) c.self.inside c.self.invariant _ c.type_rows.ensures))
