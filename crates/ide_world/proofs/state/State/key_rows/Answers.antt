use Rattle.ide_world.proofs.Words.{refl, Properties}
use Rattle.overlay_index.specs.Keys.{places_of_key}
use Rattle.ide_world.proofs.FoundLemmas.{walked}
use Rattle.ide_world.proofs.state.State.key_rows.Goals as goal

pub returns : goal.returns
returns c = rw (← c.self.view_is) (assumption (walked Properties (λ p. p.keys) c.args.name.now (places_of_key c.args.name.now)
    (c.a_path_has_one_kind.ensures Properties) refl (λ text. c.a_key_finds_its_places.ensures.java text _)
    (λ text. c.a_key_finds_its_places.ensures.properties text _) c.self.inside c.self.invariant _ c.key_rows.ensures))
