use Rattle.query_engine.proofs.FoundLemmas.{types_sorted, [], ◌∷◌, types_of}
use Rattle.query_engine.proofs.LevelLemmas.{inheritors_sound, inheritors_whole, levels_sorted}
use Rattle.query_engine.proofs.laws.inheritors_are_the_ends_of_chains.Goals as goal

pub returns : goal.returns
returns c = record {
  sound = λ name types level t found. (inheritors_sound name types level t found).0;
  least = λ name types level t found. (inheritors_sound name types level t found).1;
  few = λ name types level t found. (inheritors_sound name types level t found).2;
  complete = inheritors_whole;
  ordered = λ name world. levels_sorted _ 1 (name ∷ []) (types_of world) (types_sorted c.offsets_rise.ensures world);
}
