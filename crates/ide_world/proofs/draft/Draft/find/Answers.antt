use Rattle.ide_world.proofs.Words.{◌∙◌, sym, ap, option_copied, drafted_world}
use Rattle.ide_world.proofs.PathLemmas.{row_at_path}
use Rattle.ide_world.proofs.draft.Draft.find.Goals as goal

pub unreachable-requires : goal.unreachable-requires
unreachable-requires c = row_at_path (drafted_world c.args.self.now) c.args.path.now c.in_ok-id.id
    (sym c.id_of.ensures ∙ c.in_ok-id.was) (sym c.row.ensures.value ∙ ap option_copied c.in_default.is)
