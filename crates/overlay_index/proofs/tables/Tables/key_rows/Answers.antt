use Rattle.overlay_index.proofs.Words.{◌∙◌, refl}
use Rattle.overlay_index.proofs.FoundLemmas.{walk_finds}
use Rattle.overlay_index.proofs.tables.Tables.key_rows.Goals as goal

pub returns : goal.returns
returns c = rw (← c.self.view_is) (λ last full.
    c.of.ensures ∙ walk_finds c.args.name.now _ (λ parts. parts.keys) c.self.inside.keys.files (λ id. refl) refl _ c.rows.ensures.by_files last full)
