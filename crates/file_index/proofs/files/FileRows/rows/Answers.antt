use Rattle.file_index.proofs.Words.{None, sym, ap, ◌∙◌, slice_index_or}
use Rattle.file_index.proofs.SlotLemmas.{found_in}
use Rattle.file_index.proofs.files.FileRows.rows.Goals as goal

pub returns : goal.returns
returns g c = c.standing_at.ensures ∙ ap (λ slots. slice_index_or slots c.args.file None) c.deref.ensures.value
    ∙ sym (found_in c.self.inside.slots.items _ c.self.view_is c.args.file)
