use Rattle.file_index.proofs.Words.{◌∙◌, sym}
use Rattle.file_index.proofs.SlotLemmas.{walk_meets}
use Rattle.file_index.proofs.files.FileRows.walk.Goals as goal

pub returns : goal.returns
returns g c =
    let meets = walk_meets g.K.PartialEq.eq c.args.key.now c.self.inside.slots.items _ c.self.view_is in
    let rows = c.new.ensures ∙ meets c.args.ids.now c.requires.rises c.requires.all in
    record { rows = rows; by_files = λ others rise all. rows ∙ sym (meets others rise all) }
