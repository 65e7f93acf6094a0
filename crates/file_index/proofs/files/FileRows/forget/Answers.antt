use Rattle.file_index.proofs.Words.{◌∙◌, sym, eqb-true, nil_from_length}
use Rattle.file_index.proofs.SlotLemmas.{nothing_goes, without_is}
use Rattle.file_index.proofs.files.FileRows.forget.Goals as goal

pub returns-then-has_none-clause-rows : goal.returns-then-has_none-clause-rows
returns-then-has_none-clause-rows g c =
    let none = nil_from_length _ (eqb-true _ 0 (sym c.has_none.ensures ∙ c.if-has_none.true)) in
    c.take.ensures.rows ∙ without_is c.self.inside.slots.items _ c.self.view_is c.args.file
    ∙ nothing_goes c.self.inside.slots.items _ c.self.view_is c.args.file none
