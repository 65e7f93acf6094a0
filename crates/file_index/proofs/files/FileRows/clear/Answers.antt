use Rattle.file_index.proofs.Words.{◌≡◌, [], sym, ◌∙◌, arith, nat_tests, rows_in_file}
use Rattle.file_index.proofs.SlotLemmas.{nothing_goes, without_is}
use Rattle.file_index.proofs.files.FileRows.clear.Goals as goal

pub returns-then-is_none : goal.returns-then-is_none
returns-then-is_none g c =
    let none : rows_in_file c.args.file c.args.self.now ≡ [] = grind (arith, c.rows.ensures, c.if-is_none.ensures) in record {
      old = c.new.ensures ∙ sym none;
      rows = sym (without_is c.self.inside.slots.items _ c.self.view_is c.args.file ∙ nothing_goes c.self.inside.slots.items _ c.self.view_is c.args.file none);
      each = λ j. grind (arith, nat_tests, none);
      stays = λ j known. known;
    }

pub returns-clause-rows : goal.returns-clause-rows
returns-clause-rows g c = c.put.ensures.rows ∙ rw c.new-2.ensures (sym (without_is c.self.inside.slots.items _ c.self.view_is c.args.file))
