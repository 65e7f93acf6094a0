use Rattle.file_index.proofs.Words.{◌≡◌, [], Some, ◌∙◌, arith, nat_tests, standing, rows_in_file}
use Rattle.file_index.proofs.SlotLemmas.{nothing_goes, written}
use Rattle.file_index.proofs.files.FileRows.make_known.Goals as goal

pub returns-then-is_none : goal.returns-then-is_none
returns-then-is_none g c =
    let slots = c.make_place.new.slots.items in
    let seen = c.in_ok-make_place.ensures.same ∙ c.self.view_is in
    let none : rows_in_file c.args.file (standing slots) ≡ [] = grind (arith, c.rows.ensures, c.if-is_none.ensures) in
    let fills = rw c.new.ensures at c.fill.ensures in
    let place = c.in_ok-make_place.ensures.place in
    let now = written slots _ seen c.args.file (Some []) c.fill.new.slots.items fills (λ l. absurd (omega arith)) in record {
      same = now.rows ∙ nothing_goes slots _ seen c.args.file (rw seen at none);
      each = λ j. grind (arith, nat_tests, now.each j, rw seen at none);
      known = grind (arith, nat_tests, now.known c.args.file);
      stays = λ j known. grind (arith, now.known j, known);
    }
