use Rattle.file_index.proofs.Words.{None, refl, sym, ◌∙◌, arith, nat_tests}
use Rattle.file_index.proofs.SlotLemmas.{found_in, written, without_is}
use Rattle.file_index.proofs.files.FileRows.take.Goals as goal

pub returns : goal.returns
returns g c =
    let now = written c.self.inside.slots.items _ c.self.view_is c.args.file None c.empty.new.slots.items c.empty.ensures.slots (λ l. refl) in record {
      old = rw (found_in c.self.inside.slots.items _ c.self.view_is c.args.file, c.empty.ensures.old) refl;
      rows = now.rows ∙ sym (without_is c.self.inside.slots.items _ c.self.view_is c.args.file);
      each = now.each;
      stays = λ j other known. grind (arith, now.known j, other, known);
      forgotten = grind (arith, nat_tests, now.known c.args.file);
    }
