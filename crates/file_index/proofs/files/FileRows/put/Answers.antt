use Rattle.file_index.proofs.Words.{Some, refl, arith}
use Rattle.file_index.proofs.SlotLemmas.{found_in, inside, written}
use Rattle.file_index.proofs.files.FileRows.put.Goals as goal

pub write-requires : goal.write-requires
write-requires g c = inside c.self.inside.slots.items _ c.self.view_is c.args.file c.requires

pub unreachable-requires : goal.unreachable-requires
unreachable-requires g c = grind (arith, found_in c.self.inside.slots.items _ c.self.view_is c.args.file, c.write.ensures.old, c.in-None.is, c.requires)

pub returns : goal.returns
returns g c =
    let within = inside c.self.inside.slots.items _ c.self.view_is c.args.file c.requires in
    let now = written c.self.inside.slots.items _ c.self.view_is c.args.file (Some c.args.new) _ c.write.ensures.slots (λ l. absurd (omega arith)) in record {
      old = rw (found_in c.self.inside.slots.items _ c.self.view_is c.args.file, ← c.write.ensures.old, c.in-Some.is) refl;
      rows = now.rows;
      each = now.each;
      stays = λ j known. grind (arith, now.known j, known);
    }
