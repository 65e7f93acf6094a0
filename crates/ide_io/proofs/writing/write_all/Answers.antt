use Rattle.std.proofs.Common.{◌∙◌, arith, take-add, length-drop}
use Rattle.std.proofs.lemmas.Grind.{common_steps}
use Rattle.std.proofs.lemmas.List.{take_rest}
use Rattle.ide_io.proofs.writing.write_all.Goals as goal

pub writes-preserved : goal.writes-preserved
writes-preserved g c =
    let all = c.args.bytes.now in
    let wrote = c.in_ok-sent.ensures in
    let rest = take_rest all c.writes.sent in
    let count = rw rest at wrote.count in
    record {
      within = omega (arith, count, length-drop c.writes.sent all);
      taken = grind (arith, common_steps, c.writes.invariant.taken, wrote.bytes, rest, take-add c.writes.sent c.in_ok-sent.field-0 all);
      kept = wrote.no_fault ∙ c.writes.invariant.kept;
    }
