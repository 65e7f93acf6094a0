use Rattle.std.proofs.Common.{◌++◌, take, arith, length-append, length-take}
use Rattle.std.proofs.lemmas.Grind.{common_steps}
use Rattle.ide_io.proofs.reading.read_all.Goals as goal

pub returns-then-limit-len-clause-over : goal.returns-then-limit-len-clause-over
returns-then-limit-len-clause-over g c = λ _.
    let piece = take c.in_ok-count.count c.read.new.into in let read = c.in_ok-count.ensures in let len = length-append c.reads.bytes.items piece in
    let room = length-take c.min-room.result c.reads.chunk in let reads = c.reads.invariant in (
      c.reads.bytes.items ++ piece,
      omega (arith, len, read.count, c.read.auto.into, room, c.min-room.ensures, c.saturating_add.ensures, c.len.ensures, c.len-in-reads.ensures, reads.within),
      grind (arith, common_steps, reads.given, read.bytes.0),
    )

pub returns-in_err-extend_from_slice-clause-within : goal.returns-in_err-extend_from_slice-clause-within
returns-in_err-extend_from_slice-clause-within g c = λ _.
    let piece = take c.in_ok-count.count c.read.new.into in let read = c.in_ok-count.ensures in let len = length-append c.reads.bytes.items piece in
    (c.reads.bytes.items ++ piece, omega (arith, len, read.count, c.reads.bytes.ok.0), grind (arith, common_steps, c.reads.invariant.given, read.bytes.0))
