use Rattle.std.proofs.Common.{sym, subst, arith}
use Rattle.std.specs.Str.{IsAscii}
use Rattle.std.proofs.lemmas.Str.{IsUtf8-from_ascii}
use Rattle.ide_text.proofs.chars.joined.Goals as goal

-- no byte is ASCII, and both parts add none that isn't
pub from_utf8_unchecked-requires : goal.from_utf8_unchecked-requires
from_utf8_unchecked-requires c =
    let none : IsAscii c.in_ok-bytes.bytes.items = subst IsAscii (sym c.in_ok-bytes.ensures.items) (λ k. omega arith) in
    IsUtf8-from_ascii c.add_ascii-then-are_ascii-2.new.bytes.items (c.add_ascii-then-are_ascii-2.ensures.ascii (c.add_ascii.ensures.ascii none))
