use Rattle.std.proofs.Common.{rules, ◌≡◌, IfOk, ℕ, ◌+◌, ◌-◌, ◌*◌, ◌<◌, ◌≤◌, length, ◌/◌, ◌%◌, Bool, true, false, nat_eq, nat_lt, List, [], ◌∷◌, ◌++◌, slice_index_or, slice_set, bit_and, bit_or, Fits, w8, w32, w64, Bor, MutBor, refl}
use Rattle.table_tests.proofs.letters.put_after_a_removal.Goals as goal

-- src/letters.rt:73:5
pub replace-requires : goal.replace-requires
replace-requires c = c.remove.ensures.keeps_room 3 c.args.rows refl c.in_ok-reserve.ensures.room
