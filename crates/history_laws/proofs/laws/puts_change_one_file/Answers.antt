use Rattle.history_laws.proofs.ChangeLemmas.{arith, nat_tests, row_in-with_row, put_of, files_made, placed, is_accepted}
use Rattle.history_laws.proofs.laws.puts_change_one_file.Goals as goal

pub returns : goal.returns
returns c = record {
  put = λ world put id first last. grind (arith, nat_tests, row_in-with_row put.id put.file world.files id);
  first = λ world change h. (placed world (put_of world change) (files_made change) (is_accepted world change h)).0;
  last = λ world change h. (placed world (put_of world change) (files_made change) (is_accepted world change h)).1;
}
