use Rattle.file_index.proofs.Words.{◌≡◌, arith, nat_tests, rows_in_file}
use Rattle.file_index.proofs.inverted.Inverted.replace.Goals as goal

pub returns-clause-keeps_room : goal.returns-clause-keeps_room
returns-clause-keeps_room g c = λ file given other has. c.release.ensures.keeps_room file given other (c.swap-old.ensures.keeps_room file given has)

pub returns-clause-room : goal.returns-clause-room
returns-clause-room g c =
    let own : rows_in_file c.args.file c.swap-old.new.self.files ≡ c.args.new = grind (arith, nat_tests, c.swap-old.ensures.each c.args.file) in
    rw own at (c.release.ensures.room (rw own (c.swap-old.ensures.keeps_room c.args.file c.args.new c.requires)))
