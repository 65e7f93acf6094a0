use Rattle.playing.proofs.Words.{◌≡◌, false, is_path}
use Rattle.playing.proofs.changing.refuse_path.Goals as goal

pub returns-clause-answer : goal.returns-clause-answer
returns-clause-answer g c =
    let unlawful : is_path c.in_ok-copy-2.field-0 ≡ false = rw c.in_ok-copy-2.ensures c.requires.unlawful in
    rw unlawful at c.do_change.ensures.answer
