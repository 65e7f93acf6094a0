use Rattle.overlay_index.proofs.Words.{rules}
use Rattle.overlay_index.proofs.tables.Tables.withdraw.Goals as goal

pub returns-clause-keeps_room : goal.returns-clause-keeps_room
returns-clause-keeps_room c =
    let one = c.withdraw.ensures.keeps_room in let two = c.withdraw-2.ensures.keeps_room in let three = c.withdraw-3.ensures.keeps_room in
    rw (← c.self.view_is) (λ other given has. search (rules, one, two, three, c.withdraw-4.ensures.keeps_room, c.withdraw-5.ensures.keeps_room))
