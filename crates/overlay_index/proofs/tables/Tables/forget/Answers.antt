use Rattle.overlay_index.proofs.Words.{rules}
use Rattle.overlay_index.proofs.tables.Tables.forget.Goals as goal

pub returns-clause-keeps_room : goal.returns-clause-keeps_room
returns-clause-keeps_room c =
    let one = c.forget.ensures.keeps_room in let two = c.forget-2.ensures.keeps_room in let three = c.forget-3.ensures.keeps_room in
    rw (← c.self.view_is) (λ other given apart has. search (rules, one, two, three, c.forget-4.ensures.keeps_room, c.forget-5.ensures.keeps_room))
