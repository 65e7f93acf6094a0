use Rattle.overlay_index.proofs.Words.{rules, IfOk-weaker}
use Rattle.overlay_index.proofs.tables.Tables.reserve.Goals as goal

pub returns-in_err-reserve-clause-keeps_room : goal.returns-in_err-reserve-clause-keeps_room
returns-in_err-reserve-clause-keeps_room c = rw (← c.self.view_is) (λ other given has. search (rules, c.reserve.ensures.keeps_room))

pub returns-in_err-reserve-2-clause-keeps_room : goal.returns-in_err-reserve-2-clause-keeps_room
returns-in_err-reserve-2-clause-keeps_room c =
    rw (← c.self.view_is) (λ other given has. search (rules, c.reserve.ensures.keeps_room, c.reserve-2.ensures.keeps_room))

pub returns-in_err-reserve-3-clause-keeps_room : goal.returns-in_err-reserve-3-clause-keeps_room
returns-in_err-reserve-3-clause-keeps_room c =
    rw (← c.self.view_is) (λ other given has. search (rules, c.reserve.ensures.keeps_room, c.reserve-2.ensures.keeps_room, c.reserve-3.ensures.keeps_room))

pub returns-in_err-reserve-4-clause-keeps_room : goal.returns-in_err-reserve-4-clause-keeps_room
returns-in_err-reserve-4-clause-keeps_room c =
    let one = c.reserve.ensures.keeps_room in let two = c.reserve-2.ensures.keeps_room in
    rw (← c.self.view_is) (λ other given has. search (rules, one, two, c.reserve-3.ensures.keeps_room, c.reserve-4.ensures.keeps_room))

pub returns-clause-keeps_room : goal.returns-clause-keeps_room
returns-clause-keeps_room c =
    let one = c.reserve.ensures.keeps_room in let two = c.reserve-2.ensures.keeps_room in let three = c.reserve-3.ensures.keeps_room in
    rw (← c.self.view_is) (λ other given has. search (rules, one, two, three, c.reserve-4.ensures.keeps_room, c.reserve-5.ensures.keeps_room))

pub returns-clause-room : goal.returns-clause-room
returns-clause-room c = rw (← c.parts.view_is) (search (rules, IfOk-weaker, c.reserve-5.ensures.room))
