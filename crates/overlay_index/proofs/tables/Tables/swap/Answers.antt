use Rattle.overlay_index.proofs.Words.{rules}
use Rattle.overlay_index.proofs.tables.Tables.swap.Goals as goal

pub swap-requires : goal.swap-requires
swap-requires c = let has = rw (← c.self.view_is, ← c.parts.view_is) at c.requires in has.types

pub swap-requires-2 : goal.swap-requires-2
swap-requires-2 c = let has = rw (← c.self.view_is, ← c.parts.view_is) at c.requires in has.supers

pub swap-requires-3 : goal.swap-requires-3
swap-requires-3 c = let has = rw (← c.self.view_is, ← c.parts.view_is) at c.requires in has.methods

pub swap-requires-4 : goal.swap-requires-4
swap-requires-4 c = let has = rw (← c.self.view_is, ← c.parts.view_is) at c.requires in has.words

pub swap-requires-5 : goal.swap-requires-5
swap-requires-5 c = let has = rw (← c.self.view_is, ← c.parts.view_is) at c.requires in has.keys

pub returns-clause-keeps_room : goal.returns-clause-keeps_room
returns-clause-keeps_room c =
    let one = c.swap.ensures.keeps_room in let two = c.swap-2.ensures.keeps_room in let three = c.swap-3.ensures.keeps_room in
    rw (← c.self.view_is) (λ other given has. search (rules, one, two, three, c.swap-4.ensures.keeps_room, c.swap-5.ensures.keeps_room))
