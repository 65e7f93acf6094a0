use Rattle.overlay_index.proofs.Words.{append-nil, rules}
use Rattle.overlay_index.proofs.tables.Tables.release.Goals as goal

pub returns-clause-keeps_room : goal.returns-clause-keeps_room
returns-clause-keeps_room c =
    let one = c.release.ensures.keeps_room in let two = c.release-2.ensures.keeps_room in let three = c.release-3.ensures.keeps_room in
    rw (← c.self.view_is) (λ other given apart has. search (rules, one, two, three, c.release-4.ensures.keeps_room, c.release-5.ensures.keeps_room))

pub returns-clause-given_up : goal.returns-clause-given_up
returns-clause-given_up c = rw (← c.self.view_is, ← c.parts.view_is) (record {
  types = rw append-nil c.release.ensures.given_up;
  supers = rw append-nil c.release-2.ensures.given_up;
  methods = rw append-nil c.release-3.ensures.given_up;
  words = rw append-nil c.release-4.ensures.given_up;
  keys = rw append-nil c.release-5.ensures.given_up;
})
