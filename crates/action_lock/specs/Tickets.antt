-- What contracts see of a ticket.
use Rattle.std.specs.Prelude.{◌≡◌, List, []}
use Rattle.action_lock.specs.declared.lock.ActionLock.{ActionLock}
use Rattle.action_lock.specs.declared.ticket.Ticket.{Ticket}
use Rattle.action_lock.specs.Views.{ticket_view}

module _ {H E S : Type 0} where
  -- what its pass had seen when it was made
  abbrev pub seen_by : Ticket H E S → List E
  seen_by t = t.seat.me.0.seen

  -- the ticket is one of this lock
  pub record IsTicketOf (l : ActionLock H E S) (t : Ticket H E S) : Type 0 where
    pub table : t.seat.table_id ≡ l.table.shared.table_id
    pub view : t.seat.me ≡ (ticket_view (seen_by t), [])
