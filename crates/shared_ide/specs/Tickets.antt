-- What contracts see of a ticket of the shared workspace.
use Rattle.std.specs.Prelude.{List}
use Rattle.action_lock.specs.Tickets.{IsTicketOf, seen_by}
use Rattle.write_history.specs.declared.entry.Entry.{Entry}
use Rattle.shared_ide.specs.declared.shared.SharedIde.{SharedIde}
use Rattle.shared_ide.specs.declared.tickets.IdeTicket.{IdeTicket}

-- the ticket is one of this workspace
abbrev pub IsIdeTicketOf : SharedIde → IdeTicket → Type 0
IsIdeTicketOf ide ticket = IsTicketOf ide.lock ticket.of_lock

-- what its pass had seen when it was drawn
abbrev pub told_by : IdeTicket → List Entry
told_by ticket = seen_by ticket.of_lock
