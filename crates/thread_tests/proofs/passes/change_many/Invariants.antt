use Rattle.shared_ide.specs.Passes.{IsIdePassOf, ide_view}
use Rattle.thread_tests.specs.Passes.{HasKept}
use Rattle.thread_tests.proofs.passes.change_many.Given as goal

abbrev pub invariant-loop-number : goal.invariant-loop-number
invariant-loop-number g l = record { pass : IsIdePassOf l.ide l.pass; kept : HasKept (ide_view l.initial.pass) (ide_view l.pass) }
