use Rattle.shared_ide.specs.Passes.{IsIdePassOf, ide_view}
use Rattle.thread_tests.specs.Passes.{HasKept}
use Rattle.thread_tests.proofs.passes.steps.Given as goal

abbrev pub invariant-loop : goal.invariant-loop
invariant-loop g l = record { pass : IsIdePassOf l.ide l.pass; kept : HasKept (ide_view l.initial.pass) (ide_view l.pass) }
