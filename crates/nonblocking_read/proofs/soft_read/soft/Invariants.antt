use Rattle.std.proofs.Common.{◌≡◌, ℕ, ◌<◌, ◌↔◌, List}
use Rattle.action_lock.specs.Counts.{counted_by}
use Rattle.action_lock.specs.Passes.{view_of, IsSamePass, IsPassOf}
use Rattle.nonblocking_read.specs.Soft.{HasOnlyRead}
use Rattle.nonblocking_read.proofs.soft_read.soft.Given as goal

abbrev pub invariant-loop : goal.invariant-loop
invariant-loop g l = record {
  can : (goal.iterator-loop g).can_next l.iterator';
  ends : (goal.iterator-loop g).is_finite l.iterator';
  pass : IsPassOf l.lock l.pass;
  same : IsSamePass l.initial.pass l.pass;
  view : HasOnlyRead (view_of l.initial.pass) (view_of l.pass);
  less : l.spent < l.attempts;
  risen : (view_of l.pass).sights ≡ counted_by l.spent (view_of l.initial.pass).sights;
  meaning : (out : _) (entries : List _) → g.K.Work.fits l.initial.work out entries ↔ g.K.Work.fits l.work out entries;
  owed : (entries : List _) (n : ℕ) → g.K.Work.owes l.initial.work entries n ↔ g.K.Work.owes l.work entries n;
}
