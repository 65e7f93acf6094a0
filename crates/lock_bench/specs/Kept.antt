-- What turns leave of a pass's view.
use Rattle.std.specs.Prelude.{◌≡◌}
use Rattle.action_lock.specs.declared.view.View.{View}

-- it has the same number, has given as many, and has met the same passes
abbrev pub HasKept : {E : Type 0} → View E → View E → Type 0
HasKept v w = (w.number ≡ v.number) × (w.drawn ≡ v.drawn) × (w.ended ≡ v.ended)
