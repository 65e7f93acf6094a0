use Rattle.file_index.proofs.Words.{ℕ, ◌≤◌, arith, Err, IsPlaceOf}
use Rattle.file_index.proofs.IdLemmas.{insert_rises, all_inserted, found_has, has_id-insert}
use Rattle.file_index.proofs.ids.Ids.add.Goals as goal

pub invariant_of-self-in-Err : goal.invariant_of-self-in-Err
invariant_of-self-in-Err c =
    let ids = c.self.inside.ids.items in
    let gap : IsPlaceOf c.args.id ids (Err c.in-Err.at) = rw c.self.view_is c.in-Err.ensures in
    let wider : (x : ℕ) → x ≤ c.self.inside.bound → x ≤ c.max-self-inside.result = λ x within. omega (arith, within, c.max-self-inside.ensures) in
    rw c.in_ok-insert.ensures.ok (
      insert_rises ids c.in-Err.at c.args.id c.self.invariant.0 gap,
      all_inserted _ _ ids c.in-Err.at c.args.id wider (omega (arith, c.max-self-inside.ensures)) c.self.invariant.1,
    )

pub returns-in_ok-insert-clause-added : goal.returns-in_ok-insert-clause-added
returns-in_ok-insert-clause-added c = rw (c.in_ok-insert.ensures.ok, c.self.view_is) (has_id-insert c.args.self.now c.in-Err.at c.args.id)

pub returns-in_default-clause-added : goal.returns-in_default-clause-added
returns-in_default-clause-added c = found_has c.args.self.now c.in_default.field-0 c.args.id c.in_default.ensures
