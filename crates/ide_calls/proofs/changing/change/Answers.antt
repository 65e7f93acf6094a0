use Rattle.ide_calls.proofs.ChangeLemmas.{refused_one}
use Rattle.ide_calls.proofs.changing.change.Goals as goal

pub returns-in-Err-Refused-clause-refused : goal.returns-in-Err-Refused-clause-refused
returns-in-Err-Refused-clause-refused g c =
    refused_one _ _ c.args.line c.args.change _ _ _ _ c.one.ensures (rw c.in-Err-Refused.field-0-is at c.in-Err-Refused.ensures.refused)
