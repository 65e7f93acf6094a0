use Rattle.std.proofs.lemmas.Result.{on_ok_weaker}
use Rattle.script_store.proofs.HadLemmas.{few_more}
use Rattle.script_store.proofs.keeping.keep.Goals as goal

pub returns-in-Some-clause-few : goal.returns-in-Some-clause-few
returns-in-Some-clause-few c = on_ok_weaker c.add.result
    (few_more (record { text = c.in-Some.text.now; kind = c.in-Some.kind }) c.args.store.now c.add.new.self) c.add.ensures.ok
