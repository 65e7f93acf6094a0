use Rattle.index_store.proofs.Words.{◌≡◌, rules, encode_utf8_all}
use Rattle.index_store.proofs.text_reading.text_of_name.Goals as goal

pub returns-in-Ok : goal.returns-in-Ok
returns-in-Ok c =
    let same : c.as_bytes.result.now ≡ encode_utf8_all c.args.name.now = search rules in
    cc (rw same at c.in-Ok.ensures.ok, c.texts_are_read_back.ensures c.args.name.now c.requires)
