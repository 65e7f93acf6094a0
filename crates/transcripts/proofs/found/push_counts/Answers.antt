use Rattle.transcripts.proofs.Words.{files_text, open_text, unready_text, string_bytes}
use Rattle.std.proofs.lemmas.Result.{on_ok_weaker}
use Rattle.transcripts.proofs.PrintLemmas.{three_pieces}
use Rattle.transcripts.proofs.found.push_counts.Goals as goal

pub returns : goal.returns
returns c = on_ok_weaker c.write-3.result
    (three_pieces (string_bytes c.args.out.now) (files_text c.args.files) (open_text c.args.docs) (unready_text c.args.unready) _ _ _
    c.in_ok-write.ensures.bytes c.in_ok-write-2.ensures.bytes)
    c.write-3.ensures.bytes
