use Rattle.transcripts.proofs.Words.{ap, sym, ◌∙◌}
use Rattle.std.specs.Str.{valid_up_to}
use Rattle.transcripts.specs.declared.loaded.Loaded.TheVariants.{NotText}
use Rattle.transcripts.proofs.LoadsLemmas.{not_utf8}
use Rattle.transcripts.proofs.loads.loaded.Goals as goal

pub returns-in-Err : goal.returns-in-Err
returns-in-Err c =
    ap NotText (c.valid_up_to.ensures ∙ ap valid_up_to c.utf8_error.ensures ∙ c.in-Err.ensures.valid_len)
    ∙ sym (not_utf8 c.args.bytes.items c.in-Err.ensures.succeeds)
