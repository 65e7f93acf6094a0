use Rattle.transcript_check.proofs.TextBlocks.{Laws, texts-joined, texts-blocks, transcript-cut}
use Rattle.transcript_check.proofs.blocks.transcripts_are_cut.Goals as goal

pub returns : goal.returns
returns c =
    let words = c.identifiers_are_words.ensures in
    let laws : Laws = record {
      names = c.names_are_identifiers.ensures;
      supers = c.supers_are_identifiers.ensures;
      token = words.token;
      place = words.place;
      in_line = words.in_line;
    } in
    record { joined = texts-joined; blocks = texts-blocks laws; cut = transcript-cut laws }
