use Rattle.std.proofs.Common.{rules}
use Rattle.workspace_paths.proofs.PathLemmas.{percent_text-encodes}
use Rattle.workspace_paths.proofs.encoding.push_char.Goals as goal

pub returns-then-is_encoded : goal.returns-then-is_encoded
returns-then-is_encoded c =
    rw (c.if-is_encoded.true, percent_text-encodes c.args.c (c.requires c.if-is_encoded.true), ← c.percent_encode_byte.ensures) (search rules)
