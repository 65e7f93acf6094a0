use Rattle.std.proofs.Common.{◌≡◌, ◌++◌, rules, ◌∙◌, take, drop, encode_utf8_all, string_bytes}
use Rattle.std.proofs.lemmas.List.{take_rest}
use Rattle.std.proofs.lemmas.Result.{IfOk-weaker}
use Rattle.std.proofs.lemmas.Str.{encodes-append, chars-encodes}
use native.Mathlib.Nat.{sub-zero}
use Rattle.ide_text.specs.Chars.{chars_of}
use Rattle.ide_text.proofs.chars.Chars.with_piece.Goals as goal

pub returns-clause-value : goal.returns-clause-value
returns-clause-value c =
    let at = c.args.at in let text = chars_of c.args.self.now in let piece = chars_of c.args.piece.now in
    let front = encodes-append (take at text) piece in let all = encodes-append (take at text ++ piece) (drop at text) in
    let spelled : string_bytes c.add_part-3.new.out ≡ encode_utf8_all (take at text ++ piece ++ drop at text) =
    search (rules, sub-zero at, take_rest piece 0, take_rest text at, front, all) in
    IfOk-weaker c.of.result _ _ (λ cs made. made ∙ rw spelled (chars-encodes _ c.requires.scalars)) c.of.ensures.value
