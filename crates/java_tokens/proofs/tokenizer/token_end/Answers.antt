use Rattle.java_tokens.proofs.TokenLemmas.{token_ends}
use Rattle.java_tokens.proofs.tokenizer.token_end.Goals as goal

pub returns-in-BlockComment : goal.returns-in-BlockComment
returns-in-BlockComment c = let e = (token_ends c.args.at c.args.piece.now).0 in cc

pub returns-in-TextBlock : goal.returns-in-TextBlock
returns-in-TextBlock c = let e = (token_ends c.args.at c.args.piece.now).1 in cc

pub returns-in-Str : goal.returns-in-Str
returns-in-Str c = let e = (token_ends c.args.at c.args.piece.now).2 in cc

pub returns-in-Char : goal.returns-in-Char
returns-in-Char c = let e = (token_ends c.args.at c.args.piece.now).3 in cc
