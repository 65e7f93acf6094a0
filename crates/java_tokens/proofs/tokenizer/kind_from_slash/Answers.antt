use Rattle.java_tokens.proofs.Common.{lit<, refl, is_xid_start-ascii, slash}
use Rattle.java_tokens.specs.TokenKind.{kind_at}
use Rattle.java_tokens.proofs.tokenizer.kind_from_slash.Goals as goal

-- a slash with neither a slash nor an asterisk behind it
pub returns-else-has-2 : goal.returns-else-has-2
unfolding kind_at
returns-else-has-2 c = rw (← c.has.ensures, c.if-has.false, ← c.has-else-has.ensures, c.if-has-2.false, is_xid_start-ascii slash (lit< tt)) refl
