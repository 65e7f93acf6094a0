use Rattle.java_tokens.proofs.Common.{arith, nat_tests, is_xid_continue-ascii}
use Rattle.java_tokens.proofs.chars.continues_identifier.Goals as goal

-- a small letter of ASCII
pub returns-then-is_ascii_lowercase : goal.returns-then-is_ascii_lowercase
returns-then-is_ascii_lowercase c = grind (arith, nat_tests, is_xid_continue-ascii c.args.c)

-- a letter or a digit of ASCII
pub returns-then-is_ascii_alphanumeric : goal.returns-then-is_ascii_alphanumeric
returns-then-is_ascii_alphanumeric c = grind (arith, nat_tests, is_xid_continue-ascii c.args.c)

-- another character of ASCII
pub returns-else-is_ascii_alphanumeric : goal.returns-else-is_ascii_alphanumeric
returns-else-is_ascii_alphanumeric c = grind (arith, nat_tests, is_xid_continue-ascii c.args.c)
