use Rattle.java_tokens.proofs.Common.{arith, nat_tests, is_xid_start-ascii}
use Rattle.java_tokens.proofs.chars.starts_identifier.Goals as goal

-- of ASCII only letters start an identifier
pub returns-then-is_ascii : goal.returns-then-is_ascii
returns-then-is_ascii c = grind (arith, nat_tests, is_xid_start-ascii c.args.c)
