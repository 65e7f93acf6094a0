use Rattle.decl_parser.proofs.Words.{◌≡◌, ◌++◌, [], length, units_of, behind_semicolon, constants_after}
use Rattle.decl_parser.proofs.constants.enum_body.Given as goal

-- the constants so far and those of the rest are all
abbrev pub invariant-loop-unit : goal.invariant-loop-unit
invariant-loop-unit l = record {
  constants : l.constants.items ++ constants_after l.piece.items (units_of l.rest) ≡ constants_after [] (units_of l.level);
  behind : behind_semicolon (units_of l.rest) ≡ behind_semicolon (units_of l.level);
}

abbrev pub decreases-loop-unit : goal.decreases-loop-unit
decreases-loop-unit l = length l.rest
