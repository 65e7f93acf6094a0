use Rattle.java_tokens.proofs.Common.{◌≡◌, ◌∙◌, Some, arith, rules, is_none, IsUtf8-past_char, chars_past_char, chars_of_empty}
use Rattle.java_tokens.proofs.PlaceLemmas.{spelled-next, spelled-end}
use Rattle.java_tokens.proofs.name_places.is_spelled.Goals as goal

-- the same character stands in both
pub loop-c-preserved : goal.loop-c-preserved
loop-c-preserved c =
    let held = c.loop-c.invariant in
    let parts = c.in-Some.ensures.steps.0 in
    let same : c.get.result ≡ Some c.in-Some.c = search rules in
    record {
      utf8 = IsUtf8-past_char _ _ c.in-Some.c held.utf8 parts;
      inside = omega (arith, (rw same at c.get.ensures.inside));
      rest = spelled-next _ _ c.args.piece.now c.loop-c.at c.in-Some.c
          (chars_past_char _ _ c.in-Some.c held.utf8 parts) (rw same at c.get.ensures.some) ∙ held.rest;
    }

-- the name has no more characters
pub returns : goal.returns
returns c =
    let none : c.is_none.result ≡ is_none c.get-2.result = search rules in
    none
    ∙ spelled-end _ c.args.piece.now c.loop-c.at c.get-2.result (chars_of_empty _ c.in-None.ensures.steps.0.0) c.get-2.ensures.some c.get-2.ensures.none
    ∙ c.loop-c.invariant.rest
