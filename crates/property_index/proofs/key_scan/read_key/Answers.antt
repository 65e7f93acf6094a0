use Rattle.property_index.proofs.Words.{◌∙◌, append_assoc, arith, rules, chars-nil, IsUtf8-string_bytes}
use Rattle.property_index.proofs.LineLemmas.{chars-push}
use Rattle.property_index.proofs.key_scan.read_key.Goals as goal

pub loop-meant-init : goal.loop-meant-init
loop-meant-init c = search (rules, c.new-key.ensures.bytes, chars-nil)

-- the character that was read is the next of the key
pub loop-meant-preserved : goal.loop-meant-preserved
loop-meant-preserved c =
    let grown = chars-push _ _ c.in-Some.meant (IsUtf8-string_bytes c.loop-meant.key) (IsUtf8-string_bytes c.push.new.self) c.in_ok-push.ensures.bytes in
    record {
      joined = c.past_joins-at.ensures.past;
      key = rw (c.past_joins-at.ensures.same, grown, append_assoc, ← c.in-Some.ensures.key) c.loop-meant.invariant.key;
      behind = rw c.past_joins-at.ensures.same (c.in-Some.ensures.rest ∙ c.loop-meant.invariant.behind);
      forward = omega (arith, c.in-Some.ensures.forward.0);
    }
