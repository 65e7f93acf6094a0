use Rattle.script_lang.proofs.Words.{◌≡◌, length, string_bytes, chars, Utf8, shadow, unquoted_from, Outside}
use Rattle.script_lang.proofs.FieldLemmas.{read_then}
use Rattle.script_lang.proofs.quoted.unquoted.Given as goal

abbrev pub invariant-loop-c : goal.invariant-loop-c
invariant-loop-c l =
    shadow (Utf8 l.rest) × (read_then (chars (string_bytes l.text)) (unquoted_from l.place (chars l.rest)) ≡ unquoted_from Outside (chars l.field))

abbrev pub decreases-loop-c : goal.decreases-loop-c
decreases-loop-c l = length l.rest
