use Rattle.transcripts.proofs.Words.{◌≡◌, ◌++◌, drop, string_bytes, flat_map, summary_text}
use Rattle.transcripts.proofs.print.push_answers.Given as goal

-- what was printed so far and what the rest gives is all
abbrev pub invariant-loop-reply : goal.invariant-loop-reply
invariant-loop-reply l = string_bytes l.out ++ flat_map summary_text (drop l.reply-index l.replies) ≡ string_bytes l.fn.out ++ flat_map summary_text l.replies
