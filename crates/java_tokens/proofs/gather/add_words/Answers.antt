use Rattle.java_tokens.proofs.Common.{◌≡◌, ◌+◌, drop, refl, ◌∙◌, drop-drop, marked, words_at}
use Rattle.java_tokens.proofs.WordLemmas.{turn, words_behind}
use Rattle.java_tokens.proofs.gather.add_words.Goals as goal

-- the last run is added
pub returns-in_default : goal.returns-in_default
returns-in_default c =
    let added = turn c.loop-c.masks c.add_run.new.masks c.args.place c.run_start-start.result _ c.args.piece.now
    c.run_end-end.ensures c.in_ok-add_run.ensures in
    rw c.in_default.ensures.none at added ∙ rw c.run_start-start.ensures.same c.loop-c.invariant

-- a run is added, and those behind it are left
pub loop-c-preserved : goal.loop-c-preserved
loop-c-preserved c =
    let piece = c.args.piece.now in
    let end = c.run_end-end.result in
    let added = turn c.loop-c.masks c.add_run.new.masks c.args.place c.run_start-start.result end piece c.run_end-end.ensures c.in_ok-add_run.ensures in
    let rest : marked c.args.place (words_behind c.args.place (drop end piece)) ≡ words_at c.args.place (drop (end + c.gap_at.result) piece) =
    rw (c.in-Some.ensures.some, ← c.in-Some.ensures.some, c.gap_at.ensures.value, drop-drop) refl in
    rw rest at added ∙ rw c.run_start-start.ensures.same c.loop-c.invariant
