use Rattle.transcript_check.proofs.MisfitLemmas.{cursors_turn, ◌≡◌, suc, false, take, [], ◌∷◌, ◌+◌, ◌++◌, drop, ap, sym, ◌∙◌, append_assoc, arith, ℕ, min}
use Rattle.transcript_check.proofs.MisfitLemmas.{List, length, Cursor, cursors_of}
use Rattle.transcript_check.proofs.lanes.cursors_of.Goals as goal

pub loop-place-preserved : goal.loop-place-preserved
loop-place-preserved c =
    let done : List Cursor = c.loop-place.cursors.items in
    let later : List Cursor =
    cursors_of (suc (c.loop-place.place + 1)) (drop (c.loop-place.place + 1) c.args.script.now.lanes)
    (drop (c.loop-place.at + c.told_of-count.result) c.args.records.now) in
    let turn =
    cursors_turn c.args.script.now.lanes c.loop-place.place c.lane-lines.result.now c.loop-place.at c.told_of-count.result c.args.records.now
    c.lane-lines.ensures.lines (c.told_of-count.ensures ∙ ap (λ (ts : List (List ℕ)). min (length c.lane-lines.result.now) (length ts)) c.split_at.ensures.back) in
    let with : List (List ℕ) → Cursor = λ own. record { seat = c.loop-place.place + 1; lines = c.lane-lines.result.now; texts = own; settling = false } in
    let own : c.split_at-in-loop-place.result.0.now ≡ take c.told_of-count.result (drop c.loop-place.at c.args.records.now) =
    c.split_at-in-loop-place.ensures.front ∙ ap (λ (ts : List (List ℕ)). take c.told_of-count.result ts) c.split_at.ensures.back in
    record {
      within = omega (arith, c.told_of-count.ensures, c.split_at.ensures.back_len, c.loop-place.invariant.within);
      whole =
          ap (λ (cs : List Cursor). cs ++ later) c.in_ok-push.ensures.items
          ∙ append_assoc done (with c.split_at-in-loop-place.result.0.now ∷ []) later
          ∙ ap (λ (ts : List (List ℕ)). done ++ with ts ∷ later) own
          ∙ ap (λ (cs : List Cursor). done ++ cs) (sym turn)
          ∙ c.loop-place.invariant.whole;
    }
