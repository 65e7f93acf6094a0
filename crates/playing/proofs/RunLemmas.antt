-- A whole script: its prelude, its round and its last section, from what number 0 keeps of each.
use Rattle.playing.proofs.Words.{◌≡◌, ℕ, List, [], length, ap, ◌∙◌, arith, length-append, false, View, Entry, Line, Loaded}
use Rattle.playing.proofs.Words.{Record, Outcomes, SectionFits, progress_at, progress_of, HasDoneAlone, HasPlayed}
use Rattle.action_lock.specs.Views.{first_view}
use Rattle.script_lang.specs.Parts.{Parts}
use Rattle.playing.specs.Runs.{HasRunAll}

pub run_all : (loads : List Loaded) (script : Parts) (workers places : ℕ) (v a b w : View Entry) (old mid new : Outcomes) (last_old last : List Record)
    (begins ends : List Line) → begins ≡ script.prelude → ends ≡ script.last
    → v ≡ first_view places → old.records ≡ [] → mid.workers.items ≡ [] → last_old ≡ [] → a.drawn ≡ v.drawn
    → HasDoneAlone begins loads v a old.records mid.records → HasPlayed script.lanes workers a b mid new
    → HasDoneAlone ends [] b w last_old last → HasRunAll loads script workers w.seen new last
run_all loads script workers places v a b w old mid new last_old last begins ends first_lines last_lines first none no_workers none_last drawn prelude played closing =
    let one : a.drawn ≡ 1 = rw first at drawn in
    let opened : a.seen ≡ prelude.own = rw first at prelude.seen in
    let records : mid.records ≡ prelude.records = rw none at prelude.added in
    let ended : last ≡ closing.records = rw none_last at closing.added in
    let whole : new.workers.items ≡ played.worked = rw no_workers at played.workers_are in
    let many : length new.workers.items ≡ workers = ap length whole ∙ played.count in
    let begun : SectionFits false a.seen 0 (progress_at 0) script.prelude loads prelude.records prelude.own prelude.high = rw (first, first_lines) at prelude.fits in
    record {
      count = many;
      fits = λ legal short. record {
        opening = a.seen;
        middle = played.middle;
        closing = closing.own;
        history = cc (closing.seen, played.seen);
        legal = legal;
        prelude_records = prelude.records;
        lanes_records = played.records;
        records = cc (played.records_are, records);
        prelude_end = prelude.high;
        prelude = rw (← opened) at begun;
        lanes = rw many (rw (one, played.seen) at played.lanes_fit);
        seats = λ k d less. let s = played.seats k d less in record { from = omega (arith, s.from, one); to = omega (arith, s.to, one, many) };
        worked = rw whole (rw (one, played.seen) at (played.workers_fit (omega (arith, short, ap length closing.seen, length-append b.seen closing.own))));
        last_begins = progress_of b;
        last_behind = ap length played.seen;
        last_end = closing.high;
        last = rw ended (rw last_lines at closing.fits);
      };
    }
