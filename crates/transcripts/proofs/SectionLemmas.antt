-- A section that made all of a history behind its beginning was done as on one thread, and so was a run without lanes and workers.
use Rattle.transcripts.proofs.Words.{ℕ, ◌≡◌, ◌⊎◌, inl, inr, ◌+◌, ◌≤◌, true, false, List, [], ◌∷◌, ◌++◌, length, All, refl, ap, ◌∙◌, append_assoc}
use Rattle.transcripts.proofs.Words.{length-append, append-nil, arith, Entry, Line, Loaded}
use Rattle.transcripts.specs.declared.record.Record.{Record}
use Rattle.transcripts.specs.Serial.{RunEnd, done_from, later_loads, run_of}
use Rattle.transcripts.specs.Fits.{Progress, progress_at, IsSeatOf, SectionFits, RunFits}
use Rattle.list_laws.specs.Prefixes.{IsPrefix}
use Rattle.list_laws.proofs.PrefixLemmas.{front_length, front_shorter, front_whole}
use Rattle.script_lang.specs.Parts.{Parts}

-- where nothing runs beside, each command was done
alone : {Done Other : Type 0} → Done ⊎ ((false ≡ true) × Other) → Done
alone (inl done) = done
alone (inr given) = absurd (cc (given.0))

-- the entries of a section have room in the history behind what it had seen
section_room : (history : List Entry) (seat : ℕ) (lines : List Line) (loads : List Loaded) (low high : Progress) (records : List Record) (own : List Entry)
    → low.seen ≤ length history → SectionFits false history seat low lines loads records own high → low.seen + length own ≤ length history
section_room history seat [] loads low high records own within fits = rw fits.1 (omega arith)
section_room history seat (line ∷ lines) loads low high records own within fits =
    let done = alone fits.first in
    let stands = front_length (done.start ++ fits.made) history done.stands in
    let later = section_room history seat lines (later_loads loads) fits.between high fits.later fits.made_later (omega (arith, done.seen, stands)) fits.rest in
    rw fits.own_is (omega (arith, length-append fits.made fits.made_later, length-append done.start fits.made, later, done.late, done.seen))

-- a section whose entries are all that the history has behind `start`
pub section_serial : (history : List Entry) (seat : ℕ) (lines : List Line) (loads : List Loaded) (low high : Progress) (earlier records : List Record)
    (start own : List Entry) → history ≡ start ++ own → low.seen ≡ length start → SectionFits false history seat low lines loads records own high
    → done_from seat (record { history = start; records = earlier }) lines loads ≡ record { history = history; records = earlier ++ records }
section_serial history seat [] loads low high earlier records start own whole begins fits =
    rw (whole, fits.0, fits.1, append-nil start, append-nil earlier) refl
section_serial history seat (line ∷ lines) loads low high earlier records start own whole begins fits =
    let done = alone fits.first in
    let reply : Record = record { seat = seat; line = line.number; answer = fits.answer } in
    let parts : history ≡ start ++ (fits.made ++ fits.made_later) = rw fits.own_is at whole in
    let stands = front_length (done.start ++ fits.made) history done.stands in
    let room = section_room history seat lines (later_loads loads) fits.between high fits.later fits.made_later (omega (arith, done.seen, stands)) fits.rest in
    let all : length history ≡ length start + (length fits.made + length fits.made_later) =
    omega (arith, ap length parts, length-append start (fits.made ++ fits.made_later), length-append fits.made fits.made_later) in
    let long : length done.start ≡ length start = omega (arith, all, length-append done.start fits.made, room, done.late, done.seen, begins) in
    let front : IsPrefix done.start history = (fits.made ++ done.stands.0, done.stands.1 ∙ append_assoc done.start fits.made done.stands.0) in
    let shorter = front_shorter done.start start history front (fits.made ++ fits.made_later, parts) (omega (arith, long)) in
    let same : done.start ≡ start = front_whole done.start start shorter (omega (arith, long)) in
    let rest = section_serial history seat lines (later_loads loads) fits.between high (earlier ++ reply ∷ []) fits.later (start ++ fits.made) fits.made_later
    (rw (append_assoc start fits.made fits.made_later) parts) (rw same at done.seen) fits.rest in
    rw (rw same at done.step, fits.records_are, ← append_assoc earlier (reply ∷ []) fits.later) rest

-- where nobody has a seat there is no entry
no_entry : (entries : List Entry) → All (λ (e : Entry). IsSeatOf 0 e.seat) entries → entries ≡ []
no_entry [] seats = refl
no_entry (entry ∷ entries) seats = let seat = seats 0 entry (omega arith) in absurd (omega (arith, seat.from, seat.to))

-- a run with no lane and no worker
pub run_serial : (loads : List Loaded) (script : Parts) (ended : RunEnd) → script.lanes ≡ [] → RunFits loads script [] ended → ended ≡ run_of loads script
run_serial loads script ended none fits =
    let middle = no_entry fits.middle (rw none at fits.seats) in
    let opened : fits.opening ++ fits.middle ≡ fits.opening = rw middle (append-nil fits.opening) in
    let lanes : fits.lanes_records ≡ [] = rw none at fits.lanes in
    let told : ended.records ≡ fits.prelude_records = cc (fits.records, lanes, append-nil fits.prelude_records) in
    let first =
    section_serial fits.opening 0 script.prelude loads (progress_at 0) fits.prelude_end [] fits.prelude_records [] fits.opening refl refl fits.prelude in
    let last = section_serial ended.history 0 script.last [] fits.last_begins fits.last_end [] ended.last fits.opening fits.closing
    (rw opened at fits.history) (rw opened at fits.last_behind) fits.last in
    rw (none, first, last, ← told) refl
