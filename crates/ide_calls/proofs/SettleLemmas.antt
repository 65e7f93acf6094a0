-- A settle: data that are made ahead, its turns, and the settle under an intent of its own.
use Rattle.ide_calls.proofs.Words.{◌≡◌, List, [], ◌∷◌, ◌++◌, length, refl, sym, append_assoc, Some, None, Option, Result, IfSome, OnOk, All, flat_map}
use Rattle.ide_calls.proofs.Words.{option_map_or, AllocError, append-nil, drop_at, IsPrefix, Entry, World, fold, Task, IsOfWorld, Job, task_of_job}
use Rattle.ide_calls.proofs.Words.{task_of_made, tasks_of, IsTask, HasBegun, HasJoined, GoesOnAhead, StaysOfWorld, rules, ℕ, arith, le-leb, front_self}
use Rattle.ide_calls.proofs.Words.{front_nil, View, advances_on, Refusal, max_entries, HasMade, settled, with_entry, intake_entry, HasOnlyLearned, IsSmart}
use Rattle.ide_calls.proofs.Words.{map, subst, IsEnd, HasTaken, HasGoneOn, HasGonePartly, GoesThrough, FillsUp, IfOk, IfErr, IfOk-weaker, IfErr-weaker, released}
use Rattle.ide_calls.proofs.Words.{HasIntended, settle_step, IsAnsweredByRead, Stops, on_ok_weaker, Change, Advances, written, true}
use Rattle.std.proofs.lemmas.List.{map-append}
use Rattle.std.proofs.lemmas.List.Elements.{All-nil, All-cons, All-head, All-append, All-weaker, All-drop}
use Rattle.std.proofs.lemmas.List.Concat.{flat_map-append}
use Rattle.ide_world.specs.declared.data.Made.{Made}
use Rattle.ide_calls.specs.declared.making.Making.{Making}
use Rattle.ide_calls.specs.Ahead.{HasTakenFirst}
use Rattle.ide_calls.proofs.MadeLemmas.{WorkStays, found_by_read, made_by_step, made_within}
use Rattle.history_laws.proofs.SettleLemmas.{settled-over, settled-ends, settled-goes_on, intake_refusal}
use Rattle.ide_calls.specs.declared.settle_refusal.SettleRefusal.{SettleRefusal}
use Rattle.ide_calls.specs.declared.settle_refusal.SettleRefusal.TheVariants.{HistoryFull, OutOfMemory}
use Rattle.ide_calls.specs.Settling.{IsSettled, HasStopped}
use Rattle.ide_calls.specs.Turn.{HasFoundLowest}
use Rattle.ide_calls.specs.declared.lowest.Lowest.TheVariants.{Prepared}
use Rattle.ide_world.specs.declared.step.Step.{Step}
use Rattle.write_history.specs.declared.change.Change.TheVariants.{Intake}
use Rattle.write_history.specs.declared.refusal.Refusal.TheVariants as why

-- nothing was taken out or added
pub goes_not : (world : World) (old : List Task) → GoesOnAhead world old old
goes_not world old = record { gone = []; kept = old; more = []; before = refl; unready = All-nil (IsTask world); after = sym (append-nil old) }

-- the first of the threads was waited for
pub joined : {Q : Type 0} (f : Q → List Task) (old new : List Making) (making : Making) (done : Option Q) → old ≡ making ∷ new
    → IfSome done (λ q. f q ≡ tasks_of making) → HasJoined old new (option_map_or f done [])
joined f old new making None is so = record { lost = tasks_of making; before = rw (is, append-nil) refl }
joined f old new making (Some q) is so = record { lost = []; before = rw (is, so) refl }

-- one thread more was started
pub begun : (world : World) (made : List Task) (old new : List Making) (making : Making) → new ≡ old ++ making ∷ []
    → All (IsTask world) (tasks_of making) → HasBegun world (made ++ flat_map tasks_of old) (made ++ flat_map tasks_of new)
begun world made old new making is unready =
    record { more = tasks_of making; unready = unready; after = rw is (simp (flat_map-append, append_assoc, append-nil)) }

-- the work of one job more of a batch is that of an unready file
pub one_more : (world : World) (old new : List Job) (job : Job) → new ≡ old ++ job ∷ [] → All (IsTask world) (map task_of_job old)
    → IsTask world (task_of_job job) → All (IsTask world) (map task_of_job new)
one_more world old new job is all one =
    let P : Task → Type 0 = IsTask world in
    rw (is, map-append task_of_job old (job ∷ [])) (All-append P (map task_of_job old) (task_of_job job ∷ []) all (All-cons P _ [] one (All-nil P)))

-- What is left, and what is added, stay of the world, after a read that found the history `read` and has ended
pub still_ahead : WorkStays → {V : Type 0} (seen read now : List Entry) (old new : List Task) (world : World) (result : Result V AllocError)
    → IsPrefix seen read → now ≡ read → world ≡ fold read → All (StaysOfWorld seen) old → OnOk result (GoesOnAhead world old new)
    → OnOk result (All (StaysOfWorld now) new)
still_ahead law seen read now old new world result front same is all = on_ok_weaker result (λ goes.
    let P : Task → Type 0 = StaysOfWorld read in
    let later : All P old = All-weaker (StaysOfWorld seen) P (λ task stays later legal.
    let longer : read ++ later ≡ seen ++ (front.0 ++ later) = rw front.1 (append_assoc seen front.0 later) in
    rw longer (stays (front.0 ++ later) (rw longer at legal))) old all in
    let left : All P goes.kept = rw (goes.before, drop_at goes.gone goes.kept (length goes.gone) refl) at (All-drop P (length goes.gone) old later) in
    let added : All P goes.more = All-weaker (IsTask (fold read)) P (λ task made later legal. law read later made.id task legal made.work)
    goes.more (rw is at goes.unready) in
    rw (same, goes.after) (All-append P goes.kept goes.more left added))

-- the first of the work is of the world, as all of it is
pub first_of_world : (world : World) (old new : List Task) (made : Made) → HasTakenFirst old new (Some made) → All (IsOfWorld world) old
    → IsOfWorld world (task_of_made made)
first_of_world world old new made taken all =
    let P : Task → Type 0 = IsOfWorld world in
    let rest : List Task = task_of_made made ∷ new in
    let same : old ≡ taken.lost ++ rest = cc (taken.before, append_assoc taken.lost (task_of_made made ∷ []) new) in
    let left : All P rest = subst (All P) (drop_at taken.lost rest (length taken.lost) refl)
    (All-drop P (length taken.lost) (taken.lost ++ rest) (subst (All P) same all)) in
    All-head P (task_of_made made) new left

-- data with all that their job has are of the world where the job is
pub made_of_job : (world : World) (job : Job) (made : Made) → made.file ≡ job.file → made.kind ≡ job.kind → made.stamp ≡ job.stamp → made.text ≡ job.text
    → IsOfWorld world (task_of_job job) → IsOfWorld world (task_of_made made)
made_of_job world job made file kind stamp text is = let same : task_of_made made ≡ task_of_job job = cc in rw same is

-- ---- turns of a settle, one after another

-- a turn that finds no unready file ends the settle
pub smart_on : (seat line len : ℕ) (v w : View Entry) → IsSmart v w len → GoesThrough seat line v w len
smart_on seat line len v w turn = search (rules, turn, settled-over w.seen seat line turn.smart, found_by_read v w turn.read)

-- a turn that finds a full history and an unready file ends the settle
pub end_on : (seat line len : ℕ) (v w : View Entry) → IsEnd v w len → FillsUp seat line v w len
end_on seat line len v w turn =
    let full = turn.full in
    let filled = le-leb max_entries (fold w.seen).entries (omega (arith, full.whole, full.full)) in
    let ends = settled-ends w.seen seat line full.id why.HistoryFull full.unready (rw (intake_refusal (fold w.seen) full.id full.unready, filled) refl) in
    search (rules, turn, ends, found_by_read v w turn.read)

-- a turn that found the lowest unready file, and wrote its intake, took it in
pub taken_on : (seat line file stamp : ℕ) (steps : List Step) (changes : List Change) (v w x : View Entry) → HasFoundLowest v w (Prepared file stamp steps)
    → changes ≡ Intake file stamp ∷ [] → x ≡ written (record { seat = seat; line = line; changes = changes }) w → Advances w x → x.current ≡ true
    → HasTaken seat line v x
taken_on seat line file stamp steps changes v w x found one after further current =
    let prepared = found.lowest_so in
    record {
      between = w;
      read = found.read;
      id = file;
      unready = prepared.unready;
      accepted = rw prepared.stamped at prepared.makes.accepted;
      after = rw (one, prepared.stamped) at after;
      advances = advances_on v w x found.read.learned.advances further;
      current = current;
    }

-- what stays of the world of a history stays so behind an entry more
pub stays_behind : (seen now : List Entry) (entry : Entry) (tasks : List Task) → now ≡ seen ++ entry ∷ [] → All (StaysOfWorld seen) tasks
    → All (StaysOfWorld now) tasks
stays_behind seen now entry tasks is all = rw is (All-weaker (StaysOfWorld seen) (StaysOfWorld (seen ++ entry ∷ []))
    (λ task stays later legal. rw append_assoc (stays (entry ∷ later) (rw append_assoc at legal))) tasks all)

-- what was only learned is a part of what a settle adds: nothing of it
pub nothing_yet : (seat line : ℕ) (v w : View Entry) → HasOnlyLearned v w → HasGonePartly seat line v w
nothing_yet seat line v w learned = search (rules, learned, front_nil (settled w.seen seat line).added)

module _ (seat line : ℕ) (v w : View Entry) (turn : HasTaken seat line v w) where
  -- the entry of the turn
  abbrev taken : Entry
  taken = intake_entry turn.between.seen seat line turn.id

  -- a settle goes on after the turn
  goes_after : settled turn.between.seen seat line ≡ with_entry taken (settled (turn.between.seen ++ taken ∷ []) seat line)
  goes_after = settled-goes_on turn.between.seen seat line turn.id turn.unready turn.accepted

  -- what is made behind the turn's entry is made with it behind what the turn read
  made_with : (x : View Entry) (own : List Entry) → HasMade w x (turn.between.seen ++ taken ∷ []) own → HasMade v x turn.between.seen (taken ∷ own)
  made_with x own made =
      let reads = append_assoc v.reads (length turn.between.seen ∷ []) made.advances.reads.0 in
      let seen = append_assoc turn.between.seen (taken ∷ []) own in
      let mine = append_assoc v.mine (taken ∷ []) own in
      let advances = advances_on v w x turn.advances made.advances in
      search (rules, made, turn, advances, made.advances.reads.1, reads, seen, mine, front_self v.reads)

  -- a settle that goes on after the turn has gone on before it
  pub turn_on : (x : View Entry) (refused : Option Refusal) → HasGoneOn seat line w x refused → HasGoneOn seat line v x refused
  turn_on x refused rest =
      let here : rest.before ≡ turn.between.seen ++ taken ∷ [] = let still = rest.still turn.current in let after = turn.after in cc in
      let made = made_with x _ (rw here at rest.made) in
      record { before = turn.between.seen; still = turn.read.learned.still; made = rw goes_after made; ends = rw goes_after (rw here at rest.ends) }

  -- and so has one of which a part was made
  pub part_on : (x : View Entry) → HasGonePartly seat line w x → HasGonePartly seat line v x
  part_on x rest =
      let here : rest.before ≡ turn.between.seen ++ taken ∷ [] = let still = rest.still turn.current in let after = turn.after in cc in
      let more = rw here at rest.part in
      let part : IsPrefix (taken ∷ rest.own) (settled turn.between.seen seat line).added = (more.0, rw goes_after (let all = more.1 in cc)) in
      search (rules, turn, rest, here, part, append_assoc turn.between.seen (taken ∷ []) rest.own, append_assoc v.mine (taken ∷ []) rest.own)

-- ---- a settle under an intent of its own

module _ (seat line : ℕ) (v inner inner' w : View Entry) (number : v.number ≡ Some seat)
    (intended : HasIntended v inner) (after : w ≡ released inner') where
  -- a settle that ended so, with a history of this length
  settled_within : (refused : Option Refusal) (len : ℕ) → HasGoneOn seat line inner inner' refused → len ≡ length inner'.seen
      → IsAnsweredByRead (λ start seat. settle_step start seat line) v w (len, refused)
  settled_within refused len gone whole =
      made_by_step _ _ seat number (made_within v inner inner' w intended after _ _ gone.made) (rw (whole, gone.made.seen, gone.ends) refl)

  -- one that went through
  pub ok_within : (answer : Result ℕ SettleRefusal) → IfOk answer (GoesThrough seat line inner inner') → IfOk answer (IsSettled line v w)
  ok_within answer = IfOk-weaker answer _ _ (λ len gone.
      record { answered = settled_within None len gone.done gone.whole; smart = rw after gone.smart })

  -- one that didn't
  stopped_within : (refusal : SettleRefusal) → Stops seat line inner inner' refusal → HasStopped line v w refusal
  stopped_within (HistoryFull len) gone =
      let answered = settled_within (Some why.HistoryFull) len gone.done gone.whole in
      record { answered = answered; full = gone.full.full; unready = rw (after, gone.full.unready) refl }
  stopped_within OutOfMemory gone = search (rules, number, intended, after, gone)

  pub err_within : (answer : Result ℕ SettleRefusal) → IfErr answer (Stops seat line inner inner') → IfErr answer (HasStopped line v w)
  err_within answer = IfErr-weaker answer _ _ stopped_within
