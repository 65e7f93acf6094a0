-- A step: the file that is chosen to be indexed, its work, and the parts of a step put together.
use Rattle.ide_calls.proofs.Words.{◌≡◌, ℕ, true, false, refl, sym, ap, ◌∙◌, Some, None, Option, arith, IfNone, option_map, option_and_then, World, file_of}
use Rattle.ide_calls.proofs.Words.{is_unready, lowest_unready, stamp_of, Job, Task, task_with_id, first_unready_from, file_to_index, probe_in, IsWork, IsChoice}
use Rattle.ide_calls.proofs.Words.{task_of_job, rules, ◌+◌, List, [], ◌∷◌, length, append_assoc, Result, IfOk, AllocError, IfOk-weaker, View, Advances}
use Rattle.ide_calls.proofs.Words.{written, released, HasIntended, Change, Entry, fold, IsLegal, entry_of, FirstRead, HasReadOnce, HasReadFirst, HasJudged}
use Rattle.ide_calls.proofs.Words.{HasAnswered, IsAnsweredBy, IfSome}
use Rattle.ide_world.specs.declared.step.Step.{Step}
use Rattle.write_history.specs.declared.change.Change.TheVariants.{Intake}
use Rattle.ide_calls.specs.declared.step.Stepped.{Stepped}
use Rattle.ide_calls.specs.declared.step.Stepped.TheVariants.{Idle, Taken}
use Rattle.ide_calls.specs.declared.judge.Judged.TheVariants.{Prepared}
use Rattle.ide_calls.specs.Step.{IsIdle, IsAnswer, HasTried, HasStepped}
use Rattle.ide_calls.proofs.MadeLemmas.{found_by_read, made_behind_read, made_later, made_within}

-- a task is that of an unready file, which it names, at its stamp
pub has_task : (world : World) (id : ℕ) (task : Task) → Some task ≡ task_with_id world id
    → (is_unready (file_of world id) ≡ true) × (task.file ≡ id) × (stamp_of (file_of world id) ≡ task.stamp)
has_task world id task is = (grind (arith, is), grind (arith, is), grind (arith, is))

-- a file without work isn't unready
no_task : (world : World) (id : ℕ) → task_with_id world id ≡ None → is_unready (file_of world id) ≡ false
no_task world id none = grind (arith, none)

module _ (world : World) (seat : ℕ) where
  -- the hinted file has work
  pub hint_taken : (hint : Option ℕ) (task : Task) → Some task ≡ option_and_then (task_with_id world) hint → IsWork world seat hint task
  hint_taken None task is = absurd (cc)
  hint_taken (Some id) task is =
      let has = has_task world id task is in
      record { chosen = rw (has.0, has.1) refl; task_of_file = ap (task_with_id world) has.1 ∙ sym is }

  -- no file is hinted, or it has no work
  pub hint_passed : (hint : Option ℕ) (job : Option Job) → ((found : Job) → job ≡ Some found → ⊥)
      → option_map task_of_job job ≡ option_and_then (task_with_id world) hint → file_to_index world seat hint ≡ first_unready_from world (probe_in world seat)
  hint_passed hint (Some found) none is = absurd (none found refl)
  hint_passed None None none is = refl
  hint_passed (Some id) None none is = rw (no_task world id (sym is)) refl

  -- the job of the file that is found first
  pub next_chosen : (hint next : Option ℕ) (job : Option Job) → file_to_index world seat hint ≡ next → IfSome next (λ id. is_unready (file_of world id) ≡ true)
      → IfNone next (lowest_unready world ≡ None) → option_map task_of_job job ≡ option_and_then (task_with_id world) next → IsChoice world seat hint job
  next_chosen hint None None found unready none is = none
  next_chosen hint None (Some job) found unready none is = absurd (cc)
  next_chosen hint (Some id) None found unready none is = absurd (let ready = no_task world id (sym is) in cc)
  next_chosen hint (Some id) (Some job) found unready none is =
      let named = (has_task world id (task_of_job job) is).1 in
      record { chosen = rw named found; task_of_file = ap (task_with_id world) named ∙ sym is }

-- ---- the parts of a step put together

-- where the first read found no unready file
pub idle : (seat : ℕ) (hint : Option ℕ) (v w : View Entry) (look : FirstRead) → HasReadFirst seat hint v w look → look.job ≡ None → IsIdle v w look.at
idle seat hint v w look looked none = search (rules, looked, rw none at looked.choice, found_by_read v w looked.read)

-- an answer that makes nothing is of what its one read found
pub answered_by_read : (seat file stamp : ℕ) (v w : View Entry) (step : Stepped) → HasReadOnce v w → IsAnswer seat file stamp w.seen [] step
    → HasAnswered seat file stamp v w step
answered_by_read seat file stamp v w step read is = record { last = w.seen; own = []; reads = read.reads; made = found_by_read v w read; answer = is }

-- data that were judged to fit went in
pub taken_in : (seat file stamp len : ℕ) (steps : List Step) (changes : List Change) (v u w : View Entry)
    → HasJudged file stamp v u (Prepared len steps) → changes ≡ Intake file stamp ∷ [] → Advances u w
    → w ≡ written (entry_of seat 0 changes) u → IsLegal w.seen → HasAnswered seat file stamp v w (Taken (len + 1))
taken_in seat file stamp len steps changes v u w judged intake later after legal =
    search (rules, after, judged, intake, made_behind_read v u w (entry_of seat 0 changes) judged.read later after legal)

-- an answer given under an intent is that of the call
pub answered_within : (seat file stamp : ℕ) (v inner inner' w : View Entry) (answer : Result Stepped AllocError) → v.number ≡ Some seat
    → HasIntended v inner → w ≡ released inner' → IfOk answer (HasAnswered seat file stamp inner inner') → IfOk answer (IsAnsweredBy file stamp v w)
answered_within seat file stamp v inner inner' w answer number intended after = IfOk-weaker answer _ _ (λ step given.
    let made = made_within v inner inner' w intended after given.last given.own given.made in search (rules, intended, after, given, number, made))

stepped_by : (hint : Option ℕ) (v w : View Entry) (step : Stepped) → HasTried hint v w step → HasStepped hint v w step
stepped_by hint v w (Idle len) by = absurd by.answer
stepped_by hint v w step by = by

-- a step that took a file up: the first read, and what was answered of the file
pub stepped : (seat : ℕ) (hint : Option ℕ) (look : FirstRead) (job : Job) (file stamp : ℕ) (v u w : View Entry) (answer : Result Stepped AllocError)
    → v.number ≡ Some seat → HasReadFirst seat hint v u look → look.job ≡ Some job → file ≡ job.file → stamp ≡ job.stamp
    → IfOk answer (IsAnsweredBy file stamp u w) → IfOk answer (HasStepped hint v w)
stepped seat hint look job file stamp v u w answer number looked is same_file same_stamp = IfOk-weaker answer _ _ (λ step by.
    let given = by.answered in
    let own_seat : seat ≡ by.seat = let same = looked.read.learned.advances.number in let named = by.number in cc in
    let work : IsWork (fold u.seen) seat hint (task_of_job job) = rw is at looked.choice in
    let has = has_task (fold u.seen) job.file (task_of_job job) (sym work.task_of_file) in
    let reads = append_assoc v.reads (length u.seen ∷ []) (length given.last ∷ []) in
    let made = made_later v u w given.last given.own looked.read.learned given.made in
    stepped_by hint v w step (search (rules, number, own_seat, work, reads, has, same_file, same_stamp, made, given, looked.read)))
