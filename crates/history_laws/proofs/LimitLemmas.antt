-- What accepted changes find, and how much a legal history makes.
use Rattle.history_laws.proofs.Words.{ℕ, ◌≡◌, ◌+◌, ◌^◌, ◌<◌, ◌≤◌, false, List, [], ◌∷◌, length, arith, None, is_none, AllByRecursion, leb-false, eqb-true}
use Rattle.history_laws.proofs.Words.{live_inside, Change, Intake, Entry, World, file_of, empty_world, files_made, refusal_of, stamp_of, put_of, max_files}
use Rattle.history_laws.proofs.Words.{max_entries, list_refusal, after_list, fold, IsLegal, IsLegalFrom}
use Rattle.history_laws.proofs.PutLemmas.{placed}
use Rattle.history_laws.proofs.ChangeLemmas.{is_accepted}
use Rattle.history_laws.proofs.FoldLemmas.{list_accepted, along}
use Rattle.history_laws.proofs.StampLemmas.{counters-effects_of}

-- an accepted change finds room in the history
pub accepted_room : (world : World) (change : Change) → refusal_of world change ≡ None → world.entries < max_entries
accepted_room world change h = grind (arith, h, leb-false max_entries world.entries)

-- an accepted intake finds a live file at its stamp
pub intake_finds : (world : World) (file stamp : ℕ) → list_refusal world (Intake file stamp ∷ []) ≡ None
    → (is_none (file_of world file) ≡ false) × (stamp ≡ stamp_of (file_of world file))
intake_finds world file stamp h = grind (arith, h, eqb-true stamp (stamp_of (file_of world file)))

-- the id of a live file is small
pub live_small : (entries : List Entry) (id : ℕ) → IsLegal entries → is_none (file_of (fold entries) id) ≡ false → id < 2 ^ 64
live_small entries id legal live =
    let few = along (λ world. length world.files ≤ max_files)
    (λ world change accepted few. grind (arith, placed world (put_of world change) (files_made change) (is_accepted world change accepted), few))
    (λ world few. few) entries empty_world legal (omega arith) in grind (arith, live, few, live_inside (fold entries).files id)

-- where each entry makes a change, there is room for each
entries_few : (entries : List Entry) (world : World) → IsLegalFrom world entries → AllByRecursion (λ entry. 1 ≤ length entry.changes) entries
    → world.entries ≤ max_entries → world.entries + length entries ≤ max_entries
entries_few [] world legal all few = omega arith
entries_few (entry ∷ entries) world legal all few =
    let room = by entry.changes legal.0 all.0 in
    let count = (counters-effects_of entry.changes world).0 in omega (arith, entries_few entries (after_list world entry.changes) legal.1 all.1 (omega arith))
  where
    by : (changes : List Change) → list_refusal world changes ≡ None → 1 ≤ length changes → world.entries < max_entries
    by [] accepted some = absurd (omega arith)
    by (change ∷ changes) accepted some = accepted_room world change (list_accepted world change changes accepted).0

pub legal_few : (entries : List Entry) → IsLegal entries → AllByRecursion (λ entry. 1 ≤ length entry.changes) entries → length entries ≤ max_entries
legal_few entries legal all = omega (arith, entries_few entries empty_world legal all (omega arith))
