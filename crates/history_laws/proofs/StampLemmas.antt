-- Each stamp is drawn once, from a counter that never falls; a deleted file stays deleted.
pub use Rattle.history_laws.proofs.Words.{ℕ, suc, ◌≡◌, ◌+◌, ◌*◌, ◌<◌, ◌≤◌, rules, List, [], ◌∷◌, ◌++◌, length, refl, arith, None, Option, All, Change, Entry}
pub use Rattle.history_laws.proofs.Words.{World, File, empty_world, file_of, next_id, put_of, refusal_of, effect_of, effects_of, after_list, fold, fold_from}
pub use Rattle.history_laws.proofs.Words.{IsLegal, files_made, KeepsOrDrawsStamp, live_is_made}
use Rattle.history_laws.proofs.PutLemmas.{placed}
pub use Rattle.history_laws.proofs.ChangeLemmas.{draws, is_accepted, by_change}
pub use Rattle.history_laws.proofs.FoldLemmas.{along, fold-append, IsLegal-append, IsLegal-split}

-- ---- counters

-- a list of changes makes no entry, and draws a stamp a change at most
pub counters-effects_of : (changes : List Change) (world : World)
    → ((effects_of world changes).entries ≡ world.entries) × ((effects_of world changes).next_stamp ≤ world.next_stamp + length changes)
counters-effects_of [] world = (refl, omega arith)
counters-effects_of (change ∷ changes) world = grind (arith, draws world change, counters-effects_of changes (effect_of world change))

pub counters-fold_from : (entries : List Entry) (world : World) → ((fold_from world entries).entries ≡ world.entries + length entries)
    × (All (λ entry. length entry.changes ≤ 64) entries → (fold_from world entries).next_stamp ≤ world.next_stamp + 64 * length entries)
counters-fold_from [] world = (omega arith, λ few. omega arith)
counters-fold_from (entry ∷ entries) world =
    let here = counters-effects_of entry.changes world in
    let rest = counters-fold_from entries (after_list world entry.changes) in
    (omega (arith, here.0, rest.0), λ few. omega (arith, here.1, few 0 entry (omega arith), rest.1 (λ k d l. few (suc k) d (omega arith))))

-- the number of entries is the history's length
pub entries-fold : (entries : List Entry) → (fold entries).entries ≡ length entries
entries-fold entries = omega (arith, (counters-fold_from entries empty_world).0)

-- how many ids are given after an accepted change
pub next_id-effect_of : (world : World) (change : Change) → refusal_of world change ≡ None
    → next_id (effect_of world change) ≡ next_id world + files_made change
next_id-effect_of world change h = (placed world (put_of world change) (files_made change) (is_accepted world change h)).2

-- ---- stamps

module _ (IsNew : ℕ → Type 0) where
  KeepsOrDrawsStamp-itself : (file : Option File) → KeepsOrDrawsStamp IsNew file file
  KeepsOrDrawsStamp-itself file = grind (arith)

  -- it is as it was stamped, or went, or has a new stamp; what was deleted stays so
  abbrev pub IsKept : World → ℕ → Option File → Type 0
  IsKept world id file = KeepsOrDrawsStamp IsNew (file_of world id) file × (id < next_id world → file_of world id ≡ None → file ≡ None)

  -- an accepted change keeps what has an id as it was stamped, or ends it, or gives it the next stamp; what was deleted stays so
  pub kept_after : (world : World) (change : Change) (id : ℕ) → refusal_of world change ≡ None → IsNew world.next_stamp
      → IsKept world id (file_of (effect_of world change) id)
  kept_after world change id accepted h = by_change world change accepted (IsKept world)
      (λ a. grind (arith, a, h)) (λ id n. (KeepsOrDrawsStamp-itself (file_of world id), λ given gone. gone)) id

-- what a legal history leaves of an earlier place
pub record IsLater (start world : World) : Type 0 where
  pub counter : start.next_stamp ≤ world.next_stamp
  pub ids : next_id start ≤ next_id world
  pub kept : (id : ℕ) → IsKept (λ stamp. start.next_stamp ≤ stamp) start id (file_of world id)

IsLater-effect_of : (start world : World) (change : Change) → refusal_of world change ≡ None → IsLater start world → IsLater start (effect_of world change)
IsLater-effect_of start world change accepted h = record {
  counter = grind (arith, draws world change, h.counter);
  ids = grind (arith, next_id-effect_of world change accepted, h.ids);
  kept = λ id. grind (arith, h.kept id, kept_after (λ stamp. start.next_stamp ≤ stamp) world change id accepted h.counter, h.ids);
}

-- a legal history leaves so much of each place of it
pub later-fold : (earlier others : List Entry) → IsLegal (earlier ++ others) → IsLater (fold earlier) (fold (earlier ++ others))
later-fold earlier others legal = rw (fold-append earlier others) (along (IsLater (fold earlier)) (IsLater-effect_of (fold earlier))
    (λ world h. search (rules, h)) others _ (IsLegal-split earlier others legal).1
    (record { counter = omega arith; ids = omega arith; kept = λ id. (KeepsOrDrawsStamp-itself _ (file_of (fold earlier) id), λ given gone. gone) }))
