use Rattle.file_index.proofs.Words.{◌≡◌, ℕ, ◌||◌, ◌&&◌, take, ◌==◌, has_key, is_placed}
use Rattle.file_index.proofs.inverted.Inverted.reserve.Given as goal

-- the file stands under the keys of the rows so far
abbrev pub invariant-loop-key : goal.invariant-loop-key
invariant-loop-key g l =
    (l.self.files ≡ l.initial.self.files)
    × ((k : g.row.I-Key.Denot) (j : ℕ) → is_placed g.I.Key.PartialEq.eq l.self.room k j
    ≡ (is_placed g.I.Key.PartialEq.eq l.initial.self.room k j || (has_key g.I.Key.PartialEq.eq k (take l.key-index l.key-items) && j == l.fn.file)))
