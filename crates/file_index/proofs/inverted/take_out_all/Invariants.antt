use Rattle.file_index.proofs.Words.{◌≡◌, ℕ, ◌&&◌, take, not, ◌==◌, has_key, rows_in_file, is_placed}
use Rattle.file_index.proofs.inverted.take_out_all.Given as goal

-- the file was taken out from under the keys of the rows so far
abbrev pub invariant-loop-key : goal.invariant-loop-key
invariant-loop-key g l =
    (k : g.row.K.Denot) (j : ℕ) → is_placed g.K.PartialEq.eq l.postings k j
    ≡ (is_placed g.K.PartialEq.eq l.fn.postings k j
    && not (j == l.fn.file && has_key g.K.PartialEq.eq k (take l.key-index l.key-items)
    && not (has_key g.K.PartialEq.eq k (rows_in_file l.fn.file l.fn.files))))
