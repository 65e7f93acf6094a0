-- Printing the entries of a history, one after another.
use Rattle.transcripts.proofs.Words.{ℕ, ◌≡◌, ◌+◌, ◌-◌, List, ◌∷◌, ◌++◌, drop, arith, add-one, append_assoc, slice_get, Some, Entry, entry_lines}
use Rattle.list_laws.proofs.PartLemmas.{drop_from_slice_get}
use Rattle.write_history.specs.Print.{entry_line}

-- one turn: the line of the entry at a position goes last, and the lines of the rest follow it
pub entries_turn : (out new line all : List ℕ) (entries : List Entry) (n : ℕ) (entry : Entry) → slice_get entries (n + 1 - 1) ≡ Some entry → new ≡ out ++ line
    → line ≡ entry_line (n + 1) entry → out ++ entry_lines (n + 1) (drop n entries) ≡ all → new ++ entry_lines (n + 1 + 1) (drop (n + 1) entries) ≡ all
entries_turn out new line all entries n entry is grown printed rest =
    let place : n + 1 - 1 ≡ n = omega arith in
    let here : drop n entries ≡ entry ∷ drop (n + 1) entries = rw (add-one n) (drop_from_slice_get entries n entry (rw place at is)) in
    rw (grown, printed, append_assoc out) (rw here at rest)

-- three pieces, one after another
pub three_pieces : (out a b c out1 out2 out3 : List ℕ) → out1 ≡ out ++ a → out2 ≡ out1 ++ b → out3 ≡ out2 ++ c → out3 ≡ out ++ (a ++ b ++ c)
three_pieces out a b c out1 out2 out3 e1 e2 e3 = cc (e1, e2, e3, append_assoc out a b, append_assoc out (a ++ b) c)
