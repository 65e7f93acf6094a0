-- The texts of which a transcript is made: the line of the history, then one for each entry, then one for each record.
use Rattle.std.specs.Prelude.{ℕ, List, ◌∷◌, ◌++◌, length, codes}
use Rattle.std.specs.Fmt.{decimal}
use Rattle.transcripts.specs.Serial.{RunEnd}
use Rattle.transcript_check.specs.Checked.{entry_texts, record_texts}

-- the line that tells how many entries a history has
abbrev pub history_line : ℕ → List ℕ
history_line entries = codes "history " ++ decimal entries ++ codes "\n"

-- the texts of a transcript, in order
abbrev pub texts_of : RunEnd → List (List ℕ)
texts_of ended = history_line (length ended.history) ∷ (entry_texts 1 ended.history ++ record_texts (ended.records ++ ended.last))
