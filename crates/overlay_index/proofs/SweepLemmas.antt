-- The places that a file has left after a sweep.
use Rattle.overlay_index.proofs.Words.{◌≡◌, ℕ, Bool, ◌&&◌, ◌||◌, eqb, List, ◌++◌, arith, ap, not, bytes_eq, flat_map-append, list_any-append, has_key}
use Rattle.overlay_index.proofs.Words.{is_placed, Table, rows_in_file, Parts, Shown, GivesUp, KeepsPlaces, parts_in}
use Rattle.file_index.specs.Rows as index

-- what goes under two lists of keys, one after the other, goes under both
gone_twice : (there here a b own : Bool) → (there && not (here && a && not own) && not (here && b && not own)) ≡ (there && not (here && (a || b) && not own))
gone_twice there here a b own = grind (arith)

-- what went under the keys of some rows and then of others went under those of all, also where then nothing changed but which files are known
both_given : {V : Type 0} (file : ℕ) (first rest : List (List ℕ × V)) (old mid both new : Table (List ℕ) V) → new.room ≡ both.room
    → rows_in_file file both.files ≡ rows_in_file file mid.files → rows_in_file file new.files ≡ rows_in_file file both.files
    → index.GivesUp bytes_eq file first old mid → index.GivesUp bytes_eq file rest mid both → index.GivesUp bytes_eq file (first ++ rest) old new
both_given file first rest old mid both new room kept same one two key other =
    rw (room, two key other, one key other, same, kept, list_any-append (λ row. bytes_eq key row.0) first rest)
    (gone_twice (is_placed bytes_eq old.room key other) (eqb other file) (has_key bytes_eq key first) (has_key bytes_eq key rest)
    (has_key bytes_eq key (rows_in_file file mid.files)))

module _ (file : ℕ) (old mid both new : Shown) (kept : parts_in both file ≡ parts_in mid file) (same : parts_in new file ≡ parts_in both file) where
  -- the same of each table, and of the rows of one text after those of another
  pub gives_both : (first rest : List Parts) → KeepsPlaces both new → GivesUp file first old mid → GivesUp file rest mid both
      → GivesUp file (first ++ rest) old new
  gives_both first rest keeps one two = record {
    types = rw flat_map-append (both_given file _ _ old.types mid.types _ _ keeps.types (ap (λ p. p.types) kept) (ap (λ p. p.types) same) one.types two.types);
    supers = rw flat_map-append (both_given file _ _ old.supers mid.supers _ _ keeps.supers
        (ap (λ p. p.supers) kept) (ap (λ p. p.supers) same) one.supers two.supers);
    methods = rw flat_map-append (both_given file _ _ old.methods mid.methods _ _ keeps.methods
        (ap (λ p. p.methods) kept) (ap (λ p. p.methods) same) one.methods two.methods);
    words = rw flat_map-append (both_given file _ _ old.words mid.words _ _ keeps.words (ap (λ p. p.words) kept) (ap (λ p. p.words) same) one.words two.words);
    keys = rw flat_map-append (both_given file _ _ old.keys mid.keys _ _ keeps.keys (ap (λ p. p.keys) kept) (ap (λ p. p.keys) same) one.keys two.keys);
  }
