-- After a legal history live files are sound and have paths of their own.
pub use Rattle.history_laws.proofs.Words.{ℕ, ◌≡◌, ◌<◌, List, ◌++◌, ap, sym, ◌∙◌, arith, Some, is_none, All, true, false, Entry, World, File, empty_world}
pub use Rattle.history_laws.proofs.Words.{file_of, id_at, Put, put_of, fold, IsLegal, is_path, files_made, IsAsStamped, NamesPaths, GivesContent, nat_tests}
pub use Rattle.history_laws.proofs.Words.{refl, is_some, row_in-with_row, after_put}
pub use Rattle.history_laws.proofs.PutLemmas.{IsAccepted, found, placed, none_at_free}
use Rattle.history_laws.proofs.ChangeLemmas.{FileSound, IsSound, IsLawful, IsShort, effect_sound, names_lawful, is_accepted}
use Rattle.history_laws.proofs.FoldLemmas.{along, along_given, empty_has_none, IsLegal-split}
use Rattle.history_laws.proofs.StampLemmas.{later-fold}

-- ---- paths, stamps and texts

-- a legal history names lawful paths alone, and leaves live files sound, with short texts where under the condition no change gives one that is too long
pub fold_sound : (G : Type 0) (entries : List Entry) → IsLegal entries → (G → All (λ entry. All (GivesContent IsShort) entry.changes) entries)
    → IsSound G (fold entries) × All (λ entry. All (NamesPaths IsLawful) entry.changes) entries
fold_sound G entries legal given = along_given (IsSound G) (λ change. G → GivesContent IsShort change) (NamesPaths IsLawful)
    (λ world change accepted short h. (effect_sound G world change accepted short h, names_lawful G world change accepted h))
    (λ world h. h) entries empty_world legal (λ k d l j x m g. given g k d l j x m) (λ id. rw (empty_has_none id) tt)

-- so each live file is sound without the condition
pub sound_file : (entries : List Entry) (id : ℕ) (file : File) → IsLegal entries → file_of (fold entries) id ≡ Some file
    → FileSound ⊥ (fold entries).next_stamp file
sound_file entries id file legal e = rw e at ((fold_sound ⊥ entries legal (λ none. absurd none)).0 id)

-- the entries of a legal history name lawful paths alone
pub named_lawful : (entries : List Entry) → IsLegal entries → All (λ entry. All (NamesPaths IsLawful) entry.changes) entries
named_lawful entries legal = (fold_sound ⊥ entries legal (λ none. absurd none)).1

-- after it the path of a live file is lawful, and its stamp is below the next one
pub live_lawful : (entries : List Entry) (id : ℕ) (file : File) → IsLegal entries → file_of (fold entries) id ≡ Some file → is_path file.path ≡ true
live_lawful entries id file legal e = (sound_file entries id file legal e).0

pub stamp_below : (entries : List Entry) (id : ℕ) (file : File) → IsLegal entries → file_of (fold entries) id ≡ Some file
    → file.stamp < (fold entries).next_stamp
stamp_below entries id file legal e = (sound_file entries id file legal e).1

-- a live file with the stamp of an earlier place is as it was there
pub same_stamp-fold : (earlier later : List Entry) (id : ℕ) (old new : File) → IsLegal (earlier ++ later)
    → file_of (fold earlier) id ≡ Some old → file_of (fold (earlier ++ later)) id ≡ Some new → new.stamp ≡ old.stamp
    → IsAsStamped old new
same_stamp-fold earlier later id old new legal e e' same =
    grind (arith, (later-fold earlier later legal).kept id, stamp_below earlier id old (IsLegal-split earlier later legal).0 e, e, e', same)

-- ---- paths of their own

-- no two live files have one path
abbrev pub IsApart : World → Type 0
IsApart world = (i j : ℕ) (file other : File) → file_of world i ≡ Some file → file_of world j ≡ Some other → file.path ≡ other.path → i ≡ j

apart_put : (world : World) (put : Put) (made : ℕ) → IsAccepted world put made → IsApart world → IsApart (after_put world put)
apart_put world put made a apart i j file other e e' same =
    let place = placed world put made a in
    let at_i = row_in-with_row put.id put.file world.files i place.0 place.1 in
    let at_j = row_in-with_row put.id put.file world.files j place.0 place.1 in
    let free_j = none_at_free world file.path j other in
    let free_i = none_at_free world other.path i file in
    grind (arith, nat_tests, a, at_i, at_j, e, e', same, free_j, free_i, apart i j file other, apart i put.id file, λ (old : File). apart put.id j old other)

-- after a legal history no two live files have one path
pub IsApart-fold : (entries : List Entry) → IsLegal entries → IsApart (fold entries)
IsApart-fold entries legal = along IsApart (λ world change a. apart_put world (put_of world change) (files_made change) (is_accepted world change a))
    (λ world h. h) entries empty_world legal (λ i j file other e e' same. absurd (cc (empty_has_none i)))

-- the id at the path of a live file is the file's
pub id_at-live : (world : World) (id : ℕ) (file : File) → IsApart world → file_of world id ≡ Some file → id_at world file.path ≡ Some id
id_at-live world id file apart e =
    let taken : is_none (id_at world file.path) ≡ false = grind (arith, none_at_free world file.path id file, e) in
    let f = found world file.path taken in let same = apart f.id id f.old file f.found e f.same in cc

-- what is at a path is a live file with that path
pub live-id_at : (world : World) (path : List ℕ) (id : ℕ) → id_at world path ≡ Some id → (file : File) × (file_of world id ≡ Some file) × (file.path ≡ path)
live-id_at world path id e =
    let f = found world path (ap is_none e) in let same : f.id ≡ id = cc in (f.old, ap (file_of world) (sym same) ∙ f.found, f.same)
