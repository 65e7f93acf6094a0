-- Bytes that are read are those of a store, the bytes of a store are read, and a loop goes past so many of a kind.
use Rattle.index_store.proofs.Words.{◌≡◌, ◌↔◌, ℕ, suc, ◌-◌, ◌*◌, ◌<◌, ◌≤◌, true, not, ◌&&◌, ◌==◌, eqb, ltb, leb, List, [], ◌∷◌, ◌++◌, length, take, drop, All}
use Rattle.index_store.proofs.Words.{Option, None, Result, Ok, Err, refl, sym, ap, subst, ◌∙◌, append_assoc, arith, encode_utf8_all, encode_utf8, list_all}
use Rattle.index_store.proofs.Words.{and_parts, and_from, not-true, eqb-true, leb-true, le-leb, ltb-true, lt-ltb, nat_tests, replicate, AllPass-from_list_all}
use Rattle.index_store.proofs.Words.{list_all-from_AllPass, append-nil, nil_from_length, length-append, take_at, drop_at, take-append-drop, length-encode}
use Rattle.index_store.proofs.Words.{len_utf8_bounds, All-weaken, max_chars, carriage_return, IsText, HasNoReturn, FileKind, Java, Properties, Stub, number}
use Rattle.index_store.proofs.Words.{name, counted, byte_at, number_at, characters_at, counted_at, spelling, IsStubBytes, IsBytes, IsBytes-take, IsBytes-drop}
use Rattle.index_store.proofs.Words.{bytes_below, bind_ok, step, passed, ok_is, Takes, Takes-then, Reads, ReadsBack, name_parts, byte_takes, number_takes}
use Rattle.index_store.proofs.Words.{number_again, characters_again, name_takes, name_again, some_bytes, counted_takes, counted_again, StoreEntry, code_of}
use Rattle.index_store.proofs.Words.{StoreRow, versions, word, key, row_bytes, word_rises, IsWord, key_rises, IsKey, AreStubs, IsData, entry_rises, IsRow}
use Rattle.index_store.proofs.Words.{IsStoreBytes, other_version_from, is_mask, field, may_be_text, behind, ◌+◌, Some, Fault, Fails, ◌>>=◌}
use Rattle.std.proofs.lemmas.List.{length-take}
use Rattle.byte_fields.specs.Reading.{name_at, many_at}
use Rattle.index_store.specs.Spelling.{data_bytes}
use Rattle.index_store.specs.Reading.{other_version, word_at, key_at, stubs_at, data_at, kind_at, entry_at, row_at, all_of}
use Rattle.stub_codec.specs.Reading as stubs
use Rattle.byte_fields.specs.declared.fault.Fault.TheVariants as faults

-- ---- words

word_takes : (before : Option (List ℕ × ℕ)) → Reads (word_at before) word (IsWord before)
unfolding word_at name_at
word_takes before bytes x fits e =
    let l = bind_ok (number_at bytes) _ x e in
    let some = passed (ltb 0 l.0.0) bytes _ x l.2 in
    let n = step (characters_at l.0.0 l.0.1) _ _ x (λ n is. name_takes bytes n fits (rw (l.1, some.0) is)) some.1 in
    let rises = passed (word_rises before n.0.0) l.0.1 _ x n.2 in
    let m = step (byte_at n.0.1) _ _ x (λ m. byte_takes n.0.1 m n.1.0.rest_fits) rises.1 in
    let known = passed (is_mask m.0.0) n.0.1 _ x m.2 in
    let mask = and_parts (leb 1 m.0.0) (leb m.0.0 7) known.0 in
    rw (← ok_is _ x known.1)
    (Takes-then n.1.0 m.1.0, record { named = n.1.1.0; scalars = n.1.1.1; rises = rises.0; masked = (leb-true 1 m.0.0 mask.0, leb-true m.0.0 7 mask.1) })

word_again : (before : Option (List ℕ × ℕ)) → ReadsBack (word_at before) word (IsWord before)
unfolding word_at
word_again before w rest is =
    let text = encode_utf8_all w.0 in
    let some : ltb 0 (length text) ≡ true = lt-ltb 0 _ (some_bytes w.0 is.named.some) in
    let mask : is_mask w.1 ≡ true = and_from _ _ (le-leb 1 w.1 is.masked.0) (le-leb w.1 7 is.masked.1) in
    rw (append_assoc (name w.0) (w.1 ∷ []) rest, append_assoc (number (length text)) text (w.1 ∷ rest))
    (rw (number_again (length text) (text ++ w.1 ∷ rest) is.named.short, some, characters_again w.0 (w.1 ∷ rest) is.scalars, is.rises, mask) refl)

-- ---- keys

key_takes : (len : ℕ) (before : Option (List ℕ × ℕ)) → Reads (key_at len before) key (IsKey len before)
unfolding key_at
key_takes len before bytes x fits e =
    let n = step (name_at bytes) _ _ x (λ n. name_takes bytes n fits) e in
    let a = step (number_at n.0.1) _ _ x (λ a. number_takes n.0.1 a n.1.0.rest_fits) n.2 in
    let lawful = passed (key_rises before a.0.0 && ltb a.0.0 len) n.0.1 _ x a.2 in
    let both = and_parts (key_rises before a.0.0) (ltb a.0.0 len) lawful.0 in
    rw (← ok_is _ x lawful.1) (Takes-then n.1.0 a.1.0, record { named = n.1.1.0; scalars = n.1.1.1; rises = both.0; inside = ltb-true a.0.0 len both.1 })

key_again : (len : ℕ) → len ≤ max_chars → (before : Option (List ℕ × ℕ)) → ReadsBack (key_at len before) key (IsKey len before)
unfolding key_at
key_again len few before k rest is =
    let at = number_again k.1 rest (omega (arith, few, is.inside)) in
    rw (append_assoc (name k.0) (number k.1) rest, name_again k.0 (number k.1 ++ rest) (is.named, is.scalars), at, is.rises, lt-ltb k.1 len is.inside) refl

-- ---- declarations

-- what `stub_lists_are_read_back` says of the bytes of declarations
pub record AreReadBack : Type 0 where
  pub read : (bytes : List ℕ) (ss : List Stub) → All (λ b. b < 256) bytes → stubs.all_of bytes ≡ Ok ss → IsStubBytes ss bytes
  pub again : (bytes : List ℕ) (ss : List Stub) → IsStubBytes ss bytes → stubs.all_of bytes ≡ Ok ss

abbrev of_stubs : List Stub → List ℕ
of_stubs ss = number (length (spelling ss)) ++ spelling ss

stubs_takes : AreReadBack → (len : ℕ) → Reads (stubs_at len) of_stubs (AreStubs len)
unfolding stubs_at
stubs_takes lists len bytes x fits e =
    let n = step (number_at bytes) _ _ x (λ n. number_takes bytes n fits) e in
    let size = n.0.0 in
    let rest = n.0.1 in
    let whole = passed (leb size (length rest)) rest _ x n.2 in
    let s = bind_ok (field (stubs.all_of (take size rest)) rest) _ x whole.1 in
    let is = lists.read (take size rest) s.0 (bytes_below _ (IsBytes-take size rest n.1.0.rest_fits)) (grind (arith, s.1)) in
    let inside = passed (list_all (λ (t : Stub). ltb t.at len) s.0) rest _ x s.2 in
    let size_is : length (spelling s.0) ≡ size = sym (ap length is.spelled) ∙ omega (arith, length-take size rest, leb-true size (length rest) whole.0) in
    let listed : Takes rest (spelling s.0) (drop size rest) =
    record { parts = rw is.spelled at (sym (take-append-drop size rest)); rest_fits = IsBytes-drop size rest n.1.0.rest_fits } in
    let below = All-weaken (λ (t : Stub). ltb t.at len ≡ true) (λ (t : Stub). t.at < len) s.0 (λ t. ltb-true t.at len) (AllPass-from_list_all _ s.0 inside.0) in
    rw (← ok_is _ x inside.1)
    (rw size_is (Takes-then n.1.0 listed), record { lawful = is.lawful; scalars = is.scalars; inside = below; short = omega (arith, n.1.1, size_is) })

stubs_again : AreReadBack → (len : ℕ) → ReadsBack (stubs_at len) of_stubs (AreStubs len)
unfolding stubs_at
stubs_again lists len ss rest is =
    let bytes = spelling ss in
    let whole : leb (length bytes) (length (bytes ++ rest)) ≡ true = le-leb _ _ (omega (arith, length-append bytes rest)) in
    let read = lists.again bytes ss (record { lawful = is.lawful; scalars = is.scalars; spelled = refl }) in
    let below = All-weaken (λ (s : Stub). s.at < len) (λ (s : Stub). ltb s.at len ≡ true) ss (λ s. lt-ltb s.at len) is.inside in
    let inside = list_all-from_AllPass (λ (s : Stub). ltb s.at len) ss below in
    rw (append_assoc (number (length bytes)) bytes rest, number_again (length bytes) (bytes ++ rest) is.short, whole)
    (rw (take_at bytes rest (length bytes) refl, drop_at bytes rest (length bytes) refl, read, inside) refl)

-- ---- data

data_takes : AreReadBack → (kind : FileKind) (len : ℕ) → Reads (data_at kind len) (data_bytes kind) (IsData kind len)
unfolding data_at data_bytes
data_takes lists Java len bytes x fits e =
    let s = step (stubs_at len bytes) _ _ x (λ s. stubs_takes lists len bytes s fits) e in
    let w = step (counted_at word_at s.0.1) _ _ x (λ w. counted_takes word_at IsWord word word_takes s.0.1 w s.1.0.rest_fits) s.2 in
    rw (← ok_is _ x w.2) (Takes-then s.1.0 w.1.0, (s.1.1, w.1.1.0, w.1.1.1, refl))
data_takes lists Properties len bytes x fits e =
    let k = step (counted_at (key_at len) bytes) _ _ x (λ k. counted_takes (key_at len) (IsKey len) key (key_takes len) bytes k fits) e in
    rw (← ok_is _ x k.2) (k.1.0, (refl, refl, k.1.1.0, k.1.1.1))

data_again : AreReadBack → (kind : FileKind) (len : ℕ) → len ≤ max_chars → ReadsBack (data_at kind len) (data_bytes kind) (IsData kind len)
unfolding data_at data_bytes
data_again lists Java len few d rest is =
    let words = counted_again word_at IsWord word word_again d.words rest (is.1, is.2) in
    rw (append_assoc (of_stubs d.stubs) (counted word d.words) rest, stubs_again lists len d.stubs (counted word d.words ++ rest) is.0, words, ← is.3) refl
data_again lists Properties len few d rest is =
    rw (counted_again (key_at len) (IsKey len) key (key_again len few) d.keys rest (is.2, is.3), ← is.0, ← is.1) refl

-- ---- entries

no_return : (cs : List ℕ) → (list_all (λ c. not (c == carriage_return)) cs ≡ true) ↔ HasNoReturn cs
no_return [] = (λ e. tt, λ none. refl)
no_return (c ∷ cs) =
    let more = no_return cs in
    (λ e. let both = and_parts (not (c == carriage_return)) _ e in (not-true _ both.0, more.0 both.1), λ none. and_from _ _ (ap not none.0) (more.1 none.1))

-- a character takes at most four bytes
bytes_few : (cs : List ℕ) → length (encode_utf8_all cs) ≤ 4 * length cs
bytes_few [] = omega arith
bytes_few (c ∷ cs) = omega (arith, bytes_few cs, (len_utf8_bounds c).1, length-append (encode_utf8 c) (encode_utf8_all cs), length-encode c)

kind_takes : Reads kind_at (λ kind. code_of kind ∷ []) (λ kind. Unit {0})
unfolding kind_at
kind_takes bytes x fits e =
    let c = step (byte_at bytes) _ _ x (λ c. byte_takes bytes c fits) e in
    let known = passed (leb 1 c.0.0 && leb c.0.0 2) bytes _ x c.2 in
    rw (← ok_is _ x known.1) (subst (λ k. Takes bytes (k ∷ []) c.0.1) (grind (arith, nat_tests, known.0)) c.1.0, tt)

kind_again : (kind : FileKind) (rest : List ℕ) → kind_at (code_of kind ∷ rest) ≡ Ok (kind, rest)
unfolding kind_at
kind_again kind rest = grind (arith, nat_tests)

abbrev of_entry : StoreEntry → List ℕ
of_entry e = code_of e.kind ∷ name e.text

abbrev IsEntry : Option StoreRow → StoreEntry → Type 0
IsEntry before e = IsText e.text × (entry_rises before e ≡ true)

entry_takes : (before : Option StoreRow) → Reads (entry_at before) of_entry (IsEntry before)
unfolding entry_at
entry_takes before bytes x fits e =
    let k = step (kind_at bytes) _ _ x (λ k. kind_takes bytes k fits) e in
    let l = step (number_at k.0.1) _ _ x (λ l. number_takes k.0.1 l k.1.0.rest_fits) k.2 in
    let n = step (characters_at l.0.0 l.0.1) _ _ x (λ n. name_parts k.0.1 l.0 n l.1.0) l.2 in
    let lawful = passed (may_be_text n.0.0) l.0.1 _ x n.2 in
    let both = and_parts (leb (length n.0.0) max_chars) _ lawful.0 in
    let is_text : IsText n.0.0 = record { few = leb-true (length n.0.0) max_chars both.0; scalars = n.1.1.1; no_return = (no_return n.0.0).0 both.1 } in
    let read : StoreEntry = record { text = n.0.0; kind = k.0.0 } in
    let rises = passed (entry_rises before read) l.0.1 _ x lawful.1 in
    rw (← ok_is _ x rises.1) (Takes-then k.1.0 n.1.0, (is_text, rises.0))

entry_again : (before : Option StoreRow) → ReadsBack (entry_at before) of_entry (IsEntry before)
unfolding entry_at
entry_again before e rest is =
    let bytes = encode_utf8_all e.text in
    let text = is.0 in
    let read = number_again (length bytes) (bytes ++ rest) (omega (arith, text.few, bytes_few e.text)) in
    rw (append_assoc (number (length bytes)) bytes rest, kind_again e.kind (number (length bytes) ++ (bytes ++ rest)), read)
    (rw (characters_again e.text rest text.scalars, le-leb (length e.text) max_chars text.few, (no_return e.text).1 text.no_return, is.1) refl)

behind_ok : {A : Type 0} (read : Result (A × List ℕ) ℕ) (end : List ℕ) → behind read ≡ Ok end → (x : A) × (read ≡ Ok (x, end))
behind_ok (Ok x) end e = (x.0, ap (λ (l : List ℕ). Ok (x.0, l)) (ok_is x.1 end e))
behind_ok (Err left) end e = absurd cc

-- what stands in front of an end
in_front : (bytes end : List ℕ) → take (length (bytes ++ end) - length end) (bytes ++ end) ≡ bytes
in_front bytes end = take_at bytes end _ (omega (arith, length-append bytes end))

row_takes : AreReadBack → (before : Option StoreRow) → Reads (row_at before) row_bytes (IsRow before)
unfolding row_at
row_takes lists before bytes x fits e =
    let a = step (entry_at before bytes) _ _ x (λ a. entry_takes before bytes a fits) e in
    let entry = a.0.0 in
    let rest = a.0.1 in
    let b = bind_ok (behind (data_at entry.kind (length entry.text) rest)) _ x a.2 in
    let end = b.0 in
    let d = behind_ok (data_at entry.kind (length entry.text) rest) end b.1 in
    let dt = data_takes lists entry.kind (length entry.text) rest (d.0, end) a.1.0.rest_fits d.1 in
    let front : data_bytes entry.kind d.0 ≡ take (length rest - length end) rest =
    sym (ap (λ (l : List ℕ). take (length l - length end) l) dt.0.parts ∙ in_front (data_bytes entry.kind d.0) end) in
    rw (← ok_is _ x b.2, ← front)
    (Takes-then a.1.0 dt.0, record { text = a.1.1.0; rises = a.1.1.1; held = record { held = d.0; lawful = dt.1; spelled = refl } })

row_again : AreReadBack → (before : Option StoreRow) → ReadsBack (row_at before) row_bytes (IsRow before)
unfolding row_at
row_again lists before row rest is =
    let entry = row.0 in
    let read : data_at entry.kind (length entry.text) (row.1 ++ rest) ≡ Ok (is.held.held, rest) =
    rw is.held.spelled (data_again lists entry.kind (length entry.text) is.text.few is.held.held rest is.held.lawful) in
    rw (append_assoc (name entry.text) row.1 rest, entry_again before entry (row.1 ++ rest) (is.text, is.rises), read, in_front row.1 rest) refl

-- ---- stores

-- versions of which none is another are all 1
all_ones : (at : ℕ) (vs : List ℕ) → other_version_from at vs ≡ None → vs ≡ replicate (length vs) 1
all_ones at [] none = refl
all_ones at (v ∷ vs) none = grind (arith, nat_tests, none, all_ones (suc at) vs)

-- what is read is spelled so
pub store_takes : AreReadBack → (bytes : List ℕ) (rows : List StoreRow) → IsBytes bytes → other_version bytes ≡ None → all_of bytes ≡ Ok rows
    → IsStoreBytes rows bytes
unfolding all_of other_version
store_takes lists bytes rows fits none e =
    let whole = passed (leb 6 (length bytes)) [] _ rows e in
    let long : length (take 6 bytes) ≡ 6 = omega (arith, length-take 6 bytes, leb-true 6 (length bytes) whole.0) in
    let takes = counted_takes row_at IsRow row_bytes (row_takes lists) (drop 6 bytes) in
    let r = step (counted_at row_at (drop 6 bytes)) _ _ rows (λ r. takes r (IsBytes-drop 6 bytes fits)) whole.1 in
    let ended = passed (eqb (length r.0.1) 0) r.0.1 _ rows r.2 in
    let front : take 6 bytes ≡ versions = all_ones 0 (take 6 bytes) none ∙ ap (λ n. replicate n 1) long in
    let nothing = nil_from_length r.0.1 (eqb-true _ 0 ended.0) in
    let rest : drop 6 bytes ≡ counted row_bytes r.0.0 = (rw nothing at r.1.0.parts) ∙ append-nil (counted row_bytes r.0.0) in
    rw (← ok_is r.0.0 rows ended.1) (record { lawful = r.1.1.0; few = r.1.1.1; spelled = rw (front, rest) at (sym (take-append-drop 6 bytes)) })

-- what is spelled is read
pub store_again : AreReadBack → (bytes : List ℕ) (rows : List StoreRow) → IsStoreBytes rows bytes → (other_version bytes ≡ None) × (all_of bytes ≡ Ok rows)
unfolding all_of other_version
store_again lists bytes rows is =
    let read = counted_again row_at IsRow row_bytes (row_again lists) rows [] (is.lawful, is.few) in
    let long : leb 6 (length (versions ++ (counted row_bytes rows ++ []))) ≡ true = le-leb 6 _ (omega arith) in
    let spelled = rw (← append-nil (counted row_bytes rows)) at is.spelled in
    (ap other_version is.spelled, ap all_of spelled ∙ rw (long, read) refl)

-- ---- past so many of a kind, one after another

-- what is left doesn't depend on what was read
behind-cons : {A : Type 0} (x : A) (read : Result (List A × List ℕ) ℕ) → behind (read >>= λ others. Ok (x ∷ others.0, others.1)) ≡ behind read
behind-cons x read = grind arith

module _ {A : Type 0} (one : Option A → List ℕ → Result (A × List ℕ) ℕ) where
  -- a turn of the loop
  pub goes_on : (before : Option A) (count i : ℕ) (bytes : List ℕ) (x : A) (after : List ℕ) (total : Result (List ℕ) ℕ) → i < count
      → one before bytes ≡ Ok (x, after) → behind (many_at one (count - i) before bytes) ≡ total → behind (many_at one (count - (i + 1)) (Some x) after) ≡ total
  unfolding many_at
  goes_on before count i bytes x after total less read so_far =
      let more : count - i ≡ suc (count - (i + 1)) = omega arith in
      sym (behind-cons x (many_at one (count - (i + 1)) (Some x) after)) ∙ (rw (more, read) at so_far)

  -- a turn that meets a fault
  pub ends : (fault : Fault) (before : Option A) (count i : ℕ) (bytes : List ℕ) (total : Result (List ℕ) ℕ) → i < count → Fails fault (one before bytes)
      → behind (many_at one (count - i) before bytes) ≡ total → Fails fault total
  unfolding many_at
  ends faults.Memory before count i bytes total less fails so_far = tt
  ends (faults.Unlawful left) before count i bytes total less fails so_far =
      let more : count - i ≡ suc (count - (i + 1)) = omega arith in
      sym (rw (more, fails) at so_far)

  -- the end of the loop
  pub is_done : (before : Option A) (count i : ℕ) (bytes : List ℕ) (total : Result (List ℕ) ℕ) → count ≤ i
      → behind (many_at one (count - i) before bytes) ≡ total → total ≡ Ok bytes
  unfolding many_at
  is_done before count i bytes total all so_far =
      let none : count - i ≡ 0 = omega arith in
      sym (rw none at so_far)
