use Rattle.document_buf.proofs.Words.{◌≡◌, ◌≤◌, ◌^◌, ℕ, None, get_or, length}
use Rattle.document_buf.proofs.PlaceLemmas.{count}
use Rattle.document_buf.proofs.docs.Docs.make_place.Given as goal

-- the places are those of before, and free ones after them, up to the counter
abbrev pub invariant-loop : goal.invariant-loop
invariant-loop l = record {
  same : (id : ℕ) → get_or l.self-inside.docs.items id None ≡ get_or l.initial.self-inside.docs.items id None;
  longer : length l.initial.self-inside.docs.items ≤ length l.self-inside.docs.items;
  places : count l.self-inside.docs.items ≡ count l.initial.self-inside.docs.items;
  len : length l.self-inside.docs.items ≡ l.counter;
  few : length l.self-inside.docs.items ≤ 2 ^ 32;
  many : l.self-inside.open_docs ≡ l.initial.self-inside.open_docs;
}
