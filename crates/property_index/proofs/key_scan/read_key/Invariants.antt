use Rattle.property_index.proofs.Words.{◌≡◌, ◌≤◌, ◌++◌, false, length, ◌-◌, chars, string_bytes, key_in, left_of, inside_from, is_join}
use Rattle.property_index.proofs.key_scan.read_key.Given as goal

-- the key so far and what is left of it are the key
abbrev pub invariant-loop-meant : goal.invariant-loop-meant
invariant-loop-meant l = record {
  joined : is_join (left_of l.text l.at) ≡ false;
  key : chars (string_bytes l.key) ++ key_in (inside_from (left_of l.text l.at)).0 ≡ key_in (inside_from (left_of l.text l.from)).0;
  behind : (inside_from (left_of l.text l.at)).1 ≡ (inside_from (left_of l.text l.from)).1;
  forward : l.from ≤ l.at;
}

abbrev pub decreases-loop-meant : goal.decreases-loop-meant
decreases-loop-meant l = length l.text - l.at
