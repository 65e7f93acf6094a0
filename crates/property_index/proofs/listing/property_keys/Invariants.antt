use Rattle.property_index.proofs.Words.{◌≡◌, ◌++◌, length, ◌-◌, keys_left, keys_of, left_of}
use Rattle.property_index.proofs.listing.property_keys.Given as goal

-- the keys so far and those of what is left are those of the text
abbrev pub invariant-loop-first : goal.invariant-loop-first
invariant-loop-first l = l.keys.items ++ keys_left (left_of l.text l.at) ≡ keys_of l.text

abbrev pub decreases-loop-first : goal.decreases-loop-first
decreases-loop-first l = length l.text - l.at
