-- The front of a name as a number, by which most names are put in order.
use Rattle.std.specs.Prelude.{ℕ, ◌+◌, ◌*◌, nat_lt, if◌then◌else◌, List, [], ◌∷◌}

-- what the digits of a front weigh: there are eight, of one byte each
unfoldable pub weights : List ℕ
weights = 72057594037927936 ∷ 281474976710656 ∷ 1099511627776 ∷ 4294967296 ∷ 16777216 ∷ 65536 ∷ 256 ∷ 1 ∷ []

-- the first characters, or bytes, as digits of these weights: up to the first that isn't ASCII, which counts as 128
unfoldable pub front_of : List ℕ → List ℕ → ℕ
front_of [] cs = 0
front_of (w ∷ ws) [] = 0
front_of (w ∷ ws) (c ∷ cs) = if nat_lt c 128 then c * w + front_of ws cs else 128 * w
