-- Numbers drawn from a seed, one after another.
use Rattle.std.specs.Prelude.{ℕ, zero, suc, ◌+◌, ◌*◌, ◌/◌, ◌%◌}

-- the state after a draw
abbrev pub after_draw : ℕ → ℕ
after_draw state = (state * 1103515245 + 12345) % 2147483648

-- the state after so many draws from the seed
abbrev pub state_after : ℕ → ℕ → ℕ
state_after seed zero = seed
state_after seed (suc draws) = after_draw (state_after seed draws)

-- the number that a draw gives, which is what stands above the low 16 bits of the state after it
abbrev pub number_of : ℕ → ℕ
number_of state = state / 65536

-- the number that the draw with this place gives; the first has place 1
abbrev pub draw_of : ℕ → ℕ → ℕ
draw_of seed place = number_of (state_after seed place)
