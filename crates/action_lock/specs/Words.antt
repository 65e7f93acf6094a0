-- The words and slots of the lock's table: a word and a slot for each place, and behind these slots that of the home value.
-- A pass uses the place of its number.
use Rattle.std.specs.Prelude.{ℕ, ◌+◌, ◌-◌, ◌*◌, ◌/◌, ◌%◌, ◌==◌, Bool, Option, Some, None, max, min}

-- where the count of entries stands
abbrev pub count : ℕ
count = 0

-- where the intent word stands: 1 while a seat has the intent
abbrev pub intents : ℕ
intents = 16

-- where the word of a place stands, 16 words from the next, so that no two share a cache line
abbrev pub word_at : ℕ → ℕ
word_at place = 16 * place + 32

-- the place whose word stands there
abbrev pub place_of : ℕ → ℕ
place_of word = (word - 32) / 16

-- how many places a lock has for which so many are asked: one at least, and 32 at most
abbrev pub places_for : ℕ → ℕ
places_for asked = max 1 (min asked 32)

-- the place of a pass, among so many
abbrev pub own_place : ℕ → Option ℕ → ℕ
own_place places (Some number) = number % places
own_place places None = 0

-- whether a word of a place (TURN 1, WRITER 2, PENDING 4, and 8 for each reader) has the turn: one seat alone may then
-- change what the place guards
abbrev pub has_turn : ℕ → Bool
has_turn word = word % 2 == 1

-- a write waits or goes on: no reader enters by this place
abbrev pub has_pending : ℕ → Bool
has_pending word = word / 4 % 2 == 1
