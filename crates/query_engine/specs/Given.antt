-- What a call gives after its first look.
use Rattle.std.specs.Prelude.{ℕ, ◌≡◌, ◌+◌, List, map, Result, Ok, IfOk, IfErr}
use Rattle.stub_tree.specs.declared.stub.Stub.{Stub}
use Rattle.write_history.specs.World.{World, lowest_unready}
use Rattle.queries.specs.declared.query.Query.{Query}
use Rattle.query_engine.specs.declared.answer.Finding.{Finding}
use Rattle.query_engine.specs.declared.answer.Finding.TheVariants.{Rows, Words, Keys}
use Rattle.query_engine.specs.declared.answer.AskRefusal.{AskRefusal}
use Rattle.query_engine.specs.Reply.{NoAnswer, reply, unless_unready, IsRefusalOf}
use Rattle.query_engine.specs.Looks.{later_looks, HasLooked, MayLook}
use Rattle.query_engine.specs.Listed.{row_found, word_found, place_found}

-- a call gives the reply that is expected, or says why not, and looks as often as its rows want it
pub record GivesReply {W : Type 0} (looks_of sights_of : W → ℕ) (stays : W → W → Type 0) (expected : Result Finding NoAnswer)
    (result : Result Finding AskRefusal) (old new : W) : Type 0 where
  pub looked : HasLooked looks_of sights_of stays result (later_looks expected) old new
  pub answer : IfOk result (λ answer. expected ≡ Ok answer)
  pub refused : IfErr result (IsRefusalOf expected)

-- a call gives the reply to a question, or says why not, and looks as often as the question may after its first look
pub record RepliesTo {W : Type 0} (looks_of sights_of : W → ℕ) (stays : W → W → Type 0) (world : World) (query : Query)
    (result : Result Finding AskRefusal) (old new : W) : Type 0 where
  pub later : ℕ
  pub may : MayLook world query (1 + later)
  pub looked : HasLooked looks_of sights_of stays result later old new
  pub answer : IfOk result (λ answer. reply world query ≡ Ok answer)
  pub refused : IfErr result (IsRefusalOf (reply world query))

-- the reply by the declarations that a walk finds
abbrev pub declared_reply : World → List (ℕ × Stub) → Result Finding NoAnswer
declared_reply world found = unless_unready (lowest_unready world) (Rows (map (row_found world) found))

-- the reply by the files in which a walk finds a word
abbrev pub word_reply : World → List (ℕ × ℕ) → Result Finding NoAnswer
word_reply world found = unless_unready (lowest_unready world) (Words (map (word_found world) found))

-- the reply by the places at which a walk finds a property key
abbrev pub key_reply : World → List (ℕ × ℕ) → Result Finding NoAnswer
key_reply world found = unless_unready (lowest_unready world) (Keys (map (place_found world) found))
