-- How a question is answered.
use Rattle.std.specs.Prelude.{◌≡◌, Result, Ok, Err}
use Rattle.action_lock.specs.declared.view.View.{View}
use Rattle.write_history.specs.declared.entry.Entry.{Entry}
use Rattle.write_history.specs.World.{World}
use Rattle.write_history.specs.Fold.{fold}
use Rattle.queries.specs.declared.query.Query.{Query}
use Rattle.query_engine.specs.declared.answer.Finding.{Finding}
use Rattle.query_engine.specs.Reply.{NoAnswer, no_such_file, not_ready, reply, query_step}
use Rattle.query_engine.specs.Listed.{path_at}
use Rattle.ide_calls.specs.Made.{IsAnsweredByRead}
use Rattle.ide_calls.specs.declared.reply.Reply.{Reply}
use Rattle.ide_calls.specs.declared.reply.Reply.TheVariants.{Found, NoSuchFile, NotReady}
pub use Rattle.ide_calls.specs.declared.replied.Replied.{Replied}

-- the reply tells what the definition gives in this world, and the path of a file that isn't ready
abbrev pub Tells : World → Result Finding NoAnswer → Reply → Type 0
Tells world expected (Found answer) = expected ≡ Ok answer
Tells world expected NoSuchFile = expected ≡ Err no_such_file
Tells world expected (NotReady file path) = (expected ≡ Err (not_ready file)) × (path ≡ path_at world file)

-- the reply is that of the definition in this world, and the moment its number of entries
pub record IsRepliedIn (world : World) (query : Query) (replied : Replied) : Type 0 where
  pub is_at : replied.at ≡ world.entries
  pub tells : Tells world (reply world query) replied.reply

-- the question was answered behind a history of the reply's moment, and the reply tells the answer. Nothing was made
pub record HasReplied (v w : View Entry) (query : Query) (replied : Replied) : Type 0 where
  pub answer : Result Finding NoAnswer
  pub answered : IsAnsweredByRead (λ start seat. query_step start query) v w (replied.at, answer)
  pub tells : Tells (fold answered.answered.start) answer replied.reply
