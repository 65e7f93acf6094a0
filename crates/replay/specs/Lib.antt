-- What callers may rest on: what each step does, and when it is refused
pub mod Steps
-- What these cite from below: the world, its changes, and the answers to questions
pub use Rattle.write_history.specs.World
pub use Rattle.write_history.specs.Effect
pub use Rattle.write_history.specs.Fold
pub use Rattle.ide_world.specs.Ready
pub use Rattle.query_engine.specs.Reply
