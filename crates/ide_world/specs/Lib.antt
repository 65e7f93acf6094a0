-- What callers may rest on.
-- What it means that changes are ready to go in, and how they are refused
pub mod Ready
-- The work of indexing a file
pub mod Task
-- Which unready file is found first
pub mod Unready
-- What contracts see of a state
pub mod StateView
-- What the walks of a state find
pub mod Found
-- Internal: the state and its steps.
-- What an edit of a row makes of it
pub mod RowEdits
-- What an edit of a document makes of it
pub mod DocEdits
-- What an edit of index data makes of them
pub mod IndexEdits
-- One change of one file, and what it makes of the world
pub mod Step
-- What always holds of the world of a state
pub mod Sound
-- When steps may be carried out
pub mod Lawful
-- Steps that differ in nothing but the room beside their texts
pub mod Alike
-- The ids of the unready files
pub mod IdSet
-- What steps need room for
pub mod Room
-- What steps give up of the room
pub mod Sweep
-- When steps can be carried out one after another
pub mod StepsReady
-- What ties the parts of a state together
pub mod State
-- Internal: how changes become steps.
-- A draft of a world, and the steps made from it so far
pub mod Drafted
-- What a step makes of the parts that a draft's readers see
pub mod Walk
-- What it means that a step makes a change
pub mod Builds
-- What public clauses cite from below: the world and its changes, documents, rows of files, index data, listings, words and property keys.
pub use Rattle.write_history.specs.World
pub use Rattle.write_history.specs.Changes
pub use Rattle.write_history.specs.Effect
pub use Rattle.write_history.specs.Fold
pub use Rattle.document_buf.specs.Document
pub use Rattle.overlay_index.specs.Parts
pub use Rattle.overlay_index.specs.Named
pub use Rattle.overlay_index.specs.Listing
pub use Rattle.overlay_index.specs.Words
pub use Rattle.overlay_index.specs.Keys
pub use Rattle.dumb_mode.specs.Filter
