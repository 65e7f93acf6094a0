-- What callers may rest on: how names of files are written as paths of a workspace
pub mod Paths
-- What these cite from below: lawful paths
pub use Rattle.write_history.specs.Path
