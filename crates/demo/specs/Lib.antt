-- What callers may rest on: the bytes of the script, from the seed and the numbers of files and edits.
pub mod Script
-- How they come about: the commands, their draws and their lines.
pub mod Commands
pub mod Draws
pub mod Line
