-- What callers may rest on: the classes of characters, the kinds of tokens, tokens, identifiers, words, and where a name stands.
pub mod Chars
pub mod TokenKind
pub mod Token
pub mod Tokens
pub mod Identifier
pub mod Words
pub mod Places
-- Internal: the names that the code gives to some of these classes.
pub mod Class
-- Internal: the fronts of names, by which they are sorted.
pub mod Front
-- What they cite from below: texts.
pub use Rattle.ide_text.specs.Text
