-- What callers may rest on: a document, and the documents that are open.
pub mod Document
pub mod DocsView
-- Internal: the buffer of a document's text.
pub mod Gap
-- Internal: what a document is made of.
pub mod DocState
pub mod Places
