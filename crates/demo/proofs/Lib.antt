mod OnLiterals
pub mod ScriptLemmas
