-- What the proofs of this crate take from the kit, from lower crates and from the definitions.
pub use Rattle.std.proofs.Common.{All, List, Option, Some, [], add-one, ap, append-nil, append_assoc, arith, drop, drop_of_length-le, flat_map, false, get_or}
pub use Rattle.std.proofs.Common.{inl, inr, length, length-append, refl, rules, slice_get, string_bytes, subst, sym, true, ℕ, ◌++◌, ◌+◌, ◌-◌, ◌⊎◌, ◌<◌, ◌∙◌}
pub use Rattle.std.proofs.Common.{◌∷◌, ◌≡◌, ◌≤◌}
pub use Rattle.script_lang.specs.declared.line.Line.{Line}
pub use Rattle.write_history.specs.declared.entry.Entry.{Entry}
pub use Rattle.transcripts.specs.Loads.{AreLoadsOf, IsLoadOf, loaded_of, paths_asked, paths_of}
pub use Rattle.transcripts.specs.Transcript.{entry_lines, files_text, found_line, indent, key_line, level_line, open_text, outline_line, record_text}
pub use Rattle.transcripts.specs.Transcript.{summary_text, super_text, unready_text, usage_line, word_line}
pub use Rattle.transcripts.specs.declared.loaded.Loaded.{Loaded}
