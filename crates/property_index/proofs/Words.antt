-- What the proofs of this crate take from the kit, from lower crates and from the definitions.
pub use Rattle.std.proofs.Common.{Less, nat_cmp, Bool, IsUtf8, List, [], add-zero, ap, append-nil, append_assoc, arith, bytes_eq, chars, drop, encode_utf8}
pub use Rattle.std.proofs.Common.{eq-eqb, false, flat_map, inl, inr, length, lt-ltb, map, ne_eqb, not, one-add, refl, reverse, rules, string_bytes, suc, sym}
pub use Rattle.std.proofs.Common.{true, zero, ℕ, ◌++◌, ◌+◌, ◌-◌, ◌<◌, ◌==◌, ◌∙◌, ◌∷◌, ◌≡◌, ◌≤◌}
pub use Rattle.std.proofs.lemmas.Bool.{cases_Bool, cond_both, or_parts}
pub use Rattle.std.proofs.lemmas.Bool.Decides.{nat_tests}
pub use Rattle.std.proofs.lemmas.List.{drop-drop, reverse-append}
pub use Rattle.std.proofs.lemmas.Str.{IsUtf8-string_bytes, chars-nil, chars_from_encodes, encodes-append, encodes-chars}
pub use Rattle.std.specs.Cmp.{tied_itself}
pub use Rattle.std.specs.Cmp.Lexicographic.{bytes_decides, nat_list_cmp_total, slice_cmp}
pub use Rattle.std.specs.List.{AllByRecursion, prefix_len}
pub use Rattle.file_index.specs.KeyRows.{AreInOrder, row_cmp, rows_with}
pub use Rattle.list_laws.proofs.PartLemmas.{drop_from_slice_get}
pub use native.Mathlib.Numerals.{unary_clauses}
pub use Rattle.property_index.specs.Characters.{backslash, begins_comment, is_blank, is_white_space, line_feed, stops_key}
pub use Rattle.property_index.specs.Keys.{RiseFrom, key_in, keys_in, keys_left, keys_of, listed_key}
pub use Rattle.property_index.specs.Lines.{Line, Placed, continued, goes_on, in_front, is_odd, listed, natural_lines, placed_from, trimmed, without_last}
pub use Rattle.property_index.specs.Rest.{going_on, inside_from, is_join, left_of, past_line, width_at}
