-- What the proofs of this crate take from the kit, from lower crates and from the definitions.
pub use Rattle.std.proofs.Common.{Bool, Bor, Err, IsAscii, List, MatchOption, None, Ok, Option, Result, Some, [], add-one, ap, append_assoc, arith, codes}
pub use Rattle.std.proofs.Common.{cond, drop, eqb, false, get_or, inl, inr, leb, length, lit<, ltb, map, option_map, refl, rules, string_bytes, subst, suc}
pub use Rattle.std.proofs.Common.{sym, take, true, zero, ℕ, ◌&&◌, ◌++◌, ◌+◌, ◌<◌, ◌^◌, ◌∙◌, ◌∷◌, ◌≡◌, ◌≢◌, ◌≤◌, ◌⊎◌}
pub use Rattle.std.proofs.lemmas.Bool.{and_from, and_parts, cases_Bool, eq-eqb, eqb-true, false≢true, lt-ltb}
pub use Rattle.std.proofs.lemmas.Fmt.{IsAscii-decimal, decimal-digits_value, decimal_digit, decimal_is_IsNumeral, decimal_nonempty, first_decimal}
pub use Rattle.std.proofs.lemmas.Fmt.{parse-decimal}
pub use Rattle.std.proofs.lemmas.Grind.{common_steps, get_or_at_push}
pub use Rattle.std.proofs.lemmas.List.{append-nil, append_cancel_right, get_or-append-add, get_or-take, get_or_at, length-append, length-take}
pub use Rattle.std.proofs.lemmas.List.{nil_from_length, same_from_push, take-append-drop, take_at, take_rest}
pub use Rattle.std.proofs.lemmas.List.Elements.{All-cons, All-head, All-nil, All-push, All-tail, All-weaker}
pub use Rattle.std.proofs.lemmas.List.Folds.{list_all-append}
pub use Rattle.std.proofs.lemmas.List.Sums.{AllPass-from_list_all}
pub use Rattle.std.proofs.lemmas.Option.{none-some, same_Some, slice_get-get_or}
pub use Rattle.std.proofs.lemmas.Slice.Eq.{bytes_eq-Decides}
pub use Rattle.std.proofs.lemmas.Str.{IsCharBoundary-before_ascii, IsCharBoundary-end, IsCharBoundary-start, IsUtf8-from_ascii, IsUtf8-from_is_utf8}
pub use Rattle.std.proofs.lemmas.Str.{IsUtf8-string_bytes, IsUtf8-take, chars-IsAscii, chars-append, chars-nil, chars_from_encodes, chars_past_char}
pub use Rattle.std.proofs.lemmas.Str.{encode_ascii, encodes-append, encodes-chars, is_utf8-from_IsUtf8}
pub use Rattle.std.proofs.lemmas.Str.Ascii.{IsAscii-from_all}
pub use Rattle.std.proofs.lemmas.Str.Parse.{digit_from_value, numerals_by_value, parse_plain, tells_digits}
pub use Rattle.std.proofs.lemmas.Str.Pattern.{IsSplitOnceResult, split_parts}
pub use Rattle.std.specs.Fmt.{decimal}
pub use Rattle.std.specs.List.{All, flat_map, list_all}
pub use Rattle.std.specs.Option.{option_to_list, unwrap_or}
pub use Rattle.std.specs.Prelude.{nat_lt}
pub use Rattle.std.specs.Result.{result_ok}
pub use Rattle.std.specs.Str.{IsCharBoundary, IsUtf8, bytes_eq, chars, is_utf8}
pub use Rattle.std.specs.Str.Parse.{AllDigits, ParsesUnsigned, digits_value}
pub use Rattle.ide_text.specs.Text.{max_chars, repaired}
pub use Rattle.memchr.specs.Find.{IsFirstByte, Nowhere, Passes, is_byte, is_byte2}
pub use Rattle.queries.specs.declared.query.Query.{Query}
pub use Rattle.write_history.specs.Changes.{AreFew, is_edit, max_changes}
pub use Rattle.write_history.specs.declared.change.Change.{Change}
pub use denote.Shadow.{shadow}
pub use denote.Text.{Utf8}
pub use lib.Utf8.{encodes}
pub use Rattle.script_lang.specs.Commands.{attempts_of, change_or, change_with, command_with, lone_queries, lone_query, max_attempts, query_of_parts}
pub use Rattle.script_lang.specs.Commands.{query_with, request_rows, request_with, soft_command}
pub use Rattle.script_lang.specs.Contents.{content_of_bytes, content_of_parts, lone_content, lone_contents, or_bad}
pub use Rattle.script_lang.specs.Fields.{is_plain, max_number, parts_at_space, space}
pub use Rattle.script_lang.specs.Forms.{AreSpelled, FieldKind, Form, HasOneOf, IsField, IsQuoted, IsSpelling, Maker, Number, Path, Spells, Text, Value, Word}
pub use Rattle.script_lang.specs.Grammar.{AreContents, AreLines, BeginScript, DropsReturn, HoldRest, HoldScript, IsCommandLine, IsInGroup, IsKept, IsLine}
pub use Rattle.script_lang.specs.Grammar.{IsQueryLine, IsRefused, IsScript, IsSoftLine, Rest, first_comes, lane_comes, last_comes, nothing, whole}
pub use Rattle.script_lang.specs.Held.{AreOfScript, AreOfSection, IsNoLoad, IsOfLine, RiseFrom}
pub use Rattle.script_lang.specs.Lines.{carriage_return, is_passed_by, line_feed, lines_of, max_bytes, without_return}
pub use Rattle.script_lang.specs.Parts.{Parts}
pub use Rattle.script_lang.specs.Printed.{IsReadBack, SpellRest, is_ink}
pub use Rattle.script_lang.specs.Quotes.{backslash, escape_of, quote, text_of_field, unquoted_from}
pub use Rattle.script_lang.specs.Readers.{look_up, read, rows_of, value_of}
pub use Rattle.script_lang.specs.Reading.{OpenGroup, State, after, after_open, finished, finished_read, max_lanes, may_stand, read_from, script_of}
pub use Rattle.script_lang.specs.Reading.{start, with_line, with_section}
pub use Rattle.script_lang.specs.Tables.{change_forms, load_forms, query_forms}
pub use Rattle.script_lang.specs.declared.command.Command.{Command}
pub use Rattle.script_lang.specs.declared.content.Content.{Content}
pub use Rattle.script_lang.specs.declared.content.Content.TheVariants.{Holds}
pub use Rattle.script_lang.specs.declared.line.Line.{Line}
pub use Rattle.script_lang.specs.declared.line.Section.{Section}
pub use Rattle.script_lang.specs.declared.line.Section.TheVariants.{Finally, Lane, Prelude}
pub use Rattle.script_lang.specs.declared.quoted.QuoteState.TheVariants.{Inside, Outside}
pub use Rattle.script_lang.specs.declared.refusal.ScriptRefusal.{ScriptRefusal}
pub use Rattle.script_lang.specs.declared.refusal.ScriptRefusal.TheVariants.{BadLine}
