-- What the proofs of this crate take from the kit, from lower crates and from the definitions.
pub use Rattle.std.proofs.Common.{Bool, Err, Fits, Greater, IsUtf8, Less, List, None, Ok, Option, Ordering, Result, Some, [], add-one, ap, append-nil, ap₂}
pub use Rattle.std.proofs.Common.{arith, cond, drop, encode_utf8_all, eqb, false, get_or, inl, inr, leb, length, length-append, length-drop, length-take}
pub use Rattle.std.proofs.Common.{lit<, map, max, not, refl, rules, suc, sym, take, true, w8, zero, ℕ, ⊎_elim, ◌%◌, ◌&&◌, ◌*◌, ◌++◌, ◌+◌, ◌-◌, ◌<◌, ◌==◌, ◌^◌}
pub use Rattle.std.proofs.Common.{◌||◌, ◌∙◌, ◌∷◌, ◌≡◌, ◌≢◌, ◌≤◌}
pub use Rattle.std.proofs.StrCases.{chars_of_empty}
pub use Rattle.std.proofs.lemmas.Bool.{agree_below, agree_below_at, and_parts, cases_Bool, cases_lt, cond-false, cond_both, eq-eqb, eqb-true}
pub use Rattle.std.proofs.lemmas.Bool.{false_from_ne_true, ltb-true, ne_eqb}
pub use Rattle.std.proofs.lemmas.Bool.Decides.{nat_tests}
pub use Rattle.std.proofs.lemmas.Fn.{always_returns_same}
pub use Rattle.std.proofs.lemmas.Grind.{common_steps}
pub use Rattle.std.proofs.lemmas.Iterator.{YieldsList-from_chars}
pub use Rattle.std.proofs.lemmas.Iterator.Search.{all_from_yields_List}
pub use Rattle.std.proofs.lemmas.List.{drop-drop, drop_all, get_or-drop, get_or-map, length-map}
pub use Rattle.std.proofs.lemmas.List.Elements.{All-cons, All-contains, All-nil, All-weaker}
pub use Rattle.std.proofs.lemmas.List.MinMax.{ranks_by}
pub use Rattle.std.proofs.lemmas.List.Sorted.{IsPermutation-map, searchable_from_sorted}
pub use Rattle.std.proofs.lemmas.List.Sums.{AllPass-from_list_all, fold-append, position_or_len_is, prefix_len-drop_yes, prefix_len-le-length}
pub use Rattle.std.proofs.lemmas.List.Sums.{prefix_len_stops, take_while-cons}
pub use Rattle.std.proofs.lemmas.Result.{IfOk-weaker}
pub use Rattle.std.proofs.lemmas.Simd.{first_set_mask_l, length-chunk, mask_l-mod, run_in_chunk_fails, run_in_chunk_le, splat_is_map, zip2_of_maps}
pub use Rattle.std.proofs.lemmas.Simd.{zip2_splat}
pub use Rattle.std.proofs.lemmas.Slice.Eq.{bytes_eq-Decides}
pub use Rattle.std.proofs.lemmas.Str.{IsUtf8-from_ascii, IsUtf8-past_char, char_from_byte, chars-IsAscii, chars_past_char, encode_ascii, len_utf8_bounds}
pub use Rattle.std.proofs.lemmas.Str.{length-encode}
pub use Rattle.std.proofs.lemmas.Str.Ascii.{IsAscii-from_all}
pub use Rattle.std.specs.Borrow.{Bor}
pub use Rattle.std.specs.Char.{encode_utf8, is_ascii}
pub use Rattle.std.specs.Cmp.Lexicographic.{nat_list_cmp_total, nat_list_eq_equiv, texts_ties}
pub use Rattle.std.specs.Int.Bits.{or_zero_l}
pub use Rattle.std.specs.Int.Count.{count_trailing_zeros}
pub use Rattle.std.specs.List.{flat_map, list_all, list_any, prefix_len, slice_split}
pub use Rattle.std.specs.Map.{keys_of, lookup}
pub use Rattle.std.specs.Ordering.{is_eq, is_lt, ordering_index, ordering_reverse}
pub use Rattle.std.specs.Prelude.{All, Contains, IfNone, IfSome, MatchResult, T, bit_or, fold, is_none, is_some, unwrap_or}
pub use Rattle.std.specs.Simd.Lanes.{Each1, chunk, mask_l, top}
pub use Rattle.std.specs.Str.{bytes_eq, chars}
pub use Rattle.std.specs.Str.Iter.{chars_rest}
pub use Rattle.std.specs.Vec.Iter.{into_iter_items}
pub use Rattle.indexmap.proofs.MapLemmas.{distinct_permutation, lookup_permutation, sorted_keys}
pub use Rattle.indexmap.specs.Entry.{map_with_value}
pub use Rattle.list_laws.proofs.PartLemmas.{drop-part, part-part}
pub use Rattle.unicode_ident.proofs.IdentLemmas.{is_xid_continue-ascii, is_xid_start-ascii, is_xid_start-is_xid_continue}
pub use Rattle.java_tokens.specs.Chars.{asterisk, backslash, begins_with, begins_word, continues_number, continues_word, dot, double_quote, first_passes}
pub use Rattle.java_tokens.specs.Chars.{is_in_line, is_other, is_white_space, single_quote, slash, space}
pub use Rattle.java_tokens.specs.Class.{is_in, is_no_ascii_word}
pub use Rattle.java_tokens.specs.Front.{front_of}
pub use Rattle.java_tokens.specs.Identifier.{is_word}
pub use Rattle.java_tokens.specs.Places.{RiseFrom, is_in_code, is_use_of, places_among, places_of}
pub use Rattle.java_tokens.specs.Token.{Token}
pub use Rattle.java_tokens.specs.TokenKind.{begins_number, code_of, comment_end, comment_mark, comment_rest, kind_at, length_of, line_comment_mark}
pub use Rattle.java_tokens.specs.TokenKind.{literal_escape, literal_rest, text_block_escape, text_block_mark, text_block_rest}
pub use Rattle.java_tokens.specs.Tokens.{AreTokensFrom, IsInside, characters_of, token_at, token_len, tokens_of, tokens_past}
pub use Rattle.java_tokens.specs.Words.{AreInOrder, HasMasksOf, WordRow, bit_of, bits_of, ends_word, gap_at, has_bit, in_order_of, is_identifier_token}
pub use Rattle.java_tokens.specs.Words.{marked, mask_in, name_cmp, occurrences_at, occurrences_of, past_escape, shown_at, union_of, with_occurrence}
pub use Rattle.java_tokens.specs.Words.{words_among, words_at, words_in, words_of}
pub use Rattle.java_tokens.specs.declared.context.Context.{Context}
pub use Rattle.java_tokens.specs.declared.context.Context.TheVariants.{Code, Comment, String}
pub use Rattle.java_tokens.specs.declared.kind.TokenKind.TheVariants.{BlockComment, Char, LineComment, Number, Punct, Str, TextBlock, Word}
