-- What the proofs of this crate take from the kit, from lower crates and from the definitions.
pub use Rattle.std.proofs.Common.{All, Contains, Equal, Err, Greater, Less, List, None, Ok, Option, Ordering, Result, Some, [], ap, append_assoc, arith, bit_or}
pub use Rattle.std.proofs.Common.{drop, encode_utf8, encode_utf8_all, eqb, false, fold, get_or, leb, length, length-drop, length-take, ltb, map, nat_lt, not}
pub use Rattle.std.proofs.Common.{option_map, refl, replicate, rules, subst, suc, sym, take, true, unwrap_or, zero, ℕ, ◌&&◌, ◌*◌, ◌++◌, ◌+◌, ◌-◌, ◌<◌, ◌==◌}
pub use Rattle.std.proofs.Common.{◌^◌, ◌||◌, ◌↔◌, ◌∙◌, ◌∷◌, ◌≡◌, ◌≢◌, ◌≤◌}
pub use Rattle.std.proofs.lemmas.Bool.{and_from, and_parts, cond_both, eqb-true, le-leb, leb-true, lt-ltb, ltb-true, not-true}
pub use Rattle.std.proofs.lemmas.Bool.Decides.{nat_tests}
pub use Rattle.std.proofs.lemmas.Iterator.{YieldsList-from_chars}
pub use Rattle.std.proofs.lemmas.Iterator.Search.{all_from_yields_List}
pub use Rattle.std.proofs.lemmas.List.{append-nil, drop_at, drop_more, flat_map_more, length-append, length-map, map-append, nil_from_length, take-append-drop}
pub use Rattle.std.proofs.lemmas.List.{take_at}
pub use Rattle.std.proofs.lemmas.List.Elements.{All-append, All-from_recursion, All-map, All-nil, Contains-append_right, filter_passes, recursion_from_All}
pub use Rattle.std.proofs.lemmas.List.Sums.{AllPass-from_list_all, list_all-from_AllPass}
pub use Rattle.std.proofs.lemmas.Map.Iter.{iter_end}
pub use Rattle.std.proofs.lemmas.Map.Lookups.{CmpEqualImpliesEq, exact_pairs, exact_unsigned}
pub use Rattle.std.proofs.lemmas.Map.Text.{is_eq-slice_cmp}
pub use Rattle.std.proofs.lemmas.Nat.{le_or_r, or_lt}
pub use Rattle.std.proofs.lemmas.Result.{IfErr-weaker, IfOk-weaker, err_from_is_err_and}
pub use Rattle.std.proofs.lemmas.Str.{len_utf8_bounds, length-encode}
pub use Rattle.std.specs.BTreeMap.{insert_entry, is_at}
pub use Rattle.std.specs.Cmp.{IsTotalOrder, nat_cmp_total, on_total, then_total, tied_itself}
pub use Rattle.std.specs.Cmp.Lexicographic.{bytes_decides, nat_list_cmp_total, slice_cmp}
pub use Rattle.std.specs.List.{AllByRecursion, flat_map, list_all, slice_split}
pub use Rattle.std.specs.Map.{lookup}
pub use Rattle.std.specs.Map.Iter.{deref_pair}
pub use Rattle.std.specs.Ordering.{is_eq, is_lt, match_ordering, nat_cmp, ordering_reverse}
pub use Rattle.std.specs.Str.{all_scalars, chars}
pub use Rattle.byte_fields.specs.Answers.{Fails}
pub use Rattle.byte_fields.specs.Reading.{AllAfter, byte_at, characters_at, counted_at, many_at, number_at, ◌>>=◌}
pub use Rattle.byte_fields.specs.Spelling.{counted, name, number}
pub use Rattle.byte_fields.specs.declared.fault.Fault.{Fault}
pub use Rattle.decl_parser.specs.Listing.{IsNamedIn, listing_of}
pub use Rattle.dumb_mode.specs.declared.kind.FileKind.{FileKind}
pub use Rattle.dumb_mode.specs.declared.kind.FileKind.TheVariants.{Java, Properties}
pub use Rattle.field_laws.proofs.FieldLemmas.{IsBytes, IsBytes-drop, IsBytes-take, Reads, ReadsBack, Takes, Takes-then, bind_ok, byte_takes, bytes_below}
pub use Rattle.field_laws.proofs.FieldLemmas.{bytes_fit, characters_again, name_again, name_parts, name_takes, number_again, number_takes, ok_is, passed}
pub use Rattle.field_laws.proofs.FieldLemmas.{some_bytes, step}
pub use Rattle.field_laws.proofs.ManyLemmas.{counted_again, counted_takes, ends, goes_on, is_done, last, with_front}
pub use Rattle.ide_text.specs.Text.{HasNoReturn, IsText, carriage_return, max_chars}
pub use Rattle.java_tokens.specs.Chars.{begins_word, first_passes}
pub use Rattle.java_tokens.specs.Identifier.{is_word}
pub use Rattle.java_tokens.specs.Token.{Token}
pub use Rattle.java_tokens.specs.Tokens.{characters_of, tokens_of}
pub use Rattle.java_tokens.specs.Words.{AreInOrder, WordRow, bit_of, ends_word, is_comment, is_identifier_token, is_string, mask_in, name_cmp, occurrences_of}
pub use Rattle.java_tokens.specs.Words.{shown_at, with_occurrence, words_at}
pub use Rattle.java_tokens.specs.declared.context.Context.{Context}
pub use Rattle.java_tokens.specs.declared.context.Context.TheVariants.{Code, Comment, String}
pub use Rattle.list_laws.proofs.PrefixLemmas.{All-weaken}
pub use Rattle.property_index.specs.Keys.{RiseFrom, keys_of}
pub use Rattle.stub_codec.specs.Spelling.{IsStubBytes, spelling}
pub use Rattle.stub_tree.specs.Lawful.{IsLawfulName}
pub use Rattle.stub_tree.specs.declared.stub.Stub.{Stub}
pub use Rattle.index_store.specs.Answers.{IsFirstWrong, IsRefusalOf, IsRight}
pub use Rattle.index_store.specs.Data.{StoreEntry, code_of, data_of, entry_cmp}
pub use Rattle.index_store.specs.Entries.{has_entry, rows_for, with_entry}
pub use Rattle.index_store.specs.Held.{AreDataOf, AreHeld, IsHeld, IsTakenIn, Key, Stored, entries_in, entry_of, held_bytes, key_cmp, key_of}
pub use Rattle.index_store.specs.Lawful.{AreStubs, IsData, IsKey, IsRow, IsStoreBytes, IsWord, are_spelled, entry_rises, is_spelled, key_rises, word_rises}
pub use Rattle.index_store.specs.Reading.{all_of, behind, field, is_mask, key_at, may_be_text, other_version, other_version_from, row_at, word_at}
pub use Rattle.index_store.specs.Spelling.{StoreRow, data_bytes, key, row_bytes, rows_of, versions, word}
pub use Rattle.index_store.specs.declared.refusal.StoreRefusal.{StoreRefusal}
pub use Rattle.index_store.specs.declared.refusal.StoreRefusal.TheVariants.{BadStore, OtherVersion, OutOfMemory, WrongData}
