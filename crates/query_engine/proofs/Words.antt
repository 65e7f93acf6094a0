-- What the proofs of this crate take from the kit, from lower crates and from the definitions.
pub use Rattle.std.proofs.Common.{All, Bool, Err, IfSome, IsErrAnd, IsSome, IsSomeAnd, List, None, Ok, OnOk, Option, Result, Some, [], ap}
pub use Rattle.std.proofs.Common.{append-nil, append_assoc, arith, drop, false, filter, get_or, if◌then◌else◌, inl, inr, le_refl, le_trans, length, map}
pub use Rattle.std.proofs.Common.{option_map, option_to_list, position, refl, rules, subst, suc, sum, sym, take, true, zero, ℕ, ◌%◌, ◌&&◌, ◌++◌}
pub use Rattle.std.proofs.Common.{◌+◌, ◌/◌, ◌<◌, ◌==◌, ◌||◌, ◌∙◌, ◌∷◌, ◌≡◌, ◌≢◌, ◌≤◌, ◌⊎◌}
pub use Rattle.std.proofs.Math.Path.{fun_ext}
pub use Rattle.std.proofs.lemmas.Bool.{and_parts, cases_Bool, cases_eq, cond_both, eqb-true, false≢true, ne_eqb, not-false, not-true, not_from_false}
pub use Rattle.std.proofs.lemmas.Bool.{or_cases}
pub use Rattle.std.proofs.lemmas.Grind.{common_steps, flat_map-append}
pub use Rattle.std.proofs.lemmas.List.{drop_more, get_or-map, length-append, length-map, map-append, nil_from_length}
pub use Rattle.std.proofs.lemmas.List.Elements.{All-append, All-cons, All-contains, All-contains_itself, All-filter, All-head, All-map, All-nil, All-tail}
pub use Rattle.std.proofs.lemmas.List.Elements.{All-weaker, Contains-append_left, Contains-append_right, filter-append, filter_passes, recursion_from_All}
pub use Rattle.std.proofs.lemmas.List.Folds.{Any-from_list_any, list_any-append, list_any_at}
pub use Rattle.std.proofs.lemmas.List.Kept.{AllPairs-cons, AllPairs-filter}
pub use Rattle.std.proofs.lemmas.Bool.Decides.{nat_tests}
pub use Rattle.std.proofs.lemmas.Result.{on_ok_weaker}
pub use Rattle.std.specs.Bool.{one_answer}
pub use Rattle.std.proofs.lemmas.Slice.Eq.{bytes_eq-Decides}
pub use Rattle.std.specs.List.{AllByRecursion, AllPairs, Contains, flat_map, list_any}
pub use Rattle.std.specs.Option.{option_map_or, option_or}
pub use Rattle.std.specs.Ordering.{is_eq, is_lt, nat_cmp}
pub use Rattle.std.specs.Prelude.{IsOk, is_some, not}
pub use Rattle.std.specs.Str.{bytes_eq}
pub use Rattle.decl_parser.specs.Listing.{IsNamedIn, listing_of}
pub use Rattle.dumb_mode.specs.declared.kind.FileKind.TheVariants.{Java, Properties}
pub use Rattle.ide_text.specs.Text.{max_chars}
pub use Rattle.ide_world.specs.Found.{found, found_from, masks_in, stubs_in}
pub use Rattle.property_index.specs.Keys.{RiseFrom, keys_of, places_of_key}
pub use Rattle.stub_tree.specs.Lawful.{IsLawfulAfter, IsLawfulList}
pub use Rattle.stub_tree.specs.Stub.{is_type}
pub use Rattle.stub_tree.specs.declared.stub.Stub.{Stub}
pub use Rattle.write_history.specs.World.{File, World, file_of, has_path, id_at, lowest_unready, shown_text}
pub use Rattle.query_engine.specs.Fits.{has_super, is_class, is_method}
pub use Rattle.query_engine.specs.Given.{GivesReply, RepliesTo, declared_reply}
pub use Rattle.query_engine.specs.Inheritors.{EndsChain, IsChain, IsLeast, IsOnLevel, ListedType, Precedes, StandsBefore, inheritors_of, last_of, names_any}
pub use Rattle.query_engine.specs.Inheritors.{asked_for, asked_supers, each_once, is_asked, met_count, names_of}
pub use Rattle.query_engine.specs.Leveled.{RowsRise, seen_listing, seen_row, with_row_level}
pub use Rattle.query_engine.specs.Listed.{AreAhead, AreFrom, AreLive, IsListed, Listed, has_code, itself, listed_at, offset_in, path_at, place_found}
pub use Rattle.query_engine.specs.Listed.{row_found, stub_at, text_at, uses_at, uses_found, word_found}
pub use Rattle.query_engine.specs.Looks.{EndsEarly, HasLooked, HasLookedFor, LooksThrough, MayLook, StopsUnseen, first_uses, later_looks, looks_after}
pub use Rattle.query_engine.specs.Looks.{looks_at, rows_a_look}
pub use Rattle.query_engine.specs.Paces.{AreAmong, Paces}
pub use Rattle.query_engine.specs.Reply.{NoAnswer, not_ready, level_row, of_files, of_world, place_row, reply, row_of, rows_in, types_in, types_of}
pub use Rattle.query_engine.specs.Reply.{unless_unready, uses_in, word_in}
pub use Rattle.query_engine.specs.Search.{AskedEach, HasAsked, IsFound, LevelsRise, Location, Reached, Seen, is_level}
pub use Rattle.query_engine.specs.Search.{is_seen, leveled, location_cmp, location_of, meet, meet_all, tagged, with_this}
pub use Rattle.query_engine.specs.declared.answer.AskRefusal.{AskRefusal}
pub use Rattle.query_engine.specs.declared.answer.AskRefusal.TheVariants.{Cancelled, NotReady, OutOfMemory}
pub use Rattle.query_engine.specs.declared.answer.Finding.{Finding}
pub use Rattle.query_engine.specs.declared.answer.Finding.TheVariants.{Keys, Rows, Usages, Words}
pub use Rattle.query_engine.specs.declared.answer.LevelRow.{LevelRow}
pub use Rattle.query_engine.specs.declared.answer.PlaceRow.{PlaceRow}
