-- What the proofs of this crate take from the kit, from lower crates and from the definitions.
pub use Rattle.std.proofs.Common.{List, None, Option, Some, [], add-one, ap, append_assoc, arith, drop, get_or, length, refl, rules, set, slice_get, suc, sym}
pub use Rattle.std.proofs.Common.{take, zero, ℕ, ◌++◌, ◌+◌, ◌-◌, ◌<◌, ◌^◌, ◌∙◌, ◌∷◌, ◌≡◌, ◌≤◌}
pub use Rattle.std.proofs.Math.ListN.{get_or-map}
pub use Rattle.std.proofs.Math.Seq.{drop-append-add, take-append-add}
pub use Rattle.std.proofs.lemmas.Bool.{false≢true, true≢false}
pub use Rattle.std.proofs.lemmas.List.{drop-drop, drop-take, drop_at, get_or-set_other, get_or_default, length-map, length-set, length-take-le, take_all}
pub use Rattle.std.proofs.lemmas.Option.{get_or_from_slice_get, slice_get_within}
pub use Rattle.std.specs.Prelude.{IsSome, filter, is_some, map, option_map}
pub use Rattle.std.specs.Vec.{with_item}
pub use Rattle.list_laws.proofs.PartLemmas.{same_to_end}
pub use Rattle.list_laws.proofs.RowLemmas.{count-with_row, count_le, counted_in, live_inside, put_at-set}
pub use Rattle.list_laws.specs.Rows.{one_if}
pub use lib.Seq.{drop-paste, paste, paste-suc}
pub use Rattle.document_buf.specs.DocsView.{DocsView, HasPlace, HeldDoc, document_of, open_of}
pub use Rattle.document_buf.specs.Document.{Document}
pub use Rattle.document_buf.specs.Gap.{Gapped, IsGap, gapped_of, joined_of}
pub use Rattle.document_buf.specs.Places.{IsHeld, held_of}
pub use Rattle.document_buf.specs.declared.docs.Docs.TheInside.{Inside}
