use Rattle.std.proofs.Common.{string_bytes}
use Rattle.std.proofs.lemmas.List.Filters.{dedup_is}
use Rattle.std.proofs.lemmas.List.Kept.{IsStrictlySortedBy-dedup}
use Rattle.std.specs.Cmp.Lexicographic.{texts_ties}
use Rattle.std.specs.String.{string_cmp_total}
use Rattle.folders.proofs.NameLemmas.{IsStrictlySortedBy-map}
use Rattle.folders.proofs.below.Below.put_in_order.Goals as goal

pub returns : goal.returns
returns c =
    let kept = dedup_is _ _ _ c.dedup.ensures.filtered in
    let rise = IsStrictlySortedBy-dedup string_cmp_total (λ x y. texts_ties (string_bytes x) (string_bytes y)) _ c.sort_unstable.ensures.sorted in
    IsStrictlySortedBy-map _ string_bytes _ (rw kept rise)
