use Rattle.index_store.proofs.Words.{◌≡◌, not, ◌==◌, rules, list_all, chars, YieldsList-from_chars, all_from_yields_List, carriage_return}
use Rattle.index_store.proofs.row_reading.has_no_return.Goals as goal

-- the characters of the name are those that its UTF-8 spells
pub returns : goal.returns
returns c =
    let every : c.all.result ≡ list_all (λ x. not (x == carriage_return)) (chars c.as_str.result.now) =
    all_from_yields_List _ _ _ c.all.result c.all.ensures.ran (YieldsList-from_chars c.as_str.result.now c.as_str.utf8 cc) (λ x b q called. search rules) in
    rw (← c.as_str.ensures.value) every
