use Rattle.java_tokens.proofs.Common.{sym, rules, Ok, Err, always_returns_same, name_cmp}
use Rattle.java_tokens.proofs.MaskLemmas.{searched}
use Rattle.java_tokens.proofs.word_list.WordList.mask_of.Goals as goal

-- the word of the name was found
pub returns-in-Ok : goal.returns-in-Ok
returns-in-Ok c =
    let by_name = c.in-Ok.ensures.position (λ row. name_cmp row.0 c.args.name.now) (always_returns_same _ _ _ (λ a r g called. search rules)) in
    let found = searched c.deref.result.now c.args.name.now (rw c.deref.ensures.value c.self.invariant) (Ok c.in-Ok.at) c.in-Ok.ensures.bound by_name in
    rw (← c.self.view_is) (sym (rw (c.deref.ensures.value, ← c.index.ensures) at (found c.index.result.now)))

-- no word has the name
pub returns-in-Err : goal.returns-in-Err
returns-in-Err c =
    let by_name = c.in-Err.ensures.position (λ row. name_cmp row.0 c.args.name.now) (always_returns_same _ _ _ (λ a r g called. search rules)) in
    let none = searched c.deref.result.now c.args.name.now (rw c.deref.ensures.value c.self.invariant) (Err c.in-Err.field-0) c.in-Err.ensures.bound by_name in
    rw (← c.self.view_is) (sym (rw c.deref.ensures.value at none))
