use Rattle.document_buf.proofs.Words.{true≢false, joined_of}
use Rattle.document_buf.proofs.GapLemmas.{drop_part}
use Rattle.document_buf.proofs.doc.Doc.erase.Goals as goal

pub invariant_of-self : goal.invariant_of-self
invariant_of-self c =
    let was = c.deref_mut-state.ensures.value in
    let text = joined_of c.deref_mut-state.result.now.buffer in
    let inside = rw (← c.self.view_is, ← was) at c.requires.inside in
    let rest = drop_part c.args.from c.args.to text c.requires.ordered in
    record {
      text = rw (c.erase.ensures.front, c.move_to.ensures.front, c.erase.ensures.back, c.move_to.ensures.back, rest)
          (c.edited_texts_are_texts.ensures.without_part c.args.from c.args.to text (rw (← was) at c.self.invariant.text) c.requires.ordered inside);
      unedited = λ h. absurd (true≢false h);
    }
