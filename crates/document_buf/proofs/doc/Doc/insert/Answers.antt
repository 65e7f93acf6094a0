use Rattle.document_buf.proofs.Words.{true≢false, joined_of}
use Rattle.document_buf.proofs.doc.Doc.insert.Goals as goal

pub invariant_of-self : goal.invariant_of-self
invariant_of-self c =
    let was = c.deref_mut-state.ensures.value in
    let text = joined_of c.deref_mut-state.result.now.buffer in
    let inside = rw (← c.self.view_is, ← was) at c.requires.inside in
    let fits = rw (← c.self.view_is, ← was) at c.requires.fits in
    record {
      text = rw (c.push.ensures.front, c.move_to.ensures.front, c.push.ensures.back, c.move_to.ensures.back)
          (c.edited_texts_are_texts.ensures.with_piece c.args.at c.args.piece.now text c.len.ensures.text (rw (← was) at c.self.invariant.text) inside fits);
      unedited = λ h. absurd (true≢false h);
    }
