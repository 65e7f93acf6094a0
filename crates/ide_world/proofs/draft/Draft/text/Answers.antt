use Rattle.ide_world.proofs.EditLemmas.{edited_text, text_of_document, text-edited}
use Rattle.ide_world.proofs.WalkLemmas.{part_now, texts_fit}
use Rattle.ide_world.proofs.draft.Draft.text.Goals as goal

pub text-requires : goal.text-requires
text-requires c = rw (c.in_ok-first.ensures, c.as_slice.ensures) (texts_fit _ c.args.id c.self.invariant.draft)

pub returns : goal.returns
returns c =
    let now = part_now edited_text c.args.id text_of_document text-edited _ c.self.invariant.draft in
    rw (← c.self.view_is, now, ← c.in_ok-first.ensures, ← c.as_slice.ensures) c.text.ensures
