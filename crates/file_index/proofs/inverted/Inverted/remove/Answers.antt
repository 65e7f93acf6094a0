use Rattle.file_index.proofs.Words.{[], arith, false≢true}
use Rattle.file_index.proofs.PlaceLemmas.{swapped_placed, removed_placed}
use Rattle.file_index.proofs.inverted.Inverted.remove.Goals as goal

pub invariant_of-self : goal.invariant_of-self
invariant_of-self g c = removed_placed g.I.Key.PartialEq.eq c.args.file c.self.inside.files c.take.new.self c.self.inside.postings
    c.take_out_all.new.postings c.in-Some.old c.take.ensures.each c.take_out_all.ensures c.self.invariant

pub invariant_of-self-in_default : goal.invariant_of-self-in_default
invariant_of-self-in_default g c = swapped_placed g.I.Key.PartialEq.eq c.args.file c.self.inside.files c.take.new.self c.self.inside.postings [] []
    c.take.ensures.each c.self.invariant (λ key has. absurd (false≢true has))

pub returns-in-Some-clause-keeps_room : goal.returns-in-Some-clause-keeps_room
returns-in-Some-clause-keeps_room g c = rw (← c.self.view_is) (λ file given other has. record {
  known = c.take.ensures.stays file other has.known;
  placed = λ key there. grind (arith, c.take_out_all.ensures key file, other, has.placed key there);
})
