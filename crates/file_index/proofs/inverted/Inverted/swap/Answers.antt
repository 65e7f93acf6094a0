use Rattle.file_index.proofs.Words.{[]}
use Rattle.file_index.proofs.PlaceLemmas.{swapped_placed}
use Rattle.file_index.proofs.inverted.Inverted.swap.Goals as goal

pub invariant_of-self : goal.invariant_of-self
invariant_of-self g c = swapped_placed g.I.Key.PartialEq.eq c.args.file c.self.inside.files c.put.new.self c.self.inside.postings [] c.args.new
    c.put.ensures.each c.self.invariant (rw (← c.self.view_is) at c.requires).placed
