use Rattle.document_buf.proofs.Words.{ap, ◌∙◌, Some, is_some, refl, open_of}
use Rattle.document_buf.proofs.PlaceLemmas.{rewritten}
use Rattle.document_buf.proofs.docs.Docs.reserve.Goals.{in-Some, in-None}
use Rattle.document_buf.proofs.docs.Docs.reserve.Goals as goal

pub invariant_of-self : goal.invariant_of-self
invariant_of-self c =
    let place = rw (← c.self.view_is) at c.in_ok-make_place.ensures.place in
    let write = rewritten c.self.inside c.args.id c.self.invariant c.index_mut.result.now in
    elim c.match-index_mut.branch [
      | in-Some w ↦ rw w.self-inside-is (write (Some w.reserve.new.self) place c.index_mut.ensures.value (ap is_some w.in-Some.is)).0
      | in-None w ↦ rw w.self-inside-is (write c.index_mut.result.now place c.index_mut.ensures.value refl).0
    ]

pub returns-clause-count : goal.returns-clause-count
returns-clause-count c =
    let place = rw (← c.self.view_is) at c.in_ok-make_place.ensures.place in
    let write = rewritten c.self.inside c.args.id c.self.invariant c.index_mut.result.now in
    let before = ap open_of c.self.view_is ∙ c.in_ok-make_place.ensures.count in
    elim c.match-index_mut.branch [
      | in-Some w ↦ rw w.self-inside-is ((write (Some w.reserve.new.self) place c.index_mut.ensures.value (ap is_some w.in-Some.is)).1 ∙ before)
      | in-None w ↦ rw w.self-inside-is ((write c.index_mut.result.now place c.index_mut.ensures.value refl).1 ∙ before)
    ]
