use Rattle.ide_calls.proofs.Words.{◌++◌, ◌∷◌, ◌∙◌, [], List, Entry, ap, rules}
use Rattle.ide_calls.proofs.ChangeLemmas.{bounded_on}
use Rattle.ide_calls.proofs.home.IdeHome.accept.Goals as goal

pub returns-clause-bounded : goal.returns-clause-bounded
returns-clause-bounded g =
    let is = g.push.ensures ∙ ap (λ (xs : List Entry). xs ++ g.args.entry ∷ []) (g.reserve.ensures.same ∙ g.self.view_is) in
    bounded_on g.args.self.now _ g.args.entry is g.requires.ready.entries

pub invariant_of-self-2 : goal.invariant_of-self-2
invariant_of-self-2 g =
    let is = g.push.ensures ∙ ap (λ (xs : List Entry). xs ++ g.args.entry ∷ []) (g.reserve.ensures.same ∙ g.self.view_is) in
    record {
      world = search rules;
      legal = rw is (g.histories_go_on.ensures.legal g.args.self.now g.args.entry (rw g.self.view_is at g.self.invariant.legal) g.requires.makes.accepted);
      bounded = bounded_on g.args.self.now _ g.args.entry is g.requires.ready.entries;
    }
