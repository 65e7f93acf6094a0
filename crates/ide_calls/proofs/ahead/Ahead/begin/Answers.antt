use Rattle.ide_calls.proofs.Words.{rules, map, ◌≡◌, ◌++◌, ◌∷◌, [], subst, sym, All, IsTask, tasks_of, task_of_made}
use Rattle.ide_calls.proofs.SettleLemmas.{begun}
use Rattle.ide_calls.proofs.ahead.Ahead.begin.Goals as goal

pub returns-in-Some : goal.returns-in-Some
returns-in-Some g c =
    let world = c.args.state.now.world in
    let new : c.push_back.new.self.items ≡ c.self-3.inside.makings.items ++ c.in-Some.making ∷ [] = search rules in
    let unready : All (IsTask world) (tasks_of c.in-Some.making) = subst (All (IsTask world)) (sym c.in-Some.ensures) c.in_ok-batch.ensures in
    let h = begun world (map task_of_made c.self-3.inside.made.items) c.self-3.inside.makings.items c.push_back.new.self.items c.in-Some.making new unready in
    search (rules, h)
