use Rattle.action_lock.proofs.RuleLemmas.{◌≡◌, ◌++◌, ◌∷◌, [], rules, arith, Home, lock_opens}
use Rattle.action_lock.proofs.lock.ActionLock.new.Goals as goal

pub new-requires : goal.new-requires
new-requires g c = let shares = c.in-Ok.slots.items in let made = c.in-Ok.ensures in let places = c.places_for-places.ensures in
    let holds : c.push_reserved.new.self.items ≡ shares ++ Home c.args.home ∷ [] = search rules in
    rw holds (lock_opens g.H.Home.number_of g.H.Home.stands g.H.Home.share_stands c.places_for-places.result c.args.home shares c.requires
    (omega arith) (omega arith) made.many (made.keeps _ c.requires))
