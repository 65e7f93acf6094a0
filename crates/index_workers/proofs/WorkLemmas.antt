-- What one step more makes of a worker's pass and of its run.
use Rattle.std.proofs.Common.{rules, ℕ, ◌≡◌, ◌≢◌, ◌<◌, ◌≤◌, ◌+◌, true, List, [], ◌∷◌, ◌++◌, length, get_or, All, Option, Some, None, IfSome, IfNone}
use Rattle.std.proofs.Common.{refl, ap, arith, eq-eqb, eqb-true, append_assoc, append-nil, length-append}
use Rattle.std.proofs.lemmas.Bool.{not-false}
use Rattle.std.proofs.lemmas.List.Elements.{All-nil, All-push, All-weaker}
use Rattle.std.proofs.lemmas.List.Quantifiers.{all_pairs_push}
use Rattle.list_laws.specs.Prefixes.{IsPrefix}
use Rattle.list_laws.proofs.PrefixLemmas.{front_self, front_trans, front_length}
use Rattle.write_history.specs.declared.change.Change.TheVariants.{Intake}
use Rattle.write_history.specs.declared.entry.Entry.{Entry}
use Rattle.write_history.specs.World.{World, File, file_of, is_unready}
use Rattle.write_history.specs.Effect.{put_of, refusal_of, stamp_of}
use Rattle.write_history.specs.Fold.{after_list, fold, IsLegal}
use Rattle.write_history.specs.Settle.{entry_of}
use Rattle.history_laws.proofs.PutLemmas.{accepted_reasons, some_of}
use Rattle.history_laws.proofs.ChangeLemmas.{by_change}
use Rattle.history_laws.proofs.FoldLemmas.{along, list_accepted, fold-append, IsLegal-split}
use Rattle.history_laws.proofs.SoundLemmas.{stamp_below}
use Rattle.action_lock.specs.declared.view.View.{View}
use Rattle.action_lock.specs.Advances.{Advances}
use Rattle.action_lock.specs.Passes.{IsPassOf}
use Rattle.lock_laws.proofs.AdvanceLemmas.{advances_not, advances_on}
use Rattle.job_queue.specs.declared.hint.Hint.{Hint}
use Rattle.job_queue.specs.declared.view.QueueView.{QueueView}
use Rattle.job_queue.specs.Fifo.{Held}
use Rattle.job_queue.specs.Passes.{queue_view, IsQueuePassOf}
use Rattle.job_queue.specs.Rule.{Stood}
use Rattle.job_queue.specs.Views.{taking}
use Rattle.ide_calls.specs.declared.step.Stepped.{Stepped}
use Rattle.ide_calls.specs.declared.step.Stepped.TheVariants.{Idle, Gone, Stale, Refused, Taken}
use Rattle.ide_calls.specs.Made.{HasMade}
use Rattle.ide_calls.specs.Step.{HasStepped, HasTried}
use Rattle.index_workers.specs.declared.pass.IdePass.{IdePass}
use Rattle.index_workers.specs.declared.worked.End.{End}
use Rattle.index_workers.specs.declared.worked.End.TheVariants as end
use Rattle.index_workers.specs.declared.worked.Worked.{Worked}
use Rattle.index_workers.specs.Hints.{HasPopped, HasOnlyPopped, IsFirstTried}
use Rattle.index_workers.specs.Passes.{ide_view, IsIdePassOf, IsSameIdePass}
use Rattle.index_workers.specs.Work.{WorkStep, Leads, taken_by, Sayings, any_answer, GoesOn, IsEndOf, WentOn, EndsBy, IsAtEnd, IsIntakeBy, StandsIn}
use Rattle.index_workers.specs.Work.{HasGone, HasGoneOn, HasWorked, HasWorkedInPart, HasWorkedSo}

-- ---- a pass that goes on is the same pass, and has only taken hints

pub same_on : (p q r : IdePass) → IsSameIdePass p q → IsSameIdePass q r → IsSameIdePass p r
same_on p q r a b = search (rules, a, b, a.of_lock, b.of_lock, a.of_queue, b.of_queue)

pub none_taken : (q : QueueView) → HasOnlyPopped q q
none_taken q = record { same = refl; took = front_self q.took }

-- after one more step
pub only_taken : (q r s : QueueView) (hint : Option Hint) → HasOnlyPopped q r → HasPopped hint r s → HasOnlyPopped q s
only_taken q r s hint a takes = grind (arith, a, takes, front_trans q.took r.took s.took a.took)

-- what `take` answers
pub has_taken : (q r : QueueView) (hint : Option Hint) → IfSome hint (λ h. (r ≡ taking h q) × ((rest : List Hint) × Stood q (h ∷ rest)))
    → IfNone hint ((r ≡ q) × Held 0 (Stood q)) → HasOnlyPopped q r
has_taken q r hint some none = grind (arith, some, none, none_taken q)

-- a pass that has gone on with the lock and put no hint is one of the two still
pub rests_on : (l : _) (j : _) (p p' : IdePass) → IsIdePassOf l j p → IsPassOf l p'.lock → IsQueuePassOf j p'.queue
    → Advances (ide_view p) (ide_view p') → HasOnlyPopped (queue_view p.queue) (queue_view p'.queue) → IsIdePassOf l j p'
rests_on l j p p' old rests queued advances taken =
    let few : length (queue_view p'.queue).put ≤ length (ide_view p').mine =
    omega (arith, old.few, front_length (ide_view p).mine (ide_view p').mine advances.mine, ap (λ (q : QueueView). length q.put) taken.same) in
    search (rules, rests, queued, old, advances, taken.same, few)

-- ---- a file that was taken in at a stamp is ready while it has that stamp

-- a file that is live with this stamp is indexed at it
abbrev IsReadyAt : ℕ → Option File → Type 0
IsReadyAt stamp file = IfSome file (λ f. f.stamp ≡ stamp → f.indexed ≡ Some stamp)

-- the stamp was drawn, and the file with the id is ready at it
abbrev StaysReady : ℕ → ℕ → World → Type 0
StaysReady id stamp world = (stamp < world.next_stamp) × IsReadyAt stamp (file_of world id)

-- what an intake leaves
ready_after : (before : List Entry) (id stamp : ℕ) → IsLegal before → refusal_of (fold before) (Intake id stamp) ≡ None
    → StaysReady id stamp (after_list (fold before) (Intake id stamp ∷ []))
ready_after before id stamp legal accepted =
    let none = accepted_reasons (fold before) (Intake id stamp) accepted in
    let live = some_of (file_of (fold before) id) none.0 in
    let same : stamp ≡ live.0.stamp = eqb-true stamp live.0.stamp (not-false _ (rw live.1 at none.1.0)) in
    let ready = by_change (fold before) (Intake id stamp) accepted (λ i file. i ≡ id → IsReadyAt stamp file)
    (λ a e. rw live.1 (λ s. refl)) (λ i n e. absurd (n e)) id refl in
    (omega (arith, same, stamp_below before id live.0 legal live.1), ready)

-- a file that was taken in at a stamp isn't unready at it
pub not_unready : (history : List Entry) (e : Entry) (id stamp : ℕ) → IsLegal history → StandsIn history e → e.changes ≡ Intake id stamp ∷ []
    → stamp_of (file_of (fold history) id) ≡ stamp → is_unready (file_of (fold history) id) ≡ true → ⊥
not_unready history e id stamp legal at is same unready =
    let parts = IsLegal-split at.before (e ∷ at.behind) (rw at.are at legal) in
    let here = ready_after at.before id stamp parts.0 (list_accepted (fold at.before) (Intake id stamp) [] (rw is at parts.1.0)).0 in
    let there : StaysReady id stamp (fold history) = rw (at.are, fold-append at.before (e ∷ at.behind)) (along (StaysReady id stamp)
    (λ world change accepted h. let ready = by_change world change accepted (λ i file. i ≡ id → IsReadyAt stamp file)
    (λ a e. let was : IsReadyAt stamp (file_of world (put_of world change).id) = rw e h.1 in grind (arith, a, h.0, was))
    (λ i n e. rw e h.1) id refl in (omega (arith, h.0), ready)) (λ world h. h) at.behind _ parts.1.1 (rw is here)) in
    grind (arith, there.1, same, unready, eq-eqb stamp stamp refl)

-- ---- what one step more makes of a worker's run

-- an entry of a history stands in each longer one
stands_on : (earlier later : List Entry) (e : Entry) → IsPrefix earlier later → StandsIn earlier e → StandsIn later e
stands_on earlier later e front at =
    record { before = at.before; behind = at.behind ++ front.0; are = cc (front.1, at.are, append_assoc at.before (e ∷ at.behind) front.0) }

leads_more : (v w : View Entry) (q r : QueueView) (steps : List WorkStep) (d : WorkStep) → Leads v q steps w r → HasPopped d.hint r d.queue
    → IsFirstTried d.hint d.file → HasStepped (Some d.file) w d.after d.answer → Leads v q (steps ++ d ∷ []) d.after d.queue
leads_more v w q r [] d same takes first stepped = rw (← same.0, ← same.1) (takes, first, stepped, (refl, refl))
leads_more v w q r (c ∷ cs) d leads takes first stepped = (leads.0, leads.1, leads.2, leads_more c.after w c.queue r cs d leads.3 takes first stepped)

-- before the first step
pub not_yet : (said : Sayings) (seat : ℕ) (v : View Entry) (q : QueueView) → v.number ≡ Some seat → HasGoneOn said seat 0 0 v v q q
not_yet said seat v q number =
    let gone : HasGone seat v v q q [] [] = search (rules, number, advances_not v, All-nil (IsIntakeBy seat), All-nil (StandsIn v.seen)) in
    search (rules, gone, All-nil (λ (d : WorkStep). GoesOn said seat d.answer))

module _ (said : Sayings) (seat turns taken : ℕ) (v w u : View Entry) (q r s : QueueView) (hint : Option Hint) (file : ℕ) (answer : Stepped)
    (on : HasGoneOn said seat turns taken v w q r) (takes : HasPopped hint r s) (first : IsFirstTried hint file)
    (stepped : HasStepped (Some file) w u answer) where
  abbrev last : WorkStep
  last = record { hint = hint; file = file; answer = answer; after = u; queue = s }

  -- the run with this step, and its entries
  record Further : Type 0 where
    own : List Entry
    gone : HasGone seat v u q s (on.steps ++ last ∷ []) own
    taken_are : length own ≡ taken + taken_by answer
    few : taken + taken_by answer ≤ turns + 1

  leads : Leads v q (on.steps ++ last ∷ []) u s
  leads = leads_more v w q r on.steps last on.gone.leads takes first stepped

  turns_are : length (on.steps ++ last ∷ []) ≡ turns + 1
  turns_are = omega (arith, length-append on.steps (last ∷ []), on.turns_are)

  stand_still : Advances w u → All (StandsIn u.seen) on.own
  stand_still more = All-weaker (StandsIn w.seen) (StandsIn u.seen) (λ e. stands_on w.seen u.seen e more.seen) on.own on.gone.stand

  -- nothing was made
  none_more : (before made : List Entry) → HasMade w u before made → made ≡ [] → taken_by answer ≡ 0 → Further
  none_more before made m empty count =
      let mine : u.mine ≡ v.mine ++ on.own = cc (m.mine, empty, append-nil w.mine, on.gone.mine) in
      let gone : HasGone seat v u q s (on.steps ++ last ∷ []) on.own =
      search (rules, on.gone, leads, advances_on v w u on.gone.advances m.advances, mine, stand_still m.advances) in
      record { own = on.own; gone = gone; taken_are = omega (arith, on.taken_are, count); few = omega (arith, on.few, count) }

  -- a file was taken in, which no entry that had been seen did at the same stamp
  one_more : (place : ℕ) → answer ≡ Taken place → HasTried (Some file) w u (Taken place) → Further
  one_more place is t =
      let entry : Entry = entry_of t.seat 0 (Intake t.file t.stamp ∷ []) in
      let same : t.seat ≡ seat = cc (t.number, on.gone.advances.number, on.gone.number) in
      let seen : u.seen ≡ t.last ++ entry ∷ [] = rw t.answer.1 at t.made.seen in
      let legal = (IsLegal-split t.first t.longer.0 (rw t.longer.1 at (IsLegal-split t.last (entry ∷ []) (rw seen at t.made.legal)).0)).0 in
      let mine : u.mine ≡ v.mine ++ (on.own ++ entry ∷ []) = cc (t.made.mine, t.answer.1, on.gone.mine, append_assoc v.mine on.own (entry ∷ [])) in
      let advances = advances_on v w u on.gone.advances t.made.advances in
      let intakes = All-push (IsIntakeBy seat) on.own entry on.gone.intakes (rw same (record { file = t.file; stamp = t.stamp; is = refl })) in
      let stand = All-push (StandsIn u.seen) on.own entry (stand_still t.made.advances) (record { before = t.last; behind = []; are = seen }) in
      let apart = all_pairs_push (λ (e f : Entry). e.changes ≢ f.changes) on.own entry on.gone.apart (λ k e l same. not_unready t.first (get_or on.own k e)
      t.file t.stamp legal (stands_on w.seen t.first (get_or on.own k e) t.known (on.gone.stand k e l)) same t.stamped t.unready) in
      let gone : HasGone seat v u q s (on.steps ++ last ∷ []) (on.own ++ entry ∷ []) =
      search (rules, leads, on.gone.number, advances, mine, intakes, stand, apart) in
      let more = length-append on.own (entry ∷ []) in
      record { own = on.own ++ entry ∷ []; gone = gone; taken_are = rw is (omega (arith, more, on.taken_are)); few = rw is (omega (arith, on.few)) }

  further : Further
  further = by answer refl
    where
      by : (a : Stepped) → answer ≡ a → Further
      by (Idle len) is = let t = rw is at stepped in none_more u.seen [] t.found refl (rw is refl)
      by (Gone id) is = let t = rw is at stepped in none_more t.last t.own t.made t.answer.1 (rw is refl)
      by (Stale id made present) is = let t = rw is at stepped in none_more t.last t.own t.made t.answer.2 (rw is refl)
      by (Refused len) is = let t = rw is at stepped in none_more t.last t.own t.made t.answer.2 (rw is refl)
      by (Taken place) is = one_more place is (rw is at stepped)

  -- after a step with which the worker goes on
  pub goes_on : GoesOn said seat answer → HasGoneOn said seat (turns + 1) (taken + taken_by answer) v u q s
  goes_on going = search (rules, further, turns_are, All-push (λ (e : WorkStep). GoesOn said seat e.answer) on.steps last on.going going)

  end_here : (why : End) → IsEndOf said seat answer why → EndsBy said seat why (on.steps ++ last ∷ []) × IsAtEnd why u
  end_here (end.Idle len) is =
      let idle = rw is.0 at stepped in (record { before = on.steps; last = last; are = refl; ends = is; going = on.going }, (idle.whole, idle.smart))
  end_here (end.Refused len) is =
      let t = rw is at stepped in
      let whole : len ≡ length u.seen = cc (t.answer.0, t.made.seen, t.answer.2, append-nil t.last) in
      (record { before = on.steps; last = last; are = refl; ends = is; going = on.going }, (whole, t.answer.1))
  end_here end.Turns is = absurd is

  -- after a step with which the worker ends
  pub ends : (why : End) → IsEndOf said seat answer why
      → HasWorked said v u q s (record { seat = seat; turns = turns + 1; taken = taken + taken_by answer; end = why })
  ends why is = search (rules, further, turns_are, (end_here why is).0, (end_here why is).1)

-- memory ran out behind a run
pub in_part : (said : Sayings) (seat turns taken : ℕ) (v u w : View Entry) (q m r : QueueView) (hint : Option Hint)
    → HasGoneOn said seat turns taken v u q m → HasPopped hint m r → Advances u w → w.mine ≡ u.mine → HasWorkedInPart said v w q r
in_part said seat turns taken v u w q m r hint on takes advances mine =
    record { seat = seat; turns = turns; taken = taken; between = u; middle = m; so_far = on; hint = (hint, takes); advances = advances; mine = mine }

-- ---- a run, whatever the gate may say

whatever_went : (said : Sayings) (seat : ℕ) (steps : List WorkStep) → WentOn said seat steps → WentOn any_answer seat steps
whatever_went said seat steps went = λ k d l. let h = went k d l in grind (arith, h)

whatever_ends : (said : Sayings) (seat : ℕ) (why : End) (steps : List WorkStep) → EndsBy said seat why steps → EndsBy any_answer seat why steps
whatever_ends said seat (end.Idle len) steps h = search (rules, h, h.ends.0, whatever_went said seat h.before h.going)
whatever_ends said seat (end.Refused len) steps h = search (rules, h, whatever_went said seat h.before h.going)
whatever_ends said seat end.Turns steps h = (h.0, whatever_went said seat steps h.1)

-- what a worker did is what it did with whatever gate
pub whatever_said : (said : Sayings) (v w : View Entry) (q r : QueueView) (worked : Worked) → HasWorked said v w q r worked → HasWorkedSo v w worked
whatever_said said v w q r worked done = search (rules, done, whatever_ends said worked.seat worked.end done.steps done.ends)
