-- The rule of the queue: what it says of hints and views, that each step keeps it, and what it says of all hints once a pass has met all others.
use Rattle.std.proofs.Common.{◌≡◌, ◌≢◌, ℕ, suc, ◌+◌, ◌≤◌, List, [], ◌∷◌, ◌++◌, length, refl, arith, nat_lt, ◌<◌, set, ap, sym, subst, Option, Some, All, eqb}
use Rattle.std.proofs.Common.{get_or, ◌∙◌, append_assoc, append-nil, length-append, eq-eqb, ne_eqb, ◌*◌, eqb-true, inl, inr, not, ◌&&◌}
use Rattle.std.proofs.lemmas.Bool.Decides.{nat_tests}
use Rattle.std.proofs.lemmas.List.Elements.{All-nil, All-cons, All-head, All-tail, All-push, All-append, filter-append}
use Rattle.std.proofs.lemmas.List.Quantifiers.{all_pairs_push}
use Rattle.std.proofs.Math.Nat.{add-mul}
use Rattle.std.proofs.lemmas.Bool.{cases_Bool, eqb-false}
use Rattle.std.proofs.lemmas.List.{nil_from_length}
use mathlib.Core.Option.{some, some-ne-none}
use lib.ListN.{get_elem?}
use Rattle.crossbeam_queue.proofs.Lists.{set_else}
use Rattle.crossbeam_queue.specs.Fifo.{Pushes, Pops, Forks, Merges, Learns}
use Rattle.list_laws.specs.Rows.{one_if}
use Rattle.list_laws.specs.Totals.{total}
use Rattle.list_laws.proofs.TotalLemmas.{total-at, total-set, total-same, total-two, total-zero, total-append, total-only}
use Rattle.list_laws.proofs.EachLemmas.{Each, each_set, each_snoc}
use Rattle.job_queue.specs.declared.hint.Hint.{Hint}
use Rattle.job_queue.specs.Hints.{times, hints_of, IsNumbered, is_hint}
use Rattle.job_queue.specs.declared.view.Hand.{Hand}
use Rattle.job_queue.specs.declared.view.QueueView.{QueueView}
use Rattle.job_queue.specs.Views.{hand, own_hand, hands, weigh, fresh, number_is, leading, first_view, splitting, split_off, joined, spent_view, putting}
use Rattle.job_queue.specs.Views.{taking, IsLast}
use Rattle.job_queue.specs.Rule.{IsCounted, IsHand, IsSound, IsKept, Stood, IsPut, IsTaken}
use Rattle.job_queue.specs.declared.pass.QueuePass.{QueuePass}
use Rattle.job_queue.specs.Passes.{queue_view}
use Rattle.job_queue.specs.Accounts.{IsHandOf, IsKnown, IsAccounted}

-- what the pass with this number put: what is gone of it, and what is in the queue
abbrev pub sent : (ℕ → List Hint) → List Hint → ℕ → List Hint
sent gone items n = gone n ++ hints_of n items

-- one more hint with the next turn
pub numbered_more : (n turn : ℕ) (xs : List Hint) (x : Hint) → IsNumbered n turn xs → x.pusher ≡ n → x.turn ≡ turn + length xs
    → IsNumbered n turn (xs ++ x ∷ [])
numbered_more n turn [] x all p t = (p, omega arith, tt)
numbered_more n turn (y ∷ ys) x all p t = (all.0, all.1, numbered_more n (suc turn) ys x all.2 p (omega arith))

-- the turn of the hint behind so many
pub numbered_seam : (n turn : ℕ) (xs ys : List Hint) (x : Hint) → IsNumbered n turn (xs ++ x ∷ ys) → x.turn ≡ turn + length xs
numbered_seam n turn [] ys x all = omega (arith, all.1)
numbered_seam n turn (z ∷ zs) ys x all = omega (arith, numbered_seam n (suc turn) zs ys x all.2)

-- a hint is at most once in what a pass put from a turn on, and not at all if another put it or its own turn is an earlier one
pub times_few : (x : Hint) (n turn : ℕ) (xs : List Hint) → IsNumbered n turn xs → times x xs ≤ one_if (eqb n x.pusher && not (nat_lt x.turn turn))
times_few x n turn [] all = omega arith
times_few x n turn (y ∷ ys) all = grind (arith, nat_tests, times_few x n (suc turn) ys all.2, all.1, all.0)

-- a hint is in a list as often as among its pusher's
pub times_own : (x : Hint) (xs : List Hint) → times x (hints_of x.pusher xs) ≡ times x xs
times_own x [] = refl
times_own x (y ∷ ys) = grind (arith, nat_tests, times_own x ys)

-- 1 where the hand has this number
abbrev pub numbers : ℕ → QueueView → ℕ
numbers n = weigh (λ h. one_if (eqb h.number n))

module _ (v : QueueView) {n : ℕ} (has : v.number ≡ Some n) where
  -- the hands of a view with a number: its own, and then those that it was told
  pub hands_are : hands v ≡ hand n v.put v.took ∷ v.ended
  hands_are = ap (λ (o : Option ℕ). own_hand o v.put v.took ++ v.ended) has

  pub own_weighs : (f : Hand → ℕ) → weigh f v ≡ f (hand n v.put v.took) + total f v.ended
  own_weighs f = ap (total f) hands_are

  -- a number that a view has was given
  pub given : {drawn : ℕ} (views : List QueueView) (id : ℕ) → IsCounted drawn views → get_elem? views id ≡ some v → n < drawn
  given views id c at = grind (arith, nat_tests, own_weighs (λ h. one_if (eqb h.number n)), total-at (numbers n) views id v at, c.once n)

module _ {gone : ℕ → List Hint} {items : List Hint} {drawn : ℕ} where
  -- a view with a number
  pub sound_with : (v : QueueView) {n : ℕ} → v.number ≡ Some n → (v.number ≡ Some 0 → v.drawn ≡ drawn) → All (IsHand gone items) (hands v)
      → IsSound gone items drawn v
  sound_with v has counts are = record { spent = λ none_there. absurd (cc); counts = counts; hands_are = are }

  -- the view of a new pass, which has put nothing and taken nothing
  pub fresh_sound : (n given : ℕ) → (n ≡ 0 → given ≡ drawn) → sent gone items n ≡ [] → IsSound gone items drawn (fresh (Some n) given)
  fresh_sound n given counts none_sent = sound_with (fresh (Some n) given) refl (λ e. counts (cc)) (All-cons (IsHand gone items) (hand n [] []) []
      record { put = sym none_sent; rises = λ i j d less l. absurd (omega arith); early = All-nil _ } (All-nil (IsHand gone items)))

-- what a look tells
pub stands : (id : ℕ) (v : QueueView) → Learns IsKept id v (Stood v)
stands id v items views r at = record { views = views; seat = id; here = at; kept = r }

-- the rule, of its parts
kept_by : {drawn : ℕ} {gone : ℕ → List Hint} {items : List Hint} {views : List QueueView} → IsCounted drawn views
    → ((n : ℕ) → IsNumbered n 1 (sent gone items n)) → ((n : ℕ) → drawn ≤ n → sent gone items n ≡ [])
    → ((x : Hint) → total (weigh (λ h. times x h.took)) views ≡ times x (gone x.pusher)) → Each (IsSound gone items drawn) views → IsKept items views
kept_by {drawn} {gone} counted numbered unused taken each =
    record { drawn = drawn; gone = gone; counted = counted; numbered = numbered; unused = unused; taken = taken; each = each }

-- where the numbers of all views weigh the same, the numbers are as before
counted_by : {drawn : ℕ} {views later : List QueueView} → IsCounted drawn views → total leading later ≡ total leading views
    → ((f : ℕ → ℕ) → total (weigh (λ h. f h.number)) later ≡ total (weigh (λ h. f h.number)) views) → IsCounted drawn later
counted_by c leads same =
    record { one_leads = leads ∙ c.one_leads; once = λ n. same (λ m. one_if (eqb m n)) ∙ c.once n; in_all = same (λ m. 1) ∙ c.in_all; limit = c.limit }

pub begins : IsKept [] (first_view ∷ [])
begins = kept_by {drawn = 1} {gone = λ n. []} record { one_leads = refl; once = λ n. grind (arith, nat_tests); in_all = refl; limit = omega arith }
    (λ n. tt) (λ n le. refl) (λ x. refl)
    (each_snoc (IsSound (λ n. []) [] 1) [] first_view (λ j v e. absurd (some-ne-none v (sym e))) (fresh_sound 0 1 (λ _. refl) refl))

pub splits : (id : ℕ) (v : QueueView) → v.number ≡ Some 0 → v.drawn < 65536 → Forks IsKept id v (splitting v) (split_off v)
splits id v leads room items views r at =
    let left : QueueView = splitting v in let right : QueueView = split_off v in let Sound : QueueView → Type 0 = IsSound r.gone items (r.drawn + 1) in
    let one_leads = r.counted.one_leads in let is_drawn : v.drawn ≡ r.drawn = (r.each id v at).counts leads in
    let some_drawn : 0 < r.drawn = given v leads views id r.counted at in
    let added : (f : QueueView → ℕ) → f left ≡ f v → total f (set views id left ++ right ∷ []) ≡ total f views + f right =
    λ f same. omega (arith, total-append f (set views id left) (right ∷ []), total-same f views id v left at same) in
    kept_by {drawn = r.drawn + 1} {gone = r.gone} record {
      one_leads = added leading refl ∙ omega (arith, one_leads, ap one_if (ne_eqb v.drawn 0 (λ e. omega arith)));
      once = λ n. added (numbers n) refl ∙ grind (arith, nat_tests, r.counted.once n, is_drawn);
      in_all = added (weigh (λ h. 1)) refl ∙ omega (arith, r.counted.in_all);
      limit = omega arith;
    }
    r.numbered (λ n le. r.unused n (omega arith)) (λ x. added (weigh (λ h. times x h.took)) refl ∙ omega (arith, r.taken x))
    (each_snoc Sound (set views id left) right
    (each_set Sound views id left (sound_with left leads (λ _. ap (λ (d : ℕ). d + 1) is_drawn) (r.each id v at).hands_are)
    (λ j u apart there. let sound = r.each j u there in let two = total-two leading views id j v u apart at there in
    let other : u.number ≢ Some 0 = λ e. omega (arith, two, one_leads, ap (number_is 0) leads, ap (number_is 0) e) in
    record { spent = sound.spent; counts = λ e. absurd (other e); hands_are = sound.hands_are }))
    (fresh_sound v.drawn 0 (λ e. absurd (omega arith)) (r.unused v.drawn (omega arith))))

pub joins : (id : ℕ) (v : QueueView) (other : ℕ) (w : QueueView) {n m : ℕ} → v.number ≡ Some n → w.number ≡ Some m → w.number ≢ Some 0
    → Merges IsKept id v other w (joined v w) spent_view
joins id v other w {n} {m} has has' follows items views r at apart there =
    let both : QueueView = joined v w in let Sound : QueueView → Type 0 = IsSound r.gone items r.drawn in let Hands : Hand → Type 0 = IsHand r.gone items in
    let sound = r.each id v at in let sound' = r.each other w (sym (set_else views id other both apart) ∙ there) in
    let hands_joined : hands both ≡ hands v ++ hands w = sym (append_assoc (own_hand v.number v.put v.took) v.ended (hands w)) in
    let kept : (f : QueueView → ℕ) → f both + f spent_view ≡ f v + f w → total f (set (set views id both) other spent_view) ≡ total f views =
    λ f same. omega (arith, total-set f views id v both at, total-set f (set views id both) other w spent_view there) in
    let hand_kept : (f : Hand → ℕ) → total (weigh f) (set (set views id both) other spent_view) ≡ total (weigh f) views =
    λ f. kept (weigh f) (omega (arith, ap (total f) hands_joined, total-append f (hands v) (hands w))) in
    let leads = kept leading (omega (arith, ap (number_is 0) has', ap one_if (ne_eqb m 0 (λ e. follows (has' ∙ ap Some e))))) in
    kept_by (counted_by r.counted leads (λ f. hand_kept (λ h. f h.number)))
    r.numbered r.unused (λ x. hand_kept (λ h. times x h.took) ∙ r.taken x)
    (each_set Sound (set views id both) other spent_view record { spent = λ _. refl; counts = λ e. absurd (cc); hands_are = All-nil Hands }
    (λ j u _. each_set Sound views id both (sound_with both has sound.counts
    (rw hands_joined (All-append Hands (hands v) (hands w) sound.hands_are sound'.hands_are))) (λ i x _. r.each i x) j u))

module _ {items : List Hint} {views : List QueueView} (r : IsKept items views) (id : ℕ) (v : QueueView) (at : get_elem? views id ≡ some v)
    {n : ℕ} (has : v.number ≡ Some n) where
  -- what other passes put stays, what is gone stays gone, and the pass's own hand has its new place
  module _ (later : List Hint) (gone : ℕ → List Hint) (put took : List Hint)
      (same : (m : ℕ) → m ≢ n → sent gone later m ≡ sent r.gone items m)
      (longer : (m : ℕ) → length (r.gone m) ≤ length (gone m)) where
    -- hands of other numbers
    hands_later : (hs : List Hand) → total (λ (h : Hand). one_if (eqb h.number n)) hs ≡ 0 → All (IsHand r.gone items) hs → All (IsHand gone later) hs
    hands_later hs none_there are = λ k d l. let h : Hand = get_or hs k d in let is : IsHand r.gone items h = are k d l in
        let other : h.number ≢ n = λ e. omega (arith, total-zero (λ (g : Hand). one_if (eqb g.number n)) hs none_there k d l, ap one_if (eq-eqb _ n e)) in
        record { put = is.put ∙ sym (same h.number other); rises = is.rises; early = λ i x l. omega (arith, is.early i x l, longer (get_or h.took i x).pusher) }

    hand_changed : (IsHand r.gone items (hand n v.put v.took) → IsNumbered n 1 (sent gone later n) × IsHand gone later (hand n put took))
        → ((y : Hint) → times y took + times y (r.gone y.pusher) ≡ times y v.took + times y (gone y.pusher))
        → IsKept later (set views id (record v { put = put; took = took }))
    hand_changed makes taken = let w : QueueView = record v { put = put; took = took } in
        let all = rw (hands_are v has) at (r.each id v at).hands_are in let own = makes (All-head (IsHand r.gone items) (hand n v.put v.took) v.ended all) in
        let rest = All-tail (IsHand r.gone items) (hand n v.put v.took) v.ended all in let own_number = own_weighs v has (λ h. one_if (eqb h.number n)) in
        kept_by {drawn = r.drawn} {gone = gone}
        (counted_by r.counted (total-same leading views id v w at refl) (λ f. total-same (weigh (λ h. f h.number)) views id v w at (rw has refl)))
        (λ m. elim (cases_Bool (eqb m n)) [ inl e ↦ rw (eqb-true m n e) own.0 | inr ne ↦ rw (same m (eqb-false m n ne)) (r.numbered m) ])
        (λ m le. same m (λ e. omega (arith, given v has views id r.counted at)) ∙ r.unused m le)
        (λ y. let f : Hand → ℕ = λ h. times y h.took in
        omega (arith, total-set (weigh f) views id v w at, own_weighs v has f, own_weighs w has f, taken y, r.taken y))
        (each_set (IsSound gone later r.drawn) views id w
        (sound_with w has (r.each id v at).counts (rw (hands_are w has) (All-cons (IsHand gone later) (hand n put took) v.ended own.1
        (hands_later v.ended (grind (arith, nat_tests, total-at (numbers n) views id v at, r.counted.once n, own_number)) rest))))
        (λ j u apart there. let sound = r.each j u there in
        let none_there : numbers n u ≡ 0 = grind (arith, nat_tests, total-two (numbers n) views id j v u apart at there, r.counted.once n, own_number) in
        record { spent = sound.spent; counts = sound.counts; hands_are = hands_later (hands u) none_there sound.hands_are }))

pub puts : (size id : ℕ) (v : QueueView) (x : Hint) → size ≡ 1024 → v.number ≡ Some x.pusher → x.turn ≡ length v.put + 1 → Pushes IsKept size id v x (IsPut v x)
puts size id v x is has next items views room r at =
    let n : ℕ = x.pusher in let later : List Hint = items ++ x ∷ [] in
    let more : sent r.gone later n ≡ sent r.gone items n ++ x ∷ [] =
    rw (filter-append (λ (y : Hint). eqb y.pusher n) items (x ∷ []), eq-eqb n n refl) (sym (append_assoc (r.gone n) (hints_of n items) (x ∷ []))) in
    let rule = hand_changed r id v at has later r.gone (v.put ++ x ∷ []) v.took
    (λ m ne. rw (filter-append (λ (y : Hint). eqb y.pusher m) items (x ∷ []), ne_eqb n m (λ e. ne (sym e)), append-nil (hints_of m items)) refl)
    (λ m. omega arith) (λ own. let behind = numbered_more n 1 (sent r.gone items n) x (r.numbered n) refl (omega (arith, ap length own.put)) in
    (rw more behind, record { put = cc (own.put, more); rises = own.rises; early = own.early })) (λ y. refl) in
    (putting x v, rule, (refl, (items, omega arith, stands id v _ views r at)))

module _ (x : Hint) {items : List Hint} {views : List QueueView} (r : IsKept (x ∷ items) views) where
  -- the hints that are gone, once this one is gone too
  abbrev gone_later : ℕ → List Hint
  gone_later m = r.gone m ++ hints_of m (x ∷ [])

  -- what each number put stays
  stays : (m : ℕ) → sent gone_later items m ≡ sent r.gone (x ∷ items) m
  stays m = cc (append_assoc (r.gone m) (hints_of m (x ∷ [])) (hints_of m items), filter-append (λ (y : Hint). eqb y.pusher m) (x ∷ []) items)

  longer : (m : ℕ) → length (r.gone m) ≤ length (gone_later m)
  longer m = omega (arith, length-append (r.gone m) (hints_of m (x ∷ [])))

  -- the turn of the hint
  turn_is : x.turn ≡ 1 + length (r.gone x.pusher)
  turn_is = numbered_seam x.pusher 1 (r.gone x.pusher) (hints_of x.pusher items) x (rw (eq-eqb x.pusher x.pusher refl) at (r.numbered x.pusher))

  -- it is before all of its pusher that this pass takes later, and behind those that it took
  taking_hand : (h : Hand) → IsHand r.gone (x ∷ items) h → IsHand gone_later items (hand h.number h.put (h.took ++ x ∷ []))
  taking_hand h is = record {
    put = is.put ∙ sym (stays h.number);
    rises = all_pairs_push (λ (y z : Hint). y.pusher ≡ z.pusher → y.turn < z.turn) h.took x is.rises
        (λ k d l e. omega (arith, ap (λ (m : ℕ). length (r.gone m)) e, turn_is, is.early k d l));
    early = All-push (λ (y : Hint). y.turn ≤ length (gone_later y.pusher)) h.took x
        (λ k d l. omega (arith, is.early k d l, longer (get_or h.took k d).pusher))
        (grind (arith, nat_tests, turn_is, length-append (r.gone x.pusher) (hints_of x.pusher (x ∷ []))));
  }

pub takes : (id : ℕ) (v : QueueView) (n : ℕ) → v.number ≡ Some n → Pops IsKept id v (IsTaken v)
takes id v n has x items views r at =
    let rule = hand_changed r id v at has items (gone_later x r) v.put (v.took ++ x ∷ []) (λ m _. stays x r m) (longer x r)
    (λ own. (rw (stays x r n) (r.numbered n), taking_hand x r (hand n v.put v.took) own))
    (λ y. let f : Hint → ℕ = λ z. one_if (is_hint y z) in
    omega (arith, total-append f v.took (x ∷ []), total-append f (r.gone y.pusher) (hints_of y.pusher (x ∷ [])), times_own y (x ∷ []))) in
    (taking x v, rule, (refl, (items, stands id v _ views r at)))

count_length : (hs : List Hand) → total (λ (h : Hand). 1) hs ≡ length hs
count_length [] = refl
count_length (h ∷ hs) = omega (arith, count_length hs)

-- how many passes were met, once another was met: fewer than there are numbers
pub joined_met : (p q : QueuePass) {u : QueueView} {items : List Hint} → u ≡ joined (queue_view p) (queue_view q) → Stood u items
    → (length u.ended ≡ p.met + (q.met + 1)) × (p.met + (q.met + 1) < 65536)
joined_met p q {u} e at =
    let v : QueueView = queue_view p in let w : QueueView = queue_view q in let c = at.kept.counted in
    let sum : length u.ended ≡ p.met + (q.met + 1) =
    omega (arith, ap (λ (x : QueueView). length x.ended) e, length-append v.ended (hands w), ap length (hands_are w q.numbered)) in
    let own = own_weighs u (ap (λ (x : QueueView). x.number) e ∙ p.numbered) (λ h. 1) in
    (sum, omega (arith, own, total-at (weigh (λ h. 1)) at.views at.seat u at.here, count_length u.ended))

module _ (v : QueueView) (items : List Hint) (at : Stood v items) where
  -- how often the hint's pusher put it
  abbrev times_put : Hint → ℕ
  times_put x = times x (sent at.kept.gone items x.pusher)

  -- a hint that is gone or in the queue is one that its pusher put
  sent_times : (x : Hint) → times x (at.kept.gone x.pusher) + times x items ≡ times_put x
  sent_times x = omega (arith, total-append (λ y. one_if (is_hint x y)) (at.kept.gone x.pusher) (hints_of x.pusher items), times_own x items)

  hand_is : (h : Hand) → IsHand at.kept.gone items h → IsHandOf items h
  hand_is h is = let numbered = subst (IsNumbered h.number 1) (sym is.put) (at.kept.numbered h.number) in
      record { numbered = numbered; waiting = (at.kept.gone h.number, is.put); rises = is.rises }

  -- what a pass knows of hints
  pub knows : IsKnown v items
  knows = record {
    each = λ k d l. hand_is _ ((at.kept.each at.seat v at.here).hands_are k d l);
    once = λ x. let few : times_put x ≤ 1 = grind (arith, times_few x x.pusher 1 (sent at.kept.gone items x.pusher) (at.kept.numbered x.pusher)) in
        omega (arith, few, total-at (weigh (λ h. times x h.took)) at.views at.seat v at.here, at.kept.taken x, sent_times x);
  }

  -- hands put a hint as often as its pusher did, if this one is among them
  put_total : (x : Hint) (hs : List Hand) → All (IsHand at.kept.gone items) hs
      → total (λ (h : Hand). times x h.put) hs ≡ total (λ (h : Hand). one_if (eqb h.number x.pusher)) hs * times_put x
  put_total x [] all = omega arith
  put_total x (h ∷ hs) all = let Hands : Hand → Type 0 = IsHand at.kept.gone items in let is = All-head Hands h hs all in
      let few = times_few x h.number 1 h.put (hand_is h is).numbered in let rest = put_total x hs (All-tail Hands h hs all) in
      let split = add-mul (one_if (eqb h.number x.pusher)) (total (λ (g : Hand). one_if (eqb g.number x.pusher)) hs) (times_put x) in
      grind (arith, nat_tests, is.put, few, rest, split)

  -- what the last pass knows of all hints
  pub accounts : IsLast v → IsAccounted v items
  accounts last =
      let sound = at.kept.each at.seat v at.here in
      let has_all : (f : Hand → ℕ) → total (weigh f) at.views ≡ weigh f v =
      λ f. total-only (weigh (λ h. 1)) (weigh f) at.views at.seat v at.here
      (omega (arith, own_weighs v last.leads (λ h. 1), count_length v.ended, at.kept.counted.in_all, sound.counts last.leads, last.all_met))
      (λ j w e none_there. ap (total f) (nil_from_length (hands w) (omega (arith, count_length (hands w))))) in
      let put_times : (x : Hint) → weigh (λ h. times x h.put) v ≡ times_put x = λ x. let counts = at.kept.counted.once x.pusher in
      let numbered = has_all (λ h. one_if (eqb h.number x.pusher)) in let unused = at.kept.unused x.pusher in
      grind (arith, nat_tests, put_total x (hands v) sound.hands_are, numbered, counts, unused) in
      record { known = knows; all = λ x. omega (arith, has_all (λ h. times x h.took), at.kept.taken x, sent_times x, put_times x) }
