-- Attempts, one after another.
pub use Rattle.std.proofs.Common.{◌≡◌, ℕ, ◌+◌, ◌<◌, ◌↔◌, ◌∙◌, ap, refl, arith, le_trans, Result, Ok, Err, rules}
use Rattle.action_lock.specs.declared.view.View.{View}
use Rattle.action_lock.specs.Counts.{counted, counted_by}
use Rattle.lock_laws.proofs.AdvanceLemmas.{advances_not, advances_on}
use Rattle.nonblocking_read.specs.Attempts.{SeesAfter, SpendsAfter}
use Rattle.nonblocking_read.specs.declared.attempt.Miss.{Miss}
use Rattle.nonblocking_read.specs.declared.attempt.Miss.TheVariants as miss
use Rattle.nonblocking_read.specs.declared.soft_read.SoftRefusal.{SoftRefusal}
use Rattle.nonblocking_read.specs.declared.soft_read.SoftRefusal.TheVariants as refusal
use Rattle.nonblocking_read.specs.Polled.{HasSpentAll}
use Rattle.nonblocking_read.specs.Soft.{HasOnlyRead, HasReadLast}
use Rattle.list_laws.proofs.PrefixLemmas.{front_trans}

-- one more
counted_more : (k a : ℕ) → counted (counted_by k a) ≡ counted_by (k + 1) a
counted_more k a = omega arith

-- none yet
pub counted_none : (a : ℕ) → a ≡ counted_by 0 a
counted_none a = omega arith

-- Some attempts were spent, as many as are counted, and then one missed
module _ (spent attempts a b c : ℕ) (fewer : spent < attempts) (risen : b ≡ counted_by spent a) where
  -- another may follow
  pub spent_on : (why : Miss) (now : ℕ) → SpendsAfter why spent attempts (Ok now) → SeesAfter why b c → (now < attempts) × (c ≡ counted_by now a)
  spent_on miss.Seen now (more, is) sees = (more, sees ∙ (ap counted risen ∙ (counted_more spent a ∙ ap (λ k. counted_by k a) (let e = is in omega arith))))
  spent_on miss.Turn now is sees = (omega (arith, is, fewer), sees ∙ (risen ∙ ap (λ k. counted_by k a) (let e = is in omega arith)))
  spent_on miss.OutOfMemory now is sees = absurd is

  -- or none may
  pub spent_all : (why : Miss) (refused : SoftRefusal) → SpendsAfter why spent attempts (Err refused) → SeesAfter why b c
      → HasSpentAll refused attempts a c
  spent_all miss.Seen (refusal.Cancelled n) (all, last) sees =
      (all, sees ∙ (ap counted risen ∙ (counted_more spent a ∙ ap (λ k. counted_by k a) last)))
  spent_all miss.Seen refusal.OutOfMemory is sees = absurd is
  spent_all miss.Turn refused is sees = absurd is
  spent_all miss.OutOfMemory (refusal.Cancelled n) is sees = absurd is
  spent_all miss.OutOfMemory refusal.OutOfMemory is sees = record { spent = spent; fewer = fewer; risen = sees ∙ risen }

-- a meaning that stays the same twice stays the same
pub same_meaning : {A B : Type 0} (P Q R : A → B → Type 0) → ((a : A) (b : B) → P a b ↔ Q a b) → ((a : A) (b : B) → Q a b ↔ R a b)
    → (a : A) (b : B) → P a b ↔ R a b
same_meaning P Q R p q a b = (λ x. (q a b).0 ((p a b).0 x), λ x. (p a b).1 ((q a b).1 x))

module _ {E : Type 0} where
  pub only_not : (v : View E) → HasOnlyRead v v
  only_not v = record { advances = advances_not v; mine = refl }

  pub only_on : (u v w : View E) → HasOnlyRead u v → HasOnlyRead v w → HasOnlyRead u w
  only_on u v w p q = record { advances = advances_on u v w p.advances q.advances; mine = q.mine ∙ p.mine }

  -- the last read, after some attempts
  pub last_on : (number_of : E → ℕ) (looks : ℕ) (u v w : View E) → HasOnlyRead u v → HasReadLast number_of looks v w → HasReadLast number_of looks u w
  last_on number_of looks u v w p q =
      search (rules, q, front_trans u.reads v.reads q.earlier p.advances.reads q.reads, le_trans p.advances.checks q.checked.earlier)
