-- What changes make of the world, and a history of them.
use Rattle.std.specs.Prelude.{ℕ, ◌≡◌, ◌+◌, List, [], ◌∷◌, Option, Some, None, option_map}
use Rattle.list_laws.specs.Rows.{with_row}
use Rattle.write_history.specs.declared.change.Change.{Change}
use Rattle.write_history.specs.declared.refusal.Refusal.{Refusal}
use Rattle.write_history.specs.declared.entry.Entry.{Entry}
use Rattle.write_history.specs.World.{World, empty_world}
use Rattle.write_history.specs.Effect.{Put, put_of, refusal_of}

-- the world with a file put in place
abbrev pub after_put : World → Put → World
after_put world put = record {
  files = with_row put.id put.file world.files;
  next_stamp = world.next_stamp + put.drawn;
  entries = world.entries;
}

-- the world after a change that is accepted
abbrev pub effect_of : World → Change → World
effect_of world change = after_put world (put_of world change)

-- the world after several changes, each made where the earlier ones lead
abbrev pub effects_of : World → List Change → World
effects_of world [] = world
effects_of world (change ∷ changes) = effects_of (effect_of world change) changes

-- a refused change of a list: its place, from 1, and the reason
pub record ListRefusal : Type 0 where
  pub place : ℕ
  pub why : Refusal

-- a refusal, with one change more before it
abbrev pub one_later : ListRefusal → ListRefusal
one_later refusal = record { place = refusal.place + 1; why = refusal.why }

-- the first refused change of a list, each being judged where the earlier ones lead, unless an earlier reason is given
abbrev pub refusal_or : Option Refusal → Option ListRefusal → Option ListRefusal
refusal_or (Some why) later = Some (record { place = 1; why = why })
refusal_or None later = option_map one_later later

-- the first refused change of a list; then none of the list is made
abbrev pub list_refusal : World → List Change → Option ListRefusal
list_refusal world [] = None
list_refusal world (change ∷ changes) = refusal_or (refusal_of world change) (list_refusal (effect_of world change) changes)

-- the world with one entry more
abbrev pub counted : World → World
counted world = record { files = world.files; next_stamp = world.next_stamp; entries = world.entries + 1 }

-- the world after the changes of an entry
abbrev pub after_list : World → List Change → World
after_list world changes = counted (effects_of world changes)

-- the world after entries, one after another
abbrev pub fold_from : World → List Entry → World
fold_from world [] = world
fold_from world (entry ∷ entries) = fold_from (after_list world entry.changes) entries

-- the world that a history makes of the empty one
abbrev pub fold : List Entry → World
fold entries = fold_from empty_world entries

-- no entry is refused where it stands, from a world on
abbrev pub IsLegalFrom : World → List Entry → Type 0
IsLegalFrom world [] = Unit {0}
IsLegalFrom world (entry ∷ entries) = (list_refusal world entry.changes ≡ None) × IsLegalFrom (after_list world entry.changes) entries

-- no entry of a history is refused where it stands
abbrev pub IsLegal : List Entry → Type 0
IsLegal entries = IsLegalFrom empty_world entries
