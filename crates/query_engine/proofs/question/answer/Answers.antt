use Rattle.query_engine.proofs.Words.{◌≡◌, List, ℕ, Bool, refl, sym, Java, Properties, places_of_key, Stub, World, lowest_unready, found, stubs_in, masks_in}
use Rattle.query_engine.proofs.Words.{Rows, Words, Keys, is_class, has_super, is_method, declared_reply, of_world, place_row, row_of, rows_in, unless_unready}
use Rattle.query_engine.proofs.Words.{row_found, word_found, place_found}
use Rattle.query_engine.proofs.FoundLemmas.{Finds, placed_found, word_rows_found, stubs_ahead, keys_ahead, live_found}
use Rattle.query_engine.proofs.LookLemmas.{looked_not, replied, replied_as, told}
use Rattle.query_engine.proofs.question.answer.Goals as goal

-- the reply by the declarations that a walk finds is the one by the files
stubs_told : (fits : Stub → Bool) (world : World) {walk : List (ℕ × Stub)} → Finds world walk (found Java (stubs_in fits) world)
    → declared_reply world walk ≡ unless_unready (lowest_unready world) (Rows (of_world Java (rows_in fits) world))
stubs_told fits world ready = told world Rows (row_found world) ready (placed_found Java row_of (stubs_in fits) (rows_in fits) world (λ id file. refl))

pub declared-requires-clause-ahead : goal.declared-requires-clause-ahead
declared-requires-clause-ahead g c =
    stubs_ahead c.listings_are_lawful.ensures c.names_are_identifiers.ensures (is_class c.in-Class.name) c.args.state.now.world
    c.type_rows.ensures.ready

pub returns-in-Class-clause-replied : goal.returns-in-Class-clause-replied
returns-in-Class-clause-replied g c =
    replied c.in-Class.is (stubs_told (is_class c.in-Class.name) c.args.state.now.world c.type_rows.ensures.ready) refl c.declared.ensures.answered

pub declared-requires-in-Supers-clause-ahead : goal.declared-requires-in-Supers-clause-ahead
declared-requires-in-Supers-clause-ahead g c =
    stubs_ahead c.listings_are_lawful.ensures c.names_are_identifiers.ensures (has_super c.in-Supers.name) c.args.state.now.world
    c.super_rows.ensures.ready

pub returns-in-Supers-clause-replied : goal.returns-in-Supers-clause-replied
returns-in-Supers-clause-replied g c =
    replied c.in-Supers.is (stubs_told (has_super c.in-Supers.name) c.args.state.now.world c.super_rows.ensures.ready) refl
    c.declared-in-Supers.ensures.answered

pub declared-requires-in-Method-clause-ahead : goal.declared-requires-in-Method-clause-ahead
declared-requires-in-Method-clause-ahead g c =
    stubs_ahead c.listings_are_lawful.ensures c.names_are_identifiers.ensures (is_method c.in-Method.name) c.args.state.now.world
    c.method_rows.ensures.ready

pub returns-in-Method-clause-replied : goal.returns-in-Method-clause-replied
returns-in-Method-clause-replied g c =
    replied c.in-Method.is (stubs_told (is_method c.in-Method.name) c.args.state.now.world c.method_rows.ensures.ready) refl
    c.declared-in-Method.ensures.answered

pub with_word-requires-clause-live : goal.with_word-requires-clause-live
with_word-requires-clause-live g c = live_found (masks_in c.in-Word.name) c.args.state.now.world c.word_rows.ensures.ready

pub returns-in-Word-clause-replied : goal.returns-in-Word-clause-replied
returns-in-Word-clause-replied g c =
    let world = c.args.state.now.world in
    replied c.in-Word.is (told world Words (word_found world) c.word_rows.ensures.ready (word_rows_found c.in-Word.name world)) refl
    c.with_word.ensures.answered

pub returns-in-Usages-clause-replied : goal.returns-in-Usages-clause-replied
returns-in-Usages-clause-replied g c = replied_as _ c.in-Usages.is c.usages.ensures.replied

pub returns-in-Inheritors-clause-replied : goal.returns-in-Inheritors-clause-replied
returns-in-Inheritors-clause-replied g c = replied_as _ c.in-Inheritors.is c.inheritors.ensures.replied

pub with_key-requires-clause-ahead : goal.with_key-requires-clause-ahead
with_key-requires-clause-ahead g c = keys_ahead c.keys_stand_in_the_text.ensures c.in-Key.key c.args.state.now.world c.key_rows.ensures.ready

pub returns-in-Key-clause-replied : goal.returns-in-Key-clause-replied
returns-in-Key-clause-replied g c =
    let world = c.args.state.now.world in
    replied c.in-Key.is
    (told world Keys (place_found world) c.key_rows.ensures.ready
    (placed_found Properties place_row (places_of_key c.in-Key.key) _ world (λ id file. refl))) refl c.with_key.ensures.answered

pub returns-in-Outline-clause-replied : goal.returns-in-Outline-clause-replied
returns-in-Outline-clause-replied g c =
    let outline = c.outline.ensures in
    replied c.in-Outline.is refl refl record { looked = outline.looked; answer = outline.answer; refused = outline.refused }

pub returns-in-Status-clause-replied : goal.returns-in-Status-clause-replied
returns-in-Status-clause-replied g c = replied c.in-Status.is refl refl record { looked = looked_not refl; answer = sym c.counts.ensures; refused = tt }
