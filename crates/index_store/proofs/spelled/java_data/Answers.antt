use Rattle.index_store.proofs.Words.{◌<◌, ◌^◌, length, refl, rules, listing_of, IsStubBytes}
use Rattle.index_store.specs.Data.{data_of}
use Rattle.index_store.proofs.DataLemmas.{listing_inside, words_lawful}
use Rattle.index_store.proofs.spelled.java_data.Goals as goal

pub returns-clause-lawful : goal.returns-clause-lawful
unfolding data_of
returns-clause-lawful c =
    let text = c.args.text.now in
    let coded : IsStubBytes (listing_of text) c.in_ok-listed.listed.items = search rules in
    let short : length c.in_ok-listed.listed.items < 2 ^ 32 = search rules in
    let identifiers = c.identifiers_are_words.ensures.token in
    let inside = listing_inside identifiers text (c.names_are_identifiers.ensures text) in
    let words = words_lawful identifiers text (search rules) (search rules) in
    (record { lawful = coded.lawful; scalars = coded.scalars; inside = inside; short = rw coded.spelled at short }, words, search rules, refl)
