use Rattle.playing.proofs.Words.{rules, ◌≡◌, true, false, refl, is_path}
use Rattle.playing.proofs.SectionLemmas.{not_called}
use Rattle.playing.proofs.changing.do_load.Goals as goal

pub returns-then-not-is_lawful_path-clause-answer : goal.returns-then-not-is_lawful_path-clause-answer
returns-then-not-is_lawful_path-clause-answer g c =
    let unlawful : is_path c.args.path.now ≡ false = search rules in rw unlawful c.refuse_path.ensures.answer

pub returns-in-Nothing-clause-answer : goal.returns-in-Nothing-clause-answer
returns-in-Nothing-clause-answer g c =
    let lawful : is_path c.args.path.now ≡ true = search rules in rw (lawful, c.in-Nothing.is) (not_called _ _ _ (λ start seat. refl))

pub returns-in-NotText-clause-answer : goal.returns-in-NotText-clause-answer
returns-in-NotText-clause-answer g c =
    let lawful : is_path c.args.path.now ≡ true = search rules in rw (lawful, c.in-NotText.is) (not_called _ _ _ (λ start seat. refl))

pub returns-in-TooLong-clause-answer : goal.returns-in-TooLong-clause-answer
returns-in-TooLong-clause-answer g c =
    let lawful : is_path c.args.path.now ≡ true = search rules in rw (lawful, c.in-TooLong.is) (not_called _ _ _ (λ start seat. refl))

pub returns-in_ok-share-in-Text-clause-answer : goal.returns-in_ok-share-in-Text-clause-answer
returns-in_ok-share-in-Text-clause-answer g c =
    let lawful : is_path c.args.path.now ≡ true = search rules in
    rw (lawful, c.in-Text.is, ← c.in_ok-copy-in-Text.ensures, ← c.in_ok-share-in-Text.ensures) c.do_change.ensures.answer
