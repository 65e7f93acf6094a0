-- Scripts that are printed line by line are read back.
use Rattle.script_lang.proofs.Words.{◌≡◌, arith, inl, inr, ℕ, ◌+◌, true, List, [], ◌∷◌, ◌++◌, codes, None, refl, ap, sym, subst, list_all, list_all-append}
use Rattle.script_lang.proofs.Words.{chars-IsAscii, IsUtf8-from_ascii, repaired, AreSpelled, IsCommandLine, DropsReturn, IsLine, Rest, HoldRest, line_feed}
use Rattle.script_lang.proofs.Words.{carriage_return, is_ink, SpellRest, IsReadBack, Command, Content, Holds, Section, Finally}
use Rattle.script_lang.specs.Printed.{is_plain}
use Rattle.script_lang.proofs.FieldLemmas.{none_of, ascii_of}
use Rattle.script_lang.specs.declared.content.Content.TheVariants as content

-- plain characters stand for themselves, and no line break among them is repaired
plain_text : (cs : List ℕ) → list_all is_plain cs ≡ true → AreSpelled cs cs × (repaired cs ≡ cs)
plain_text [] all = (refl, refl)
plain_text (c ∷ cs) all = let rest = plain_text cs (grind arith) in ((c ∷ [], cs, refl, grind arith, rest.0), grind arith)

-- a line of ink keeps all that it has
kept_whole : (line : List ℕ) → list_all is_ink line ≡ true → DropsReturn line line
kept_whole line ink = inr (refl, λ front e. grind (arith, list_all-append is_ink front (carriage_return ∷ []), ap (list_all is_ink) e))

-- and holds the command whose form its characters have
ink_holds : (line : List ℕ) (command : Command) → list_all is_ink line ≡ true → IsCommandLine line command → IsLine line (Holds command)
ink_holds line command ink is =
    let ascii = ascii_of is_ink (λ c low. grind arith) line ink in
    (line, kept_whole line ink, (IsUtf8-from_ascii line ascii, subst (λ l. IsCommandLine l command) (sym (chars-IsAscii line ascii)) is))

-- a line before others spells what it holds before what they spell
spells_line : (section other : Section) (number : ℕ) (line bytes : List ℕ) (first : Content) (rest all : Rest) → list_all is_ink line ≡ true
    → IsLine line first → (spelled : SpellRest other (number + 1) bytes rest) → HoldRest section None number (first ∷ spelled.contents) all
    → SpellRest section number (line ++ line_feed ∷ bytes) all
spells_line section other number line bytes first rest all ink is spelled held = record {
  lines = line ∷ spelled.lines;
  contents = first ∷ spelled.contents;
  cut = (none_of is_ink line_feed refl line ink, inl (bytes, refl, spelled.cut));
  read = (first, spelled.contents, refl, is, spelled.read);
  held = held;
}

pub is_read_back : IsReadBack
is_read_back = record {
  text = λ text plain fits.
      let (spelled, repaired) = plain_text text plain in
      record { characters = text; spelling = text; in_quotes = refl; spelled = spelled; breaks = sym repaired; fits = fits };
  none = λ section number. record { lines = []; contents = []; cut = refl; read = refl; held = refl };
  command = λ section number line bytes command rest ink is stands spelled.
      spells_line section section number line bytes (Holds command) rest _ ink (ink_holds line command ink is) spelled (stands, (rest, refl, spelled.held));
  lane = λ section lane number bytes rest next spelled.
      spells_line section lane number (codes "lane") bytes content.Lane rest _ refl (codes "lane", kept_whole (codes "lane") refl, refl) spelled
      (lane, next, (rest, refl, spelled.held));
  finally = λ section number bytes rest ends spelled.
      spells_line section Finally number (codes "finally") bytes content.Finally rest _ refl (codes "finally", kept_whole (codes "finally") refl, refl) spelled
      (ends, (rest, refl, spelled.held));
  script = λ bytes script few spelled.
      record { few = few; lines = spelled.lines; cut = spelled.cut; held = record { contents = spelled.contents; read = spelled.read; held = spelled.held } };
}
