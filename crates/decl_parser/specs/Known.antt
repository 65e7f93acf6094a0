-- What is kept beside each open bracket: for each kind, whether a closing bracket finds its partner from there on.
use Rattle.std.specs.Prelude.{◌≡◌, List, [], ◌∷◌, map}
use Rattle.decl_parser.specs.declared.bracket.Bracket.TheVariants.{Paren, Square, Brace}
use Rattle.decl_parser.specs.declared.open_brackets.Open.{Open}
use Rattle.decl_parser.specs.declared.open_brackets.Frame.{Frame}
use Rattle.decl_parser.specs.Forest.{finds}

-- the brackets of the frames
abbrev pub opens_of : List Frame → List Open
opens_of es = map (λ e. e.opener) es

-- each entry keeps the right answers
abbrev pub AreKnown : List Frame → Type 0
AreKnown [] = Unit {0}
AreKnown (e ∷ es) =
    (e.paren ≡ finds Paren (opens_of (e ∷ es))) × (e.square ≡ finds Square (opens_of (e ∷ es)))
    × (e.brace ≡ finds Brace (opens_of (e ∷ es))) × AreKnown es
