use Rattle.std.proofs.Common.{ℕ, List, [], ◌∷◌, ◌++◌, sym, ap, ◌∙◌, append_assoc, length-append, arith}
use Rattle.ide_io.specs.Asks.{AsksEach, AsksFront}
use Rattle.ide_io.proofs.laws.trees_are_asked_in_turn.Goals as goal

module _ {T : Type 0} (asks : T → List ℕ → T → Type 0) where
  -- these files, and then others
  then_each : (old mid new : T) (front back : List (List ℕ)) → AsksEach asks old front mid → AsksEach asks mid back new → AsksEach asks old (front ++ back) new
  then_each old mid new [] back same more = rw (← same) more
  then_each old mid new (path ∷ front) back (between, first, rest) more = (between, first, then_each between mid new front back rest more)

  -- files, and then the first of others
  abbrev then_front : (old mid new : T) (front back : List (List ℕ)) → AsksEach asks old front mid → AsksFront asks mid back new
      → AsksFront asks old (front ++ back) new
  then_front old mid new front back asked more = record {
    front = front ++ more.front;
    rest = more.rest;
    paths_are = ap (λ l. front ++ l) more.paths_are ∙ sym (append_assoc front more.front more.rest);
    asked = then_each old mid new front more.front asked more.asked;
  }

  -- the first of some files are the first of these and more
  abbrev front_more : (old new : T) (paths later : List (List ℕ)) → AsksFront asks old paths new → AsksFront asks old (paths ++ later) new
  front_more old new paths later first = record {
    front = first.front;
    rest = first.rest ++ later;
    paths_are = ap (λ l. l ++ later) first.paths_are ∙ append_assoc first.front first.rest later;
    asked = first.asked;
  }

pub returns : goal.returns
returns g c = let asks = g.T.Tree.asks in record {
  each = then_each asks;
  front = then_front asks;
  some = λ old mid new front back asked more. record {
    first = then_front asks old mid new front back asked more.first;
    some = omega (arith, more.some, length-append front more.first.front);
  };
  front_more = front_more asks;
  some_more = λ old new paths later more. record { first = front_more asks old new paths later more.first; some = more.some };
}
