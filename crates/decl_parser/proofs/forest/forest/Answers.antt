use Rattle.decl_parser.proofs.Words.{List, arith, close_rest, drop, fold, length, sym, ℕ, ◌+◌, ◌∙◌, ◌≡◌}
use Rattle.std.proofs.Common.{ap, get_or, length-drop, ◌<◌}
use Rattle.std.proofs.lemmas.List.{at_drop_all, drop_more}
use Rattle.decl_parser.specs.Forest.{forest_of}
use Rattle.decl_parser.proofs.forest.forest.Goals as goal

-- one of the elements that are left is folded in, or none is left
fold-next : {A B : Type 0} (f : B → A → B) (s t z : B) (xs : List A) (i : ℕ) (x : A) → i < length xs → x ≡ get_or xs i x → f s x ≡ t
    → fold f s (drop i xs) ≡ z → fold f t (drop (i + 1) xs) ≡ z
fold-next f s t z xs i x less is step whole =
    let behind = drop (i + 1) xs in
    ap (λ u. fold f u behind) (sym step) ∙ ap (λ y. fold f (f s y) behind) is ∙ sym (ap (fold f s) (drop_more xs i x less)) ∙ whole

-- there is room for the node of a token
pub add_token-requires-clause-room : goal.add_token-requires-clause-room
add_token-requires-clause-room c =
    omega (arith, c.loop-token.invariant.room, length-drop c.loop-token.token-index c.args.tokens.now, c.loop-token-test.true)

pub add_token-requires-clause-few : goal.add_token-requires-clause-few
add_token-requires-clause-few c =
    omega (arith, c.loop-token.invariant.few, length-drop c.loop-token.token-index c.args.tokens.now, c.loop-token-test.true)

-- what the tokens that are left make of the nodes stays the whole
pub loop-token-preserved : goal.loop-token-preserved
loop-token-preserved c =
    let step = c.in_ok-add_token.ensures in
    let old = c.loop-token.invariant in
    let less = c.loop-token-test.true in
    let ts = c.args.tokens.now in
    let i = c.loop-token.token-index in
    record {
      whole = fold-next _ _ _ _ ts i _ less c.token-item.is step.step old.whole;
      room = omega (arith, old.room, step.room, step.len, less, length-drop i ts, length-drop (i + 1) ts);
      few = omega (arith, old.few, step.len, less, length-drop i ts, length-drop (i + 1) ts);
    }

-- all tokens were read, and then the open brackets are closed
pub returns : goal.returns
unfolding forest_of
returns c =
    let none = at_drop_all (fold _ _) c.args.tokens.now c.loop-token.token-index (omega (arith, c.loop-token-test.false)) in
    c.close_at_end.ensures ∙ ap (λ s. close_rest s.nodes s.unclosed) (sym none ∙ c.loop-token.invariant.whole)
