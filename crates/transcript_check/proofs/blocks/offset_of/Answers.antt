use Rattle.transcript_check.proofs.TextBlocks.{blocks-first, first_len-within, ℕ, ◌≡◌, ◌+◌, List, [], ◌∷◌, length, take, drop, ap, ◌∙◌, length-append, arith}
use Rattle.transcript_check.proofs.TextBlocks.{take-append-drop, rules, concat, append-nil, drop-drop, concat-append, first_len}
use Rattle.transcript_check.specs.Blocks.{blocks_of}
use Rattle.transcript_check.proofs.Words.{take-add}
use Rattle.transcript_check.proofs.blocks.offset_of.Goals as goal

-- one block is passed, if there is one
one_passed : (left later : List ℕ) → later ≡ drop (first_len left) left
    → (blocks_of later ≡ drop 1 (blocks_of left)) × (length (concat (take 1 (blocks_of left))) + length later ≡ length left)
unfolding blocks_of
one_passed [] later is = (ap blocks_of is, omega (arith, ap length is))
one_passed (byte ∷ bytes) later is =
    let first = blocks-first byte bytes in
    let size = take-append-drop (first_len (byte ∷ bytes)) (byte ∷ bytes) in
    (grind (arith, first), grind (arith, first, size, length-append, append-nil))

pub split_at-requires : goal.split_at-requires
split_at-requires c = grind (arith, first_len-within)

pub loop-number-preserved : goal.loop-number-preserved
loop-number-preserved c =
    let so_far = c.loop-number.invariant in
    let i : ℕ = c.loop-number._number in
    let all : List (List ℕ) = blocks_of c.args.bytes.now in
    let passed = one_passed c.loop-number.left.now c.split_at.result.1.now (search rules) in
    record {
      later = passed.0 ∙ ap (drop 1) so_far.later ∙ drop-drop 1 i all;
      passed = grind (arith, take-add i 1 all, concat-append, length-append, passed.1, so_far.later, so_far.passed);
    }
