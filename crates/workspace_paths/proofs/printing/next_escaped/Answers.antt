use Rattle.std.proofs.Common.{rules, ◌≡◌, None, sym}
use Rattle.std.proofs.lemmas.Str.{chars_past_char}
use Rattle.std.proofs.StrCases.{chars_of_empty}
use Rattle.workspace_paths.proofs.PathLemmas.{chars_past_two, decoded-percent_end, decoded-percent_one, decoded-percent_two, decoded-escaped}
use Rattle.workspace_paths.proofs.printing.next_escaped.Goals as goal

pub returns-in_err-high-clause-value : goal.returns-in_err-high-clause-value
returns-in_err-high-clause-value c =
    let empty = rw (c.chars-ahead.ensures.rest, c.as_str.ensures) at c.in_err-high.ensures.steps.0.0 in
    let nothing : c.from_residual.result ≡ None = search rules in
    rw (nothing, chars_of_empty _ empty) decoded-percent_end

pub returns-in_err-low-clause-value : goal.returns-in_err-low-clause-value
returns-in_err-low-clause-value c =
    let first = rw (c.chars-ahead.ensures.rest, c.as_str.ensures) at c.in_ok-high.ensures.steps.0 in
    let one = chars_past_char _ _ c.in_ok-high.high c.requires first in
    let nothing : c.from_residual-in_err-low.result ≡ None = search rules in
    rw (nothing, one, chars_of_empty _ c.in_err-low.ensures.steps.0.0) (decoded-percent_one c.in_ok-high.high)

pub returns-in_err-c-clause-value : goal.returns-in_err-c-clause-value
returns-in_err-c-clause-value c =
    let first = rw (c.chars-ahead.ensures.rest, c.as_str.ensures) at c.in_ok-high.ensures.steps.0 in
    let two = chars_past_two _ _ _ c.in_ok-high.high c.in_ok-low.low c.requires first c.in_ok-low.ensures.steps.0 in
    let nothing : c.from_residual-in_err-c.result ≡ None = search rules in
    rw (nothing, two.0) (decoded-percent_two c.in_ok-high.high c.in_ok-low.low _ (sym c.in_err-c.ensures))

pub returns-clause-utf8 : goal.returns-clause-utf8
returns-clause-utf8 c =
    let first = rw (c.chars-ahead.ensures.rest, c.as_str.ensures) at c.in_ok-high.ensures.steps.0 in
    (chars_past_two _ _ _ c.in_ok-high.high c.in_ok-low.low c.requires first c.in_ok-low.ensures.steps.0).1

pub returns-clause-value : goal.returns-clause-value
returns-clause-value c =
    let first = rw (c.chars-ahead.ensures.rest, c.as_str.ensures) at c.in_ok-high.ensures.steps.0 in
    let two = chars_past_two _ _ _ c.in_ok-high.high c.in_ok-low.low c.requires first c.in_ok-low.ensures.steps.0 in
    rw two.0 (decoded-escaped c.in_ok-high.high c.in_ok-low.low c.in_ok-c.c _ (sym c.in_ok-c.ensures))
