use Rattle.std.proofs.Common.{rules, ◌≡◌, None, ap, ◌∙◌, ne_eqb}
use Rattle.std.proofs.lemmas.Str.{IsUtf8-past_char, chars_past_char}
use Rattle.std.proofs.StrCases.{chars_of_empty}
use Rattle.workspace_paths.specs.Paths.{decoded}
use Rattle.workspace_paths.proofs.PathLemmas.{decoded-nil, decoded-other}
use Rattle.workspace_paths.proofs.printing.next_decoded.Goals as goal

pub returns-in_err-c-clause-value : goal.returns-in_err-c-clause-value
returns-in_err-c-clause-value c =
    let nothing : c.from_residual.result ≡ None = search rules in
    rw nothing (ap decoded (chars_of_empty _ c.in_err-c.ensures.steps.0.0) ∙ decoded-nil)

pub next_escaped-requires : goal.next_escaped-requires
next_escaped-requires c = IsUtf8-past_char _ _ c.in_ok-c.c c.requires c.in_ok-c.ensures.steps.0

pub returns-then-c-eq37-clause-value : goal.returns-then-c-eq37-clause-value
returns-then-c-eq37-clause-value c =
    rw (chars_past_char _ _ c.in_ok-c.c c.requires c.in_ok-c.ensures.steps.0, c.if-c-eq37.true, c.unwrap_or.ensures) c.next_escaped.ensures.value

pub returns-clause-utf8 : goal.returns-clause-utf8
returns-clause-utf8 c = IsUtf8-past_char _ _ c.in_ok-c.c c.requires c.in_ok-c.ensures.steps.0

pub returns-clause-value : goal.returns-clause-value
returns-clause-value c =
    rw (chars_past_char _ _ c.in_ok-c.c c.requires c.in_ok-c.ensures.steps.0) (decoded-other c.in_ok-c.c _ (ne_eqb _ _ c.if-c-eq37.false))
