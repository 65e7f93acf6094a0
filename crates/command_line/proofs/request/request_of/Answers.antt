use Rattle.std.proofs.Common.{◌∙◌, ap, map, string_bytes, subst}
use Rattle.clap.specs.Words.{App, HasKind, fault_of, is_simple_and_free, subcommand_rows_of}
use Rattle.command_line.proofs.RequestLemmas.{in_range-read, is_exact, ok-read, refused, taken, usage-told}
use Rattle.command_line.proofs.request.request_of.Goals as goal

pub returns-in-Ok-try_get_matches_from-clause-ok : goal.returns-in-Ok-try_get_matches_from-clause-ok
returns-in-Ok-try_get_matches_from-clause-ok c =
    let parse = c.in-Ok-try_get_matches_from.ensures in
    rw (taken (map (λ s. string_bytes s) c.args.words.now) _ _ c.in-Ok.ensures.shape parse.kinds (λ simple. (parse.matches simple).1))
    (ok-read _ _ c.request_by.ensures)

pub returns-in-Ok-try_get_matches_from-clause-usage : goal.returns-in-Ok-try_get_matches_from-clause-usage
returns-in-Ok-try_get_matches_from-clause-usage c =
    let parse = c.in-Ok-try_get_matches_from.ensures in
    rw (taken (map (λ s. string_bytes s) c.args.words.now) _ _ c.in-Ok.ensures.shape parse.kinds (λ simple. (parse.matches simple).1))
    (refused _ _ c.request_by.ensures)

pub returns-in-Ok-try_get_matches_from-clause-in_range : goal.returns-in-Ok-try_get_matches_from-clause-in_range
returns-in-Ok-try_get_matches_from-clause-in_range c = in_range-read (subcommand_rows_of c.in-Ok-try_get_matches_from.matches) _ c.request_by.ensures

pub returns-in-Err-clause-usage : goal.returns-in-Err-clause-usage
returns-in-Err-clause-usage c =
    let words = map (λ s. string_bytes s) c.args.words.now in
    let app = c.in-Ok.ensures.shape in
    usage-told words c.in-Err.error c.refusal_by.result
    (subst (λ (a : App). HasKind (fault_of a words) c.in-Err.error) app (c.in-Err.ensures.kinds (ap is_simple_and_free app ∙ is_exact.0)))
    c.refusal_by.ensures.1
