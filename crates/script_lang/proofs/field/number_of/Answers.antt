use Rattle.script_lang.proofs.Words.{arith, false≢true, ◌∙◌, sym, ap, is_plain}
use Rattle.script_lang.proofs.FieldLemmas.{is_plain-decimal, number_of-none, number_of-plain}
use Rattle.script_lang.proofs.field.number_of.Goals as goal

pub returns-then-not-is_plain : goal.returns-then-not-is_plain
returns-then-not-is_plain c =
    let other = ap is_plain (sym c.as_bytes.ensures.value) ∙ sym c.is_plain.ensures ∙ c.if-not-is_plain.true in
    number_of-none _ c.utf8.field (λ n fits e. false≢true (sym other ∙ ap is_plain e ∙ is_plain-decimal n (omega arith)))

pub returns : goal.returns
returns c =
    c.ok.ensures.value ∙ number_of-plain c.args.field.now c.parse.result c.utf8.field
    (ap is_plain (sym c.as_bytes.ensures.value) ∙ sym c.is_plain.ensures ∙ c.if-not-is_plain.false) c.parse.ensures.value.0
