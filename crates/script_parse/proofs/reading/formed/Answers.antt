use Rattle.std.proofs.Common.{◌≡◌, ◌∙◌, true, sym, subst, map}
use Rattle.std.specs.List.{AllByRecursion}
use Rattle.poly_grammar.specs.Lexemes.{lexeme}
use Rattle.poly_grammar.specs.Numerals.{NumeralFits}
use Rattle.script_forms.specs.Written.{IsWritten}
use Rattle.script_parse.proofs.Texts.{great_numeral, no_great, sound}
use Rattle.script_parse.proofs.reading.formed.Goals as goal
use Rattle.script_tokens.proofs.Cuts.{cut_or_stop, one_cut}

pub returns-then-not-numerals_fit : goal.returns-then-not-numerals_fit
returns-then-not-numerals_fit c =
    let line = c.args.line.now in
    let found = c.in-Ok.found.items in
    let r = c.in-Ok-read_form.ensures in (
      great_numeral line found c.in-Ok.ensures.exact (λ all. let t : c.numerals_fit.result ≡ true = c.numerals_fit.ensures.1 (subst (λ l. AllByRecursion (NumeralFits line) l) (sym c.deref-2.ensures.value) all) in let f = c.if-not-numerals_fit.true in absurd cc),
      (r.0, record { found = found; cut = c.in-Ok.ensures.exact; written = subst (λ l. IsWritten line (map lexeme l) r.0) c.deref.ensures.value r.1 }),
    )

pub returns : goal.returns
returns c =
    let line = c.args.line.now in
    let found = c.in-Ok.found.items in
    let r = c.in-Ok-read_form.ensures in
    let written = subst (λ l. IsWritten line (map lexeme l) r.0) c.deref.ensures.value r.1 in
    let all = subst (λ l. AllByRecursion (NumeralFits line) l) c.deref-2.ensures.value (c.numerals_fit.ensures.0 c.if-not-numerals_fit.false) in
    (r.0, record { found = found; cut = c.in-Ok.ensures.exact; written = written }, r.2, sound line found r.0 c.in-Ok-read_form.form c.in-Ok.ensures.exact written r.2 all, no_great line found c.in-Ok.ensures.exact all)

pub returns-in-Err-At : goal.returns-in-Err-At
returns-in-Err-At c = λ w is.
    let stray = rw c.in-Err-At.field-0-is at c.in-Err-At.ensures.exact in
    cut_or_stop c.args.line.now is.found c.in-Err-At.field-0-0 is.cut stray

pub returns-in-Err-Syntax : goal.returns-in-Err-Syntax
returns-in-Err-Syntax c = λ w is.
    let none = rw c.in-Err-Syntax.field-0-is at c.in-Err-Syntax.ensures in
    let same = one_cut c.args.line.now is.found c.in-Ok.found.items is.cut c.in-Ok.ensures.exact in
    none w (subst (λ l. IsWritten c.args.line.now (map lexeme l) w) (same ∙ sym c.deref.ensures.value) is.written)
