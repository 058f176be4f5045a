use Rattle.std.proofs.Common.{ap, map, subst, ◌++◌, ◌∙◌, ◌∷◌, []}
use Rattle.poly_grammar.specs.Lexemes.{lexeme, open_bracket}
use Rattle.script_forms.specs.Written.{AreVectorEntries}
use Rattle.script_forms.proofs.Pieces.{bare_entries, bracket_alone, bracket_entries, bracket_kind, bracket_one, bracket_open, closing_kind, closing_last, in_brackets, nil_of, no_entries}
use Rattle.script_forms.proofs.polynomials.entries.Goals as goal

pub returns-in_default : goal.returns-in_default
returns-in_default c = λ ps k. no_entries ps (subst (λ l. AreVectorEntries (map lexeme l) ps) (nil_of c.args.tokens.now c.in_default.ensures.cases) k)

pub returns-in_default-kind : goal.returns-in_default-kind
returns-in_default-kind c =
    let first = c.in-Some.first.now in
    bare_entries (map lexeme c.args.tokens.now) (map lexeme c.in-Some.behind.now) (lexeme first) c.one_polynomial.result (ap (λ l. map lexeme l) c.in-Some.ensures.cases.0)
    (λ e. c.in_default-kind.not-OpenBracket (bracket_kind first.kind first e)) c.one_polynomial.ensures

pub returns-in_default-split_last : goal.returns-in_default-split_last
returns-in_default-split_last c = bracket_alone (map lexeme c.args.tokens.now) (bracket_one c.args.tokens.now c.in-Some.behind.now c.in-Some.first.now c.in-Some.ensures.cases.0 c.in_default-split_last.ensures.cases c.in-OpenBracket.is)

pub returns-in_default-kind-2 : goal.returns-in_default-kind-2
returns-in_default-kind-2 c =
    let end = c.in-Some-split_last.last.now in
    bracket_open (map lexeme c.args.tokens.now) (map lexeme c.in-Some-split_last.inside.now) (lexeme end)
    (in_brackets c.args.tokens.now c.in-Some.behind.now c.in-Some-split_last.inside.now c.in-Some.first.now end c.in-Some.ensures.cases.0 c.in-Some-split_last.ensures.cases.0 c.in-OpenBracket.is)
    (λ e. c.in_default-kind-2.not-CloseBracket (closing_kind end.kind end e))

pub returns : goal.returns
returns c =
    let end = c.in-Some-split_last.last.now in
    let inside = map lexeme c.in-Some-split_last.inside.now in
    bracket_entries (map lexeme c.args.tokens.now) inside c.polynomials.result
    (in_brackets c.args.tokens.now c.in-Some.behind.now c.in-Some-split_last.inside.now c.in-Some.first.now end c.in-Some.ensures.cases.0 c.in-Some-split_last.ensures.cases.0 c.in-OpenBracket.is ∙ ap (λ x. open_bracket ∷ (inside ++ x ∷ [])) (closing_last end c.in-CloseBracket.is))
    c.polynomials.ensures
