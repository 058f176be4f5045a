use Rattle.std.proofs.Common.{map, sym, ◌∙◌}
use Rattle.std.proofs.lemmas.Bool.{false≢true}
use Rattle.poly_grammar.specs.Lexemes.{lexeme}
use Rattle.script_forms.proofs.Expressed.{cut_at, expressed, no_first, no_others, other_word, uncut}
use Rattle.script_forms.proofs.expressions.expression.Goals as goal

pub returns-in_default : goal.returns-in_default
returns-in_default c = uncut c.args.line.now (map lexeme c.args.tokens.now) c.in_default.ensures.none

pub returns-then-not-is_word : goal.returns-then-not-is_word
returns-then-not-is_word c =
    let front = c.split_at.result.0.now in
    let rest = c.in-Some-split_first.rest.now in
    let word = c.in-Some-split_first.word.now in
    let k = cut_at c.args.tokens.now front c.split_at.result.1.now rest word c.in-Some.at c.in-Some.ensures.found.1 c.split_at.ensures.front c.split_at.ensures.back c.split_at.ensures.by_index.0 c.in-Some-split_first.ensures.cases.0 in
    other_word c.args.line.now (map lexeme c.args.tokens.now) (map lexeme front) (map lexeme rest) word k.1 (λ text. false≢true (sym c.if-not-is_word.true ∙ c.is_word.ensures.name.1 (k.0, text)))

pub returns-in-Err : goal.returns-in-Err
returns-in-Err c =
    let front = c.split_at.result.0.now in
    let rest = c.in-Some-split_first.rest.now in
    let word = c.in-Some-split_first.word.now in
    let k = cut_at c.args.tokens.now front c.split_at.result.1.now rest word c.in-Some.at c.in-Some.ensures.found.1 c.split_at.ensures.front c.split_at.ensures.back c.split_at.ensures.by_index.0 c.in-Some-split_first.ensures.cases.0 in
    no_first c.args.line.now (map lexeme c.args.tokens.now) (map lexeme front) (map lexeme rest) word k.1 c.in-Err.stop c.in-Err.ensures

pub returns-in-Err-polynomials : goal.returns-in-Err-polynomials
returns-in-Err-polynomials c =
    let front = c.split_at.result.0.now in
    let rest = c.in-Some-split_first.rest.now in
    let word = c.in-Some-split_first.word.now in
    let k = cut_at c.args.tokens.now front c.split_at.result.1.now rest word c.in-Some.at c.in-Some.ensures.found.1 c.split_at.ensures.front c.split_at.ensures.back c.split_at.ensures.by_index.0 c.in-Some-split_first.ensures.cases.0 in
    no_others c.args.line.now (map lexeme c.args.tokens.now) (map lexeme front) (map lexeme rest) word k.1 c.in-Err-polynomials.stop c.in-Err-polynomials.ensures

pub returns-in_ok-append-in-Ok-polynomials : goal.returns-in_ok-append-in-Ok-polynomials
returns-in_ok-append-in-Ok-polynomials c =
    let front = c.split_at.result.0.now in
    let rest = c.in-Some-split_first.rest.now in
    let word = c.in-Some-split_first.word.now in
    let k = cut_at c.args.tokens.now front c.split_at.result.1.now rest word c.in-Some.at c.in-Some.ensures.found.1 c.split_at.ensures.front c.split_at.ensures.back c.split_at.ensures.by_index.0 c.in-Some-split_first.ensures.cases.0 in
    let says = c.is_word.ensures.name.0 c.if-not-is_word.false in
    expressed c.args.line.now (map lexeme c.args.tokens.now) (map lexeme front) (map lexeme rest) word k.1 c.in-Ok.found c.in-Ok-polynomials.images c.append.new.self says.1 c.in-Ok.ensures c.in-Ok-polynomials.ensures c.in_ok-append-in-Ok-polynomials.ensures.items
