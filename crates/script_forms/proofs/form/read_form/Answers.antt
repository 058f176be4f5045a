use Rattle.std.proofs.Common.{ap, map}
use Rattle.poly_grammar.specs.Lexemes.{lexeme}
use Rattle.script_forms.specs.Written.{change_word, division_word, equal_word, express_word, ext_word, ideal_word, let_word, module_word, nothing, question_word, ring_word, show_word}
use Rattle.script_forms.proofs.Lines.{word_read}
use Rattle.script_forms.proofs.Pieces.{nil_of}
use Rattle.script_forms.proofs.form.read_form.Goals as goal

pub returns-in_default : goal.returns-in_default
returns-in_default c = (nothing, ap (λ l. map lexeme l) (nil_of c.args.tokens.now c.in_default.ensures.cases), tt)

pub returns-then-is_word : goal.returns-then-is_word
returns-then-is_word c =
    let says = c.is_word.ensures.name.0 c.if-is_word.true in
    word_read c.args.line.now ring_word c.args.tokens.now c.in-Some.behind.now c.in-Some.word.now c.ring_form.result says.0 says.1 c.in-Some.ensures.cases.0 c.ring_form.ensures

pub returns-then-is_word-2 : goal.returns-then-is_word-2
returns-then-is_word-2 c =
    let says = c.is_word-2.ensures.name.0 c.if-is_word-2.true in
    word_read c.args.line.now show_word c.args.tokens.now c.in-Some.behind.now c.in-Some.word.now c.show_form.result says.0 says.1 c.in-Some.ensures.cases.0 (c.show_form.ensures c.args.line.now)

pub returns-then-is_word-3 : goal.returns-then-is_word-3
returns-then-is_word-3 c =
    let says = c.is_word-3.ensures.name.0 c.if-is_word-3.true in
    word_read c.args.line.now ideal_word c.args.tokens.now c.in-Some.behind.now c.in-Some.word.now c.ideal_form.result says.0 says.1 c.in-Some.ensures.cases.0 (c.ideal_form.ensures c.args.line.now)

pub returns-then-is_word-4 : goal.returns-then-is_word-4
returns-then-is_word-4 c =
    let says = c.is_word-4.ensures.name.0 c.if-is_word-4.true in
    word_read c.args.line.now equal_word c.args.tokens.now c.in-Some.behind.now c.in-Some.word.now c.equal_form.result says.0 says.1 c.in-Some.ensures.cases.0 (c.equal_form.ensures c.args.line.now)

pub returns-then-is_word-5 : goal.returns-then-is_word-5
returns-then-is_word-5 c =
    let says = c.is_word-5.ensures.name.0 c.if-is_word-5.true in
    word_read c.args.line.now module_word c.args.tokens.now c.in-Some.behind.now c.in-Some.word.now c.module_form.result says.0 says.1 c.in-Some.ensures.cases.0 (c.module_form.ensures c.args.line.now)

pub returns-then-is_word-6 : goal.returns-then-is_word-6
returns-then-is_word-6 c =
    let says = c.is_word-6.ensures.name.0 c.if-is_word-6.true in
    word_read c.args.line.now let_word c.args.tokens.now c.in-Some.behind.now c.in-Some.word.now c.let_form.result says.0 says.1 c.in-Some.ensures.cases.0 c.let_form.ensures

pub returns-in-Some-question_of : goal.returns-in-Some-question_of
returns-in-Some-question_of c =
    let says = c.in-Some-question_of.ensures.found in
    word_read c.args.line.now (question_word c.in-Some-question_of.question) c.args.tokens.now c.in-Some.behind.now c.in-Some.word.now c.ask_form.result says.0 says.1 c.in-Some.ensures.cases.0 (c.ask_form.ensures c.args.line.now)

pub returns-in-Some-division_of : goal.returns-in-Some-division_of
returns-in-Some-division_of c =
    let says = c.in-Some-division_of.ensures.found in
    word_read c.args.line.now (division_word c.in-Some-division_of.division) c.args.tokens.now c.in-Some.behind.now c.in-Some.word.now c.divide_form.result says.0 says.1 c.in-Some.ensures.cases.0 (c.divide_form.ensures c.args.line.now)

pub returns-then-is_word-7 : goal.returns-then-is_word-7
returns-then-is_word-7 c =
    let says = c.is_word-7.ensures.name.0 c.if-is_word-7.true in
    word_read c.args.line.now change_word c.args.tokens.now c.in-Some.behind.now c.in-Some.word.now c.change_form.result says.0 says.1 c.in-Some.ensures.cases.0 c.change_form.ensures

pub returns-then-is_word-8 : goal.returns-then-is_word-8
returns-then-is_word-8 c =
    let says = c.is_word-8.ensures.name.0 c.if-is_word-8.true in
    word_read c.args.line.now express_word c.args.tokens.now c.in-Some.behind.now c.in-Some.word.now c.express_form.result says.0 says.1 c.in-Some.ensures.cases.0 c.express_form.ensures

pub returns-then-is_word-9 : goal.returns-then-is_word-9
returns-then-is_word-9 c =
    let says = c.is_word-9.ensures.name.0 c.if-is_word-9.true in
    word_read c.args.line.now ext_word c.args.tokens.now c.in-Some.behind.now c.in-Some.word.now c.ext_form.result says.0 says.1 c.in-Some.ensures.cases.0 (c.ext_form.ensures c.args.line.now)
