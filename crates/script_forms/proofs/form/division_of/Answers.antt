use Rattle.std.proofs.Common.{List, sym, ◌≡◌, ◌∙◌, ℕ}
use Rattle.std.proofs.lemmas.Bool.{false≢true}
use Rattle.poly_grammar.specs.Numerals.{text_of}
use Rattle.script_forms.specs.Written.{division_word, word_text}
use Rattle.script_forms.specs.declared.form.DivisionWord.{DivisionWord}
use Rattle.script_forms.specs.declared.form.DivisionWord.TheVariants.{Lift, Member, NormalForm}
use Rattle.script_forms.proofs.form.division_of.Goals as goal

-- no word is the text where none of the 3 is
is_none : (text : List ℕ) → (text ≡ word_text (division_word NormalForm) → ⊥) → (text ≡ word_text (division_word Member) → ⊥) → (text ≡ word_text (division_word Lift) → ⊥)
    → (word : DivisionWord) → text ≡ word_text (division_word word) → ⊥
is_none text not_normalform _ _ NormalForm = not_normalform
is_none text _ not_member _ Member = not_member
is_none text _ _ not_lift Lift = not_lift

pub returns-then-is_word-clause-found : goal.returns-then-is_word-clause-found
returns-then-is_word-clause-found c = c.is_word.ensures.name.0 c.if-is_word.true

pub returns-then-is_word-clause-none : goal.returns-then-is_word-clause-none
returns-then-is_word-clause-none c = tt

pub returns-then-is_word-2-clause-found : goal.returns-then-is_word-2-clause-found
returns-then-is_word-2-clause-found c = c.is_word-else-is_word.ensures.name.0 c.if-is_word-2.true

pub returns-then-is_word-2-clause-none : goal.returns-then-is_word-2-clause-none
returns-then-is_word-2-clause-none c = tt

pub returns-then-is_word-3-clause-found : goal.returns-then-is_word-3-clause-found
returns-then-is_word-3-clause-found c = c.is_word-else-is_word-2.ensures.name.0 c.if-is_word-3.true

pub returns-then-is_word-3-clause-none : goal.returns-then-is_word-3-clause-none
returns-then-is_word-3-clause-none c = tt

pub returns-else-is_word-3-clause-found : goal.returns-else-is_word-3-clause-found
returns-else-is_word-3-clause-found c = tt

pub returns-else-is_word-3-clause-none : goal.returns-else-is_word-3-clause-none
returns-else-is_word-3-clause-none c = λ word is_name. is_none (text_of c.args.line.now c.args.token)
    (λ same. false≢true (sym c.if-is_word.false ∙ c.is_word.ensures.name.1 (is_name, same)))
    (λ same. false≢true (sym c.if-is_word-2.false ∙ c.is_word-else-is_word.ensures.name.1 (is_name, same)))
    (λ same. false≢true (sym c.if-is_word-3.false ∙ c.is_word-else-is_word-2.ensures.name.1 (is_name, same)))
    word
