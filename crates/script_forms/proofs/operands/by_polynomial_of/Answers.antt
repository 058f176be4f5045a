use Rattle.std.proofs.Common.{List, sym, ◌≡◌, ◌∙◌, ℕ}
use Rattle.std.proofs.lemmas.Bool.{false≢true}
use Rattle.poly_grammar.specs.Numerals.{text_of}
use Rattle.script_forms.specs.Written.{operation_text, polynomial_word}
use Rattle.script_forms.specs.declared.operands.ByPolynomial.{ByPolynomial}
use Rattle.script_forms.specs.declared.operands.ByPolynomial.TheVariants.{Quotient, Saturate}
use Rattle.script_forms.proofs.operands.by_polynomial_of.Goals as goal

-- no word is the text where none of the 2 is
is_none : (text : List ℕ) → (text ≡ operation_text (polynomial_word Quotient) → ⊥) → (text ≡ operation_text (polynomial_word Saturate) → ⊥)
    → (word : ByPolynomial) → text ≡ operation_text (polynomial_word word) → ⊥
is_none text not_quotient _ Quotient = not_quotient
is_none text _ not_saturate Saturate = not_saturate

pub returns-then-is_word-clause-found : goal.returns-then-is_word-clause-found
returns-then-is_word-clause-found c = c.is_word.ensures.name.0 c.if-is_word.true

pub returns-then-is_word-clause-none : goal.returns-then-is_word-clause-none
returns-then-is_word-clause-none c = tt

pub returns-then-is_word-2-clause-found : goal.returns-then-is_word-2-clause-found
returns-then-is_word-2-clause-found c = c.is_word-else-is_word.ensures.name.0 c.if-is_word-2.true

pub returns-then-is_word-2-clause-none : goal.returns-then-is_word-2-clause-none
returns-then-is_word-2-clause-none c = tt

pub returns-else-is_word-2-clause-found : goal.returns-else-is_word-2-clause-found
returns-else-is_word-2-clause-found c = tt

pub returns-else-is_word-2-clause-none : goal.returns-else-is_word-2-clause-none
returns-else-is_word-2-clause-none c = λ word is_name. is_none (text_of c.args.line.now c.args.token)
    (λ same. false≢true (sym c.if-is_word.false ∙ c.is_word.ensures.name.1 (is_name, same)))
    (λ same. false≢true (sym c.if-is_word-2.false ∙ c.is_word-else-is_word.ensures.name.1 (is_name, same)))
    word
