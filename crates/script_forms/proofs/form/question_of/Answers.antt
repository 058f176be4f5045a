use Rattle.std.proofs.Common.{List, sym, ◌≡◌, ◌∙◌, ℕ}
use Rattle.std.proofs.lemmas.Bool.{false≢true}
use Rattle.poly_grammar.specs.Numerals.{text_of}
use Rattle.script_forms.specs.Written.{question_word, word_text}
use Rattle.script_forms.specs.declared.form.QuestionWord.{QuestionWord}
use Rattle.script_forms.specs.declared.form.QuestionWord.TheVariants.{Betti, Gb, Gens, Hilbert, Minimal, Regularity, Resolution, Size}
use Rattle.script_forms.proofs.form.question_of.Goals as goal

-- no word is the text where none of the 8 is
is_none : (text : List ℕ) → (text ≡ word_text (question_word Gens) → ⊥) → (text ≡ word_text (question_word Gb) → ⊥) → (text ≡ word_text (question_word Size) → ⊥) → (text ≡ word_text (question_word Hilbert) → ⊥) → (text ≡ word_text (question_word Resolution) → ⊥) → (text ≡ word_text (question_word Minimal) → ⊥) → (text ≡ word_text (question_word Betti) → ⊥) → (text ≡ word_text (question_word Regularity) → ⊥)
    → (word : QuestionWord) → text ≡ word_text (question_word word) → ⊥
is_none text not_gens _ _ _ _ _ _ _ Gens = not_gens
is_none text _ not_gb _ _ _ _ _ _ Gb = not_gb
is_none text _ _ not_size _ _ _ _ _ Size = not_size
is_none text _ _ _ not_hilbert _ _ _ _ Hilbert = not_hilbert
is_none text _ _ _ _ not_resolution _ _ _ Resolution = not_resolution
is_none text _ _ _ _ _ not_minimal _ _ Minimal = not_minimal
is_none text _ _ _ _ _ _ not_betti _ Betti = not_betti
is_none text _ _ _ _ _ _ _ not_regularity Regularity = not_regularity

pub returns-then-is_word-clause-found : goal.returns-then-is_word-clause-found
returns-then-is_word-clause-found c = c.is_word.ensures.name.0 c.if-is_word.true

pub returns-then-is_word-clause-none : goal.returns-then-is_word-clause-none
returns-then-is_word-clause-none c = tt

pub returns-then-is_word-2-clause-found : goal.returns-then-is_word-2-clause-found
returns-then-is_word-2-clause-found c = c.is_word-else-is_word.ensures.name.0 c.if-is_word-2.true

pub returns-then-is_word-2-clause-none : goal.returns-then-is_word-2-clause-none
returns-then-is_word-2-clause-none c = tt

pub returns-then-is_word-3-clause-found : goal.returns-then-is_word-3-clause-found
returns-then-is_word-3-clause-found c = c.is_word-else-is_word-2.ensures.name.0 c.if-is_word-3.true

pub returns-then-is_word-3-clause-none : goal.returns-then-is_word-3-clause-none
returns-then-is_word-3-clause-none c = tt

pub returns-then-is_word-4-clause-found : goal.returns-then-is_word-4-clause-found
returns-then-is_word-4-clause-found c = c.is_word-else-is_word-3.ensures.name.0 c.if-is_word-4.true

pub returns-then-is_word-4-clause-none : goal.returns-then-is_word-4-clause-none
returns-then-is_word-4-clause-none c = tt

pub returns-then-is_word-5-clause-found : goal.returns-then-is_word-5-clause-found
returns-then-is_word-5-clause-found c = c.is_word-else-is_word-4.ensures.name.0 c.if-is_word-5.true

pub returns-then-is_word-5-clause-none : goal.returns-then-is_word-5-clause-none
returns-then-is_word-5-clause-none c = tt

pub returns-then-is_word-6-clause-found : goal.returns-then-is_word-6-clause-found
returns-then-is_word-6-clause-found c = c.is_word-else-is_word-5.ensures.name.0 c.if-is_word-6.true

pub returns-then-is_word-6-clause-none : goal.returns-then-is_word-6-clause-none
returns-then-is_word-6-clause-none c = tt

pub returns-then-is_word-7-clause-found : goal.returns-then-is_word-7-clause-found
returns-then-is_word-7-clause-found c = c.is_word-else-is_word-6.ensures.name.0 c.if-is_word-7.true

pub returns-then-is_word-7-clause-none : goal.returns-then-is_word-7-clause-none
returns-then-is_word-7-clause-none c = tt

pub returns-then-is_word-8-clause-found : goal.returns-then-is_word-8-clause-found
returns-then-is_word-8-clause-found c = c.is_word-else-is_word-7.ensures.name.0 c.if-is_word-8.true

pub returns-then-is_word-8-clause-none : goal.returns-then-is_word-8-clause-none
returns-then-is_word-8-clause-none c = tt

pub returns-else-is_word-8-clause-found : goal.returns-else-is_word-8-clause-found
returns-else-is_word-8-clause-found c = tt

pub returns-else-is_word-8-clause-none : goal.returns-else-is_word-8-clause-none
returns-else-is_word-8-clause-none c = λ word is_name. is_none (text_of c.args.line.now c.args.token)
    (λ same. false≢true (sym c.if-is_word.false ∙ c.is_word.ensures.name.1 (is_name, same)))
    (λ same. false≢true (sym c.if-is_word-2.false ∙ c.is_word-else-is_word.ensures.name.1 (is_name, same)))
    (λ same. false≢true (sym c.if-is_word-3.false ∙ c.is_word-else-is_word-2.ensures.name.1 (is_name, same)))
    (λ same. false≢true (sym c.if-is_word-4.false ∙ c.is_word-else-is_word-3.ensures.name.1 (is_name, same)))
    (λ same. false≢true (sym c.if-is_word-5.false ∙ c.is_word-else-is_word-4.ensures.name.1 (is_name, same)))
    (λ same. false≢true (sym c.if-is_word-6.false ∙ c.is_word-else-is_word-5.ensures.name.1 (is_name, same)))
    (λ same. false≢true (sym c.if-is_word-7.false ∙ c.is_word-else-is_word-6.ensures.name.1 (is_name, same)))
    (λ same. false≢true (sym c.if-is_word-8.false ∙ c.is_word-else-is_word-7.ensures.name.1 (is_name, same)))
    word
