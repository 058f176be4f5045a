-- Words and heads that differ, told by numbers
use Rattle.std.proofs.Common.{◌≡◌, ℕ, nat_eq, false, Option, Some, None, sym, ap, ◌∙◌}
use Rattle.std.proofs.lemmas.Bool.{eq-eqb, false≢true}
use Rattle.script_forms.specs.Written.{Word, change_word, division_word, equal_word, express_word, ext_word, ideal_word, let_word, module_word, question_word, ring_word, show_word}
use Rattle.script_forms.specs.declared.form.Head.{Head}
use Rattle.script_forms.specs.declared.form.Head.TheVariants.{Ask, Change, Divide, Equal, Express, Ext, Ideal, Let, Module, Show}

abbrev word_number : Option Word → ℕ
word_number None = 0
word_number (Some ring_word) = 1
word_number (Some show_word) = 2
word_number (Some ideal_word) = 3
word_number (Some module_word) = 4
word_number (Some let_word) = 5
word_number (Some (question_word question)) = 6
word_number (Some (division_word division)) = 7
word_number (Some equal_word) = 8
word_number (Some change_word) = 9
word_number (Some express_word) = 10
word_number (Some ext_word) = 11

-- two words with other numbers are not the same
pub words_apart : {v w : Option Word} → v ≡ w → nat_eq (word_number v) (word_number w) ≡ false → ⊥
words_apart {v} {w} same e = false≢true (sym e ∙ eq-eqb (word_number v) (word_number w) (ap word_number same))

abbrev head_number : Option Head → ℕ
head_number None = 0
head_number (Some Show) = 1
head_number (Some (Ideal given)) = 2
head_number (Some (Module given rank shape)) = 3
head_number (Some (Let given operands)) = 4
head_number (Some (Ask question value)) = 5
head_number (Some (Divide division value)) = 6
head_number (Some (Equal left right)) = 7
head_number (Some (Change value order)) = 8
head_number (Some Express) = 9
head_number (Some (Ext value count)) = 10

-- two heads with other numbers are not the same
pub heads_apart : {g h : Option Head} → g ≡ h → nat_eq (head_number g) (head_number h) ≡ false → ⊥
heads_apart {g} {h} same e = false≢true (sym e ∙ eq-eqb (head_number g) (head_number h) (ap head_number same))
