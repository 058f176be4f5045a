-- What is spelled so is read, as the actions of its tree.
use Rattle.std.proofs.Common.{◌≡◌, Bool, true, false, List, [], ◌∷◌, ◌++◌, Some, refl, sym, ap, ◌∙◌, append_assoc}
use Rattle.std.proofs.lemmas.List.{append-nil}
use Rattle.poly_grammar.specs.declared.reader.Phase.{Phase}
use Rattle.poly_grammar.specs.declared.reader.Phase.TheVariants.{Start, Operand, Base, Exponent}
use Rattle.poly_grammar.specs.declared.reader.Phase.TheVariants as phases
use Rattle.poly_grammar.specs.declared.reader.Sum.{Sum}
use Rattle.poly_grammar.specs.declared.reader.Sum.TheVariants as sums
use Rattle.poly_grammar.specs.declared.reader.Pending.{Pending}
use Rattle.poly_grammar.specs.Lexemes.{Lexeme, caret, closed, minus, number, plus, star}
use Rattle.poly_grammar.specs.Trees.{Atom, Factor, Factors, Poly, TermTree, Terms, alone, atom_spelling, bare, factor_spelling, factors_spelling, group, last, letter, minus_term, negative, numeral, plain, plus_term, poly, positive, power, spelling, term, term_spelling, terms_spelling, times}
use Rattle.poly_grammar.specs.declared.step.PolyStep.{PolyStep}
use Rattle.poly_grammar.specs.declared.step.PolyStep.TheVariants.{Power}
use Rattle.poly_grammar.specs.Steps.{steps, terms_steps, term_steps, factors_steps, factor_steps, atom_steps}
use Rattle.poly_grammar.specs.Reading.{ParserState, outcome, after_product, after_sum, start_state}

-- no * and no ^ stands at the front
abbrev pub Ends : List Lexeme → Type 0
Ends [] = Unit {0}
Ends (star ∷ xs) = ⊥
Ends (caret ∷ xs) = ⊥
Ends (_ ∷ xs) = Unit {0}

abbrev pub NoPower : List Lexeme → Type 0
NoPower [] = Unit {0}
NoPower (caret ∷ xs) = ⊥
NoPower (_ ∷ xs) = Unit {0}

abbrev at : Phase → Sum → Bool → List Pending → List PolyStep → ParserState
at phase sum product outer done = record { phase = phase; pending = record { sum = sum; product = product }; outer = outer; done = done }

pub no_power : (xs : List Lexeme) → Ends xs → NoPower xs
no_power [] e = tt
no_power (star ∷ xs) e = tt
no_power (caret ∷ xs) e = absurd e
no_power (_ ∷ xs) e = tt

pub no_power_factors : (fs : Factors) (xs : List Lexeme) → Ends xs → NoPower (factors_spelling fs ++ xs)
no_power_factors alone xs e = no_power xs e
no_power_factors (times f fs) xs e = tt

ends_terms : (ts : Terms) (xs : List Lexeme) → Ends xs → Ends (terms_spelling ts ++ xs)
ends_terms last xs e = e
ends_terms (plus_term t ts) xs e = tt
ends_terms (minus_term t ts) xs e = tt

module _ (sum : Sum) (outer : List Pending) (done : List PolyStep) where
  base_ended : (product : Bool) (xs : List Lexeme) → NoPower xs → outcome xs (at Base sum product outer done) ≡ outcome xs (at phases.Factor sum product outer done)
  base_ended product [] e = refl
  base_ended product (caret ∷ xs) e = absurd e
  base_ended product (_ ∷ xs) e = refl

product_ended : (sum : Sum) (outer : List Pending) (done : List PolyStep) (product : Bool) (xs : List Lexeme) → Ends xs → outcome xs (at phases.Factor sum product outer done) ≡ outcome xs (at phases.Factor sum false outer (done ++ after_product product))
product_ended sum [] done product [] e = simp append-nil
product_ended sum (o ∷ os) done product [] e = refl
product_ended sum outer done product (star ∷ xs) e = absurd e
product_ended sum outer done product (caret ∷ xs) e = absurd e
product_ended sum outer done product (plus ∷ xs) e = simp append-nil
product_ended sum outer done product (minus ∷ xs) e = simp append-nil
product_ended sum [] done product (closed ∷ xs) e = refl
product_ended sum (o ∷ os) done product (closed ∷ xs) e = simp append-nil
product_ended sum outer done product (_ ∷ xs) e = refl

sum_ended : (sum : Sum) (outer : List Pending) (done : List PolyStep) (xs : List Lexeme) → Ends xs → outcome xs (at phases.Factor sum false outer done) ≡ outcome xs (at phases.Factor sums.Nothing false outer (done ++ after_sum sum))
sum_ended sum [] done [] e = simp append-nil
sum_ended sum (o ∷ os) done [] e = refl
sum_ended sum outer done (star ∷ xs) e = absurd e
sum_ended sum outer done (caret ∷ xs) e = absurd e
sum_ended sum outer done (plus ∷ xs) e = simp append-nil
sum_ended sum outer done (minus ∷ xs) e = simp append-nil
sum_ended sum [] done (closed ∷ xs) e = refl
sum_ended sum (o ∷ os) done (closed ∷ xs) e = simp append-nil
sum_ended sum outer done (_ ∷ xs) e = refl

regroup : (a b xs : List Lexeme) (s : ParserState) → outcome ((a ++ b) ++ xs) s ≡ outcome (a ++ (b ++ xs)) s
regroup a b xs s = ap (λ l. outcome l s) (append_assoc a b xs)

bare_is_operand : (t : TermTree) (xs : List Lexeme) (outer : List Pending) (done : List PolyStep) → outcome (term_spelling t ++ xs) (at Start sums.Nothing false outer done) ≡ outcome (term_spelling t ++ xs) (at Operand sums.Nothing false outer done)
bare_is_operand (term (plain (numeral d)) fs) xs outer done = refl
bare_is_operand (term (plain (letter d)) fs) xs outer done = refl
bare_is_operand (term (plain (group d)) fs) xs outer done = refl
bare_is_operand (term (power (numeral d) e) fs) xs outer done = refl
bare_is_operand (term (power (letter d) e) fs) xs outer done = refl
bare_is_operand (term (power (group d) e) fs) xs outer done = refl

mutual
  poly_is_read : (p : Poly) (outer : List Pending) (done : List PolyStep) (xs : List Lexeme) → Ends xs
      → outcome (spelling p ++ xs) (at Start sums.Nothing false outer done) ≡ outcome xs (at phases.Factor sums.Nothing false outer (done ++ steps p))
  poly_is_read (poly bare t ts) outer done xs e = regroup (term_spelling t) (terms_spelling ts) xs _ ∙ bare_is_operand t _ outer done ∙ term_is_read t sums.Nothing outer done (terms_spelling ts ++ xs) (ends_terms ts xs e) ∙ terms_are_read ts outer _ xs e ∙ ap (λ d. outcome xs (at phases.Factor sums.Nothing false outer d)) (simp (append_assoc, append-nil))
  poly_is_read (poly positive t ts) outer done xs e = regroup (term_spelling t) (terms_spelling ts) xs _ ∙ term_is_read t sums.Nothing outer done (terms_spelling ts ++ xs) (ends_terms ts xs e) ∙ terms_are_read ts outer _ xs e ∙ ap (λ d. outcome xs (at phases.Factor sums.Nothing false outer d)) (simp (append_assoc, append-nil))
  poly_is_read (poly negative t ts) outer done xs e = regroup (term_spelling t) (terms_spelling ts) xs _ ∙ term_is_read t sums.Negation outer done (terms_spelling ts ++ xs) (ends_terms ts xs e) ∙ terms_are_read ts outer _ xs e ∙ ap (λ d. outcome xs (at phases.Factor sums.Nothing false outer d)) (simp (append_assoc, append-nil))

  terms_are_read : (ts : Terms) (outer : List Pending) (done : List PolyStep) (xs : List Lexeme) → Ends xs
      → outcome (terms_spelling ts ++ xs) (at phases.Factor sums.Nothing false outer done) ≡ outcome xs (at phases.Factor sums.Nothing false outer (done ++ terms_steps ts))
  terms_are_read last outer done xs e = ap (λ d. outcome xs (at phases.Factor sums.Nothing false outer d)) (sym (append-nil done))
  terms_are_read (plus_term t ts) outer done xs e = regroup (term_spelling t) (terms_spelling ts) xs _ ∙ term_is_read t sums.Addition outer ((done ++ []) ++ []) (terms_spelling ts ++ xs) (ends_terms ts xs e) ∙ terms_are_read ts outer _ xs e ∙ ap (λ d. outcome xs (at phases.Factor sums.Nothing false outer d)) (simp (append_assoc, append-nil))
  terms_are_read (minus_term t ts) outer done xs e = regroup (term_spelling t) (terms_spelling ts) xs _ ∙ term_is_read t sums.Subtraction outer ((done ++ []) ++ []) (terms_spelling ts ++ xs) (ends_terms ts xs e) ∙ terms_are_read ts outer _ xs e ∙ ap (λ d. outcome xs (at phases.Factor sums.Nothing false outer d)) (simp (append_assoc, append-nil))

  -- a term behind its sign
  term_is_read : (t : TermTree) (sum : Sum) (outer : List Pending) (done : List PolyStep) (xs : List Lexeme) → Ends xs
      → outcome (term_spelling t ++ xs) (at Operand sum false outer done) ≡ outcome xs (at phases.Factor sums.Nothing false outer ((done ++ term_steps t) ++ after_sum sum))
  term_is_read (term f fs) sum outer done xs e = regroup (factor_spelling f) (factors_spelling fs) xs _ ∙ factor_is_read f sum false outer done (factors_spelling fs ++ xs) (no_power_factors fs xs e) ∙ factors_are_read fs sum false outer _ xs e ∙ sum_ended sum outer _ xs e ∙ ap (λ d. outcome xs (at phases.Factor sums.Nothing false outer d)) (simp (append_assoc, append-nil))

  factors_are_read : (fs : Factors) (sum : Sum) (product : Bool) (outer : List Pending) (done : List PolyStep) (xs : List Lexeme) → Ends xs
      → outcome (factors_spelling fs ++ xs) (at phases.Factor sum product outer done) ≡ outcome xs (at phases.Factor sum false outer ((done ++ after_product product) ++ factors_steps fs))
  factors_are_read alone sum product outer done xs e = product_ended sum outer done product xs e ∙ ap (λ d. outcome xs (at phases.Factor sum false outer d)) (sym (append-nil (done ++ after_product product)))
  factors_are_read (times f fs) sum product outer done xs e = regroup (factor_spelling f) (factors_spelling fs) xs _ ∙ factor_is_read f sum true outer (done ++ after_product product) (factors_spelling fs ++ xs) (no_power_factors fs xs e) ∙ factors_are_read fs sum true outer _ xs e ∙ ap (λ d. outcome xs (at phases.Factor sum false outer d)) (simp append_assoc)

  factor_is_read : (f : Factor) (sum : Sum) (product : Bool) (outer : List Pending) (done : List PolyStep) (xs : List Lexeme) → NoPower xs
      → outcome (factor_spelling f ++ xs) (at Operand sum product outer done) ≡ outcome xs (at phases.Factor sum product outer (done ++ factor_steps f))
  factor_is_read (plain a) sum product outer done xs e = atom_is_read a sum product outer done xs ∙ base_ended sum outer _ product xs e
  factor_is_read (power a exponent) sum product outer done xs e = regroup (atom_spelling a) (caret ∷ number exponent ∷ []) xs _ ∙ atom_is_read a sum product outer done (caret ∷ number exponent ∷ xs) ∙ ap (λ d. outcome xs (at phases.Factor sum product outer d)) (append_assoc done (atom_steps a) (Power exponent ∷ []))

  atom_is_read : (a : Atom) (sum : Sum) (product : Bool) (outer : List Pending) (done : List PolyStep) (xs : List Lexeme)
      → outcome (atom_spelling a ++ xs) (at Operand sum product outer done) ≡ outcome xs (at Base sum product outer (done ++ atom_steps a))
  atom_is_read (numeral digits) sum product outer done xs = refl
  atom_is_read (letter text) sum product outer done xs = refl
  atom_is_read (group p) sum product outer done xs = regroup (spelling p) (closed ∷ []) xs _ ∙ poly_is_read p (record { sum = sum; product = product } ∷ outer) done (closed ∷ xs) tt ∙ ap (λ d. outcome xs (at Base sum product outer d)) (simp append-nil)

-- what is spelled so is read
pub spelling_is_read : (p : Poly) → outcome (spelling p) start_state ≡ Some (steps p)
spelling_is_read p = ap (λ xs. outcome xs start_state) (sym (append-nil (spelling p))) ∙ poly_is_read p [] [] [] tt ∙ ap Some (simp append-nil)
