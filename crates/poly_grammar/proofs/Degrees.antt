-- Formal degrees: what the stack leaves, and their bound
use Rattle.std.proofs.Common.{◌≡◌, ℕ, ◌+◌, ◌*◌, ◌≤◌, max, cond, nat_le, Bool, true, false, List, Option, Some, None, Result, Ok, Err, IfOk, IfSome, refl, ap, subst, ◌∙◌, arith}
use Rattle.std.proofs.lemmas.Bool.{leb-true}
use Rattle.std.specs.declared.alloc.AllocError.{AllocError}
use Rattle.script_tokens.specs.declared.token.Token.{Token}
use Rattle.poly_grammar.specs.declared.step.PolyStep.{PolyStep}
use Rattle.poly_grammar.specs.Algebras.{◌>>=◌, worth_of_steps, worth, terms_worth, term_worth, factors_worth, factor_worth, atom_worth, signed}
use Rattle.poly_grammar.specs.Degrees.{bounded, degrees, formal_degree}
use Rattle.poly_grammar.specs.Steps.{steps}
use Rattle.poly_grammar.specs.Trees.{Lead, bare, positive, negative, Poly, poly, Terms, last, plus_term, minus_term, TermTree, term, Factors, alone, times, Factor, plain, power, Atom, numeral, letter, group}
use Rattle.poly_grammar.proofs.Worths.{worth_is_left}

pub as_degree : (weight value : Token → ℕ) (xs : List PolyStep) (r : Result (Option ℕ) AllocError) → IfOk r (λ found. found ≡ worth_of_steps (degrees weight value) xs) → (p : Poly) → xs ≡ steps p → IfOk r (λ found. found ≡ formal_degree weight value p)
as_degree weight value xs (Ok found) h p e = h ∙ ap (worth_of_steps (degrees weight value)) e ∙ worth_is_left (degrees weight value) p
as_degree weight value xs (Err x) h p e = tt

abbrev Small : Option ℕ → Type 0
Small o = IfSome o (λ d. d ≤ 1000)

bounded_small : (n : ℕ) → Small (bounded n)
bounded_small n = by_test (nat_le n 1000) refl
  where
    by_test : (t : Bool) → nat_le n 1000 ≡ t → Small (cond t (Some n) None)
    by_test true e = leb-true n 1000 e
    by_test false e = tt

-- a degree and what is made of it
next_small : (o : Option ℕ) (f : ℕ → Option ℕ) → Small o → ((d : ℕ) → d ≤ 1000 → Small (f d)) → Small (o >>= f)
next_small None f s h = tt
next_small (Some d) f s h = h d s

greatest_small : (d e : ℕ) → d ≤ 1000 → e ≤ 1000 → max d e ≤ 1000
greatest_small d e p q = omega arith

module _ (weight value : Token → ℕ) where
  signed_small : (sign : Lead) (d : ℕ) → d ≤ 1000 → Small (signed (degrees weight value) sign d)
  signed_small bare d h = h
  signed_small positive d h = h
  signed_small negative d h = h

mutual
  poly_small : (weight value : Token → ℕ) (p : Poly) → Small (worth (degrees weight value) p)
  poly_small weight value (poly sign t ts) = next_small (term_worth (degrees weight value) t) _ (term_small weight value t) (λ d h. next_small (signed (degrees weight value) sign d) _ (signed_small weight value sign d h) (λ e k. terms_small weight value e k ts))

  terms_small : (weight value : Token → ℕ) (d : ℕ) → d ≤ 1000 → (ts : Terms) → Small (terms_worth (degrees weight value) d ts)
  terms_small weight value d h last = h
  terms_small weight value d h (plus_term t ts) = next_small (term_worth (degrees weight value) t) _ (term_small weight value t) (λ e k. terms_small weight value (max d e) (greatest_small d e h k) ts)
  terms_small weight value d h (minus_term t ts) = next_small (term_worth (degrees weight value) t) _ (term_small weight value t) (λ e k. terms_small weight value (max d e) (greatest_small d e h k) ts)

  term_small : (weight value : Token → ℕ) (t : TermTree) → Small (term_worth (degrees weight value) t)
  term_small weight value (term f fs) = next_small (factor_worth (degrees weight value) f) _ (factor_small weight value f) (λ d h. factors_small weight value d h fs)

  factors_small : (weight value : Token → ℕ) (d : ℕ) → d ≤ 1000 → (fs : Factors) → Small (factors_worth (degrees weight value) d fs)
  factors_small weight value d h alone = h
  factors_small weight value d h (times f fs) = next_small (factor_worth (degrees weight value) f) _ (factor_small weight value f) (λ e k. next_small (bounded (d + e)) _ (bounded_small (d + e)) (λ s l. factors_small weight value s l fs))

  factor_small : (weight value : Token → ℕ) (f : Factor) → Small (factor_worth (degrees weight value) f)
  factor_small weight value (plain a) = atom_small weight value a
  factor_small weight value (power a exponent) = next_small (atom_worth (degrees weight value) a) _ (atom_small weight value a) (λ d h. bounded_small (d * value exponent))

  atom_small : (weight value : Token → ℕ) (a : Atom) → Small (atom_worth (degrees weight value) a)
  atom_small weight value (numeral token) = omega arith
  atom_small weight value (letter token) = bounded_small (weight token)
  atom_small weight value (group p) = poly_small weight value p

pub degree_is_small : (weight value : Token → ℕ) (p : Poly) (d : ℕ) → formal_degree weight value p ≡ Some d → d ≤ 1000
degree_is_small weight value p d e = subst Small e (poly_small weight value p)
