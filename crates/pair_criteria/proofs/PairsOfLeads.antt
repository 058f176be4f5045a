-- The pair of two leads
use Rattle.std.proofs.Common.{List, ap, refl, subst₂, sym, ℕ, ◌≡◌}
use Rattle.monomials.specs.Exponents.{exponents_of, lcm}
use Rattle.monomial_orders.specs.Kept.{Monomial}
use Rattle.monomial_orders.specs.Monomials.{IsMonomial}
use Rattle.term_lists.specs.declared.key.Key.{Key as CodeKey}
use Rattle.pair_criteria.specs.Pairs.{IsPairOfLeads, key_variables, lead_with_index}

-- the least common multiple of two monomials of n variables
abbrev pub IsLcmOf : CodeKey → CodeKey → Monomial → Type 0
IsLcmOf a b m = IsMonomial (key_variables a) (lcm (exponents_of (key_variables a) a.monomial.exponents) (exponents_of (key_variables a) b.monomial.exponents)) m.exponents

abbrev Pairs : List CodeKey → ℕ → ℕ → Monomial → CodeKey → CodeKey → Type 0
Pairs leads i j m a b = a.position ≡ b.position → IsLcmOf a b m → IsPairOfLeads leads i j (record { i = i; j = j; lcm = record { position = a.position; monomial = m } })

-- a and b are the leads, and m is the least common multiple of their monomials
pub pair_is :
    (leads : List CodeKey) (i j : ℕ) (m : Monomial) (a b : CodeKey)
    → a ≡ lead_with_index leads i → b ≡ lead_with_index leads j → a.position ≡ b.position → IsLcmOf a b m
    → IsPairOfLeads leads i j (record { i = i; j = j; lcm = record { position = a.position; monomial = m } })
pair_is leads i j m a b ea eb =
    let start : Pairs leads i j m (lead_with_index leads i) (lead_with_index leads j) = λ e h. record {
      left = refl;
      right = refl;
      together = e;
      variables = h.variables;
      lcm = ap (λ z. ((lead_with_index leads i).position, z)) h.exponents;
    } in
    subst₂ (Pairs leads i j m) (sym ea) (sym eb) start
