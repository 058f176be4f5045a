use Rattle.std.proofs.Common.{subst, ◌++◌, ◌-◌}
use Rattle.monomials.specs.Exponents.{unit}
use Rattle.formal_sums.specs.Combinations.{IsMember}
use Rattle.formal_sums.specs.FormalSums.{scale}
use Rattle.division_laws.proofs.Remainders.{member_of_normal_form, normal_form_of_member}
use Rattle.division_laws.proofs.remainder.membership_test.Goals as goal

pub returns : goal.returns
returns c = λ n S F G v w lawful basis member nw fw. (
  λ a. normal_form_of_member S lawful F G basis v w member nw fw a,
  λ e. member_of_normal_form S lawful F G basis v (subst (λ x. IsMember S.modulus F (v ++ scale (S.modulus - 1) (unit n) x)) e member),
)
