use Rattle.std.proofs.Common.{arith, length, refl, ◌+◌, ◌<◌}
use Rattle.syzygy_laws.proofs.KernelParts.{kernel_inside}
use Rattle.syzygy_laws.proofs.Kernels.{IsCovered_raised}
use Rattle.syzygy_laws.proofs.LiftingByMarks.{HasFreeTerms_lowered, IsNormal_lowered, lift_cofactors, normal_form_raised}
use Rattle.syzygy_laws.specs.Kernels.{kernel_of, pot_setting}
use Rattle.syzygy_laws.proofs.kernel_laws.lifts_by_marks.Goals as goal

pub returns : goal.returns
returns c = record {
  member = λ n p m ws monomials F G v w domain order basis inside normal free member. normal_form_raised p m ws monomials F G domain order basis v w inside normal free member;
  cofactors = λ n p m F v b domain ranks rv member. lift_cofactors p m F v b (let h : 1 < p = domain.above_one in omega arith) ranks rv member;
  normal = λ n p m r s ws monomials b h. IsNormal_lowered p m r s ws monomials b h;
  free = λ n p m ws monomials F G b domain list h.
      HasFreeTerms_lowered (pot_setting ws p (m + length F) monomials) (pot_setting ws p (length F) monomials) m G (kernel_of m G) refl
      (IsCovered_raised p m ws monomials F G (kernel_of m G) domain list (kernel_inside m G)) b h;
}
