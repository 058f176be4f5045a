use Rattle.syzygy_laws.proofs.KernelParts.{kernel_all, kernel_inside}
use Rattle.syzygy_laws.proofs.Kernels.{IsGroebnerBasis_lowered, IsSyzygy_lowered, syzygy_covered, syzygy_generated}
use Rattle.syzygy_laws.specs.Kernels.{kernel_of}
use Rattle.std.proofs.Common.{length, ◌+◌}
use Rattle.syzygy_laws.proofs.kernel_laws.marked_basis.Goals as goal

pub returns : goal.returns
returns c = record {
  syzygies = λ n p m ws monomials F G i ranks basis domain h.
      IsSyzygy_lowered p m ws monomials F G (kernel_of m G) domain basis (kernel_inside m G) ranks i h;
  covers = λ n p m ws monomials F G a k domain order list normal basis s lead.
      syzygy_covered p m ws monomials F G (kernel_of m G) domain basis list (kernel_all m G p (m + length F) ws monomials domain order normal) a k s lead;
  basis = λ n p m ws monomials F G domain order ranks list normal basis.
      IsGroebnerBasis_lowered p m ws monomials F G (kernel_of m G) domain basis list
      (kernel_all m G p (m + length F) ws monomials domain order normal) (kernel_inside m G) ranks;
  generate = λ n p m ws monomials F G a domain order ranks list normal basis s.
      syzygy_generated p m ws monomials F G (kernel_of m G) domain basis list
      (kernel_all m G p (m + length F) ws monomials domain order normal) (kernel_inside m G) ranks order a s;
}
