use Rattle.ext_laws.proofs.Units.{units_basis, whole_from, whole_to}
use Rattle.ext_laws.proofs.presentations.whole_modules.Goals as goal

pub returns : goal.returns
returns c = record {
  members = λ n p m v. (whole_to p m v, whole_from p m v);
  basis = λ n S lawful descending. units_basis S lawful descending;
}
