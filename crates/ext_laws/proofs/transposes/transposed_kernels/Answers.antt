use Rattle.ext_laws.proofs.Kernels.{kernel_from, kernel_to}
use Rattle.ext_laws.proofs.transposes.transposed_kernels.Goals as goal

pub returns : goal.returns
returns c = λ n p m C v pos ranks. (kernel_to m C ranks v, kernel_from m C ranks v)
