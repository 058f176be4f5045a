use Rattle.poly_text.proofs.Values.{poly_injective}
use Rattle.poly_text.proofs.text_laws.polynomials.Goals as goal

pub returns : goal.returns
returns c = λ names ws v w hn hv hw e. poly_injective names ws 0 v w hn hv.each hw.each hv.positions hw.positions e
