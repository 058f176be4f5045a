use Rattle.poly_text.proofs.Values.{number_injective}
use Rattle.poly_text.proofs.text_laws.numbers.Goals as goal

pub returns : goal.returns
returns c = number_injective
