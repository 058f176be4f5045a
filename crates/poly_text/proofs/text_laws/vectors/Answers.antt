use Rattle.poly_text.proofs.Values.{vector_injective}
use Rattle.poly_text.proofs.text_laws.vectors.Goals as goal

pub returns : goal.returns
returns c = vector_injective
