use Rattle.poly_text.proofs.Values.{list_injective}
use Rattle.poly_text.proofs.text_laws.lists.Goals as goal

pub returns : goal.returns
returns c = list_injective
