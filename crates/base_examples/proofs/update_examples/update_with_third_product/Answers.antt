use Rattle.base_examples.proofs.ThirdProduct.{third_product}
use Rattle.base_examples.proofs.update_examples.update_with_third_product.Goals as goal

pub returns : goal.returns
returns c = third_product
