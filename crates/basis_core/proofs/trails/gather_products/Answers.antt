use Rattle.std.proofs.Common.{List, ap, ◌++◌, ◌∙◌}
use Rattle.module_vectors.specs.Trails.{KeptProduct}
use Rattle.basis_core.proofs.trails.gather_products.Goals as goal

pub returns : goal.returns
returns c =
    c.in_ok-push_products-2.ensures ∙ ap (λ (l : List KeptProduct). l ++ c.args.taken.now)
    (c.in_ok-push_products.ensures ∙ ap (λ (l : List KeptProduct). l ++ c.args.products.now) c.new-all.ensures.items)
