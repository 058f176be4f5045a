use Rattle.std.proofs.Common.{List, ap, map, subst, sym, ◌++◌, ◌<◌, ◌∙◌}
use Rattle.module_vectors.specs.Trails.{KeptProduct}
use Rattle.std.proofs.lemmas.List.{length-map}
use Rattle.basis_core.specs.Rows.{vectors_in}
use Rattle.vector_division.specs.Divisions.{DivisionStops}
use Rattle.vector_division.specs.Reductions.{unscaled}
use Rattle.s_vectors.proofs.Stopping.{division_chain}
use Rattle.s_vectors.proofs.division.stop_of_division.Goals as goal

pub returns-in-Ok : goal.returns-in-Ok
returns-in-Ok c = λ ring ms k v some h keys d.
    rw c.into_chain-products.ensures.last
    (division_chain ring ms k v (map unscaled c.args.parts.items) c.in-Degree.trail c.in-Ok.products.items
    (subst (λ l. 0 < l) (sym (length-map c.args.parts.items unscaled)) some) h keys
    (subst (DivisionStops ring v (vectors_in ms)) c.in-Degree.is d)
    (c.in-Ok.ensures ∙ ap (λ (l : List KeptProduct). map unscaled c.args.parts.items ++ l)
    (λ i. (c.into_chain-products.ensures.products i).items)))
