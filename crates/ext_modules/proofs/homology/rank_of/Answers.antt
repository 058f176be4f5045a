use Rattle.std.proofs.Common.{arith, map, sym, ◌<◌, ◌∙◌}
use Rattle.resolution_maps.specs.Inducing.{Columns}
use Rattle.resolution_maps.specs.declared.maps.Map.{Map}
use Rattle.ext_modules.proofs.Steps.{rank_before}
use Rattle.ext_modules.proofs.homology.rank_of.Goals as goal

pub returns-clause-value : goal.returns-clause-value
returns-clause-value c =
    let M : Columns = map (λ (m : Map). m.columns) c.args.maps.now in
    let some : 0 < c.args.k = omega (arith, c.if-k-eq0.false) in
    c.in_ok-count.ensures.value ∙ sym (rank_before c.args.rank M c.args.k some)
