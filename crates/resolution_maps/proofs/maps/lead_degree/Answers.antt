use Rattle.resolution_maps.proofs.Joining.{degree_of_lead, degree_of_zero, if_more}
use Rattle.resolution_maps.proofs.maps.lead_degree.Goals as goal

pub returns-in-Some : goal.returns-in-Some
returns-in-Some c =
    let v = c.args.v.now in
    if_more _ _ c.narrow_sum.result
    (λ d e. degree_of_lead c.args.ring.now c.args.rows.now v c.in-Some.lead.key.now c.in-Some.lead.residue c.in-Some.ensures.0 c.row_degree.result c.degree.result d c.in-Some.ensures.1 c.requires c.row_degree.ensures c.degree.ensures.value e)
    c.narrow_sum.ensures

pub returns-in-None : goal.returns-in-None
returns-in-None c = degree_of_zero c.args.ring.now c.args.rows.now c.args.v.now c.row_degree-in-None.result c.in-None.ensures c.row_degree-in-None.ensures
