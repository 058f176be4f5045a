use Rattle.std.proofs.Common.{sym, ◌∙◌}
use Rattle.rayon.proofs.ListFacts.{IfOk-then}
use Rattle.rayon.proofs.ToStd.{slice-AllZip}
use Rattle.interreduce.specs.Members.{ReducesMember}
use Rattle.interreduce.proofs.Gathering.{gathered, stops_at_first}
use Rattle.interreduce.proofs.side_by_side.reduced_side_by_side.Goals as goal

pub returns-clause-reduced : goal.returns-clause-reduced
returns-clause-reduced g c =
    let ring = g.F.Frame.over c.args.frame.now in
    let compare = g.F.Frame.compare c.args.frame.now in
    let list = g.L.Vectors.listed c.args.list.now in
    let h = rw (c.map.ensures.base, c.map.ensures.f, c.with_min_len.ensures.base) at c.in_ok-answers.ensures in
    let chain = h.1 in
    let each = slice-AllZip chain.0 c.args.indices.now (chain.1 ∙ c.par_iter.ensures) (ReducesMember ring compare list) h.0 chain.2 in
    IfOk-then c.all_or_first_refusal.result _ _ c.all_or_first_refusal.ensures.all
    (λ members all. gathered ring compare list c.args.indices.now h.0 each members.items (sym h.2 ∙ all))

pub returns-clause-stop : goal.returns-clause-stop
returns-clause-stop g c =
    let ring = g.F.Frame.over c.args.frame.now in
    let compare = g.F.Frame.compare c.args.frame.now in
    let list = g.L.Vectors.listed c.args.list.now in
    let h = rw (c.map.ensures.base, c.map.ensures.f, c.with_min_len.ensures.base) at c.in_ok-answers.ensures in
    let chain = h.1 in
    let each = slice-AllZip chain.0 c.args.indices.now (chain.1 ∙ c.par_iter.ensures) (ReducesMember ring compare list) h.0 chain.2 in
    stops_at_first ring compare list c.args.indices.now h.0 each c.in_ok-answers.answers.items h.2 c.all_or_first_refusal.result c.all_or_first_refusal.ensures.stop
