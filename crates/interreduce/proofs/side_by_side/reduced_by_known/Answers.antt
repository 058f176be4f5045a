use Rattle.std.proofs.Common.{sym, ◌∙◌}
use Rattle.rayon.proofs.ListFacts.{IfOk-then}
use Rattle.rayon.proofs.ToStd.{slice-AllZip}
use Rattle.interreduce.specs.Members.{ReducesTail}
use Rattle.interreduce.proofs.Gathering.{gathered_tails}
use Rattle.interreduce.proofs.side_by_side.reduced_by_known.Goals as goal

pub returns : goal.returns
returns g c =
    let ring = g.F.Frame.over c.args.frame.now in
    let compare = g.F.Frame.compare c.args.frame.now in
    let list = g.L.Vectors.listed c.args.list.now in
    let h = rw (c.map.ensures.base, c.map.ensures.f, c.with_min_len.ensures.base) at c.in_ok-answers.ensures in
    let chain = h.1 in
    let each = slice-AllZip chain.0 c.args.indices.now (chain.1 ∙ c.par_iter.ensures) (ReducesTail ring compare list c.args.known.now) h.0 chain.2 in
    IfOk-then c.all_or_first_refusal.result _ _ c.all_or_first_refusal.ensures.all
    (λ members all. gathered_tails ring compare list c.args.known.now c.args.indices.now h.0 each members.items (sym h.2 ∙ all))
