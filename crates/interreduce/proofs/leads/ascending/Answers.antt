use Rattle.term_lists.specs.Rings.{variables}
use Rattle.interreduce.proofs.Leading.{neither}
use Rattle.interreduce.proofs.leads.ascending.Goals as goal

pub returns-in-None-lead_of-2 : goal.returns-in-None-lead_of-2
returns-in-None-lead_of-2 g c =
    let n = variables (g.F.Frame.over c.args.frame.now) in
    neither n (g.F.Frame.compare c.args.frame.now n) (g.met.F.Frame.laws c.args.frame.now n 0) (g.L.Vectors.listed c.args.list.now) c.args.i c.args.j c.in-None.ensures c.in-None-lead_of-2.ensures
