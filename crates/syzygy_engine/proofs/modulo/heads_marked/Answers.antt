use Rattle.syzygy_engine.proofs.ModuloRuns.{heads_list}
use Rattle.syzygy_engine.proofs.modulo.heads_marked.Goals as goal

pub returns : goal.returns
returns c =
    heads_list c.args.ring.now c.args.rank c.args.heads.now c.in_ok-marked.marked c.args.members c.in_ok-list.list c.in_ok-marked.ensures c.requires.members c.in_ok-list.ensures
