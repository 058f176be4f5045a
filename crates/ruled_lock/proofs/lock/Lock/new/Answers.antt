use Rattle.std.proofs.Common.{◌∙◌, ◌<◌, subst, sym, List, Option, ap, ◌∷◌, ◌++◌, [], Some}
use Rattle.ruled_lock.specs.Law.{LockKept, opener}
use Rattle.atomic_table.specs.Table.{opening}
use Rattle.ruled_lock.proofs.Steps.{opens}
use Rattle.ruled_lock.proofs.lock.Lock.new.Goals as goal

pub new-requires : goal.new-requires
new-requires g c =
    let base = g.C.Core.base c.of-key.result.value in
    let same = ap g.C.Core.base c.of-key.ensures in
    subst (λ (xs : List (Option g.row.C.Denot)). LockKept g.C.Core.base g.C.Core.log g.C.Core.by g.C.Core.workers base (opening (0 ∷ 0 ∷ []) xs (opener g.C.Core.workers base)))
    (sym (c.push_reserved.ensures.items ∙ ap (λ (l : List (Option g.row.C.Denot)). l ++ Some c.args.core ∷ []) c.in-Ok.ensures.items))
    (opens g.C.Core.base g.C.Core.log g.C.Core.by g.C.Core.workers base c.args.core c.requires.empty (sym same) (subst (λ (b : g.row.B.Denot). 0 < g.C.Core.workers b) (sym same) c.requires.workers))
