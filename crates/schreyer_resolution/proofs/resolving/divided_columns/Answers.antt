use Rattle.std.proofs.Common.{arith, length, subst, subst₂, sym, ◌+◌, ◌≡◌}
use Rattle.term_lists.specs.Rings.{variables}
use Rattle.term_lists.specs.Vectors.{IsMonomialOver, sums_of}
use Rattle.induced_leads.proofs.LeastLeads.{each_at}
use Rattle.schreyer_resolution.specs.Columns.{AreColumnsTo}
use Rattle.schreyer_resolution.proofs.FirstMaps.{columns_next, pair_at}
use Rattle.schreyer_resolution.proofs.Starting.{columns_none}
use Rattle.schreyer_resolution.proofs.resolving.divided_columns.Goals as goal

pub column-requires-clause-pair : goal.column-requires-clause-pair
column-requires-clause-pair g c =
    let n = variables (g.F.Frame.over c.args.frame.now) in
    pair_at n (sums_of n c.args.columns.now) c.args.keys.now c.loop-key.key-index c.key-item.result c.requires.pairs (omega arith) c.key-item.is

pub column-requires-clause-monomial : goal.column-requires-clause-monomial
column-requires-clause-monomial g c = each_at (λ k. IsMonomialOver (g.F.Frame.over c.args.frame.now) k.monomial) c.args.keys.now c.key-item.result c.requires.monomials (c.loop-key.key-index, omega arith, sym c.key-item.is)

pub loop-key-init : goal.loop-key-init
loop-key-init g c =
    let ring = g.F.Frame.over c.args.frame.now in
    let compare = g.F.Frame.compare c.args.frame.now in
    subst (AreColumnsTo ring compare c.args.columns.now c.args.induced.now c.args.keys.now 0) (sym c.new-next.ensures.items)
    (columns_none ring compare c.args.columns.now c.args.induced.now c.args.keys.now)

pub loop-key-preserved : goal.loop-key-preserved
loop-key-preserved g c =
    let ring = g.F.Frame.over c.args.frame.now in
    let compare = g.F.Frame.compare c.args.frame.now in
    subst (AreColumnsTo ring compare c.args.columns.now c.args.induced.now c.args.keys.now (c.loop-key.key-index + 1)) (sym c.in_ok-push.ensures.items)
    (columns_next ring compare c.args.columns.now c.args.induced.now c.args.keys.now c.loop-key.key-index c.loop-key.next.items c.in-Ok.made c.key-item.result c.loop-key.invariant (omega arith) c.key-item.is
    c.in-Ok.ensures.vector c.in-Ok.ensures.positions c.in-Ok.ensures.column)

pub returns-clause-columns : goal.returns-clause-columns
returns-clause-columns g c =
    let ring = g.F.Frame.over c.args.frame.now in
    let compare = g.F.Frame.compare c.args.frame.now in
    let all : c.loop-key.key-index ≡ length c.args.keys.now = omega arith in
    subst₂ (AreColumnsTo ring compare c.args.columns.now c.args.induced.now c.args.keys.now) all (sym c.from_vec.ensures) c.loop-key.invariant

pub column-requires-clause-vectors : goal.column-requires-clause-vectors
column-requires-clause-vectors g c = c.requires.vectors

pub column-requires-clause-base : goal.column-requires-clause-base
column-requires-clause-base g c = c.requires.base

pub column-requires-clause-over : goal.column-requires-clause-over
column-requires-clause-over g c = c.requires.over

pub column-requires-clause-above : goal.column-requires-clause-above
column-requires-clause-above g c = c.requires.above
