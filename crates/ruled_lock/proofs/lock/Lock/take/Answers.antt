use Rattle.std.proofs.Common.{rules, ap, ◌∙◌}
use Rattle.ruled_lock.specs.Plays.{LockSeat}
use Rattle.ruled_lock.specs.declared.law.View.{View}
use Rattle.ruled_lock.proofs.Steps.{wins}
use Rattle.ruled_lock.proofs.lock.Lock.take.Goals as goal

pub compare_exchange-turn-requires : goal.compare_exchange-turn-requires
compare_exchange-turn-requires g c = let i = c.loop.invariant in let q = c.requires in (
  i.2 ∙ q.0,
  search rules,
  wins _ _ _ _ _ _ _ _ (ap (λ (m : LockSeat g.row.C.Denot g.row.N.Denot g.row.B.Denot). m.1) i.3 ∙ q.1) (ap (λ (m : LockSeat g.row.C.Denot g.row.N.Denot g.row.B.Denot). m.0.live) i.3 ∙ q.2) (ap (λ (m : LockSeat g.row.C.Denot g.row.N.Denot g.row.B.Denot). m.0.turn) i.3 ∙ q.3) (ap (λ (m : LockSeat g.row.C.Denot g.row.N.Denot g.row.B.Denot). m.0.base) i.3 ∙ q.4),
)

pub lift-requires : goal.lift-requires
lift-requires g c = let i = c.loop.invariant in let q = c.requires in let t = c.compare_exchange-turn.ensures.2.0 c.if-turn-eq0.true in (
  t.0,
  (
    c.compare_exchange-turn.ensures.0 ∙ (i.2 ∙ q.0),
    t.1,
    ap (λ (v : View g.row.N.Denot g.row.B.Denot). v.live) t.2 ∙ (ap (λ (m : LockSeat g.row.C.Denot g.row.N.Denot g.row.B.Denot). m.0.live) i.3 ∙ q.2),
    ap (λ (v : View g.row.N.Denot g.row.B.Denot). v.turn) t.2,
    ap (λ (v : View g.row.N.Denot g.row.B.Denot). v.base) t.2 ∙ (ap (λ (m : LockSeat g.row.C.Denot g.row.N.Denot g.row.B.Denot). m.0.base) i.3 ∙ q.4),
  ),
)
