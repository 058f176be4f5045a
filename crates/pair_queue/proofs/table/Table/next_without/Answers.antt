use Rattle.std.proofs.Common.{arith, false, get_or, ◌<◌}
use Rattle.basis_steps.specs.Pairs.{pair_of}
use Rattle.pair_queue.proofs.MemberRows.{in_row, width_of_row}
use Rattle.pair_queue.proofs.Words.{has_by, none_by}
use Rattle.pair_queue.specs.Tables.{flag}
use Rattle.pair_queue.proofs.table.Table.next_without.Goals as goal

pub next_without-requires-clause-mine : goal.next_without-requires-clause-mine
next_without-requires-clause-mine c = omega (
  arith,
  c.requires.end,
  width_of_row (record { members = c.self.inside.members; rows = c.self.inside.rows.items }) c.args.self.now c.self.invariant c.self.view_is c.args.a
      c.index.result.now c.requires.a c.index.ensures,
)

pub next_without-requires-clause-theirs : goal.next_without-requires-clause-theirs
next_without-requires-clause-theirs c =
    let known : c.args.b < c.args.other.now.members = omega (arith, c.requires.b, c.requires.sizes) in
    omega (
      arith,
      c.requires.end,
      c.requires.sizes,
      width_of_row (record { members = c.other.inside.members; rows = c.other.inside.rows.items }) c.args.other.now c.other.invariant c.other.view_is c.args.b
          c.index-2.result.now known c.index-2.ensures,
    )

pub returns-clause-before : goal.returns-clause-before
returns-clause-before c =
    let known : c.args.b < c.args.other.now.members = omega (arith, c.requires.b, c.requires.sizes) in
    none_by (λ k. get_or c.index.result.now.flags k false) (λ k. get_or c.index-2.result.now.flags k false)
    (λ k. flag c.args.self.now (pair_of c.args.a k)) (λ k. flag c.args.other.now (pair_of c.args.b k)) c.args.from c.next_without.result
    (in_row (record { members = c.self.inside.members; rows = c.self.inside.rows.items }) c.args.self.now c.self.invariant c.self.view_is c.args.a
    c.index.result.now c.requires.a c.index.ensures)
    (in_row (record { members = c.other.inside.members; rows = c.other.inside.rows.items }) c.args.other.now c.other.invariant c.other.view_is c.args.b
    c.index-2.result.now known c.index-2.ensures)
    c.next_without.ensures.before

pub returns-clause-found : goal.returns-clause-found
returns-clause-found c = λ l.
    let known : c.args.b < c.args.other.now.members = omega (arith, c.requires.b, c.requires.sizes) in
    has_by (λ k. get_or c.index.result.now.flags k false) (λ k. get_or c.index-2.result.now.flags k false)
    (λ k. flag c.args.self.now (pair_of c.args.a k)) (λ k. flag c.args.other.now (pair_of c.args.b k)) c.next_without.result
    (in_row (record { members = c.self.inside.members; rows = c.self.inside.rows.items }) c.args.self.now c.self.invariant c.self.view_is c.args.a
    c.index.result.now c.requires.a c.index.ensures)
    (in_row (record { members = c.other.inside.members; rows = c.other.inside.rows.items }) c.args.other.now c.other.invariant c.other.view_is c.args.b
    c.index-2.result.now known c.index-2.ensures)
    (c.next_without.ensures.found l)
