use Rattle.std.proofs.Common.{ap, arith, cond, false, get_or, length, length-set, nat_eq, sym, ◌%◌, ◌*◌, ◌/◌, ◌<◌, ◌==◌, ◌∙◌}
use Rattle.std.specs.Int.{bit_at}
use Rattle.std.proofs.lemmas.List.{get_or_read}
use Rattle.pair_queue.proofs.Words.{flag_put, length-flags_of}
use Rattle.pair_queue.specs.Rows.{FlagRowShown}
use Rattle.pair_queue.proofs.row.Row.put.Goals as goal

pub index-requires : goal.index-requires
index-requires c = omega (
  arith,
  c.requires,
  ap (λ (r : FlagRowShown). length r.flags) c.self.view_is,
  length-flags_of c.self.inside.words.items,
  c.self.inside.words.ok,
)

pub index_mut-requires : goal.index_mut-requires
index_mut-requires c = omega (
  arith,
  c.requires,
  ap (λ (r : FlagRowShown). length r.flags) c.self.view_is,
  length-flags_of c.self.inside.words.items,
  c.self.inside.words.ok,
)

pub returns-clause-width : goal.returns-clause-width
returns-clause-width c =
    let words = c.self.inside.words.items in
    length-flags_of _ ∙ ap (λ k. 64 * k) (length-set words (c.args.index / 64) c.with_flag.result) ∙ sym (length-flags_of words)
    ∙ ap (λ (r : FlagRowShown). length r.flags) c.self.view_is

pub returns-clause-has : goal.returns-clause-has
returns-clause-has c = λ i.
    let words = c.self.inside.words.items in
    let n = c.args.index in
    let within : n / 64 < length words = omega (arith, c.requires, ap (λ (r : FlagRowShown). length r.flags) c.self.view_is, length-flags_of words) in
    flag_put words n c.with_flag.result c.args.set within
    (λ r l. c.with_flag.ensures r l ∙ ap (λ w. cond (nat_eq r (n % 64)) c.args.set (bit_at w r == 1))
    (get_or_read words (n / 64) c.index.result.now within c.index.ensures 0)) i
    ∙ ap (λ (r : FlagRowShown). cond (nat_eq i n) c.args.set (get_or r.flags i false)) c.self.view_is
