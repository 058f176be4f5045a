use Rattle.std.proofs.Common.{ap, arith, false, get_or, length, sym, ◌%◌, ◌/◌, ◌<◌, ◌==◌, ◌∙◌}
use Rattle.std.specs.Int.{bit_at}
use Rattle.std.proofs.lemmas.List.{get_or_read}
use Rattle.std.proofs.lemmas.Nat.Bits.{shr_and_one}
use Rattle.pair_queue.proofs.Words.{flag_is, length-flags_of}
use Rattle.pair_queue.specs.Rows.{FlagRowShown}
use Rattle.pair_queue.proofs.row.Row.has.Goals as goal

pub index-requires : goal.index-requires
index-requires c = omega (
  arith,
  c.requires,
  ap (λ (r : FlagRowShown). length r.flags) c.self.view_is,
  length-flags_of c.self.inside.words.items,
  c.self.inside.words.ok,
)

pub returns : goal.returns
returns c =
    let i = c.args.index in
    let words = c.self.inside.words.items in
    let within : i / 64 < length words = omega (arith, c.requires, ap (λ (r : FlagRowShown). length r.flags) c.self.view_is, length-flags_of words) in
    ap (λ b. b == 1) (shr_and_one c.index.result.now (i % 64))
    ∙ ap (λ w. bit_at w (i % 64) == 1) (get_or_read words (i / 64) c.index.result.now within c.index.ensures 0)
    ∙ sym (flag_is words i)
    ∙ ap (λ (r : FlagRowShown). get_or r.flags i false) c.self.view_is
