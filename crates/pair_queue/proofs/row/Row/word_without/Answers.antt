use Rattle.std.proofs.Common.{ap, false, get_or, sym, ◌*◌, ◌+◌, ◌==◌, ◌∙◌}
use Rattle.std.specs.Int.{bit_at}
use Rattle.std.specs.Prelude.{not, ◌&&◌}
use Rattle.pair_queue.proofs.Words.{flag_at}
use Rattle.pair_queue.specs.Rows.{FlagRowShown}
use Rattle.pair_queue.proofs.row.Row.word_without.Goals as goal

pub returns : goal.returns
returns c = λ r l.
    let words = c.self.inside.words.items in
    let others = c.other.inside.words.items in
    let mine = ap (λ w. bit_at w r == 1) (c.word_at.ensures ∙ ap (λ z. get_or z c.args.index 0) c.deref.ensures.value) ∙ sym (flag_at words c.args.index r l)
    ∙ ap (λ (s : FlagRowShown). get_or s.flags (64 * c.args.index + r) false) c.self.view_is in
    let theirs = ap (λ w. bit_at w r == 1) (c.word_at-2.ensures ∙ ap (λ z. get_or z c.args.index 0) c.deref-2.ensures.value)
    ∙ sym (flag_at others c.args.index r l)
    ∙ ap (λ (s : FlagRowShown). get_or s.flags (64 * c.args.index + r) false) c.other.view_is in
    c.flags_without.ensures r l ∙ (λ i. mine i && not (theirs i))
