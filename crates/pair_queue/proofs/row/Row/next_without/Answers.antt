use Rattle.std.proofs.Common.{ap, arith, false, get_or, length, subst₂, sym, List, ℕ, ◌∙◌}
use Rattle.pair_queue.proofs.Words.{flag_is, has_by, length-flags_of, none_by}
use Rattle.pair_queue.specs.Rows.{FlagRowShown, HasWithout, NoneWithout, flag_of}
use Rattle.pair_queue.proofs.row.Row.next_without.Goals as goal

pub next_index-requires-clause-mine : goal.next_index-requires-clause-mine
next_index-requires-clause-mine c = omega (
  arith,
  c.requires.mine,
  ap (λ (r : FlagRowShown). length r.flags) c.self.view_is,
  length-flags_of c.self.inside.words.items,
  ap (λ (z : List ℕ). length z) c.deref.ensures.value,
)

pub next_index-requires-clause-theirs : goal.next_index-requires-clause-theirs
next_index-requires-clause-theirs c = omega (
  arith,
  c.requires.theirs,
  ap (λ (r : FlagRowShown). length r.flags) c.other.view_is,
  length-flags_of c.other.inside.words.items,
  ap (λ (z : List ℕ). length z) c.deref-2.ensures.value,
)

pub returns-clause-before : goal.returns-clause-before
returns-clause-before c =
    let words = c.self.inside.words.items in
    let others = c.other.inside.words.items in
    none_by (flag_of words) (flag_of others) (λ k. get_or c.args.self.now.flags k false) (λ k. get_or c.args.other.now.flags k false) c.args.from
    c.next_index.result
    (λ k. sym (flag_is words k) ∙ ap (λ (r : FlagRowShown). get_or r.flags k false) c.self.view_is)
    (λ k. sym (flag_is others k) ∙ ap (λ (r : FlagRowShown). get_or r.flags k false) c.other.view_is)
    (subst₂ (λ (xs ys : List ℕ). NoneWithout (flag_of xs) (flag_of ys) c.args.from c.next_index.result) c.deref.ensures.value c.deref-2.ensures.value
    c.next_index.ensures.before)

pub returns-clause-found : goal.returns-clause-found
returns-clause-found c = λ l.
    let words = c.self.inside.words.items in
    let others = c.other.inside.words.items in
    has_by (flag_of words) (flag_of others) (λ k. get_or c.args.self.now.flags k false) (λ k. get_or c.args.other.now.flags k false) c.next_index.result
    (λ k. sym (flag_is words k) ∙ ap (λ (r : FlagRowShown). get_or r.flags k false) c.self.view_is)
    (λ k. sym (flag_is others k) ∙ ap (λ (r : FlagRowShown). get_or r.flags k false) c.other.view_is)
    (subst₂ (λ (xs ys : List ℕ). HasWithout (flag_of xs) (flag_of ys) c.next_index.result) c.deref.ensures.value c.deref-2.ensures.value
    (c.next_index.ensures.found l))
