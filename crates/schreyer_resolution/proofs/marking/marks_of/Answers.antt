use Rattle.std.proofs.Common.{arith, get_or, length, subst, sym, ℕ, ◌<◌, ◌≡◌, ◌∙◌}
use Rattle.std.proofs.lemmas.List.{get_or_default}
use Rattle.term_lists.specs.declared.key.Key.{Key}
use Rattle.induced_leads.proofs.Pushing.{pushed_items}
use Rattle.induced_leads.specs.Reaching.{positions_of}
use Rattle.schreyer_resolution.specs.Marking.{IsTermMark}
use Rattle.schreyer_resolution.specs.declared.marking.TermMark.{TermMark}
use Rattle.schreyer_resolution.proofs.marking.marks_of.Goals as goal

pub loop-term-preserved : goal.loop-term-preserved
loop-term-preserved c =
    let cols = c.args.columns.now in
    let terms = c.args.terms.now in
    let i = c.loop-term.term-index in
    let x = c.term-item.result in
    let lt : i < length terms = c.loop-term-test.true in
    let count = c.loop-term.invariant.count in
    let room = c.loop-term.invariant.room in
    record {
      count = omega (arith, c.push_reserved.ensures.len, count);
      room = omega (arith, c.push_reserved.ensures.capacity, room);
      each = λ k one l is. subst (λ xs. (one : TermMark) → one ≡ get_or xs k one → (u : Key × ℕ) → u ≡ get_or terms k u
          → IsTermMark cols (positions_of c.args.index.now) u.0 one) (sym c.push_reserved.ensures.items)
          (λ one is. pushed_items (λ j m. (u : Key × ℕ) → u ≡ get_or terms j u → IsTermMark cols (positions_of c.args.index.now) u.0 m)
          c.loop-term.marks.items c.term_mark.result i (omega (arith, count)) c.loop-term.invariant.each
          (λ u at. subst (λ (z : Key × ℕ). IsTermMark cols (positions_of c.args.index.now) z.0 c.term_mark.result)
          (c.term-item.is ∙ get_or_default terms i x u lt ∙ sym at) c.term_mark.ensures) k one l is) one is;
    }
