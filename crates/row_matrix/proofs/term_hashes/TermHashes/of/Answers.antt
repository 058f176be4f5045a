use Rattle.std.proofs.Common.{List, [], ap, ap₂, arith, sym, take, ℕ, ◌++◌, ◌∙◌, ◌∷◌, ◌≡◌}
use Rattle.std.proofs.lemmas.List.{map-append}
use Rattle.term_lists.proofs.Scaling.{take_item}
use Rattle.term_lists.specs.declared.key.Key.{Key}
use Rattle.row_matrix.specs.Hashes.{hash_of, term_hashes}
use Rattle.row_matrix.specs.Told.{IsKeyUpTo}
use Rattle.row_matrix.proofs.Telling.{up_to_more}
use Rattle.row_matrix.proofs.term_hashes.TermHashes.of.Goals as goal

pub loop-term-preserved : goal.loop-term-preserved
loop-term-preserved c =
    let u = c.term-item.result in
    let v = c.loop-term.invariant in
    let degree : c.degree.result ≡ u.0.monomial.degree = c.degree.ensures.value in
    let one : IsKeyUpTo c.max-position.result c.max-degree.result u.0 =
    record {
      place = omega (arith, c.max-position.ensures);
      few = omega (arith, degree, c.max-degree.ensures);
      exponents = λ k. let held = c.bounds.ensures.held k in omega (arith, held, degree, c.max-degree.ensures);
    } in
    record {
      items =
          c.push_reserved.ensures.items
          ∙ ap₂ (λ (hs : List ℕ) h. hs ++ h ∷ []) v.items c.hash_of_key.ensures
          ∙ sym (map-append (λ (w : Key × ℕ). hash_of w.0) (take c.loop-term.term-index c.args.terms.now) (u ∷ []))
          ∙ ap term_hashes (sym (take_item c.args.terms.now c.loop-term.term-index u c.loop-term-test.true c.term-item.is));
      bounded = up_to_more c.args.terms.now c.loop-term.term-index u c.loop-term.position c.loop-term.degree c.max-position.result c.max-degree.result
          v.bounded (omega (arith, c.max-position.ensures)) (omega (arith, c.max-degree.ensures)) c.loop-term-test.true c.term-item.is one;
      small = omega (arith, v.small, c.degree.ensures.small, c.max-degree.ensures);
      len = omega (arith, v.len, c.push_reserved.ensures.len);
      room = omega (arith, v.room, c.push_reserved.ensures.capacity);
    }
