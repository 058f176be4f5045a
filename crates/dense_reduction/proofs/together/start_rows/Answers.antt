use Rattle.std.proofs.Common.{ap, arith, get_or, inl, inr, length, subst, subst₂, sym, ◌<◌, ◌∙◌, ◌≡◌}
use Rattle.std.proofs.lemmas.Bool.{cases_eq}
use Rattle.std.proofs.lemmas.List.{get_or_default}
use Rattle.formal_sums.specs.FormalSums.{Each}
use Rattle.term_lists.proofs.Scaling.{Each_at}
use Rattle.dense_reduction.proofs.Lanes.{cleared_start}
use Rattle.dense_reduction.proofs.OnTheWay.{way_same, ways_all}
use Rattle.dense_reduction.specs.Eights.{AreCleared}
use Rattle.dense_reduction.specs.LostRows.{IsLost}
use Rattle.dense_reduction.specs.Together.{IsOnItsWay}
use Rattle.dense_reduction.specs.declared.lefts.Lost.{Lost}
use Rattle.dense_reduction.proofs.together.start_rows.Goals as goal

pub loop-j-init : goal.loop-j-init
loop-j-init c =
    let columns = length c.args.together.now.numbers.items in
    record {
      cleared = cleared_start c.args.shared.modulus.now.value c.first_limit-together.result columns c.args.together.now.numbers.items
          c.domain.ensures.above_one c.first_limit-together.ensures.room c.requires.idle;
      left = c.clear.ensures.items;
      taken = c.clear-2.ensures.items;
      idle = λ i le q. c.requires.idle.1 i q;
      way = λ own pivots known h i lt x is. absurd (omega (arith, lt));
    }

pub loop-j-preserved : goal.loop-j-preserved
loop-j-preserved c =
    let p = c.args.shared.modulus.now.value in
    let rows = c.args.shared.rows.now in
    let columns = length c.args.together.now.numbers.items in
    let j = c.loop-j.j in
    let old = c.loop-j.together in
    let new = c.start_row.new.together in
    let v = c.loop-j.invariant in
    let e = c.start_row.ensures in
    record {
      cleared = subst (λ m. AreCleared p new.limit 0 m new.numbers.items) v.cleared.numbered e.cleared;
      left = e.none.0;
      taken = e.none.1;
      idle = λ i le q. subst (Each (λ a. a ≡ 0)) (sym (e.others i q (λ s. omega (arith, le, s)))) (v.idle i (omega (arith, le)) q);
      way = λ own pivots known h i lt x is. elim (cases_eq i j) [
        | inl s ↦
            let at : x ≡ get_or c.args.lost.now j x = is ∙ ap (λ k. get_or c.args.lost.now k x) s in
            let inside : j < length c.args.lost.now = c.loop-j-test.true in
            let l : Lost = record { number = 0; winner = 0 } in
            let same : get_or c.args.lost.now j l ≡ x = get_or_default c.args.lost.now j l x inside ∙ sym at in
            subst₂ (λ k y. IsOnItsWay p new.limit 0 columns rows own pivots known new.left.items new.numbers.items new.taken.items k y) (sym s) same
            (subst (λ m. IsOnItsWay p new.limit 0 m rows own pivots known new.left.items new.numbers.items new.taken.items j (get_or c.args.lost.now j l))
            v.cleared.numbered (e.way own pivots known (Each_at (IsLost rows known) c.args.lost.now j (get_or c.args.lost.now j l) h inside
            (get_or_default c.args.lost.now j l (get_or c.args.lost.now j l) inside))))
        | inr ne ↦
            way_same p old.limit new.limit 0 columns rows own pivots known old.left.items new.left.items old.numbers.items new.numbers.items
            old.taken.items new.taken.items i x e.none.2 (e.none.0 ∙ sym v.left) (e.none.1 ∙ sym v.taken)
            (e.others i (let few = c.requires.few in let inside = c.loop-j-test.true in omega (arith, lt, few, inside)) ne)
            (v.way own pivots known h i (omega (arith, lt, ne)) x is)
      ];
    }

pub returns-clause-way : goal.returns-clause-way
returns-clause-way c = λ own pivots known h.
    let p = c.args.shared.modulus.now.value in
    let rows = c.args.shared.rows.now in
    let columns = length c.args.together.now.numbers.items in
    let t = c.loop-j.together in
    ways_all p t.limit 0 columns rows own pivots known t.left.items t.numbers.items t.taken.items 0 c.args.lost.now
    (λ i k x e lt is. subst (λ m. IsOnItsWay p t.limit 0 columns rows own pivots known t.left.items t.numbers.items t.taken.items m x)
    (let s : i ≡ k = omega (arith, e) in s)
    (c.loop-j.invariant.way own pivots known h i (omega (arith, lt, c.loop-j-test.false)) x is))
