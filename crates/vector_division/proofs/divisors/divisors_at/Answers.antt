use Rattle.std.proofs.Common.{List, [], ap, arith, get_or, length, refl, subst, sym, ℕ, ◌+◌, ◌<◌, ◌∙◌, ◌≡◌}
use Rattle.std.proofs.lemmas.List.{length_push}
use Rattle.term_lists.proofs.Parts.{Each_member}
use Rattle.vector_division.proofs.LeastDegrees.{by_kept}
use Rattle.vector_division.proofs.Trying.{enough_are_divisors, items_more}
use Rattle.vector_division.specs.Divisors.{AreBy}
use Rattle.vector_division.specs.Marks.{IsMarkOf}
use Rattle.vector_division.specs.declared.divisors.Divisor.{Divisor}
use Rattle.vector_division.proofs.divisors.divisors_at.Goals as goal

pub returns : goal.returns
returns g c =
    let list = g.L.Vectors.listed c.args.list.now in
    let indices = c.args.indices.now in
    let f : ℕ → ℕ = λ m. get_or indices m 0 in
    let e : c.loop-k.k ≡ length indices = omega arith in
    let by : AreBy f (length indices) list c.loop-k.divisors.items =
    record { count = c.loop-k.invariant.listed ∙ e; each = λ m d lt at. c.loop-k.invariant.each m d (subst (λ t. m < t) (sym e) lt) at } in
    λ n enough. enough_are_divisors list c.set_least.new.divisors.items indices n
    (by_kept f (length indices) list c.loop-k.divisors.items c.set_least.new.divisors.items c.set_least.ensures.kept by)
    (λ m lt. Each_member (λ i. i < length list) indices m 0 c.requires lt) c.set_least.ensures.least enough

pub loop-k-preserved : goal.loop-k-preserved
loop-k-preserved g c =
    let list = g.L.Vectors.listed c.args.list.now in
    let indices = c.args.indices.now in
    let k = c.loop-k.k in
    let old = c.loop-k.divisors.items in
    let IsMarked : ℕ → Divisor → Type 0 = λ m d. (d.index ≡ get_or indices m 0) × IsMarkOf (get_or list (get_or indices m 0) []) d.mark in
    record {
      count = omega (arith, c.push_reserved.ensures.len, c.loop-k.invariant.count);
      listed = ap length c.push_reserved.ensures.items ∙ length_push old _ ∙ ap (λ z. z + 1) c.loop-k.invariant.listed;
      room = omega (arith, c.push_reserved.ensures.capacity, c.loop-k.invariant.room);
      each = subst (λ (xs : List Divisor). (m : ℕ) (d : Divisor) → m < k + 1 → d ≡ get_or xs m d → IsMarked m d)
          (sym c.push_reserved.ensures.items)
          (items_more IsMarked old _ k c.loop-k.invariant.listed c.loop-k.invariant.each
          (refl, subst (λ z. IsMarkOf z c.mark_of.result) c.at.ensures c.mark_of.ensures));
    }

pub set_least-requires-clause-behind : goal.set_least-requires-clause-behind
set_least-requires-clause-behind g c =
    let indices = c.args.indices.now in
    let e : c.loop-k.k ≡ length indices = omega arith in
    λ i d ge lt at. absurd (omega (arith, ge, lt, e, c.loop-k.invariant.listed))
