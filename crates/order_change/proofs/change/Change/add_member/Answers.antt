use Rattle.std.proofs.Common.{[], ap, arith, inr, length, refl, subst, sym, ℕ, ◌++◌, ◌+◌, ◌∙◌, ◌∷◌, ◌≡◌, ◌≤◌}
use Rattle.std.specs.Prelude.{slice_index}
use Rattle.monomials.specs.Exponents.{exponents_of}
use Rattle.formal_sums.specs.FormalSums.{IsSame}
use Rattle.bases.specs.Settings.{IsLawful}
use Rattle.term_lists.specs.Rings.{ring_comparison, setting}
use Rattle.term_lists.specs.Vectors.{sum_of, sums_of}
use Rattle.change_laws.specs.Combinations.{expansion}
use Rattle.order_change.proofs.Adding.{member_added, positive}
use Rattle.order_change.proofs.Items.{length_monomials}
use Rattle.order_change.proofs.Stepping.{rest_member, zero_row}
use Rattle.order_change.specs.Changing.{AreNewMembers}
use Rattle.order_change.specs.Forms.{AreResidues}
use Rattle.order_change.specs.Lists.{AreMonomials}
use Rattle.monomial_orders.specs.Kept.{monomials}
use Rattle.order_change.proofs.change.Change.add_member.Goals as goal

at_least_none : (n : ℕ) → 0 ≤ n
at_least_none n = omega arith

pub member-requires : goal.member-requires
member-requires c =
    let ring = c.args.ring.now in
    let n = length ring.weights in
    record {
      list = subst (AreMonomials n ring.weights) (sym c.deref.ensures.value) c.requires.known.standard.monomials_of;
      monomial = c.requires.next.weighed;
      residues = subst (λ z. AreResidues ring.modulus.value (length z + 1) c.args.rest.now.combination) (sym c.deref.ensures.value) c.requires.rest.combination_residues;
      one = subst (λ z. slice_index c.args.rest.now.combination (length z) ≡ 1) (sym c.deref.ensures.value) c.requires.rest.one;
    }

pub returns : goal.returns
returns c =
    let ring = c.args.ring.now in
    let n = length ring.weights in
    let F = sums_of n c.args._basis.now in
    let B = monomials n c.args._standard.now in
    let change = c.args.self.now in
    let N = monomials n change.monomials.items in
    let m = c.args.m in
    let y = exponents_of n m.exponents in
    let f = slice_index c.args.rest.now.combination in
    let v = c.in_ok-vector.vector in
    let lawful : IsLawful (setting ring n (ring_comparison ring n) 1) = subst (λ z. IsLawful (setting ring z (ring_comparison ring z) 1)) (sym ring.weighted) (c.lawful_setting.ensures 1) in
    let sum : IsSame ring.modulus.value (sum_of n v) (expansion (N ++ y ∷ []) f) = subst (λ z. IsSame ring.modulus.value (sum_of n v) (expansion (monomials n z ++ y ∷ []) f)) c.deref.ensures.value c.in_ok-vector.ensures.sum in
    let known = c.requires.known in
    let next = c.requires.next in
    let zeros = zero_row c.args.rest.now.form c.requires.zero in
    let inside = rest_member (positive n ring F B lawful) F B (N ++ y ∷ []) c.args.rest.now.form f (sum_of n v) zeros c.requires.rest.same sum in
    let one : f (length N) ≡ 1 = ap f (length_monomials n change.monomials.items) ∙ c.requires.rest.one in
    record {
      known = record {
        standard = known.standard;
        members = subst (λ z. AreNewMembers n ring F N z c.insert.new.self.items) (sym c.in_ok-insert-2.ensures.items)
            (subst (λ z. AreNewMembers n ring F N (m ∷ change.leads.items) z) (sym c.in_ok-insert.ensures.items)
            (member_added n ring F B lawful N known.standard.ascending y (λ k lt. next.above k (omega (arith, lt, length_monomials n change.monomials.items))) v f c.in_ok-vector.ensures.vector sum one
            change.leads.items change.members.items m known.members next.weighed refl inside next.not_below next.free));
      };
      added = record { turns = refl; one = inr (refl, c.in_ok-insert-2.ensures.items) };
    }

pub insert-requires : goal.insert-requires
insert-requires c = at_least_none _

pub insert-requires-2 : goal.insert-requires-2
insert-requires-2 c = at_least_none _
