use Rattle.std.proofs.Common.{[], ap, arith, drop, length, map, subst, sym, ◌++◌, ◌<◌, ◌∙◌, ◌∷◌, ◌≡◌, ◌≤◌}
use Rattle.std.proofs.lemmas.List.{take_all}
use Rattle.formal_sums.proofs.WeightedSums.{Each_append}
use Rattle.formal_sums.specs.FormalSums.{Each}
use Rattle.term_lists.proofs.Scaling.{Each_at}
use Rattle.term_lists.specs.Vectors.{IsMonomialOver}
use Rattle.term_lists.specs.declared.key.Key.{Key as CodeKey}
use Rattle.basis_core.specs.Leads.{first_key}
use Rattle.basis_core.specs.Members.{Shared, MemberShown}
use Rattle.basis_core.proofs.KnownByLeads.{key_weighed, next_key, no_keys}
use Rattle.basis_core.proofs.Trailing.{members_nonzero}
use Rattle.basis_core.proofs.leading.lead_keys.Goals as goal

pub loop-index-init : goal.loop-index-init
loop-index-init c =
    let none = c.new-keys.ensures.items in
    record {
      later = omega arith;
      weighed = subst (Each (λ (k : CodeKey). IsMonomialOver c.args.members.now.shared.ring k.monomial)) (sym none) tt;
      keys = none ∙ sym (no_keys c.args.members.now.list c.args.first);
    }

pub lead_key-requires : goal.lead_key-requires
lead_key-requires c =
    let ms = c.args.members.now.list in
    let within : c.loop-index.index < length ms = omega (arith, c.loop-index-test.true, c.len-index-end.ensures) in
    Each_at (λ (m : MemberShown). 0 < length m.vector) ms c.loop-index.index c.get.result.now
    (members_nonzero c.args.members.now.shared ms c.requires.monic) within c.get.ensures.terms

pub loop-index-preserved : goal.loop-index-preserved
loop-index-preserved c =
    let ms = c.args.members.now.list in
    let shared : Shared = c.args.members.now.shared in
    let m : MemberShown = c.get.result.now in
    let within : c.loop-index.index < length ms = omega (arith, c.loop-index-test.true, c.len-index-end.ensures) in
    let some = Each_at (λ (m : MemberShown). 0 < length m.vector) ms c.loop-index.index m (members_nonzero shared ms c.requires.monic) within c.get.ensures.terms in
    let more : c.push.new.self.items ≡ c.loop-index.keys.items ++ (first_key m.vector ∷ []) = c.in_ok-push.ensures.items
    ∙ ap (λ k. c.loop-index.keys.items ++ (k ∷ [])) c.in_ok-key.ensures in
    record {
      later = omega (arith, c.loop-index.invariant.later);
      weighed = subst (Each (λ (k : CodeKey). IsMonomialOver shared.ring k.monomial)) (sym more)
          (Each_append (λ (k : CodeKey). IsMonomialOver shared.ring k.monomial) c.loop-index.keys.items (first_key m.vector ∷ [])
          c.loop-index.invariant.weighed (key_weighed shared m.vector c.get.ensures.over.vector some, tt));
      keys = more ∙ ap (λ l. l ++ (first_key m.vector ∷ [])) c.loop-index.invariant.keys ∙ sym (next_key ms c.args.first c.loop-index.index m c.loop-index.invariant.later within c.get.ensures.terms);
    }

pub returns-clause-leads : goal.returns-clause-leads
returns-clause-leads c =
    let ms = c.args.members.now.list in
    let all : length ms ≤ c.loop-index.index = omega (arith, c.loop-index-test.false, c.len-index-end.ensures) in
    c.loop-index.invariant.keys ∙ ap (λ l. drop c.args.first (map (λ (m : MemberShown). first_key m.vector) l)) (take_all c.loop-index.index ms all)
