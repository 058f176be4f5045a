use Rattle.std.proofs.Common.{List, ap, arith, get_or, inl, inr, length, subst, sym, ℕ, ◌<◌, ◌/◌, ◌∙◌, ◌≡◌, ◌≤◌}
use Rattle.std.proofs.lemmas.Bool.{cases_lt}
use Rattle.pair_queue.proofs.Reaching.{exponent_is}
use Rattle.pair_queue.specs.Reaches.{bit_of_member, exponent_of_lead, place_of_word}
use Rattle.pair_queue.proofs.reach.mark_members.Goals as goal

pub mark_member-requires : goal.mark_member-requires
mark_member-requires c =
    let member = c.loop-c.c in
    let n : length c.exponents.result.now ≡ c.args.leads.now.variables = ap length c.exponents.ensures.value ∙ c.at.ensures.variables in
    let within : member < length c.args.leads.now.keys = omega (arith, c.loop-c-test.true, c.loop-c.auto.c-end, c.len-c-end.ensures) in
    record {
      room = λ v lv.
          let room = c.requires.room member v within (omega (arith, lv, n)) in
          subst (λ z. place_of_word z (member / 64) v 15 ≤ length c.loop-c.words.items) (sym n) (omega (arith, room, c.loop-c.invariant.len));
    }

pub loop-c-preserved : goal.loop-c-preserved
loop-c-preserved c =
    let m = c.args.leads.now in
    let inv = c.loop-c.invariant in
    let member = c.loop-c.c in
    let new = c.mark_member.new.words.items in
    let variables : length c.exponents.result.now ≡ m.variables = ap length c.exponents.ensures.value ∙ c.at.ensures.variables in
    let here : (v e : ℕ) → v < m.variables → e < 15 → e < exponent_of_lead m member v → bit_of_member m.variables new member v e ≡ 1 = λ v e lv le more.
    let value = ap (λ (z : List ℕ). get_or z v 0) c.exponents.ensures.value in
    subst (λ n. bit_of_member n new member v e ≡ 1) variables
    (c.mark_member.ensures.here v e (omega (arith, lv, variables)) le
    (omega (arith, more, value, exponent_is m member v c.at.result.now c.at.ensures.lead c.at.ensures.variables lv))) in
    record {
      len = c.mark_member.ensures.len ∙ inv.len;
      stay = λ i r l one. c.mark_member.ensures.stay i r l (inv.stay i r l one);
      here = λ d v e from to lv le more. elim (cases_lt d member) [
        | inl l ↦ c.mark_member.ensures.stay (place_of_word m.variables (d / 64) v e) _ (omega arith) (inv.here d v e from l lv le more)
        | inr l ↦ (
            let is : member ≡ d = omega (arith, l, to) in
            subst (λ z. bit_of_member m.variables new z v e ≡ 1) is (here v e lv le (subst (λ z. e < exponent_of_lead m z v) (sym is) more)))
      ];
    }
