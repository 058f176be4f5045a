use Rattle.std.proofs.Common.{get_or, length, ℕ, [], ◌<◌, ◌≡◌, ◌≤◌}
use Rattle.std.specs.Vec.{vec_capacity, vec_len}
use Rattle.monomials.specs.Exponents.{unit}
use Rattle.bases.specs.Leads.{head_key}
use Rattle.term_lists.specs.Rings.{variables}
use Rattle.term_lists.specs.Vectors.{sum_of}
use Rattle.order_change.specs.Lists.{AreMonomials}
use Rattle.monomial_orders.specs.Kept.{monomials}
use Rattle.order_change.proofs.listing.leads_of.Given as goal

abbrev pub invariant-loop-v : goal.invariant-loop-v
invariant-loop-v l =
    let n = variables l.ring in
    record {
      count : vec_len l.leads ≤ l.v-index;
      room : length l.basis ≤ vec_capacity l.leads;
      long : length l.leads.items ≡ l.v-index;
      monomials_of : AreMonomials n l.ring.weights l.leads.items;
      leads : (k : ℕ) → k < l.v-index → get_or (monomials n l.leads.items) k (unit n) ≡ (head_key (sum_of n (get_or l.basis k []))).1;
    }
