-- A step of a division: keys that the code can hold, the room that falls, and one quotient more
use Rattle.std.proofs.Common.{Greater, List, Ordering, [], append-nil, append_assoc, arith, drop, get_or, inl, inr, length, map, subst, suc, sym, zero, ℕ, ◌++◌, ◌<◌, ◌≤◌, ◌∷◌, ◌≡◌}
use Rattle.std.proofs.lemmas.List.Elements.{Contains-append_left}
use Rattle.monomials.specs.Exponents.{IsWithin, exponents_of}
use Rattle.formal_sums.specs.FormalSums.{Each, FormalSum, Key, Term}
use Rattle.orders.proofs.KeyOrdering.{less_of_greater}
use Rattle.orders.proofs.RoomBelow.{room_falls}
use Rattle.orders.specs.KeyOrders.{IsKeyOrder}
use Rattle.term_lists.specs.Vectors.{sum_of}
use Rattle.term_lists.specs.declared.key.Key.{Key as CodeKey}
use Rattle.module_vectors.specs.Trails.{IsMet, KeptProduct, kept_product_lead}
use Rattle.vector_division.specs.Progress.{HasBoundedHead, last_position, room_of}
use Rattle.vector_division.specs.Reductions.{AreMetFrom, unscaled}
use Rattle.vector_division.specs.declared.reduction.ScaledProduct.{ScaledProduct}
use Rattle.vector_division.proofs.Subtracting.{Terms}

-- ---- a term by its index
pub bound_at :
    (n : ℕ) (v : Terms) (at : ℕ) (t : CodeKey × ℕ)
    → at < length v → t ≡ get_or v at t → t.0.position ≤ last_position
    → IsWithin 65535 (exponents_of n t.0.monomial.exponents) → HasBoundedHead (drop at (sum_of n v))
bound_at n [] at t lt e position within = absurd (omega arith)
bound_at n (w ∷ v) zero t lt e position within = subst (λ x. (x.0.position ≤ last_position) × IsWithin 65535 (exponents_of n x.0.monomial.exponents)) e (position, within)
bound_at n (w ∷ v) (suc at) t lt e position within = bound_at n v at t (omega arith) e position within

-- ---- the room falls
pub less_room :
    {n : ℕ} (compare : Key n → Key n → Ordering) → IsKeyOrder 0 compare → (t : Term n) (r x : FormalSum n)
    → HasBoundedHead x → Each (λ u. compare t.0 u.0 ≡ Greater) x → room_of compare x < room_of compare (t ∷ r)
less_room compare order t r [] bound h = omega arith
less_room compare order t r (u ∷ x) bound h =
    let f = room_falls 0 compare order last_position 65535 u.0 t.0 bound.0 bound.1 (less_of_greater order t.0 u.0 h.0) in
    omega arith

-- ---- one quotient more
pub met_push :
    (n : ℕ) (v : FormalSum n) (list : List Terms) (earlier : List KeptProduct) (qs : List ScaledProduct) (q : ScaledProduct)
    → AreMetFrom n v list earlier qs → IsMet n v list (earlier ++ map unscaled qs) (kept_product_lead n list (unscaled q))
    → AreMetFrom n v list earlier (qs ++ q ∷ [])
met_push n v list earlier [] q h m = (subst (λ e. IsMet n v list e (kept_product_lead n list (unscaled q))) (append-nil earlier) m, tt)
met_push n v list earlier (x ∷ qs) q h m = (h.0, met_push n v list (earlier ++ unscaled x ∷ []) qs q h.1 (subst (λ e. IsMet n v list e (kept_product_lead n list (unscaled q))) (sym (append_assoc earlier (unscaled x ∷ []) (map unscaled qs))) m))

pub met_later :
    (n : ℕ) (v : FormalSum n) (list : List Terms) (earlier : List KeptProduct) (s : KeptProduct) (k : Key n)
    → IsMet n v list earlier k → IsMet n v list (earlier ++ s ∷ []) k
met_later n v list earlier s k (inl h) = inl h
met_later n v list earlier s k (inr (x, c, p)) = inr (x, Contains-append_left earlier (s ∷ []) x c, p)
