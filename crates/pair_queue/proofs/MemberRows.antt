-- The rows of members, by what contracts see of their table
use Rattle.std.proofs.Common.{ap, arith, false, get_or, length, ℕ, ◌<◌, ◌∙◌, ◌≡◌, ◌≤◌}
use Rattle.basis_steps.specs.Pairs.{pair_of}
use Rattle.pair_queue.proofs.Mirroring.{row_flag}
use Rattle.pair_queue.specs.Rows.{FlagRowShown}
use Rattle.pair_queue.specs.Tables.{AreMirrored, TableShown, flag}

module _ (t shown : TableShown) (m : AreMirrored t) (view : t ≡ shown) (a : ℕ) (r : FlagRowShown) (known : a < shown.members) (is : r ≡ get_or t.rows a r) where
  within : a < length t.rows
  within = omega (arith, known, ap (λ (t : TableShown). t.members) view, m.enough)

  -- its flags
  pub in_row : (k : ℕ) → get_or r.flags k false ≡ flag shown (pair_of a k)
  in_row k = row_flag t m a r within is k ∙ ap (λ (t : TableShown). flag t (pair_of a k)) view

  -- there is one for each member
  pub width_of_row : shown.members ≤ length r.flags
  width_of_row = let wide : length t.rows ≤ length r.flags = m.wide a r within is in omega (arith, wide, m.enough, ap (λ (t : TableShown). t.members) view)
