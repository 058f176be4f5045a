use Rattle.std.proofs.Common.{get_or, ℕ, ◌<◌, ◌≡◌}
use Rattle.schreyer_resolution.specs.FreeKeys.{HasMore}
use Rattle.schreyer_resolution.specs.Sharing.{ArePartProducts, IsLastProduct}
use Rattle.schreyer_resolution.specs.declared.products.Product.{Product}
use Rattle.schreyer_resolution.proofs.numbered.all_rows.Given as goal

abbrev pub invariant-loop-at : goal.invariant-loop-at
invariant-loop-at l = record {
  part : ArePartProducts l.ring l.columns l.products;
  numbers : HasMore l.fn.products.numbers l.products.numbers;
  entries : HasMore l.fn.products.entries.items l.products.entries.items;
  done : (j : ℕ) (s : Product) → j < l.at → s ≡ get_or l.products.list.items j s
      → IsLastProduct l.ring l.columns l.products.numbers l.products.entries.items s;
}
