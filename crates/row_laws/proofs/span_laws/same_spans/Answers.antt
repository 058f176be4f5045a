use Rattle.row_laws.proofs.RowSpans.{IsInSpan_itself}
use Rattle.row_laws.proofs.SpansAlike.{HasSameSpan_dropped, HasSameSpan_permuted, HasSameSpan_replaced, HasSameSpan_sym, HasSameSpan_trans, HasSameSpan_vectors}
use Rattle.std.proofs.Common.{[], get_or}
use Rattle.row_laws.proofs.span_laws.same_spans.Goals as goal

pub returns : goal.returns
returns c = record {
  vectors = λ n p M E. (
    λ h v. HasSameSpan_vectors M E h v,
    λ e. record { inside = λ i lt. (e (get_or M i [])).0 (IsInSpan_itself p M i); outside = λ i lt. (e (get_or E i [])).1 (IsInSpan_itself p E i) },
  );
  symmetric = λ n p M E h. HasSameSpan_sym M E h;
  transitive = λ n p L M E h g. HasSameSpan_trans L M E h g;
  permuted = λ n p M E h. HasSameSpan_permuted M E h;
  dropped = λ n p A B r z. HasSameSpan_dropped A B r z;
  replaced = λ n p c d A B r s t one pos span same. HasSameSpan_replaced c d A B r s t one pos span same;
}
