use Rattle.session_lang.proofs.FewRuns.{five_at_most, none_once_kept, one_for_both, one_for_value}
use Rattle.session_lang.proofs.line_laws.few_runs.Goals as goal

pub returns : goal.returns
returns c = record {
  value = one_for_value;
  kept = none_once_kept;
  both = one_for_both;
  line = λ before statement most h. five_at_most before most statement h;
}
