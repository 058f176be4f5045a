use Rattle.std.proofs.Common.{ap, not, refl, rules, ◌==◌, ◌∙◌, ◌≡◌}
use Rattle.std.proofs.lemmas.Fn.{filter_same}
use Rattle.std.specs.List.{filter}
use Rattle.pair_queue.specs.declared.out.Out.{Out}
use Rattle.pair_queue.specs.Outs.{outs_of}
use Rattle.pair_queue.proofs.Clearing.{kept_out}
use Rattle.pair_queue.proofs.giving.close_by_update.Goals as goal

pub close_job-requires : goal.close_job-requires
close_job-requires c = record {
  within = c.requires.within;
  reach = c.requires.reach c.in-Plain.is;
  waits = c.requires.waits c.in-Plain.is;
  due = c.requires.due c.in-Plain.is;
}

pub returns-in-Plain : goal.returns-in-Plain
returns-in-Plain c = record {
  out = c.close_job.ensures.out;
  waits_size = λ e. c.close_job.ensures.waits_size;
  due_size = λ e. c.close_job.ensures.due_size;
  table = λ e. c.close_job.ensures.table;
  known = λ e. c.close_job.ensures.known;
}

pub returns-in-Gebauer : goal.returns-in-Gebauer
returns-in-Gebauer c = record {
  out =
      let kept : c.retain.new.self.items ≡ filter (λ (o : Out). not (o.worker == c.args.worker)) c.args.out.now.items =
      filter_same _ _ _ (λ x b f' k. search rules) _ _ c.retain.ensures.filtered in
      ap outs_of kept ∙ kept_out c.args.worker c.args.out.now.items;
  waits_size = λ e. refl;
  due_size = λ e. refl;
  table = λ e. absurd cc;
  known = λ e. absurd cc;
}
