use Rattle.std.proofs.Common.{arith, refl}
use Rattle.pair_queue.proofs.skipping.skip_by.Goals as goal

pub skip-requires : goal.skip-requires
skip-requires c = record {
  reach = c.requires.reach c.in-Plain.is;
  waits = c.requires.waits c.in-Plain.is;
  due = c.requires.due c.in-Plain.is;
  real = c.requires.real;
  sorted = c.requires.sorted;
  skipped = c.requires.skipped;
  known = c.requires.known c.in-Plain.is;
}

pub returns-in-Plain : goal.returns-in-Plain
returns-in-Plain c = record {
  waits_size = λ e. c.skip.ensures.waits_size;
  due_size = λ e. c.skip.ensures.due_size;
  few = c.skip.ensures.few;
  real = c.skip.ensures.real;
  skips = λ e. c.skip.ensures.skips;
  none = λ e. c.skip.ensures.none;
  known = λ e. c.skip.ensures.known;
  nothing = λ e. absurd cc;
}

pub returns-in-Gebauer : goal.returns-in-Gebauer
returns-in-Gebauer c = record {
  waits_size = λ e. refl;
  due_size = λ e. refl;
  few = omega arith;
  real = c.requires.real;
  skips = λ e. absurd cc;
  none = λ e. absurd cc;
  known = λ e. absurd cc;
  nothing = λ e. ((c.requires.skipped).0, refl);
}
