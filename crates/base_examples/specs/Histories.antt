-- A whole run of two workers on the ideal (x^2 + y, xy), event by event
use Rattle.std.specs.Prelude.{List, [], None, false, take, true, ◌∷◌, ◌++◌}
use Rattle.base_examples.specs.Examples.{at, generators, membership_cofactors, plane_setting, square_plus, xy, y_squared}
use Rattle.queue_updates.specs.declared.Update.TheVariants.{Plain}
use Rattle.basis_steps.specs.States.{End, Ended, Event, Member, MoreWork, Put, Run, State, Take}

-- two workers, at most ten pairs, degrees up to 65535
abbrev pub two_workers : Run 2
two_workers = record { setting = plane_setting; generators = generators; budget = 10; workers = 2; degree_limit = 65535; update = Plain }

-- x^2 + y, the first generator
abbrev pub member_0 : Member 2
member_0 = record { vector = square_plus; multiple = (at 0 0 0, 1) ∷ []; products = [] }

-- xy, the second generator
abbrev pub member_1 : Member 2
member_1 = record { vector = xy; multiple = (at 1 0 0, 1) ∷ []; products = [] }

-- y^2 = y (x^2 + y) - x (xy)
abbrev pub member_2 : Member 2
member_2 = record { vector = y_squared; multiple = []; products = membership_cofactors }

-- the first two members
abbrev pub two_members : List (Member 2)
two_members = member_0 ∷ (member_1 ∷ [])

-- all three members
abbrev pub three_members : List (Member 2)
three_members = member_0 ∷ (member_1 ∷ (member_2 ∷ []))

-- the eight events: worker 0 takes the pair (0, 1); worker 1 finds nothing and ends; worker 0 hands in y^2, takes (1,
-- 2) while (0, 2) is skipped by the product criterion, hands in no row, finds nothing and ends
abbrev pub events : List (Event 2)
events =
    Take 0 [] ((0, 1) ∷ [])
    ∷ (Take 1 [] []
    ∷ (End 1 Ended
    ∷ (Put 0 (member_2 ∷ [])
    ∷ (Take 0 ((0, 2) ∷ []) ((1, 2) ∷ [])
    ∷ (Put 0 []
    ∷ (Take 0 [] []
    ∷ (End 0 Ended
    ∷ [])))))))

-- the state at the beginning: two members, and their pair queued
abbrev pub first_state : State 2
first_state = record { members = two_members; queue = (0, 1) ∷ []; dropped = []; out = []; taken = 0; ended = false ∷ (false ∷ []); stop = None; history = [] }

-- the pair (0, 1) is out with worker 0
abbrev pub state_1 : State 2
state_1 = record { members = two_members; queue = []; dropped = []; out = ((0, 1), 0) ∷ []; taken = 1; ended = false ∷ (false ∷ []); stop = None; history = take 1 events }

-- worker 1 found nothing
abbrev pub state_2 : State 2
state_2 = record { members = two_members; queue = []; dropped = []; out = ((0, 1), 0) ∷ []; taken = 1; ended = false ∷ (false ∷ []); stop = None; history = take 2 events }

-- worker 1 has ended
abbrev pub state_3 : State 2
state_3 = record { members = two_members; queue = []; dropped = []; out = ((0, 1), 0) ∷ []; taken = 1; ended = false ∷ (true ∷ []); stop = None; history = take 3 events }

-- y^2 is a member, and its pairs are queued by the degrees of their lcms
abbrev pub state_4 : State 2
state_4 = record {
  members = three_members;
  queue = (1, 2) ∷ ((0, 2) ∷ []);
  dropped = [];
  out = [];
  taken = 1;
  ended = false ∷ (true ∷ []);
  stop = None;
  history = take 4 events;
}

-- the pair (0, 2) was skipped, and (1, 2) is out with worker 0
abbrev pub state_5 : State 2
state_5 = record { members = three_members; queue = []; dropped = []; out = ((1, 2), 0) ∷ []; taken = 2; ended = false ∷ (true ∷ []); stop = None; history = take 5 events }

-- nothing is out
abbrev pub state_6 : State 2
state_6 = record { members = three_members; queue = []; dropped = []; out = []; taken = 2; ended = false ∷ (true ∷ []); stop = None; history = take 6 events }

-- worker 0 found nothing
abbrev pub state_7 : State 2
state_7 = record { members = three_members; queue = []; dropped = []; out = []; taken = 2; ended = false ∷ (true ∷ []); stop = None; history = take 7 events }

-- both workers have ended
abbrev pub last_state : State 2
last_state = record { members = three_members; queue = []; dropped = []; out = []; taken = 2; ended = true ∷ (true ∷ []); stop = None; history = events }

-- worker 1 found nothing, and then worker 0 handed in y^2
abbrev pub after_put : State 2
after_put = record {
  members = three_members;
  queue = (1, 2) ∷ ((0, 2) ∷ []);
  dropped = [];
  out = [];
  taken = 1;
  ended = false ∷ (false ∷ []);
  stop = None;
  history = take 2 events ++ (Put 0 (member_2 ∷ []) ∷ []);
}

-- so worker 1, which would end, is told that there is more work
abbrev pub more_work : State 2
more_work = record {
  members = three_members;
  queue = (1, 2) ∷ ((0, 2) ∷ []);
  dropped = [];
  out = [];
  taken = 1;
  ended = false ∷ (false ∷ []);
  stop = None;
  history = take 2 events ++ (Put 0 (member_2 ∷ []) ∷ (End 1 MoreWork ∷ []));
}
