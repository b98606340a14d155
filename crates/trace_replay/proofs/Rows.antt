-- Rows of lines that may come or not, computed by the definitions.
use Rattle.std.proofs.Common.{◌≡◌, ◌≢◌, ℕ, zero, suc, true, false, List, [], ◌∷◌, pos, refl, arith}
use Rattle.std.specs.Prelude.{None}
use Rattle.trace_text.specs.declared.line.Line.TheVariants.{Header as FirstLine, Inst, Fire, Deliver, Grow, Quiet, Trap as TrapLine, Budget}
use Rattle.rvc_base.specs.declared.trap.Trap.TheVariants.{Overflow}
use Rattle.net_model.specs.State.{State, start_of, effect_at}
use Rattle.net_model.specs.Ends.{IsQuiet, all_fed}
use Rattle.net_model.proofs.Rows.{inc_net, pair_net, pair_in, pair_last, pair_stalls, ring_net}
use Rattle.trace_replay.specs.Judging.{Trial, AtFirst, AtEnd, MayCome, EventFails, LineFails, after_line, is_of_table}
use Rattle.trace_replay.specs.declared.why.Why.TheVariants.{Header, NotExposed, NoRoom, Trap, End}

-- Two actors in a ring, each of which sends a byte if it has none.

abbrev ring : Trial ℕ
ring = record { net = ring_net; grow = 0; start = start_of ring_net [] }

abbrev ring_opened : State ℕ
ring_opened = record {
  actors = 0 ∷ 0 ∷ [];
  flows = record { sent = []; arrived = 0; taken = 0; capacity = 512 }
      ∷ record { sent = []; arrived = 0; taken = 0; capacity = 512 } ∷ [];
  trapped = false;
}

abbrev ring_once : State ℕ
ring_once = record {
  actors = 1 ∷ 0 ∷ [];
  flows = record { sent = []; arrived = 0; taken = 0; capacity = 512 }
      ∷ record { sent = pos 1 ∷ []; arrived = 0; taken = 0; capacity = 512 } ∷ [];
  trapped = false;
}

abbrev ring_twice : State ℕ
ring_twice = record {
  actors = 1 ∷ 1 ∷ [];
  flows = record { sent = pos 1 ∷ []; arrived = 0; taken = 0; capacity = 512 }
      ∷ record { sent = pos 1 ∷ []; arrived = 0; taken = 0; capacity = 512 } ∷ [];
  trapped = false;
}

abbrev ring_last : State ℕ
ring_last = record {
  actors = 1 ∷ 1 ∷ [];
  flows = record { sent = pos 1 ∷ []; arrived = 1; taken = 0; capacity = 512 }
      ∷ record { sent = pos 1 ∷ []; arrived = 1; taken = 0; capacity = 512 } ∷ [];
  trapped = false;
}

ring_nothing : (i a : ℕ) → effect_at ring_net (all_fed ring_net ring_last) i a ≡ None
ring_nothing zero zero = refl
ring_nothing zero (suc zero) = refl
ring_nothing zero (suc (suc a)) = refl
ring_nothing (suc zero) zero = refl
ring_nothing (suc zero) (suc zero) = refl
ring_nothing (suc zero) (suc (suc a)) = refl
ring_nothing (suc (suc i)) a = refl

ring_is_quiet : IsQuiet ring_net ring_last
ring_is_quiet = record {
  settled = record { untrapped = refl; arrived = ((λ e. refl), ((λ e. refl), tt)) };
  nothing = ring_nothing;
}

-- `r`, `f 0 1`, `f 1 1`, `r` and `q` come
ring_line_4 : MayCome ring ring.start ring.start Deliver ring_opened
ring_line_4 = record { true_there = tt; goes_so = refl; trap_fits = tt; fits = ((λ e. omega arith), ((λ e. omega arith), tt)) }

ring_line_5 : MayCome ring ring_opened ring_opened (Fire 0 1) ring_once
ring_line_5 = record { true_there = tt; goes_so = refl; trap_fits = tt; fits = ((λ e. omega arith), ((λ e. omega arith), tt)) }

ring_line_6 : MayCome ring ring_opened ring_once (Fire 1 1) ring_twice
ring_line_6 = record { true_there = tt; goes_so = refl; trap_fits = tt; fits = ((λ e. omega arith), ((λ e. omega arith), tt)) }

ring_line_7 : MayCome ring ring_opened ring_twice Deliver ring_last
ring_line_7 = record { true_there = tt; goes_so = refl; trap_fits = tt; fits = ((λ e. omega arith), ((λ e. omega arith), tt)) }

ring_line_8 : MayCome ring ring_last ring_last Quiet ring_last
ring_line_8 = record { true_there = (ring_is_quiet, refl); goes_so = refl; trap_fits = tt; fits = ((λ e. omega arith), ((λ e. omega arith), tt)) }

ring_ends : after_line Quiet ring_last ring_last ≡ AtEnd Quiet ring_last
ring_ends = refl

-- with a delivery between the two firings the second one isn't exposed
abbrev ring_between : State ℕ
ring_between = record {
  actors = 1 ∷ 0 ∷ [];
  flows = record { sent = []; arrived = 0; taken = 0; capacity = 512 }
      ∷ record { sent = pos 1 ∷ []; arrived = 1; taken = 0; capacity = 512 } ∷ [];
  trapped = false;
}

ring_line_6_between : MayCome ring ring_opened ring_once Deliver ring_between
ring_line_6_between = record { true_there = tt; goes_so = refl; trap_fits = tt; fits = ((λ e. omega arith), ((λ e. omega arith), tt)) }

ring_7_not_exposed : EventFails ring ring_between ring_between (Fire 1 1) NotExposed
ring_7_not_exposed = refl

-- an instance or an action that isn't there isn't exposed either
ring_no_instance : EventFails ring ring_opened ring_opened (Fire 2 0) NotExposed
ring_no_instance = refl

ring_no_action : EventFails ring ring_opened ring_opened (Fire 0 2) NotExposed
ring_no_action = refl

-- it isn't quiet before it has fired, and no trap comes
ring_not_quiet : EventFails ring ring_opened ring_opened Quiet End
ring_not_quiet = (refl, λ quiet. let some : effect_at ring_net (all_fed ring_net ring_opened) 0 1 ≡ None = quiet.nothing 0 1 in cc)

ring_no_trap : EventFails ring ring_opened ring_opened (TrapLine 0 1 Overflow) Trap
ring_no_trap = (refl, λ comes. comes)

-- what stands before the events comes no second time, and not late
ring_header_late : EventFails ring ring_opened ring_opened (FirstLine 2 2 0) Header
ring_header_late = refl

ring_instance_late : EventFails ring ring_opened ring_opened (Inst 0) Header
ring_instance_late = refl

ring_event_first : (text : List ℕ) → LineFails ring AtFirst text Deliver Header
ring_event_first text = (refl, λ same. let differ : Deliver ≢ FirstLine 2 2 0 = λ e. cc in differ same)

-- a first line of version 2 isn't that of a trace in which no link grows, nor is the growth of a link of its table
ring_other_version : (text : List ℕ) → LineFails ring AtFirst text (FirstLine 2 2 4) Header
ring_other_version text = (refl, λ same. let differ : FirstLine 2 2 4 ≢ FirstLine 2 2 0 = λ e. cc in differ same)

no_growth : is_of_table 0 (Grow 3 2) ≡ false
no_growth = refl

some_growth : is_of_table 4 (Grow 3 2) ≡ true
some_growth = refl

-- One actor that adds 1 to each byte.

abbrev inc : Trial (Unit {0})
inc = record { net = inc_net; grow = 0; start = start_of inc_net ((0 ∷ 1 ∷ 255 ∷ []) ∷ []) }

abbrev inc_opened : State (Unit {0})
inc_opened = record {
  actors = tt ∷ [];
  flows = record { sent = pos 0 ∷ pos 1 ∷ pos 255 ∷ []; arrived = 3; taken = 0; capacity = 512 }
      ∷ record { sent = []; arrived = 0; taken = 0; capacity = 512 } ∷ [];
  trapped = false;
}

abbrev inc_fired : State (Unit {0})
inc_fired = record {
  actors = tt ∷ [];
  flows = record { sent = pos 0 ∷ pos 1 ∷ pos 255 ∷ []; arrived = 3; taken = 3; capacity = 512 }
      ∷ record { sent = pos 1 ∷ pos 2 ∷ pos 0 ∷ []; arrived = 0; taken = 0; capacity = 512 } ∷ [];
  trapped = false;
}

-- what was sent hasn't arrived, so the run isn't quiet, and a fourth firing has no token
inc_not_settled : EventFails inc inc_opened inc_fired Quiet End
inc_not_settled = (refl, λ quiet. let all : 0 ≡ 3 = quiet.settled.arrived.1.0 refl in omega (arith, all))

inc_fourth : EventFails inc inc_opened inc_fired (Fire 0 0) NotExposed
inc_fourth = refl

-- A copy of each byte goes to two actors, to one of them by a link that holds one token.

abbrev pair : Trial (Unit {0})
pair = record { net = pair_net; grow = 0; start = start_of pair_net pair_in }

abbrev pair_opened : State (Unit {0})
pair_opened = record {
  actors = tt ∷ tt ∷ tt ∷ [];
  flows = record { sent = pos 1 ∷ pos 2 ∷ pos 3 ∷ pos 4 ∷ []; arrived = 4; taken = 0; capacity = 512 }
      ∷ record { sent = []; arrived = 0; taken = 0; capacity = 512 }
      ∷ record { sent = []; arrived = 0; taken = 0; capacity = 512 }
      ∷ record { sent = []; arrived = 0; taken = 0; capacity = 1 }
      ∷ record { sent = []; arrived = 0; taken = 0; capacity = 512 } ∷ [];
  trapped = false;
}

abbrev pair_once : State (Unit {0})
pair_once = record {
  actors = tt ∷ tt ∷ tt ∷ [];
  flows = record { sent = pos 1 ∷ pos 2 ∷ pos 3 ∷ pos 4 ∷ []; arrived = 4; taken = 1; capacity = 512 }
      ∷ record { sent = pos 1 ∷ []; arrived = 0; taken = 0; capacity = 512 }
      ∷ record { sent = []; arrived = 0; taken = 0; capacity = 512 }
      ∷ record { sent = pos 1 ∷ []; arrived = 0; taken = 0; capacity = 1 }
      ∷ record { sent = []; arrived = 0; taken = 0; capacity = 512 } ∷ [];
  trapped = false;
}

-- a second copy passes the link's capacity by one, before a delivery and after it
pair_no_room : EventFails pair pair_opened pair_once (Fire 0 0) NoRoom
pair_no_room = (refl, (3, (refl, omega arith)))

pair_still_no_room : EventFails pair pair_last pair_last (Fire 0 0) NoRoom
pair_still_no_room = (refl, (3, (refl, omega arith)))

-- it is stalled there, so it isn't quiet, and its budget isn't what ends it
pair_not_quiet : EventFails pair pair_last pair_last Quiet End
pair_not_quiet = (refl, λ quiet. let some : effect_at pair_net (all_fed pair_net pair_last) 0 0 ≡ None = quiet.nothing 0 0 in cc)

pair_not_between : EventFails pair pair_last pair_last Budget End
pair_not_between = (refl, λ between. between.not_stuck 0 0 3 (record { stalled = pair_stalls; grown = omega arith }))
