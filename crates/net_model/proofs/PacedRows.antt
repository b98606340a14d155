-- Worked runs, paced. Each round is a record: what each leaf fires, and why it fires no more.
use Rattle.std.proofs.Common.{◌≡◌, ℕ, zero, suc, ◌<◌, ◌⊎◌, false, List, [], ◌∷◌, pos, refl, inl, inr, arith}
use Rattle.std.specs.Prelude.{None}
use Rattle.rvc_base.specs.Behaviour.{Waits, Picks}
use Rattle.trace_text.specs.declared.line.Line.{Line}
use Rattle.trace_text.specs.declared.line.Line.TheVariants.{Fire, Deliver, Quiet, Stall}
use Rattle.net_model.specs.State.{State, start_of, effect_at, choice_at}
use Rattle.net_model.specs.Ends.{IsStalled, LacksRoom, all_fed}
use Rattle.net_model.specs.Paced.{Moment, first_moment, next_moment, Block, GoesOn, Ends, Waiting, NoRoom, HasRoomIn, IsRound, IsPaced}
use Rattle.rvc_base.specs.declared.round_kind.RoundKind.TheVariants.{All}
use Rattle.net_model.specs.Paced.{Pace}
use Rattle.net_model.proofs.Rows.{inc_net, pair_net, pair_in, ring_net}

-- all leaves in each round, 64 firings of each at most, a budget that isn't reached, and links that grow so far
abbrev pub plain : ℕ → Pace
plain grow = record { kind = All; burst = 64; budget = 100000000; grow = grow }

-- an empty file: one delivery, and the run is quiet

abbrev empty_opened_1 : State (Unit {0})
empty_opened_1 = record {
  actors = tt ∷ [];
  flows = record { sent = []; arrived = 0; taken = 0; capacity = 512 }
      ∷ record { sent = []; arrived = 0; taken = 0; capacity = 512 } ∷ [];
  trapped = false;
}

empty_nothing_2 : (i a : ℕ) → effect_at inc_net (all_fed inc_net empty_opened_1) i a ≡ None
empty_nothing_2 zero zero = refl
empty_nothing_2 zero (suc a) = refl
empty_nothing_2 (suc i) a = refl

abbrev empty_block_3 : Block
empty_block_3 = record { bursts = [] ∷ []; close = Ends Quiet }

abbrev empty_at_4 : Moment (Unit {0})
empty_at_4 = (first_moment (plain 0) (start_of inc_net ([] ∷ [])))

empty_round_5 : IsRound inc_net (plain 0) empty_at_4 empty_block_3 empty_opened_1
empty_round_5 = record {
  untrapped = refl;
  halts = Waiting ∷ [];
  fired = empty_opened_1;
  bursts = (empty_opened_1, ((omega arith, refl), refl), refl);
  closes = record { settled = record { untrapped = refl; arrived = ((λ e. refl), ((λ e. cc), tt)) }; nothing = empty_nothing_2 };
  leads = refl;
}

abbrev empty_lines : List Line
empty_lines = Deliver ∷ Quiet ∷ []

empty_paced : IsPaced inc_net (plain 0) (start_of inc_net ([] ∷ [])) empty_lines empty_opened_1
empty_paced = record {
  blocks = [];
  reached = empty_at_4;
  rounds = refl;
  final = empty_block_3;
  ending = empty_round_5;
  ends = tt;
  lines_are = refl;
}

-- a link that holds one token stalls the run

abbrev stall_opened_1 : State (Unit {0})
stall_opened_1 = record {
  actors = tt ∷ tt ∷ tt ∷ [];
  flows = record { sent = pos 1 ∷ pos 2 ∷ pos 3 ∷ pos 4 ∷ []; arrived = 4; taken = 0; capacity = 512 }
      ∷ record { sent = []; arrived = 0; taken = 0; capacity = 512 }
      ∷ record { sent = []; arrived = 0; taken = 0; capacity = 512 }
      ∷ record { sent = []; arrived = 0; taken = 0; capacity = 1 }
      ∷ record { sent = []; arrived = 0; taken = 0; capacity = 512 } ∷ [];
  trapped = false;
}

stall_room_2 : HasRoomIn pair_net stall_opened_1 stall_opened_1 0 0
stall_room_2 zero passes = passes
stall_room_2 (suc zero) passes = omega (arith, passes.1)
stall_room_2 (suc (suc zero)) passes = omega (arith, passes.0)
stall_room_2 (suc (suc (suc zero))) passes = omega (arith, passes.1)
stall_room_2 (suc (suc (suc (suc zero)))) passes = omega (arith, passes.0)
stall_room_2 (suc (suc (suc (suc (suc l))))) passes = passes

abbrev stall_state_3 : State (Unit {0})
stall_state_3 = record {
  actors = tt ∷ tt ∷ tt ∷ [];
  flows = record { sent = pos 1 ∷ pos 2 ∷ pos 3 ∷ pos 4 ∷ []; arrived = 4; taken = 1; capacity = 512 }
      ∷ record { sent = pos 1 ∷ []; arrived = 0; taken = 0; capacity = 512 }
      ∷ record { sent = []; arrived = 0; taken = 0; capacity = 512 }
      ∷ record { sent = pos 1 ∷ []; arrived = 0; taken = 0; capacity = 1 }
      ∷ record { sent = []; arrived = 0; taken = 0; capacity = 512 } ∷ [];
  trapped = false;
}

abbrev stall_block_4 : Block
stall_block_4 = record { bursts = (0 ∷ []) ∷ [] ∷ [] ∷ []; close = GoesOn }

abbrev stall_at_5 : Moment (Unit {0})
stall_at_5 = (first_moment (plain 0) (start_of pair_net pair_in))

stall_round_6 : IsRound pair_net (plain 0) stall_at_5 stall_block_4 stall_state_3
stall_round_6 = record {
  untrapped = refl;
  halts = NoRoom ∷ Waiting ∷ Waiting ∷ [];
  fired = stall_state_3;
  bursts = (stall_state_3, (omega arith, refl, stall_room_2, ((omega arith, (0, 3, refl, (refl, omega arith))), refl)), (stall_state_3, ((omega arith, refl), refl), (stall_state_3, ((omega arith, refl), refl), refl)));
  closes = refl;
  leads = refl;
}

abbrev stall_opened_7 : State (Unit {0})
stall_opened_7 = record {
  actors = tt ∷ tt ∷ tt ∷ [];
  flows = record { sent = pos 1 ∷ pos 2 ∷ pos 3 ∷ pos 4 ∷ []; arrived = 4; taken = 1; capacity = 512 }
      ∷ record { sent = pos 1 ∷ []; arrived = 1; taken = 0; capacity = 512 }
      ∷ record { sent = []; arrived = 0; taken = 0; capacity = 512 }
      ∷ record { sent = pos 1 ∷ []; arrived = 1; taken = 0; capacity = 1 }
      ∷ record { sent = []; arrived = 0; taken = 0; capacity = 512 } ∷ [];
  trapped = false;
}

stall_each_8 : (j : ℕ) → (choice_at pair_net (all_fed pair_net stall_opened_7) j ≡ Waits)
    ⊎ ((b : ℕ) × (m : ℕ) × (choice_at pair_net (all_fed pair_net stall_opened_7) j ≡ Picks b) × LacksRoom pair_net (all_fed pair_net stall_opened_7) j b m)
stall_each_8 zero = inr (0, 3, refl, (refl, omega arith))
stall_each_8 (suc zero) = inl refl
stall_each_8 (suc (suc zero)) = inl refl
stall_each_8 (suc (suc (suc l))) = inl refl

stall_lower_9 : (m : ℕ) → m < 3 → LacksRoom pair_net (all_fed pair_net stall_opened_7) 0 0 m → ⊥
stall_lower_9 zero low lacks = lacks
stall_lower_9 (suc zero) low lacks = omega (arith, lacks.1)
stall_lower_9 (suc (suc zero)) low lacks = omega (arith, lacks.0)
stall_lower_9 (suc (suc (suc l))) low lacks = absurd (omega arith)

stall_stalls_10 : IsStalled pair_net stall_opened_7 0 0 3
stall_stalls_10 = record {
  settled = record { untrapped = refl; arrived = ((λ e. refl), ((λ e. refl), ((λ e. refl), ((λ e. refl), ((λ e. cc), tt))))) };
  each = stall_each_8;
  chosen = refl;
  lowest_leaf = λ j low. absurd (omega arith);
  lacks = (refl, omega arith);
  lowest_link = stall_lower_9;
}

abbrev stall_block_11 : Block
stall_block_11 = record { bursts = [] ∷ [] ∷ [] ∷ []; close = Ends (Stall 0 0 3) }

abbrev stall_at_12 : Moment (Unit {0})
stall_at_12 = next_moment stall_at_5 stall_block_4 stall_state_3

stall_round_13 : IsRound pair_net (plain 0) stall_at_12 stall_block_11 stall_opened_7
stall_round_13 = record {
  untrapped = refl;
  halts = NoRoom ∷ Waiting ∷ Waiting ∷ [];
  fired = stall_opened_7;
  bursts = (stall_opened_7, ((omega arith, (0, 3, refl, (refl, omega arith))), refl), (stall_opened_7, ((omega arith, refl), refl), (stall_opened_7, ((omega arith, refl), refl), refl)));
  closes = record { stalled = stall_stalls_10; grown = omega arith };
  leads = refl;
}

abbrev stall_lines : List Line
stall_lines = Deliver ∷ Fire 0 0 ∷ Deliver ∷ Stall 0 0 3 ∷ []

stall_paced : IsPaced pair_net (plain 0) (start_of pair_net pair_in) stall_lines stall_opened_7
stall_paced = record {
  blocks = stall_block_4 ∷ [];
  reached = stall_at_12;
  rounds = (stall_state_3, stall_round_6, (λ ends. ends), refl);
  final = stall_block_11;
  ending = stall_round_13;
  ends = tt;
  lines_are = refl;
}

-- each actor sends before it gets a token

abbrev ring_opened_1 : State (ℕ)
ring_opened_1 = record {
  actors = 0 ∷ 0 ∷ [];
  flows = record { sent = []; arrived = 0; taken = 0; capacity = 512 }
      ∷ record { sent = []; arrived = 0; taken = 0; capacity = 512 } ∷ [];
  trapped = false;
}

ring_room_2 : HasRoomIn ring_net ring_opened_1 ring_opened_1 0 1
ring_room_2 zero passes = omega (arith, passes.0)
ring_room_2 (suc zero) passes = omega (arith, passes.1)
ring_room_2 (suc (suc l)) passes = passes

abbrev ring_state_3 : State (ℕ)
ring_state_3 = record {
  actors = 1 ∷ 0 ∷ [];
  flows = record { sent = []; arrived = 0; taken = 0; capacity = 512 }
      ∷ record { sent = pos 1 ∷ []; arrived = 0; taken = 0; capacity = 512 } ∷ [];
  trapped = false;
}

ring_room_4 : HasRoomIn ring_net ring_opened_1 ring_state_3 1 1
ring_room_4 zero passes = omega (arith, passes.1)
ring_room_4 (suc zero) passes = omega (arith, passes.0)
ring_room_4 (suc (suc l)) passes = passes

abbrev ring_state_5 : State (ℕ)
ring_state_5 = record {
  actors = 1 ∷ 1 ∷ [];
  flows = record { sent = pos 1 ∷ []; arrived = 0; taken = 0; capacity = 512 }
      ∷ record { sent = pos 1 ∷ []; arrived = 0; taken = 0; capacity = 512 } ∷ [];
  trapped = false;
}

abbrev ring_block_6 : Block
ring_block_6 = record { bursts = (1 ∷ []) ∷ (1 ∷ []) ∷ []; close = GoesOn }

abbrev ring_at_7 : Moment (ℕ)
ring_at_7 = (first_moment (plain 0) (start_of ring_net []))

ring_round_8 : IsRound ring_net (plain 0) ring_at_7 ring_block_6 ring_state_5
ring_round_8 = record {
  untrapped = refl;
  halts = Waiting ∷ Waiting ∷ [];
  fired = ring_state_5;
  bursts = (ring_state_3, (omega arith, refl, ring_room_2, ((omega arith, refl), refl)), (ring_state_5, (omega arith, refl, ring_room_4, ((omega arith, refl), refl)), refl));
  closes = refl;
  leads = refl;
}

abbrev ring_opened_9 : State (ℕ)
ring_opened_9 = record {
  actors = 1 ∷ 1 ∷ [];
  flows = record { sent = pos 1 ∷ []; arrived = 1; taken = 0; capacity = 512 }
      ∷ record { sent = pos 1 ∷ []; arrived = 1; taken = 0; capacity = 512 } ∷ [];
  trapped = false;
}

ring_nothing_10 : (i a : ℕ) → effect_at ring_net (all_fed ring_net ring_opened_9) i a ≡ None
ring_nothing_10 zero zero = refl
ring_nothing_10 zero (suc zero) = refl
ring_nothing_10 zero (suc (suc a)) = refl
ring_nothing_10 (suc zero) zero = refl
ring_nothing_10 (suc zero) (suc zero) = refl
ring_nothing_10 (suc zero) (suc (suc a)) = refl
ring_nothing_10 (suc (suc i)) a = refl

abbrev ring_block_11 : Block
ring_block_11 = record { bursts = [] ∷ [] ∷ []; close = Ends Quiet }

abbrev ring_at_12 : Moment (ℕ)
ring_at_12 = next_moment ring_at_7 ring_block_6 ring_state_5

ring_round_13 : IsRound ring_net (plain 0) ring_at_12 ring_block_11 ring_opened_9
ring_round_13 = record {
  untrapped = refl;
  halts = Waiting ∷ Waiting ∷ [];
  fired = ring_opened_9;
  bursts = (ring_opened_9, ((omega arith, refl), refl), (ring_opened_9, ((omega arith, refl), refl), refl));
  closes = record { settled = record { untrapped = refl; arrived = ((λ e. refl), ((λ e. refl), tt)) }; nothing = ring_nothing_10 };
  leads = refl;
}

abbrev ring_lines : List Line
ring_lines = Deliver ∷ Fire 0 1 ∷ Fire 1 1 ∷ Deliver ∷ Quiet ∷ []

ring_paced : IsPaced ring_net (plain 0) (start_of ring_net []) ring_lines ring_opened_9
ring_paced = record {
  blocks = ring_block_6 ∷ [];
  reached = ring_at_12;
  rounds = (ring_state_5, ring_round_8, (λ ends. ends), refl);
  final = ring_block_11;
  ending = ring_round_13;
  ends = tt;
  lines_are = refl;
}

-- the limit 1 lets the link of capacity 1 grow no more

abbrev one_opened_1 : State (Unit {0})
one_opened_1 = record {
  actors = tt ∷ tt ∷ tt ∷ [];
  flows = record { sent = pos 1 ∷ pos 2 ∷ pos 3 ∷ pos 4 ∷ []; arrived = 4; taken = 0; capacity = 512 }
      ∷ record { sent = []; arrived = 0; taken = 0; capacity = 512 }
      ∷ record { sent = []; arrived = 0; taken = 0; capacity = 512 }
      ∷ record { sent = []; arrived = 0; taken = 0; capacity = 1 }
      ∷ record { sent = []; arrived = 0; taken = 0; capacity = 512 } ∷ [];
  trapped = false;
}

one_room_2 : HasRoomIn pair_net one_opened_1 one_opened_1 0 0
one_room_2 zero passes = passes
one_room_2 (suc zero) passes = omega (arith, passes.1)
one_room_2 (suc (suc zero)) passes = omega (arith, passes.0)
one_room_2 (suc (suc (suc zero))) passes = omega (arith, passes.1)
one_room_2 (suc (suc (suc (suc zero)))) passes = omega (arith, passes.0)
one_room_2 (suc (suc (suc (suc (suc l))))) passes = passes

abbrev one_state_3 : State (Unit {0})
one_state_3 = record {
  actors = tt ∷ tt ∷ tt ∷ [];
  flows = record { sent = pos 1 ∷ pos 2 ∷ pos 3 ∷ pos 4 ∷ []; arrived = 4; taken = 1; capacity = 512 }
      ∷ record { sent = pos 1 ∷ []; arrived = 0; taken = 0; capacity = 512 }
      ∷ record { sent = []; arrived = 0; taken = 0; capacity = 512 }
      ∷ record { sent = pos 1 ∷ []; arrived = 0; taken = 0; capacity = 1 }
      ∷ record { sent = []; arrived = 0; taken = 0; capacity = 512 } ∷ [];
  trapped = false;
}

abbrev one_block_4 : Block
one_block_4 = record { bursts = (0 ∷ []) ∷ [] ∷ [] ∷ []; close = GoesOn }

abbrev one_at_5 : Moment (Unit {0})
one_at_5 = (first_moment (plain 1) (start_of pair_net pair_in))

one_round_6 : IsRound pair_net (plain 1) one_at_5 one_block_4 one_state_3
one_round_6 = record {
  untrapped = refl;
  halts = NoRoom ∷ Waiting ∷ Waiting ∷ [];
  fired = one_state_3;
  bursts = (one_state_3, (omega arith, refl, one_room_2, ((omega arith, (0, 3, refl, (refl, omega arith))), refl)), (one_state_3, ((omega arith, refl), refl), (one_state_3, ((omega arith, refl), refl), refl)));
  closes = refl;
  leads = refl;
}

abbrev one_opened_7 : State (Unit {0})
one_opened_7 = record {
  actors = tt ∷ tt ∷ tt ∷ [];
  flows = record { sent = pos 1 ∷ pos 2 ∷ pos 3 ∷ pos 4 ∷ []; arrived = 4; taken = 1; capacity = 512 }
      ∷ record { sent = pos 1 ∷ []; arrived = 1; taken = 0; capacity = 512 }
      ∷ record { sent = []; arrived = 0; taken = 0; capacity = 512 }
      ∷ record { sent = pos 1 ∷ []; arrived = 1; taken = 0; capacity = 1 }
      ∷ record { sent = []; arrived = 0; taken = 0; capacity = 512 } ∷ [];
  trapped = false;
}

one_each_8 : (j : ℕ) → (choice_at pair_net (all_fed pair_net one_opened_7) j ≡ Waits)
    ⊎ ((b : ℕ) × (m : ℕ) × (choice_at pair_net (all_fed pair_net one_opened_7) j ≡ Picks b) × LacksRoom pair_net (all_fed pair_net one_opened_7) j b m)
one_each_8 zero = inr (0, 3, refl, (refl, omega arith))
one_each_8 (suc zero) = inl refl
one_each_8 (suc (suc zero)) = inl refl
one_each_8 (suc (suc (suc l))) = inl refl

one_lower_9 : (m : ℕ) → m < 3 → LacksRoom pair_net (all_fed pair_net one_opened_7) 0 0 m → ⊥
one_lower_9 zero low lacks = lacks
one_lower_9 (suc zero) low lacks = omega (arith, lacks.1)
one_lower_9 (suc (suc zero)) low lacks = omega (arith, lacks.0)
one_lower_9 (suc (suc (suc l))) low lacks = absurd (omega arith)

one_stalls_10 : IsStalled pair_net one_opened_7 0 0 3
one_stalls_10 = record {
  settled = record { untrapped = refl; arrived = ((λ e. refl), ((λ e. refl), ((λ e. refl), ((λ e. refl), ((λ e. cc), tt))))) };
  each = one_each_8;
  chosen = refl;
  lowest_leaf = λ j low. absurd (omega arith);
  lacks = (refl, omega arith);
  lowest_link = one_lower_9;
}

abbrev one_block_11 : Block
one_block_11 = record { bursts = [] ∷ [] ∷ [] ∷ []; close = Ends (Stall 0 0 3) }

abbrev one_at_12 : Moment (Unit {0})
one_at_12 = next_moment one_at_5 one_block_4 one_state_3

one_round_13 : IsRound pair_net (plain 1) one_at_12 one_block_11 one_opened_7
one_round_13 = record {
  untrapped = refl;
  halts = NoRoom ∷ Waiting ∷ Waiting ∷ [];
  fired = one_opened_7;
  bursts = (one_opened_7, ((omega arith, (0, 3, refl, (refl, omega arith))), refl), (one_opened_7, ((omega arith, refl), refl), (one_opened_7, ((omega arith, refl), refl), refl)));
  closes = record { stalled = one_stalls_10; grown = omega arith };
  leads = refl;
}

abbrev one_lines : List Line
one_lines = Deliver ∷ Fire 0 0 ∷ Deliver ∷ Stall 0 0 3 ∷ []

one_paced : IsPaced pair_net (plain 1) (start_of pair_net pair_in) one_lines one_opened_7
one_paced = record {
  blocks = one_block_4 ∷ [];
  reached = one_at_12;
  rounds = (one_state_3, one_round_6, (λ ends. ends), refl);
  final = one_block_11;
  ending = one_round_13;
  ends = tt;
  lines_are = refl;
}
