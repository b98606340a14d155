-- A worked run that its budget cuts: the front of a decoder, with 10 firings shared among three leaves.
use Rattle.std.proofs.Common.{◌≡◌, ℕ, zero, suc, ◌⊎◌, false, List, [], ◌∷◌, ℤ, pos, negsuc, refl, sym, subst, inl, inr, arith}
use Rattle.std.specs.Prelude.{Option, None, Some, codes, length, nat_lt, if◌then◌else◌, slice_index_or, take}
use Rattle.rvc_base.specs.declared.scalar.Scalar.TheVariants.{Int, Uint}
use Rattle.rvc_base.specs.Storing.{conv}
use Rattle.rvc_base.specs.Behaviour.{Behaviour, Effect, Fires, Choice, Waits, Picks}
use Rattle.rvc_base.specs.declared.round_kind.RoundKind.TheVariants.{All}
use Rattle.trace_text.specs.declared.line.Line.{Line}
use Rattle.trace_text.specs.declared.line.Line.TheVariants.{Fire, Deliver, Budget}
use Rattle.net_model.specs.declared.wiring.End.{End}
use Rattle.net_model.specs.declared.wiring.End.TheVariants.{Net as AtNet}
use Rattle.net_model.specs.declared.wiring.Link.{Link}
use Rattle.net_model.specs.Network.{Network}
use Rattle.net_model.specs.State.{State, start_of, effect_at, choice_at}
use Rattle.net_model.specs.Ends.{IsQuiet, IsStuck, LacksRoom, all_fed}
use Rattle.net_model.specs.Paced.{Pace, Moment, first_moment, next_moment, Block, GoesOn, Ends, Spent, Waiting, HasRoomIn, IsRound, IsPaced}
use Rattle.net_model.proofs.Rows.{leaf_port, rate}

-- what the first leaf has in hand: nothing, or so many zeros and a level behind them
data Decoder : Type 0 where
  Idle : Decoder
  Gives : (run level : ℤ) → Decoder

-- a pair of a run and a level is taken, one token a number of it
abbrev got : Decoder → List ℤ → Option (Effect Decoder)
got Idle [] = None
got Idle (r ∷ []) = None
got Idle (r ∷ v ∷ vs) = Some (Fires (Gives (conv (Int 8) r) (conv (Int 16) v)) ([] ∷ []))
got (Gives r v) vs = None

-- a zero of the run is sent
abbrev zeroed : Decoder → Option (Effect Decoder)
zeroed Idle = None
zeroed (Gives (pos zero) v) = None
zeroed (Gives (pos (suc n)) v) = Some (Fires (Gives (pos n) v) ((pos 0 ∷ []) ∷ []))
zeroed (Gives (negsuc n) v) = None

-- the level is sent behind the run
abbrev levelled : Decoder → Option (Effect Decoder)
levelled Idle = None
levelled (Gives (pos zero) v) = Some (Fires Idle ((v ∷ []) ∷ []))
levelled (Gives (pos (suc n)) v) = None
levelled (Gives (negsuc n) v) = None

abbrev run_effect : Decoder → List ℤ → ℕ → Option (Effect Decoder)
run_effect x vs zero = got x vs
run_effect x vs (suc zero) = zeroed x
run_effect x vs (suc (suc zero)) = levelled x
run_effect x vs (suc (suc (suc a))) = None

abbrev run_choice : Decoder → List ℤ → Choice
run_choice Idle [] = Waits
run_choice Idle (r ∷ []) = Waits
run_choice Idle (r ∷ v ∷ vs) = Picks 0
run_choice (Gives (pos zero) v) vs = Picks 2
run_choice (Gives (pos (suc n)) v) vs = Picks 1
run_choice (Gives (negsuc n) v) vs = Waits

abbrev run_needs : ℕ → ℕ → ℕ
run_needs zero zero = 2
run_needs zero (suc p) = 0
run_needs (suc a) p = 0

abbrev run_gives : ℕ → ℕ → ℕ
run_gives zero p = 0
run_gives (suc zero) zero = 1
run_gives (suc zero) (suc p) = 0
run_gives (suc (suc zero)) zero = 1
run_gives (suc (suc zero)) (suc p) = 0
run_gives (suc (suc (suc a))) p = 0

abbrev run_lengths : Behaviour Decoder
run_lengths = record {
  start = Idle;
  ins = 1;
  outs = 1;
  actions = 3;
  need = run_needs;
  give = run_gives;
  effect = λ x u a. run_effect x (slice_index_or u 0 []) a;
  choice = λ x u. run_choice x (slice_index_or u 0 []);
}

-- an actor with one action, which takes so many tokens and sends as many, which f makes of them
abbrev mapped : ℕ → (List ℤ → List ℤ) → Decoder → List ℤ → ℕ → Option (Effect Decoder)
mapped n f x vs zero = if nat_lt (length vs) n then None else Some (Fires x (f (take n vs) ∷ []))
mapped n f x vs (suc a) = None

abbrev maps : ℕ → (List ℤ → List ℤ) → Behaviour Decoder
maps n f = record {
  start = Idle;
  ins = 1;
  outs = 1;
  actions = 1;
  need = rate (n ∷ []);
  give = rate (n ∷ []);
  effect = λ x u a. mapped n f x (slice_index_or u 0 []) a;
  choice = λ x u. if nat_lt (length (slice_index_or u 0 [])) n then Waits else Picks 0;
}

abbrev word_link : End → End → Link
word_link from to = record { from = from; to = to; capacity = 512; kind = Int 16 }

-- The run's levels, a block of 64 of them, and each of these as a byte. Whatever the last two make of their tokens,
-- the run is the same.
abbrev decoder_net : Network Decoder
decoder_net = record {
  leaves = record { path = codes "rl"; class = codes "dec.Rld"; behaviour = run_lengths }
      ∷ record { path = codes "blk.z"; class = codes "dec.Zigzag"; behaviour = maps 64 (λ vs. vs) }
      ∷ record { path = codes "blk.s"; class = codes "dec.Sat"; behaviour = maps 1 (λ vs. vs) } ∷ [];
  links = word_link (AtNet 0) (leaf_port 0 0) ∷ word_link (leaf_port 0 0) (leaf_port 1 0)
      ∷ word_link (leaf_port 1 0) (leaf_port 2 0)
      ∷ record { from = leaf_port 2 0; to = AtNet 0; capacity = 512; kind = Uint 8 } ∷ [];
  ins = record { name = codes "In"; kind = Int 16 } ∷ [];
  outs = record { name = codes "Out"; kind = Uint 8 } ∷ [];
}

abbrev decoder_in : List (List ℕ)
decoder_in = (0 ∷ 0 ∷ 100 ∷ 0 ∷ 0 ∷ 0 ∷ 212 ∷ 254 ∷ 2 ∷ 0 ∷ 27 ∷ 0 ∷ 58 ∷ 0 ∷ 5 ∷ 0 ∷ []) ∷ []

-- all leaves in each round, 64 firings of each at most, and 10 of all
abbrev cut : Pace
cut = record { kind = All; burst = 64; budget = 10; grow = 0 }

abbrev cut_opened_1 : State Decoder
cut_opened_1 = record {
  actors = Idle ∷ Idle ∷ Idle ∷ [];
  flows = record { sent = pos 0 ∷ pos 100 ∷ pos 0 ∷ negsuc 299 ∷ pos 2 ∷ pos 27 ∷ pos 58 ∷ pos 5 ∷ []; arrived = 8; taken = 0; capacity = 512 }
      ∷ record { sent = []; arrived = 0; taken = 0; capacity = 512 }
      ∷ record { sent = []; arrived = 0; taken = 0; capacity = 512 }
      ∷ record { sent = []; arrived = 0; taken = 0; capacity = 512 } ∷ [];
  trapped = false;
}

cut_room_2 : HasRoomIn decoder_net cut_opened_1 cut_opened_1 0 0
cut_room_2 zero passes = passes
cut_room_2 (suc zero) passes = omega (arith, passes.1)
cut_room_2 (suc (suc zero)) passes = omega (arith, passes.0)
cut_room_2 (suc (suc (suc zero))) passes = omega (arith, passes.0)
cut_room_2 (suc (suc (suc (suc l)))) passes = passes

abbrev cut_state_3 : State Decoder
cut_state_3 = record {
  actors = Gives (pos 0) (pos 100) ∷ Idle ∷ Idle ∷ [];
  flows = record { sent = pos 0 ∷ pos 100 ∷ pos 0 ∷ negsuc 299 ∷ pos 2 ∷ pos 27 ∷ pos 58 ∷ pos 5 ∷ []; arrived = 8; taken = 2; capacity = 512 }
      ∷ record { sent = []; arrived = 0; taken = 0; capacity = 512 }
      ∷ record { sent = []; arrived = 0; taken = 0; capacity = 512 }
      ∷ record { sent = []; arrived = 0; taken = 0; capacity = 512 } ∷ [];
  trapped = false;
}

cut_room_4 : HasRoomIn decoder_net cut_opened_1 cut_state_3 0 2
cut_room_4 zero passes = passes
cut_room_4 (suc zero) passes = omega (arith, passes.1)
cut_room_4 (suc (suc zero)) passes = omega (arith, passes.0)
cut_room_4 (suc (suc (suc zero))) passes = omega (arith, passes.0)
cut_room_4 (suc (suc (suc (suc l)))) passes = passes

abbrev cut_state_5 : State Decoder
cut_state_5 = record {
  actors = Idle ∷ Idle ∷ Idle ∷ [];
  flows = record { sent = pos 0 ∷ pos 100 ∷ pos 0 ∷ negsuc 299 ∷ pos 2 ∷ pos 27 ∷ pos 58 ∷ pos 5 ∷ []; arrived = 8; taken = 2; capacity = 512 }
      ∷ record { sent = pos 100 ∷ []; arrived = 0; taken = 0; capacity = 512 }
      ∷ record { sent = []; arrived = 0; taken = 0; capacity = 512 }
      ∷ record { sent = []; arrived = 0; taken = 0; capacity = 512 } ∷ [];
  trapped = false;
}

cut_room_6 : HasRoomIn decoder_net cut_opened_1 cut_state_5 0 0
cut_room_6 zero passes = passes
cut_room_6 (suc zero) passes = omega (arith, passes.1)
cut_room_6 (suc (suc zero)) passes = omega (arith, passes.0)
cut_room_6 (suc (suc (suc zero))) passes = omega (arith, passes.0)
cut_room_6 (suc (suc (suc (suc l)))) passes = passes

abbrev cut_state_7 : State Decoder
cut_state_7 = record {
  actors = Gives (pos 0) (negsuc 299) ∷ Idle ∷ Idle ∷ [];
  flows = record { sent = pos 0 ∷ pos 100 ∷ pos 0 ∷ negsuc 299 ∷ pos 2 ∷ pos 27 ∷ pos 58 ∷ pos 5 ∷ []; arrived = 8; taken = 4; capacity = 512 }
      ∷ record { sent = pos 100 ∷ []; arrived = 0; taken = 0; capacity = 512 }
      ∷ record { sent = []; arrived = 0; taken = 0; capacity = 512 }
      ∷ record { sent = []; arrived = 0; taken = 0; capacity = 512 } ∷ [];
  trapped = false;
}

cut_room_8 : HasRoomIn decoder_net cut_opened_1 cut_state_7 0 2
cut_room_8 zero passes = passes
cut_room_8 (suc zero) passes = omega (arith, passes.1)
cut_room_8 (suc (suc zero)) passes = omega (arith, passes.0)
cut_room_8 (suc (suc (suc zero))) passes = omega (arith, passes.0)
cut_room_8 (suc (suc (suc (suc l)))) passes = passes

abbrev cut_state_9 : State Decoder
cut_state_9 = record {
  actors = Idle ∷ Idle ∷ Idle ∷ [];
  flows = record { sent = pos 0 ∷ pos 100 ∷ pos 0 ∷ negsuc 299 ∷ pos 2 ∷ pos 27 ∷ pos 58 ∷ pos 5 ∷ []; arrived = 8; taken = 4; capacity = 512 }
      ∷ record { sent = pos 100 ∷ negsuc 299 ∷ []; arrived = 0; taken = 0; capacity = 512 }
      ∷ record { sent = []; arrived = 0; taken = 0; capacity = 512 }
      ∷ record { sent = []; arrived = 0; taken = 0; capacity = 512 } ∷ [];
  trapped = false;
}

abbrev cut_block_10 : Block
cut_block_10 = record { bursts = (0 ∷ 2 ∷ 0 ∷ 2 ∷ []) ∷ [] ∷ [] ∷ []; close = GoesOn }

abbrev cut_at_11 : Moment Decoder
cut_at_11 = (first_moment cut (start_of decoder_net decoder_in))

cut_round_12 : IsRound decoder_net cut cut_at_11 cut_block_10 cut_state_9
cut_round_12 = record {
  untrapped = refl;
  halts = Spent ∷ Waiting ∷ Waiting ∷ [];
  fired = cut_state_9;
  bursts = (cut_state_9, (omega arith, refl, cut_room_2, (omega arith, refl, cut_room_4, (omega arith, refl, cut_room_6, (omega arith, refl, cut_room_8, (refl, refl))))), (cut_state_9, ((omega arith, refl), refl), (cut_state_9, ((omega arith, refl), refl), refl)));
  closes = refl;
  leads = refl;
}

abbrev cut_opened_13 : State Decoder
cut_opened_13 = record {
  actors = Idle ∷ Idle ∷ Idle ∷ [];
  flows = record { sent = pos 0 ∷ pos 100 ∷ pos 0 ∷ negsuc 299 ∷ pos 2 ∷ pos 27 ∷ pos 58 ∷ pos 5 ∷ []; arrived = 8; taken = 4; capacity = 512 }
      ∷ record { sent = pos 100 ∷ negsuc 299 ∷ []; arrived = 2; taken = 0; capacity = 512 }
      ∷ record { sent = []; arrived = 0; taken = 0; capacity = 512 }
      ∷ record { sent = []; arrived = 0; taken = 0; capacity = 512 } ∷ [];
  trapped = false;
}

cut_room_14 : HasRoomIn decoder_net cut_opened_13 cut_opened_13 0 0
cut_room_14 zero passes = passes
cut_room_14 (suc zero) passes = omega (arith, passes.1)
cut_room_14 (suc (suc zero)) passes = omega (arith, passes.0)
cut_room_14 (suc (suc (suc zero))) passes = omega (arith, passes.0)
cut_room_14 (suc (suc (suc (suc l)))) passes = passes

abbrev cut_state_15 : State Decoder
cut_state_15 = record {
  actors = Gives (pos 2) (pos 27) ∷ Idle ∷ Idle ∷ [];
  flows = record { sent = pos 0 ∷ pos 100 ∷ pos 0 ∷ negsuc 299 ∷ pos 2 ∷ pos 27 ∷ pos 58 ∷ pos 5 ∷ []; arrived = 8; taken = 6; capacity = 512 }
      ∷ record { sent = pos 100 ∷ negsuc 299 ∷ []; arrived = 2; taken = 0; capacity = 512 }
      ∷ record { sent = []; arrived = 0; taken = 0; capacity = 512 }
      ∷ record { sent = []; arrived = 0; taken = 0; capacity = 512 } ∷ [];
  trapped = false;
}

cut_room_16 : HasRoomIn decoder_net cut_opened_13 cut_state_15 0 1
cut_room_16 zero passes = passes
cut_room_16 (suc zero) passes = omega (arith, passes.1)
cut_room_16 (suc (suc zero)) passes = omega (arith, passes.0)
cut_room_16 (suc (suc (suc zero))) passes = omega (arith, passes.0)
cut_room_16 (suc (suc (suc (suc l)))) passes = passes

abbrev cut_state_17 : State Decoder
cut_state_17 = record {
  actors = Gives (pos 1) (pos 27) ∷ Idle ∷ Idle ∷ [];
  flows = record { sent = pos 0 ∷ pos 100 ∷ pos 0 ∷ negsuc 299 ∷ pos 2 ∷ pos 27 ∷ pos 58 ∷ pos 5 ∷ []; arrived = 8; taken = 6; capacity = 512 }
      ∷ record { sent = pos 100 ∷ negsuc 299 ∷ pos 0 ∷ []; arrived = 2; taken = 0; capacity = 512 }
      ∷ record { sent = []; arrived = 0; taken = 0; capacity = 512 }
      ∷ record { sent = []; arrived = 0; taken = 0; capacity = 512 } ∷ [];
  trapped = false;
}

abbrev cut_block_18 : Block
cut_block_18 = record { bursts = (0 ∷ 1 ∷ []) ∷ [] ∷ [] ∷ []; close = GoesOn }

abbrev cut_at_19 : Moment Decoder
cut_at_19 = next_moment cut_at_11 cut_block_10 cut_state_9

cut_round_20 : IsRound decoder_net cut cut_at_19 cut_block_18 cut_state_17
cut_round_20 = record {
  untrapped = refl;
  halts = Spent ∷ Waiting ∷ Waiting ∷ [];
  fired = cut_state_17;
  bursts = (cut_state_17, (omega arith, refl, cut_room_14, (omega arith, refl, cut_room_16, (refl, refl))), (cut_state_17, ((omega arith, refl), refl), (cut_state_17, ((omega arith, refl), refl), refl)));
  closes = refl;
  leads = refl;
}

abbrev cut_opened_21 : State Decoder
cut_opened_21 = record {
  actors = Gives (pos 1) (pos 27) ∷ Idle ∷ Idle ∷ [];
  flows = record { sent = pos 0 ∷ pos 100 ∷ pos 0 ∷ negsuc 299 ∷ pos 2 ∷ pos 27 ∷ pos 58 ∷ pos 5 ∷ []; arrived = 8; taken = 6; capacity = 512 }
      ∷ record { sent = pos 100 ∷ negsuc 299 ∷ pos 0 ∷ []; arrived = 3; taken = 0; capacity = 512 }
      ∷ record { sent = []; arrived = 0; taken = 0; capacity = 512 }
      ∷ record { sent = []; arrived = 0; taken = 0; capacity = 512 } ∷ [];
  trapped = false;
}

cut_room_22 : HasRoomIn decoder_net cut_opened_21 cut_opened_21 0 1
cut_room_22 zero passes = passes
cut_room_22 (suc zero) passes = omega (arith, passes.1)
cut_room_22 (suc (suc zero)) passes = omega (arith, passes.0)
cut_room_22 (suc (suc (suc zero))) passes = omega (arith, passes.0)
cut_room_22 (suc (suc (suc (suc l)))) passes = passes

abbrev cut_state_23 : State Decoder
cut_state_23 = record {
  actors = Gives (pos 0) (pos 27) ∷ Idle ∷ Idle ∷ [];
  flows = record { sent = pos 0 ∷ pos 100 ∷ pos 0 ∷ negsuc 299 ∷ pos 2 ∷ pos 27 ∷ pos 58 ∷ pos 5 ∷ []; arrived = 8; taken = 6; capacity = 512 }
      ∷ record { sent = pos 100 ∷ negsuc 299 ∷ pos 0 ∷ pos 0 ∷ []; arrived = 3; taken = 0; capacity = 512 }
      ∷ record { sent = []; arrived = 0; taken = 0; capacity = 512 }
      ∷ record { sent = []; arrived = 0; taken = 0; capacity = 512 } ∷ [];
  trapped = false;
}

cut_room_24 : HasRoomIn decoder_net cut_opened_21 cut_state_23 0 2
cut_room_24 zero passes = passes
cut_room_24 (suc zero) passes = omega (arith, passes.1)
cut_room_24 (suc (suc zero)) passes = omega (arith, passes.0)
cut_room_24 (suc (suc (suc zero))) passes = omega (arith, passes.0)
cut_room_24 (suc (suc (suc (suc l)))) passes = passes

abbrev cut_state_25 : State Decoder
cut_state_25 = record {
  actors = Idle ∷ Idle ∷ Idle ∷ [];
  flows = record { sent = pos 0 ∷ pos 100 ∷ pos 0 ∷ negsuc 299 ∷ pos 2 ∷ pos 27 ∷ pos 58 ∷ pos 5 ∷ []; arrived = 8; taken = 6; capacity = 512 }
      ∷ record { sent = pos 100 ∷ negsuc 299 ∷ pos 0 ∷ pos 0 ∷ pos 27 ∷ []; arrived = 3; taken = 0; capacity = 512 }
      ∷ record { sent = []; arrived = 0; taken = 0; capacity = 512 }
      ∷ record { sent = []; arrived = 0; taken = 0; capacity = 512 } ∷ [];
  trapped = false;
}

abbrev cut_block_26 : Block
cut_block_26 = record { bursts = (1 ∷ 2 ∷ []) ∷ [] ∷ [] ∷ []; close = GoesOn }

abbrev cut_at_27 : Moment Decoder
cut_at_27 = next_moment cut_at_19 cut_block_18 cut_state_17

cut_round_28 : IsRound decoder_net cut cut_at_27 cut_block_26 cut_state_25
cut_round_28 = record {
  untrapped = refl;
  halts = Spent ∷ Waiting ∷ Waiting ∷ [];
  fired = cut_state_25;
  bursts = (cut_state_25, (omega arith, refl, cut_room_22, (omega arith, refl, cut_room_24, (refl, refl))), (cut_state_25, ((omega arith, refl), refl), (cut_state_25, ((omega arith, refl), refl), refl)));
  closes = refl;
  leads = refl;
}

abbrev cut_opened_29 : State Decoder
cut_opened_29 = record {
  actors = Idle ∷ Idle ∷ Idle ∷ [];
  flows = record { sent = pos 0 ∷ pos 100 ∷ pos 0 ∷ negsuc 299 ∷ pos 2 ∷ pos 27 ∷ pos 58 ∷ pos 5 ∷ []; arrived = 8; taken = 6; capacity = 512 }
      ∷ record { sent = pos 100 ∷ negsuc 299 ∷ pos 0 ∷ pos 0 ∷ pos 27 ∷ []; arrived = 5; taken = 0; capacity = 512 }
      ∷ record { sent = []; arrived = 0; taken = 0; capacity = 512 }
      ∷ record { sent = []; arrived = 0; taken = 0; capacity = 512 } ∷ [];
  trapped = false;
}

cut_room_30 : HasRoomIn decoder_net cut_opened_29 cut_opened_29 0 0
cut_room_30 zero passes = passes
cut_room_30 (suc zero) passes = omega (arith, passes.1)
cut_room_30 (suc (suc zero)) passes = omega (arith, passes.0)
cut_room_30 (suc (suc (suc zero))) passes = omega (arith, passes.0)
cut_room_30 (suc (suc (suc (suc l)))) passes = passes

abbrev cut_state_31 : State Decoder
cut_state_31 = record {
  actors = Gives (pos 58) (pos 5) ∷ Idle ∷ Idle ∷ [];
  flows = record { sent = pos 0 ∷ pos 100 ∷ pos 0 ∷ negsuc 299 ∷ pos 2 ∷ pos 27 ∷ pos 58 ∷ pos 5 ∷ []; arrived = 8; taken = 8; capacity = 512 }
      ∷ record { sent = pos 100 ∷ negsuc 299 ∷ pos 0 ∷ pos 0 ∷ pos 27 ∷ []; arrived = 5; taken = 0; capacity = 512 }
      ∷ record { sent = []; arrived = 0; taken = 0; capacity = 512 }
      ∷ record { sent = []; arrived = 0; taken = 0; capacity = 512 } ∷ [];
  trapped = false;
}

cut_room_32 : HasRoomIn decoder_net cut_opened_29 cut_state_31 0 1
cut_room_32 zero passes = passes
cut_room_32 (suc zero) passes = omega (arith, passes.1)
cut_room_32 (suc (suc zero)) passes = omega (arith, passes.0)
cut_room_32 (suc (suc (suc zero))) passes = omega (arith, passes.0)
cut_room_32 (suc (suc (suc (suc l)))) passes = passes

abbrev cut_state_33 : State Decoder
cut_state_33 = record {
  actors = Gives (pos 57) (pos 5) ∷ Idle ∷ Idle ∷ [];
  flows = record { sent = pos 0 ∷ pos 100 ∷ pos 0 ∷ negsuc 299 ∷ pos 2 ∷ pos 27 ∷ pos 58 ∷ pos 5 ∷ []; arrived = 8; taken = 8; capacity = 512 }
      ∷ record { sent = pos 100 ∷ negsuc 299 ∷ pos 0 ∷ pos 0 ∷ pos 27 ∷ pos 0 ∷ []; arrived = 5; taken = 0; capacity = 512 }
      ∷ record { sent = []; arrived = 0; taken = 0; capacity = 512 }
      ∷ record { sent = []; arrived = 0; taken = 0; capacity = 512 } ∷ [];
  trapped = false;
}

abbrev cut_block_34 : Block
cut_block_34 = record { bursts = (0 ∷ 1 ∷ []) ∷ [] ∷ [] ∷ []; close = GoesOn }

abbrev cut_at_35 : Moment Decoder
cut_at_35 = next_moment cut_at_27 cut_block_26 cut_state_25

cut_round_36 : IsRound decoder_net cut cut_at_35 cut_block_34 cut_state_33
cut_round_36 = record {
  untrapped = refl;
  halts = Spent ∷ Spent ∷ Spent ∷ [];
  fired = cut_state_33;
  bursts = (cut_state_33, (omega arith, refl, cut_room_30, (omega arith, refl, cut_room_32, (refl, refl))), (cut_state_33, (refl, refl), (cut_state_33, (refl, refl), refl)));
  closes = refl;
  leads = refl;
}

abbrev cut_opened_37 : State Decoder
cut_opened_37 = record {
  actors = Gives (pos 57) (pos 5) ∷ Idle ∷ Idle ∷ [];
  flows = record { sent = pos 0 ∷ pos 100 ∷ pos 0 ∷ negsuc 299 ∷ pos 2 ∷ pos 27 ∷ pos 58 ∷ pos 5 ∷ []; arrived = 8; taken = 8; capacity = 512 }
      ∷ record { sent = pos 100 ∷ negsuc 299 ∷ pos 0 ∷ pos 0 ∷ pos 27 ∷ pos 0 ∷ []; arrived = 6; taken = 0; capacity = 512 }
      ∷ record { sent = []; arrived = 0; taken = 0; capacity = 512 }
      ∷ record { sent = []; arrived = 0; taken = 0; capacity = 512 } ∷ [];
  trapped = false;
}

abbrev cut_block_38 : Block
cut_block_38 = record { bursts = [] ∷ [] ∷ [] ∷ []; close = Ends Budget }

abbrev cut_at_39 : Moment Decoder
cut_at_39 = next_moment cut_at_35 cut_block_34 cut_state_33

cut_not_quiet_41 : IsQuiet decoder_net cut_opened_37 → ⊥
cut_not_quiet_41 quiet = let none : effect_at decoder_net (all_fed decoder_net cut_opened_37) 0 1 ≡ None = quiet.nothing 0 1 in cc

cut_not_stuck_42_room : (m : ℕ) → LacksRoom decoder_net (all_fed decoder_net cut_opened_37) 0 1 m → ⊥
cut_not_stuck_42_room zero lacks = lacks
cut_not_stuck_42_room (suc zero) lacks = omega (arith, lacks.1)
cut_not_stuck_42_room (suc (suc zero)) lacks = omega (arith, lacks.0)
cut_not_stuck_42_room (suc (suc (suc zero))) lacks = omega (arith, lacks.0)
cut_not_stuck_42_room (suc (suc (suc (suc m)))) lacks = lacks

cut_not_stuck_42_first : (choice_at decoder_net (all_fed decoder_net cut_opened_37) 0 ≡ Waits)
    ⊎ ((b : ℕ) × (m : ℕ) × (choice_at decoder_net (all_fed decoder_net cut_opened_37) 0 ≡ Picks b) × LacksRoom decoder_net (all_fed decoder_net cut_opened_37) 0 b m) → ⊥
cut_not_stuck_42_first (inl waits) = cc
cut_not_stuck_42_first (inr (b, m, picks, lacks)) = let is : 1 ≡ b = cc in cut_not_stuck_42_room m (subst (λ c. LacksRoom decoder_net (all_fed decoder_net cut_opened_37) 0 c m) (sym is) lacks)

-- the first leaf has an action to fire, and room for it
cut_not_stuck_42 : (i a l : ℕ) → IsStuck decoder_net 0 cut_opened_37 i a l → ⊥
cut_not_stuck_42 i a l stuck = cut_not_stuck_42_first (stuck.stalled.each 0)

cut_round_43 : IsRound decoder_net cut cut_at_39 cut_block_38 cut_opened_37
cut_round_43 = record {
  untrapped = refl;
  halts = Spent ∷ Spent ∷ Spent ∷ [];
  fired = cut_opened_37;
  bursts = (cut_opened_37, (refl, refl), (cut_opened_37, (refl, refl), (cut_opened_37, (refl, refl), refl)));
  closes = record {
    settled = record { untrapped = refl; arrived = ((λ e. cc), ((λ e. refl), ((λ e. refl), ((λ e. refl), tt)))) };
    not_quiet = cut_not_quiet_41;
    not_stuck = cut_not_stuck_42;
  };
  leads = refl;
}

abbrev cut_lines : List Line
cut_lines = Deliver ∷ Fire 0 0 ∷ Fire 0 2 ∷ Fire 0 0 ∷ Fire 0 2 ∷ Deliver ∷ Fire 0 0 ∷ Fire 0 1 ∷ Deliver ∷ Fire 0 1 ∷ Fire 0 2 ∷ Deliver ∷ Fire 0 0 ∷ Fire 0 1 ∷ Deliver ∷ Budget ∷ []

cut_paced : IsPaced decoder_net cut (start_of decoder_net decoder_in) cut_lines cut_opened_37
cut_paced = record {
  blocks = cut_block_10 ∷ cut_block_18 ∷ cut_block_26 ∷ cut_block_34 ∷ [];
  reached = cut_at_39;
  rounds = (cut_state_9, cut_round_12, (λ ends. ends), (cut_state_17, cut_round_20, (λ ends. ends), (cut_state_25, cut_round_28, (λ ends. ends), (cut_state_33, cut_round_36, (λ ends. ends), refl))));
  final = cut_block_38;
  ending = cut_round_43;
  ends = tt;
  lines_are = refl;
}
