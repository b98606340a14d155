-- Worked runs, computed by the definitions.
use Rattle.std.proofs.Common.{◌≡◌, ℕ, zero, suc, ◌<◌, ◌≤◌, ◌⊎◌, false, List, [], ◌∷◌, ℤ, pos, ◌+ℤ◌, refl, inl, inr, arith, rules}
use Rattle.std.specs.Prelude.{Option, None, Some, codes, slice_index_or, length}
use Rattle.rvc_base.specs.declared.scalar.Scalar.TheVariants.{Uint}
use Rattle.rvc_base.specs.Storing.{conv}
use Rattle.rvc_base.specs.Behaviour.{Behaviour, Effect, Fires, Choice, Waits, Picks}
use Rattle.trace_text.specs.declared.line.Line.{Line}
use Rattle.trace_text.specs.declared.line.Line.TheVariants.{Fire, Deliver, Quiet, Stall}
use Rattle.net_model.specs.declared.wiring.End.{End}
use Rattle.net_model.specs.declared.wiring.End.TheVariants.{Leaf as AtLeaf, Net as AtNet}
use Rattle.net_model.specs.declared.wiring.Link.{Link}
use Rattle.net_model.specs.Network.{NetPort, Network}
use Rattle.net_model.specs.State.{State, start_of, effect_at, choice_at}
use Rattle.net_model.specs.Ends.{IsQuiet, IsStalled, LacksRoom, all_fed}
use Rattle.net_model.specs.Trace.{goes, played, bytes_out, Plays, KeepsCapacities}

-- a link of bytes
abbrev pub link : End → End → ℕ → Link
link from to capacity = record { from = from; to = to; capacity = capacity; kind = Uint 8 }

-- a port of the network for bytes
abbrev pub byte_port : List ℕ → NetPort
byte_port name = record { name = name; kind = Uint 8 }

abbrev pub leaf_port : ℕ → ℕ → End
leaf_port i p = AtLeaf (record { 0 = i }) p

abbrev pub rate : List ℕ → ℕ → ℕ → ℕ
rate [] a p = 0
rate (n ∷ ns) zero zero = n
rate (n ∷ ns) zero (suc p) = rate ns zero p
rate (n ∷ ns) (suc a) p = 0

-- an actor with one action, which takes a token from each input and sends what f makes of them
abbrev only : Option (List ℤ) → Option (Effect (Unit {0}))
only None = None
only (Some vs) = Some (Fires tt (vs ∷ []))

abbrev only_choice : Option (List ℤ) → Choice
only_choice None = Waits
only_choice (Some vs) = Picks 0

abbrev at_zero : {A : Type 0} → Option A → ℕ → Option A
at_zero o zero = o
at_zero o (suc a) = None

abbrev pub simple : List ℕ → (List (List ℤ) → Option (List ℤ)) → Behaviour (Unit {0})
simple needs f = record {
  start = tt;
  ins = length needs;
  outs = 1;
  actions = 1;
  need = rate needs;
  give = rate (1 ∷ []);
  effect = λ x u a. at_zero (only (f u)) a;
  choice = λ x u. only_choice (f u);
}

-- one byte, and one more than it
abbrev next_byte : List (List ℤ) → Option (List ℤ)
next_byte ((v ∷ vs) ∷ us) = Some (conv (Uint 8) (v +ℤ pos 1) ∷ [])
next_byte ([] ∷ us) = None
next_byte [] = None

abbrev pub inc : Behaviour (Unit {0})
inc = simple (1 ∷ []) next_byte

abbrev pub inc_net : Network (Unit {0})
inc_net = record {
  leaves = record { path = codes "Inc"; class = codes "Inc"; behaviour = inc } ∷ [];
  links = link (AtNet 0) (leaf_port 0 0) 512 ∷ link (leaf_port 0 0) (AtNet 0) 512 ∷ [];
  ins = byte_port (codes "In") ∷ [];
  outs = byte_port (codes "Out") ∷ [];
}

abbrev pub inc_lines : List Line
inc_lines = Deliver ∷ Fire 0 0 ∷ Fire 0 0 ∷ Fire 0 0 ∷ Deliver ∷ Quiet ∷ []

abbrev pub inc_last : State (Unit {0})
inc_last = record {
  actors = tt ∷ [];
  flows = record { sent = pos 0 ∷ pos 1 ∷ pos 255 ∷ []; arrived = 3; taken = 3; capacity = 512 }
      ∷ record { sent = pos 1 ∷ pos 2 ∷ pos 0 ∷ []; arrived = 3; taken = 3; capacity = 512 } ∷ [];
  trapped = false;
}

inc_played : played inc_net (start_of inc_net ((0 ∷ 1 ∷ 255 ∷ []) ∷ [])) inc_lines ≡ Some inc_last
inc_played = refl

inc_bytes : bytes_out inc_net inc_last 0 ≡ 1 ∷ 2 ∷ 0 ∷ []
inc_bytes = refl

inc_nothing : (i a : ℕ) → effect_at inc_net (all_fed inc_net inc_last) i a ≡ None
inc_nothing zero zero = refl
inc_nothing zero (suc a) = refl
inc_nothing (suc i) a = refl

inc_plays : Plays inc_net 0 ((0 ∷ 1 ∷ 255 ∷ []) ∷ []) inc_lines inc_last
inc_plays = (
  tt,
  (
    tt,
    (
      tt,
      (
        tt,
        (
          tt,
          (
            (
              record {
                settled = record { untrapped = refl; arrived = ((λ e. refl), ((λ e. refl), tt)) };
                nothing = inc_nothing;
              },
              refl,
            ),
            refl,
          ),
        ),
      ),
    ),
  ),
)

inc_keeps : KeepsCapacities inc_net ((0 ∷ 1 ∷ 255 ∷ []) ∷ []) inc_lines
inc_keeps = search rules

-- one byte, as it came
abbrev same_byte : List (List ℤ) → Option (List ℤ)
same_byte ((v ∷ vs) ∷ us) = Some (v ∷ [])
same_byte ([] ∷ us) = None
same_byte [] = None

-- the sum of two bytes of one port
abbrev sum_of_two : List (List ℤ) → Option (List ℤ)
sum_of_two ((v ∷ w ∷ vs) ∷ us) = Some (conv (Uint 8) (v +ℤ w) ∷ [])
sum_of_two ((v ∷ []) ∷ us) = None
sum_of_two ([] ∷ us) = None
sum_of_two [] = None

-- the sum of a byte of each of two ports
abbrev pub sum_of_each : List (List ℤ) → Option (List ℤ)
sum_of_each ((v ∷ vs) ∷ (w ∷ ws) ∷ us) = Some (conv (Uint 8) (v +ℤ w) ∷ [])
sum_of_each ((v ∷ vs) ∷ [] ∷ us) = None
sum_of_each ((v ∷ vs) ∷ []) = None
sum_of_each ([] ∷ us) = None
sum_of_each [] = None

abbrev copy : Behaviour (Unit {0})
copy = simple (1 ∷ []) same_byte

abbrev sum : Behaviour (Unit {0})
sum = simple (2 ∷ []) sum_of_two

abbrev join : Behaviour (Unit {0})
join = simple (1 ∷ 1 ∷ []) sum_of_each

-- A copy of each byte goes to a sum of two and, by a link that holds one token, to what joins both.
abbrev pub pair_net : Network (Unit {0})
pair_net = record {
  leaves = record { path = codes "c"; class = codes "Copy"; behaviour = copy }
      ∷ record { path = codes "s"; class = codes "Sum"; behaviour = sum }
      ∷ record { path = codes "j"; class = codes "Join"; behaviour = join } ∷ [];
  links = link (AtNet 0) (leaf_port 0 0) 512
      ∷ link (leaf_port 0 0) (leaf_port 1 0) 512
      ∷ link (leaf_port 1 0) (leaf_port 2 0) 512
      ∷ link (leaf_port 0 0) (leaf_port 2 1) 1
      ∷ link (leaf_port 2 0) (AtNet 0) 512 ∷ [];
  ins = byte_port (codes "In") ∷ [];
  outs = byte_port (codes "Out") ∷ [];
}

abbrev pub pair_in : List (List ℕ)
pair_in = (1 ∷ 2 ∷ 3 ∷ 4 ∷ []) ∷ []

abbrev pub pair_lines : List Line
pair_lines = Deliver ∷ Fire 0 0 ∷ Deliver ∷ Stall 0 0 3 ∷ []

abbrev pub pair_last : State (Unit {0})
pair_last = record {
  actors = tt ∷ tt ∷ tt ∷ [];
  flows = record { sent = pos 1 ∷ pos 2 ∷ pos 3 ∷ pos 4 ∷ []; arrived = 4; taken = 1; capacity = 512 }
      ∷ record { sent = pos 1 ∷ []; arrived = 1; taken = 0; capacity = 512 }
      ∷ record { sent = []; arrived = 0; taken = 0; capacity = 512 }
      ∷ record { sent = pos 1 ∷ []; arrived = 1; taken = 0; capacity = 1 }
      ∷ record { sent = []; arrived = 0; taken = 0; capacity = 512 } ∷ [];
  trapped = false;
}

pair_played : played pair_net (start_of pair_net pair_in) pair_lines ≡ Some pair_last
pair_played = refl

pair_bytes : bytes_out pair_net pair_last 0 ≡ []
pair_bytes = refl

pair_each : (j : ℕ) → (choice_at pair_net (all_fed pair_net pair_last) j ≡ Waits)
    ⊎ ((b : ℕ) × (m : ℕ) × (choice_at pair_net (all_fed pair_net pair_last) j ≡ Picks b)
    × LacksRoom pair_net (all_fed pair_net pair_last) j b m)
pair_each zero = inr (0, 3, refl, (refl, omega arith))
pair_each (suc zero) = inl refl
pair_each (suc (suc zero)) = inl refl
pair_each (suc (suc (suc j))) = inl refl

pair_lower : (m : ℕ) → m < 3 → LacksRoom pair_net (all_fed pair_net pair_last) 0 0 m → ⊥
pair_lower zero low lacks = lacks
pair_lower (suc zero) low lacks = omega arith
pair_lower (suc (suc zero)) low lacks = omega arith
pair_lower (suc (suc (suc m))) low lacks = omega arith

pub pair_stalls : IsStalled pair_net pair_last 0 0 3
pair_stalls = record {
  settled = record { untrapped = refl; arrived = ((λ e. refl), ((λ e. refl), ((λ e. refl), ((λ e. refl), ((λ e. refl), tt))))) };
  each = pair_each;
  chosen = refl;
  lowest_leaf = λ j low. absurd (omega arith);
  lacks = (refl, omega arith);
  lowest_link = pair_lower;
}

pair_plays : Plays pair_net 0 pair_in pair_lines pair_last
pair_plays = (tt, (tt, (tt, ((record { stalled = pair_stalls; grown = omega arith }, refl), refl))))

pair_keeps : KeepsCapacities pair_net pair_in pair_lines
pair_keeps = grind arith

-- a second firing passes the capacity of the link that holds one token
pair_passes : KeepsCapacities pair_net pair_in (Deliver ∷ Fire 0 0 ∷ Fire 0 0 ∷ []) → ⊥
pair_passes keeps = let passes : 2 ≤ 1 = keeps.2.2.2.1.1.1.0 refl in omega arith

-- An actor that sends a byte of its own if it has none, and takes one if it has one: which comes depends
-- on the order. Its state is the number that its guards compare with 0.
abbrev pub takes_first : ℕ → List ℤ → Option (Effect ℕ)
takes_first zero (v ∷ vs) = Some (Fires 2 ([] ∷ []))
takes_first zero [] = None
takes_first (suc n) vs = None

abbrev pub sends_else : ℕ → List ℤ → Option (Effect ℕ)
sends_else zero (v ∷ vs) = None
sends_else zero [] = Some (Fires 1 ((pos 1 ∷ []) ∷ []))
sends_else (suc n) vs = None

abbrev pub race_effect : ℕ → List ℤ → ℕ → Option (Effect ℕ)
race_effect n vs zero = takes_first n vs
race_effect n vs (suc zero) = sends_else n vs
race_effect n vs (suc (suc a)) = None

abbrev pub race_choice : ℕ → List ℤ → Choice
race_choice zero (v ∷ vs) = Picks 0
race_choice zero [] = Picks 1
race_choice (suc n) vs = Waits

-- the first action takes a token, the second gives one
abbrev pub race_needs : ℕ → ℕ → ℕ
race_needs zero zero = 1
race_needs zero (suc p) = 0
race_needs (suc a) p = 0

abbrev pub race_gives : ℕ → ℕ → ℕ
race_gives zero p = 0
race_gives (suc zero) zero = 1
race_gives (suc zero) (suc p) = 0
race_gives (suc (suc a)) p = 0

abbrev pub race : Behaviour ℕ
race = record {
  start = 0;
  ins = 1;
  outs = 1;
  actions = 2;
  need = race_needs;
  give = race_gives;
  effect = λ n u a. race_effect n (slice_index_or u 0 []) a;
  choice = λ n u. race_choice n (slice_index_or u 0 []);
}

abbrev pub ring_net : Network ℕ
ring_net = record {
  leaves = record { path = codes "p"; class = codes "Race"; behaviour = race }
      ∷ record { path = codes "q"; class = codes "Race"; behaviour = race } ∷ [];
  links = link (leaf_port 1 0) (leaf_port 0 0) 512 ∷ link (leaf_port 0 0) (leaf_port 1 0) 512 ∷ [];
  ins = [];
  outs = [];
}

abbrev ring_lines : List Line
ring_lines = Deliver ∷ Fire 0 1 ∷ Fire 1 1 ∷ Deliver ∷ Quiet ∷ []

abbrev ring_last : State ℕ
ring_last = record {
  actors = 1 ∷ 1 ∷ [];
  flows = record { sent = pos 1 ∷ []; arrived = 1; taken = 0; capacity = 512 }
      ∷ record { sent = pos 1 ∷ []; arrived = 1; taken = 0; capacity = 512 } ∷ [];
  trapped = false;
}

ring_played : played ring_net (start_of ring_net []) ring_lines ≡ Some ring_last
ring_played = refl

ring_nothing : (i a : ℕ) → effect_at ring_net (all_fed ring_net ring_last) i a ≡ None
ring_nothing zero zero = refl
ring_nothing zero (suc zero) = refl
ring_nothing zero (suc (suc a)) = refl
ring_nothing (suc zero) zero = refl
ring_nothing (suc zero) (suc zero) = refl
ring_nothing (suc zero) (suc (suc a)) = refl
ring_nothing (suc (suc i)) a = refl

ring_is_quiet : IsQuiet ring_net ring_last
ring_is_quiet = record {
  settled = record { untrapped = refl; arrived = ((λ e. refl), ((λ e. refl), tt)) };
  nothing = ring_nothing;
}

ring_plays : Plays ring_net 0 [] ring_lines ring_last
ring_plays = (tt, (tt, (tt, (tt, ((ring_is_quiet, refl), refl)))))

ring_keeps : KeepsCapacities ring_net [] ring_lines
ring_keeps = search rules

-- After a delivery between the two firings the second actor has a token, so its other action is above.
abbrev ring_other_lines : List Line
ring_other_lines = Deliver ∷ Fire 0 1 ∷ Deliver ∷ Fire 1 1 ∷ Deliver ∷ Quiet ∷ []

abbrev ring_between : State ℕ
ring_between = record {
  actors = 1 ∷ 0 ∷ [];
  flows = record { sent = []; arrived = 0; taken = 0; capacity = 512 }
      ∷ record { sent = pos 1 ∷ []; arrived = 1; taken = 0; capacity = 512 } ∷ [];
  trapped = false;
}

ring_played_between : played ring_net (start_of ring_net []) (Deliver ∷ Fire 0 1 ∷ Deliver ∷ []) ≡ Some ring_between
ring_played_between = refl

ring_not_permitted : goes ring_net ring_between (Fire 1 1) ≡ None
ring_not_permitted = refl

ring_other_never_plays : (last : State ℕ) → Plays ring_net 0 [] ring_other_lines last → ⊥
ring_other_never_plays last plays = plays.1.1.1.1
