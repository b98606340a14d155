-- What filling did, by what the code holds: the cells, the reader of tokens, and the feeds.
-- Trusted: part of what a promise means.
use Rattle.std.specs.Prelude.{◌≡◌, ℕ, List, map, Result, IfOk, OnErr}
use Rattle.rvc_base.specs.declared.scalar.Scalar.{Scalar}
use Rattle.rvc_io.specs.Feeds.{Inputs}
use Rattle.net_model.specs.declared.wiring.Link.{Link}
use Rattle.net_model.specs.Cell.{Cell}
use Rattle.port_files.specs.Coming.{Reading, coming_on}
use Rattle.net_state.specs.declared.filling.Filled.{Filled}
use Rattle.net_state.specs.declared.filling.Inlet.{Inlet}
use Rattle.net_state.specs.Filling.{AreArrivals, AtPort, Fills, IsDue, IsDueFor, IsFilled, IsFull, SameRest, Takes, inflow}
use Rattle.net_state.specs.Held.{Held, seen}
use Rattle.net_state.specs.Moving.{HasRoomUpTo, IsInput}

-- so many tokens came, if no pull failed
abbrev pub Came : {E : Type 0} → Result Filled E → ℕ → Type 0
Came result count = IfOk result (λ filled. filled.tokens ≡ count)

-- the remainder of what is to come on a feed stays
abbrev pub KeepsRest : {S : Type 0} → (S → Inputs) → ℕ → Reading → Reading → S → S → Type 0
KeepsRest feeds feed before after old new = SameRest before.kind
    (coming_on before.pulled (feeds old) feed) (coming_on after.pulled (feeds new) feed)

-- a link leads to an input port, and so many tokens may wait before it
abbrev pub IsReadBy : {X : Type 0} → List (Cell X) → ℕ → Link → Type 0
IsReadBy cells capacity link =
    AtPort link (λ that j q. IsInput cells j q × HasRoomUpTo cells j q capacity) link.to

module _ {C X S E : Type 0} (cell : C → Cell X) (feeds : S → Inputs) where
  -- some of the tokens to come went to the inlet
  abbrev pub Fed : Inlet → ℕ → List C → List C → Reading → Reading → S → S → Result Filled E
      → Type 0
  Fed inlet feed old new tokens_old tokens_new feeds_old feeds_new result =
      (count : ℕ) × Takes tokens_old.kind inlet.kind inlet.inst.0 inlet.port count
      (map cell old) (map cell new)
      (coming_on tokens_old.pulled (feeds feeds_old) feed)
      (coming_on tokens_new.pulled (feeds feeds_new) feed) × Came result count

  -- .. and to the port at which a link ends
  abbrev pub FedOn : Link → ℕ → List C → List C → Reading → Reading → S → S → Result Filled E
      → Type 0
  FedOn link feed old new tokens_old tokens_new feeds_old feeds_new result =
      AtPort link (λ that j q. (count : ℕ) × Takes tokens_old.kind that.kind j q count
      (map cell old) (map cell new)
      (coming_on tokens_old.pulled (feeds feeds_old) feed)
      (coming_on tokens_new.pulled (feeds feeds_new) feed) × Came result count) link.to

  -- the inlet holds as many as it may, or no token is left
  abbrev pub FilledUp : Inlet → ℕ → Scalar → List C → Reading → S → Result Filled E → Type 0
  FilledUp inlet feed kind new tokens_new feeds_new result =
      IfOk result (λ filled. IsFilled kind inlet.inst.0 inlet.port inlet.capacity filled.rest
      (map cell new) (coming_on tokens_new.pulled (feeds feeds_new) feed))

  -- .. and so does the port at which a link ends
  abbrev pub FilledOn : Link → ℕ → ℕ → Scalar → List C → Reading → S → Result Filled E → Type 0
  FilledOn link capacity feed kind new tokens_new feeds_new result =
      IfOk result (λ filled. AtPort link (λ that j q. IsFilled kind j q capacity filled.rest
      (map cell new) (coming_on tokens_new.pulled (feeds feeds_new) feed)) link.to)

  -- if a pull failed, it was due at the inlet
  abbrev pub DueAt : Inlet → List C → Reading → Result Filled E → Type 0
  DueAt inlet new tokens_new result =
      OnErr result (IsDue inlet.inst.0 inlet.port inlet.capacity (map cell new) tokens_new)

  -- .. and at the port at which a link ends
  abbrev pub DueOn : Link → ℕ → List C → Reading → Result Filled E → Type 0
  DueOn link capacity new tokens_new result = OnErr result
      (AtPort link (λ that j q. IsDue j q capacity (map cell new) tokens_new) link.to)

  -- The same of a network.

  -- tokens of the feed came over link l
  abbrev pub FillsOn : ℕ → ℕ → Held C → Held C → Reading → Reading → S → S → Result Filled E
      → Type 0
  FillsOn l feed old new tokens_old tokens_new feeds_old feeds_new result =
      Fills l (inflow tokens_old (feeds feeds_old) feed) (inflow tokens_new (feeds feeds_new) feed)
      (Came result) (seen cell old) (seen cell new)

  -- the link holds its capacity, or no token is left on the feed
  abbrev pub IsFullOn : ℕ → ℕ → Held C → Reading → S → Result Filled E → Type 0
  IsFullOn l feed new tokens_new feeds_new result =
      IfOk result (λ filled. IsFull l filled.rest (seen cell new)
      (inflow tokens_new (feeds feeds_new) feed))

  -- if a pull failed, it was due for link l
  abbrev pub DueForOn : ℕ → Held C → Reading → Result Filled E → Type 0
  DueForOn l new tokens_new result = OnErr result (IsDueFor l (seen cell new) tokens_new)

  -- all tokens came that arrive at a delivery
  abbrev pub AllArriveOn : ℕ → ℕ → Held C → Reading → S → Result Filled E → Type 0
  AllArriveOn l feed old tokens_old feeds_old result =
      IfOk result (λ filled. AreArrivals l filled.tokens (seen cell old)
      (inflow tokens_old (feeds feeds_old) feed))
