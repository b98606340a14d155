-- Stacks that are made one after another.
use Rattle.std.proofs.Common.{◌≡◌, ◌≢◌, ℕ, zero, suc, ◌+◌, ◌<◌, ◌≤◌, true, List, [], ◌∷◌, ◌++◌, length, refl, sym, ap, ◌∙◌, ⊎_elim, arith, length-append}
use Rattle.std.specs.Prelude.{Some, slice_get, slice_index_or}
use Rattle.std.proofs.lemmas.Bool.{cases_eq}
use Rattle.token_ring.specs.Queue.{Queue}
use Rattle.net_model.specs.declared.wiring.Link.{Link}
use Rattle.net_model.specs.Network.{is_input}
use Rattle.net_state.proofs.Gaining.{some_is}
use Rattle.trace_replay.specs.Holding.{AreEmpty, HaveRooms, rooms_of, tokens_of_stacks}
use Rattle.trace_replay.proofs.Chained.{is_low}

empty_more : (stacks : List Queue) (last : Queue) → AreEmpty (tokens_of_stacks stacks) → last.tokens ≡ [] → AreEmpty (tokens_of_stacks (stacks ++ last ∷ []))
empty_more [] last none top zero = top
empty_more [] last none top (suc l) = refl
empty_more (stack ∷ stacks) last none top zero = none 0
empty_more (stack ∷ stacks) last none top (suc l) = empty_more stacks last (λ m. none (suc m)) top l

room_before : (stacks : List Queue) (last : Queue) (m : ℕ) → m < length stacks → slice_index_or (rooms_of (stacks ++ last ∷ [])) m 0 ≡ slice_index_or (rooms_of stacks) m 0
room_before [] last m low = absurd (omega (arith, low))
room_before (stack ∷ stacks) last zero low = refl
room_before (stack ∷ stacks) last (suc m) low = room_before stacks last m (omega (arith, low))

room_last : (stacks : List Queue) (last : Queue) → slice_index_or (rooms_of (stacks ++ last ∷ [])) (length stacks) 0 ≡ last.capacity
room_last [] last = refl
room_last (stack ∷ stacks) last = room_last stacks last

-- the stacks of the first links were made
pub record AreMade (l : ℕ) (links : List Link) (stacks : List Queue) : Type 0 where
  pub count : length stacks ≡ l
  pub empty : AreEmpty (tokens_of_stacks stacks)
  pub rooms : (m : ℕ) (link : Link) → m < l → slice_get links m ≡ Some link → is_input link ≡ true → link.capacity ≤ slice_index_or (rooms_of stacks) m 0

pub made_more : (l : ℕ) (links : List Link) (stacks : List Queue) (link : Link) (last : Queue) → AreMade l links stacks → slice_get links l ≡ Some link → last.tokens ≡ [] → (is_input link ≡ true → link.capacity ≤ last.capacity)
    → AreMade (l + 1) links (stacks ++ last ∷ [])
made_more l links stacks link last made at none holds = record {
  count = (let more : length (stacks ++ last ∷ []) ≡ length stacks + 1 = length-append stacks (last ∷ []) in let was = made.count in omega (arith, more, was));
  empty = empty_more stacks last made.empty none;
  rooms = λ m other low at_other input. ⊎_elim
      (λ (same : m ≡ l).
      let link_is : other ≡ link = some_is other link (sym at_other ∙ (ap (slice_get links) same ∙ at)) in
      let room : link.capacity ≤ last.capacity = holds (sym (ap is_input link_is) ∙ input) in
      let capacity : other.capacity ≡ link.capacity = ap (λ (k : Link). k.capacity) link_is in
      let is : slice_index_or (rooms_of (stacks ++ last ∷ [])) m 0 ≡ last.capacity = ap (λ k. slice_index_or (rooms_of (stacks ++ last ∷ [])) k 0) (same ∙ sym made.count) ∙ room_last stacks last in
      omega (arith, room, capacity, is))
      (λ (differ : m ≢ l).
      let below : m < l = omega (arith, low, differ) in
      let was = made.rooms m other below at_other input in
      let is : slice_index_or (rooms_of (stacks ++ last ∷ [])) m 0 ≡ slice_index_or (rooms_of stacks) m 0 = room_before stacks last m (let count = made.count in omega (arith, below, count)) in
      omega (arith, was, is))
      (cases_eq m l);
}

pub made_all : (l : ℕ) (links : List Link) (stacks : List Queue) → AreMade l links stacks → length links ≤ l → HaveRooms links (rooms_of stacks)
made_all l links stacks made all m link at input = made.rooms m link (let low : m < length links = is_low links m link at in omega (arith, low, all)) at input
