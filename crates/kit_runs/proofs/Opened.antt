-- Feeds that are open for each input link, and channels that are open for each output.
use Rattle.std.proofs.Common.{◌≡◌, ℕ, zero, suc, ◌+◌, ◌<◌, ◌≤◌, Bool, true, false, List, [], ◌∷◌, length, replicate, take, refl, sym, ap, subst, ◌∙◌, ⊎_elim, arith}
use Rattle.std.specs.Prelude.{IfSome, None, Option, Some, is_some, slice_get, slice_index_or, if◌then◌else◌}
use Rattle.std.proofs.lemmas.Bool.{cases_lt}
use Rattle.rvc_io.specs.Channels.{Channels}
use Rattle.rvc_io.specs.Elsewhere.{SameElsewhere}
use Rattle.rvc_io.specs.Feeds.{Inputs}
use Rattle.rvc_io.specs.MemDrains.{DrainsState, channels_of}
use Rattle.rvc_io.specs.MemFeeds.{FeedsState, inputs_of}
use Rattle.net_model.specs.declared.wiring.End.{End}
use Rattle.net_model.specs.declared.wiring.End.TheVariants.{Leaf as AtLeaf, Net as AtNet}
use Rattle.net_model.specs.declared.wiring.Link.{Link}
use Rattle.net_model.specs.declared.wiring.Wiring.{Wiring}
use Rattle.net_model.specs.Network.{is_input, is_outside}
use Rattle.net_state.proofs.Gaining.{some_is}
use Rattle.round_runner.specs.Running.{count_inputs, has_feed}
use Rattle.kit_runs.specs.Outside.{AreChannelsOpen, AreFeedsOpen, AreOpenTo}

is_fed : (reads : List Bool) (end : End) → has_feed reads end ≡ true → is_outside end ≡ true
is_fed reads (AtLeaf inst port) h = absurd (cc)
is_fed reads (AtNet port) h = refl

counted : (first : Link) (links : List Link) → is_input first ≡ true → count_inputs (first ∷ links) ≡ suc (count_inputs links)
counted first links h = ap (λ b. if b then suc (count_inputs links) else count_inputs links) h

stepped : (b : Bool) (m n : ℕ) → suc m ≤ n → suc (if b then suc m else m) ≤ (if b then suc n else n)
stepped true m n h = omega (arith, h)
stepped false m n h = h

none_before : (first : Link) (links : List Link) → count_inputs (take 0 (first ∷ links)) ≡ 0
none_before first links = refl

pub few_feeds : (links : List Link) (l : ℕ) (link : Link) → slice_get links l ≡ Some link → is_input link ≡ true → suc (count_inputs (take l links)) ≤ count_inputs links
few_feeds [] l link at input = cc
few_feeds (first ∷ links) zero link at input =
    let is : is_input first ≡ true = subst (λ x. is_input x ≡ true) (sym (some_is first link at)) input in
    let count : count_inputs (first ∷ links) ≡ suc (count_inputs links) = counted first links is in
    let none : count_inputs (take 0 (first ∷ links)) ≡ 0 = none_before first links in
    omega (arith, count, none)
few_feeds (first ∷ links) (suc l) link at input =
    stepped (is_input first) (count_inputs (take l links)) (count_inputs links) (few_feeds links l link at input)

-- the next one isn't open, and then it is
pub still_closed : (k at : ℕ) (is_open : ℕ → Bool) → AreOpenTo k is_open → at ≡ k + 1 → is_open at ≡ false
still_closed k at is_open so_far next = let is : at ≡ suc k = omega (arith, next) in ap is_open is ∙ so_far.closed k (omega arith)

pub open_more : (k at : ℕ) (old new : ℕ → Bool) → AreOpenTo k old → at ≡ k + 1 → new at ≡ true → SameElsewhere old new at → AreOpenTo (k + 1) new
open_more k at old new so_far next here elsewhere = record {
  opened = λ j low. ⊎_elim
      (λ before. elsewhere (suc j) (λ same. absurd (omega (arith, before, same, next))) ∙ so_far.opened j before)
      (λ high. let is : suc j ≡ at = omega (arith, low, high, next) in ap new is ∙ here)
      (cases_lt j k);
  closed = λ j high. elsewhere (suc j) (λ same. absurd (omega (arith, high, same, next))) ∙ so_far.closed j (omega (arith, high));
}

-- of feeds that were just made none is open, and of channels the first alone
abbrev closed_one : Option (List ℕ)
closed_one = None

none_open : (n k : ℕ) → is_some (slice_index_or (replicate n closed_one) k closed_one) ≡ false
none_open zero k = refl
none_open (suc n) zero = refl
none_open (suc n) (suc k) = none_open n k

pub no_feed_open : (feeds : FeedsState) (n : ℕ) → feeds.left ≡ replicate n None → AreOpenTo 0 (inputs_of feeds).is_open
no_feed_open feeds n made = record {
  opened = λ k low. absurd (omega (arith, low));
  closed = λ k high. ap (λ left. is_some (slice_index_or left (suc k) None)) made ∙ none_open n (suc k);
}

pub no_channel_open : (drains : DrainsState) (n : ℕ) → drains.held ≡ Some [] ∷ replicate n None → AreOpenTo 0 (channels_of drains).is_open
no_channel_open drains n made = record {
  opened = λ k low. absurd (omega (arith, low));
  closed = λ k high. ap (λ held. is_some (slice_index_or held (suc k) None)) made ∙ none_open n k;
}

pub feeds_open : (wiring : Wiring) (feeds : Inputs) → AreOpenTo (count_inputs wiring.links.items) feeds.is_open → AreFeedsOpen wiring feeds
feeds_open wiring feeds open_to = λ l link at fed.
    let low : suc (count_inputs (take l wiring.links.items)) ≤ count_inputs wiring.links.items = few_feeds wiring.links.items l link at (is_fed wiring.open_ins.items link.from fed) in
    open_to.opened (count_inputs (take l wiring.links.items)) (omega (arith, low))

pub found_open : (wiring : Wiring) (found : Option FeedsState) (count : ℕ) → count ≡ count_inputs wiring.links.items → IfSome found (λ feeds. AreOpenTo count (inputs_of feeds).is_open) → IfSome found (λ feeds. AreFeedsOpen wiring (inputs_of feeds))
found_open wiring None count is open_to = tt
found_open wiring (Some feeds) count is open_to = feeds_open wiring (inputs_of feeds) (subst (λ n. AreOpenTo n (inputs_of feeds).is_open) is open_to)

-- an output that a word names is there
named_low : (opens : List Bool) (p : ℕ) → slice_index_or opens p false ≡ true → p < length opens
named_low [] p h = absurd (cc)
named_low (b ∷ opens) zero h = omega arith
named_low (b ∷ opens) (suc p) h = let low : p < length opens = named_low opens p h in omega (arith, low)

pub channels_open : (wiring : Wiring) (channels : Channels) → AreOpenTo (length wiring.open_outs.items + 1) channels.is_open → AreChannelsOpen wiring channels
channels_open wiring channels open_to = (
  open_to.opened 0 (omega arith),
  λ p named. let low : p < length wiring.open_outs.items = named_low wiring.open_outs.items p named in
      let next : suc (suc p) ≡ 2 + p = omega arith in
      subst (λ n. channels.is_open n ≡ true) next (open_to.opened (suc p) (omega (arith, low))),
)

pub drains_open : (wiring : Wiring) (found : Option DrainsState) (count : ℕ) → count ≡ length wiring.open_outs.items + 1 → IfSome found (λ drains. AreOpenTo count (channels_of drains).is_open) → IfSome found (λ drains. AreChannelsOpen wiring (channels_of drains))
drains_open wiring None count is open_to = tt
drains_open wiring (Some drains) count is open_to = channels_open wiring (channels_of drains) (subst (λ n. AreOpenTo n (channels_of drains).is_open) is open_to)
