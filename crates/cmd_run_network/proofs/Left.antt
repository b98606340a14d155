-- What a run leaves, as whole contents of channels.
use Rattle.std.proofs.Common.{◌≡◌, ◌≢◌, ◌⊎◌, inl, inr, ℕ, zero, suc, ◌<◌, Bool, true, false, List, [], ◌∷◌, ◌++◌, ℤ, length, map, drop, refl, sym, ap, subst, ◌∙◌, arith, Contains}
use Rattle.std.specs.Prelude.{Some, slice_get, if◌then◌else◌}
use Rattle.std.proofs.lemmas.Bool.{cases_eq}
use Rattle.std.proofs.lemmas.List.Elements.{Contains-append_cases, Contains-append_right}
use Rattle.rvc_io.specs.Channels.{Channels}
use Rattle.net_model.specs.declared.wiring.End.{End}
use Rattle.net_model.specs.declared.wiring.End.TheVariants.{Leaf as AtLeaf, Net as AtNet}
use Rattle.net_model.specs.declared.wiring.Link.{Link}
use Rattle.net_model.specs.Cell.{Cell}
use Rattle.net_model.specs.Network.{Network, is_net_port, is_outside, is_output, is_input, kind_at}
use Rattle.net_model.specs.PortFile.{all_encoded}
use Rattle.net_model.specs.Ready.{given_flow, given_state, waiting_at}
use Rattle.net_model.specs.State.{fed_by, sent_to}
use Rattle.net_model.specs.Wired.{IsWired}
use Rattle.round_runner.specs.Rounds.{out_bytes}
use Rattle.cmd_ports.specs.Opening.{ChannelsAreOpened, IsApart, Opening}

-- ---- nothing was sent to outputs at the start

module _ {X : Type 0} (net : Network X) (cells : List (Cell X)) (inputs : List (List ℕ)) (p : ℕ) where
  none_waits : (end : End) → is_net_port p end ≡ true → waiting_at cells end ≡ []
  none_waits (AtLeaf inst port) is = cc
  none_waits (AtNet port) is = refl

  is_out : (end : End) → is_net_port p end ≡ true → is_outside end ≡ true
  is_out (AtLeaf inst port) is = cc
  is_out (AtNet port) is = refl

  none_fed : (link : Link) (end : End) → is_outside end ≡ false → fed_by net.ins inputs link end ≡ []
  none_fed link (AtLeaf inst port) inner = refl
  none_fed link (AtNet port) inner = cc

  abbrev AreInside : List Link → Type 0
  AreInside links = (l : ℕ) (link : Link) → slice_get links l ≡ Some link → is_input link ≡ true → is_output link ≡ false

  if_so : (b : Bool) (one other : List ℤ) → (b ≡ true → one ≡ []) → (b ≡ false → other ≡ []) → (if b then one else other) ≡ []
  if_so true one other yes_is no_is = yes_is refl
  if_so false one other yes_is no_is = no_is refl

  inner_of : (b c : Bool) → (b ≡ true → c ≡ false) → c ≡ true → b ≡ false
  inner_of true true inside is = (let e = inside refl in cc)
  inner_of true false inside is = cc
  inner_of false c inside is = refl

  none_first : (link : Link) → (is_input link ≡ true → is_output link ≡ false) → is_net_port p link.to ≡ true → (given_flow net cells inputs link).sent ≡ []
  none_first link inside is =
      ap (λ ts. ts ++ fed_by net.ins inputs link link.from) (none_waits link.to is) ∙ none_fed link link.from (inner_of (is_input link) (is_output link) inside (is_out link.to is))

  pub none_sent : (links : List Link) → AreInside links → sent_to p links (map (given_flow net cells inputs) links) ≡ []
  none_sent [] inside = refl
  none_sent (link ∷ links) inside =
      if_so (is_net_port p link.to) (given_flow net cells inputs link).sent (sent_to p links (map (given_flow net cells inputs) links))
      (λ is. none_first link (inside 0 link refl) is) (λ is. none_sent links (λ l other at. inside (suc l) other at))

module _ {X : Type 0} (net : Network X) (cells : List (Cell X)) (inputs : List (List ℕ)) (wired : IsWired net) where
  pub out_whole : (p : ℕ) (tokens : List ℤ) → out_bytes net p (given_state net cells inputs) tokens ≡ all_encoded (kind_at net.outs p) tokens
  out_whole p tokens =
      ap (λ sent. all_encoded (kind_at net.outs p) (drop (length sent) tokens)) (none_sent net cells inputs p net.links (λ l link at. (wired.joined l link at).inside))

-- ---- what channels hold when they were opened

found_in : (n : ℕ) (openings : List Opening) → ((o : Opening) × Contains openings o × (n ≡ o.number)) ⊎ IsApart n openings
found_in n [] = inr (λ o h same. (let e : h.0 < 0 = h.1 in absurd (omega (arith, e))))
found_in n (first ∷ openings) = by (cases_eq n first.number) (found_in n openings)
  where
    in_head : Contains (first ∷ openings) first
    in_head = (0, omega arith, refl)

    in_tail : (o : Opening) → Contains openings o → Contains (first ∷ openings) o
    in_tail o h = Contains-append_right (first ∷ []) openings o h

    apart : n ≢ first.number → IsApart n openings → IsApart n (first ∷ openings)
    apart differs rest o h same = elim (Contains-append_cases (first ∷ []) openings o h) [
      | inl one ↦ differs (same ∙ ap (λ (x : Opening). x.number) (sym (only one)))
      | inr later ↦ rest o later same
    ]
      where
        only : Contains (first ∷ []) o → first ≡ o
        only (zero, h, e) = e
        only (suc k, h, e) = absurd (omega arith)

    by : (n ≡ first.number) ⊎ (n ≢ first.number) → ((o : Opening) × Contains openings o × (n ≡ o.number)) ⊎ IsApart n openings → ((o : Opening) × Contains (first ∷ openings) o × (n ≡ o.number)) ⊎ IsApart n (first ∷ openings)
    by (inl same) rest = inl (first, in_head, same)
    by (inr differs) (inl found) = inl (found.0, in_tail found.0 found.1, found.2)
    by (inr differs) (inr rest) = inr (apart differs rest)

-- a channel that is open was opened, and holds nothing
pub opened_empty : (openings : List Opening) (old new : Channels) (n : ℕ) → ChannelsAreOpened openings old new → old.is_open n ≡ false → new.is_open n ≡ true → new.tells ≡ true → new.held n ≡ []
opened_empty openings old new n are closed open_now tells = elim (found_in n openings) [
  | inl found ↦ subst (λ m. new.held m ≡ []) (sym found.2) (are.empty (sym are.same_telling ∙ tells) found.0 found.1)
  | inr apart ↦ (let clash : true ≡ false = sym open_now ∙ are.same_open n apart ∙ closed in absurd (cc))
]
