-- What was sent on a link, read from its cell.
use Rattle.std.proofs.Common.{◌≡◌, ℕ, ◌<◌, true, false, List, ℤ, length, map, drop, refl, sym, ap, subst, ◌∙◌}
use Rattle.std.specs.Prelude.{Option, None, Some, slice_get}
use Rattle.rvc_base.specs.Storing.{conv}
use Rattle.net_model.specs.declared.wiring.End.{End}
use Rattle.net_model.specs.declared.wiring.End.TheVariants.{Leaf as AtLeaf, Net as AtNet}
use Rattle.net_model.specs.declared.wiring.Link.{Link}
use Rattle.net_model.specs.Network.{is_input, is_outside}
use Rattle.net_model.specs.State.{Flow}
use Rattle.net_model.specs.Cell.{Cell}
use Rattle.net_state.specs.Moving.{IsFromCell, WritersFit, sent_of, sent_from, carried, carried_on}
use Rattle.net_state.specs.Held.{Held, IsWorking}
use Rattle.std.specs.Option.{option_map}
use Rattle.std.proofs.lemmas.Option.{slice_get-map, slice_get_within}
use Rattle.net_state.specs.Standing.{AreHeld, IsTrueOfUnarrived, LiesIn, unarrived}
use Rattle.net_state.proofs.Gaining.{there_too}

lies_carried : {X : Type 0} (cells : List (Cell X)) (link : Link) (tokens : List ℤ) (end : End) → link.from ≡ end → is_input link ≡ false
    → LiesIn cells link tokens end → tokens ≡ carried cells link
lies_carried cells link tokens (AtNet port) from inner lies = absurd (let no : true ≡ false = sym (ap is_outside from) ∙ inner in cc)
lies_carried cells link tokens (AtLeaf inst port) from inner lies = lies ∙ sym (ap (λ end. map (conv link.kind) (sent_from cells end)) from)

pub unarrived_is : {X : Type 0} (cells : List (Cell X)) (links : List Link) (flows : List Flow) (capacities : List ℕ) (l : ℕ) (link : Link)
    → AreHeld cells links flows capacities → slice_get links l ≡ Some link → is_input link ≡ false → unarrived (slice_get flows l) ≡ carried cells link
unarrived_is cells links flows capacities l link held at inner =
    let on = there_too links flows l link (sym held.count) at in
    ap unarrived on.1 ∙ lies_carried cells link (drop on.0.arrived on.0.sent) link.from refl inner (held.each l link on.0 at on.1).lies

pub true_of_unarrived : {X : Type 0} (held : Held (Cell X)) (l : ℕ) (link : Link) (P : List ℤ → Type 0)
    → slice_get held.links l ≡ Some link → is_input link ≡ false → P (carried held.cells link) → IsTrueOfUnarrived held l P
true_of_unarrived held l link P at inner holds = λ net s stands.
    subst P (sym (unarrived_is held.cells net.links s.flows held.capacities l link stands.stands.flows (ap (λ ls. slice_get ls l) stands.is_of.links_are ∙ at) inner)) holds

-- The same for the link at a place of a list.

pub on_link : (o : Option Link) → IsFromCell o → (link : Link) × (o ≡ Some link) × (is_input link ≡ false)
on_link None h = absurd h
on_link (Some link) h = (link, refl, h)

pub true_of_unarrived_on : {X : Type 0} (held : Held (Cell X)) (l : ℕ) (P : List ℤ → Type 0)
    → IsFromCell (slice_get held.links l) → P (carried_on held.cells (slice_get held.links l)) → IsTrueOfUnarrived held l P
true_of_unarrived_on held l P from holds =
    let on = on_link (slice_get held.links l) from in
    true_of_unarrived held l on.0 P on.1 on.2 (subst (λ o. P (carried_on held.cells o)) on.1 holds)

pub writers_of : {X : Type 0} (cells : List (Cell X)) (links : List Link) (capacities waited : List ℕ) → IsWorking cells links capacities waited → WritersFit cells links
writers_of cells links capacities waited working = λ l link at. ((working.fits l link at).size, (working.fits l link at).writer)

-- the token at a place of what a link carries
pub token_of : {X : Type 0} (cells : List (Cell X)) (link : Link) (i p k : ℕ) (token stored : ℤ) → link.from ≡ AtLeaf (record { 0 = i }) p
    → slice_get (sent_of (slice_get cells i) p) k ≡ Some token → stored ≡ conv link.kind token → slice_get (carried cells link) k ≡ Some stored
token_of cells link i p k token stored from is same =
    ap (λ end. slice_get (map (conv link.kind) (sent_from cells end)) k) from
    ∙ (slice_get-map (conv link.kind) (sent_of (slice_get cells i) p) k ∙ (ap (option_map (conv link.kind)) is ∙ ap Some (sym same)))

-- a link of a list
pub link_at : (links : List Link) (l : ℕ) (link : Link) → slice_get links l ≡ Some link → IsFromCell (slice_get links l) → is_input link ≡ false
link_at links l link at from = subst IsFromCell at from

pub carried_at : {X : Type 0} (cells : List (Cell X)) (links : List Link) (l : ℕ) (link : Link) → slice_get links l ≡ Some link
    → carried_on cells (slice_get links l) ≡ carried cells link
carried_at cells links l link at = ap (carried_on cells) at

pub place_of_link : (links : List Link) (l : ℕ) → IsFromCell (slice_get links l) → l < length links
place_of_link links l from = let on = on_link (slice_get links l) from in slice_get_within links l on.0 on.1
