-- The parts of a runner fit each other, and its feeds, behind a delivery and behind the firings of a round.
use Rattle.std.proofs.Common.{◌≡◌, ℕ, zero, suc, ◌≤◌, Bool, true, false, List, [], ◌∷◌, length, map, refl, sym, ap, subst, ◌∙◌}
use Rattle.std.specs.Prelude.{Option, None, Some, is_some, slice_get, slice_index_or}
use Rattle.std.proofs.lemmas.List.{length-map}
use Rattle.rvc_io.specs.Feeds.{Inputs}
use Rattle.port_files.specs.Coming.{EndIsTrue, Reading}
use Rattle.net_model.specs.declared.wiring.End.{End}
use Rattle.net_model.specs.declared.wiring.End.TheVariants.{Leaf as AtLeaf, Net as AtNet}
use Rattle.net_model.specs.declared.wiring.Link.{Link}
use Rattle.net_model.specs.Network.{is_outside}
use Rattle.net_model.specs.Cell.{Cell}
use Rattle.net_state.specs.declared.filling.Filled.{Filled}
use Rattle.net_state.proofs.Gaining.{some_is, there_too}
use Rattle.round_runner.specs.Running.{FeedsFit, Running, feed_of, has_feed}
use Rattle.network_runner.specs.declared.sending.Outlet.{Outlet}
use Rattle.network_runner.specs.Asking.{IsFeed}
use Rattle.network_runner.specs.Counting.{arrived_with, rests_with}
use Rattle.network_runner.specs.Delivering.{Delivers}
use Rattle.network_runner.specs.Filling.{IsFeedOf, ReadersFit, SameOpen, kind_read}
use Rattle.network_runner.specs.Keeping.{HasParts, ReaderFits, ReadsKind}
use Rattle.network_runner.specs.Stepping.{DeliversRun}
use Rattle.network_runner.proofs.Unread.{get_map, reading_there}

pub as_many_cells : {A B : Type 0} (f : A → B) (xs ys : List A) → length (map f xs) ≡ length (map f ys) → length xs ≡ length ys
as_many_cells f xs ys same = sym (length-map xs f) ∙ (same ∙ length-map ys f)

-- Readers.

reader_has : (b : Bool) (reading : Reading) → ReaderFits b (Some reading) → b ≡ true
reader_has true reading fits = refl
reader_has false reading fits = absurd fits

from_outside : (reads : List Bool) (end : End) → has_feed reads end ≡ true → is_outside end ≡ true
from_outside reads (AtLeaf inst port) has = cc
from_outside reads (AtNet port) has = refl

module _ {C : Type 0} (run : Running C) (links : List Link) (outlets : List Outlet) (came n cells : ℕ) (parts : HasParts run links outlets came n cells) where
  -- a link whose reader is there has a feed
  has_its_feed : (l : ℕ) (link : Link) (reading : Reading) → slice_get links l ≡ Some link → slice_get run.readings l ≡ Some (Some reading) → has_feed run.reads link.from ≡ true
  has_its_feed l link reading at there = reader_has (has_feed run.reads link.from) reading (parts.readers l link (Some reading) at there)

  pub readers_fit : (feeds : Inputs) → FeedsFit run feeds → ReadersFit links run.readings feeds
  readers_fit feeds fits = record {
    count = parts.reader_for_each;
    inputs = λ l link reading at there. from_outside run.reads link.from (has_its_feed l link reading at there);
    open_feeds = λ l reading there.
        let on = there_too run.readings links l (Some reading) parts.reader_for_each there in
        subst (λ ls. feeds.is_open (feed_of ls l) ≡ true) parts.links_are
        (fits.open_feeds l on.0 (ap (λ ls. slice_get ls l) parts.links_are ∙ on.1) (has_its_feed l on.0 reading on.1 there));
    same_feeds = λ l reading there. subst (λ ls. EndIsTrue reading (feeds.left (feed_of ls l))) parts.links_are (fits.same_feeds l reading there);
  }

  pub its_feed : (old : Running C) (feed : ℕ) → old.held.links ≡ links → run.reads ≡ old.reads → IsFeedOf links run.readings feed → IsFeed old feed
  its_feed old feed links_are reads is =
      let on = there_too run.readings links is.0 (Some is.1) parts.reader_for_each is.2 in (
        is.0,
        on.0,
        ap (λ ls. slice_get ls is.0) links_are ∙ on.1,
        subst (λ rs. has_feed rs on.0.from ≡ true) reads (has_its_feed is.0 on.0 is.1 on.1 is.2),
        is.3 ∙ ap (λ ls. feed_of ls is.0) (sym links_are),
      )

pub feeds_still : {C : Type 0} (old new : Running C) (links : List Link) (before after : Inputs) → new.held.links ≡ links → old.held.links ≡ links → new.reads ≡ old.reads
    → ReadersFit links new.readings after → SameOpen before after → FeedsFit old before → FeedsFit new after
feeds_still old new links before after links_new links_old reads fit same fits = record {
  open_feeds = λ l link at has.
      let links_are : new.held.links ≡ old.held.links = links_new ∙ sym links_old in
      same.same_open (feed_of new.held.links l)
      ∙ subst (λ ls. before.is_open (feed_of ls l) ≡ true) (sym links_are)
      (fits.open_feeds l link (ap (λ ls. slice_get ls l) (sym links_are) ∙ at) (subst (λ rs. has_feed rs link.from ≡ true) reads has));
  same_feeds = λ l reading there. subst (λ ls. EndIsTrue reading (after.left (feed_of ls l))) (sym links_new) (fit.same_feeds l reading there);
}

-- Parts.

there_alike : (now old : List (Option Reading)) (l : ℕ) (reader : Option Reading) → map is_some now ≡ map is_some old → slice_get now l ≡ Some reader
    → (was : Option Reading) × (slice_get old l ≡ Some was) × (is_some reader ≡ is_some was)
there_alike [] old l reader same at = cc
there_alike (first ∷ now) [] l reader same at = cc
there_alike (first ∷ now) (other ∷ old) zero reader same at = (other, refl, ap is_some (sym (some_is first reader at)) ∙ head_is (is_some first) (is_some other) (map is_some now) (map is_some old) same)
  where
    head_is : (a b : Bool) (ones others : List Bool) → a ∷ ones ≡ b ∷ others → a ≡ b
    head_is a b ones others e = cc
there_alike (first ∷ now) (other ∷ old) (suc l) reader same at = there_alike now old l reader (tail_is (is_some first) (is_some other) (map is_some now) (map is_some old) same) at
  where
    tail_is : (a b : Bool) (ones others : List Bool) → a ∷ ones ≡ b ∷ others → ones ≡ others
    tail_is a b ones others e = cc

fits_alike : (b : Bool) (was reader : Option Reading) → is_some reader ≡ is_some was → ReaderFits b was → ReaderFits b reader
fits_alike true None None same fits = fits
fits_alike true None (Some reading) same fits = cc
fits_alike true (Some other) None same fits = cc
fits_alike true (Some other) (Some reading) same fits = tt
fits_alike false None None same fits = tt
fits_alike false None (Some reading) same fits = cc
fits_alike false (Some other) None same fits = cc
fits_alike false (Some other) (Some reading) same fits = fits

pub parts_kept : {C : Type 0} (old new : Running C) (links : List Link) (outlets : List Outlet) (came came_now n n_now cells : ℕ) → new.held.links ≡ links → length new.held.cells ≡ length old.held.cells
    → came_now ≡ came → n_now ≡ n → map is_some new.readings ≡ map is_some old.readings → map kind_read new.readings ≡ map kind_read old.readings → new.ins ≡ old.ins → new.reads ≡ old.reads → new.burst ≡ old.burst → new.grow ≡ old.grow
    → length new.counts.arrived.items ≡ length old.counts.arrived.items → length new.counts.rests.items ≡ length old.counts.rests.items → length new.counts.sent.items ≡ length old.counts.sent.items
    → HasParts old links outlets came n cells → HasParts new links outlets came_now n_now cells
parts_kept old new links outlets came came_now n n_now cells links_are count came_is n_is there kinds ins reads burst grow arrived rests sent parts = record {
  links_are = links_are;
  few_links = parts.few_links;
  cells_are = parts.cells_are ∙ sym count;
  few_cells = parts.few_cells;
  came_for_each = came_is ∙ parts.came_for_each;
  writer_for_each = n_is ∙ parts.writer_for_each;
  few_outlets = parts.few_outlets;
  sizes = parts.sizes;
  led_to = parts.led_to;
  reader_for_each = sym (length-map new.readings is_some) ∙ (ap (λ bs. length bs) there ∙ (length-map old.readings is_some ∙ parts.reader_for_each));
  readers = λ l link reader at here.
      let was = there_alike new.readings old.readings l reader there here in
      subst (λ rs. ReaderFits (has_feed rs link.from) reader) (sym reads) (fits_alike (has_feed old.reads link.from) was.0 reader was.2 (parts.readers l link was.0 at was.1));
  kinds = λ l link reading at here.
      let was = reading_there old.readings l reading.kind (ap (λ ks. slice_get ks l) (sym kinds) ∙ get_map kind_read new.readings l (Some reading) here) in
      subst (λ is. ReadsKind is link.from reading.kind) (sym ins) (subst (ReadsKind old.ins link.from) was.2 (parts.kinds l link was.0 at was.1));
  bursts = subst (λ b. (1 ≤ b) × (b ≤ 65536)) (sym burst) parts.bursts;
  arrived_for_each = arrived ∙ parts.arrived_for_each;
  rest_for_each = rests ∙ parts.rest_for_each;
  sent_for_each = sent ∙ parts.sent_for_each;
  few_grown = subst (λ g. g ≤ 1048576) (sym grow) parts.few_grown;
}

-- A delivery that was counted.

pub delivers_run : {X : Type 0} (run new : Running (Cell X)) (feeds_old feeds_new : Inputs) (came : List Filled) → Delivers run.held new.held run.readings new.readings feeds_old feeds_new came
    → ((l : ℕ) → slice_index_or run.held.capacities l 0 ≤ 4294967295) → new.counts.arrived.items ≡ arrived_with came run.counts.arrived.items → new.counts.rests.items ≡ rests_with came run.counts.rests.items
    → new.counts.sent.items ≡ run.counts.sent.items → new.counts.firings ≡ run.counts.firings → new.counts.rounds ≡ run.counts.rounds
    → DeliversRun run new feeds_old feeds_new
delivers_run run new feeds_old feeds_new came delivers few arrived rests sent firings rounds = record {
  rests = delivers.rests;
  few_held = few;
  came = came;
  arrived = arrived;
  rests_are = rests;
  sent = sent;
  firings = firings;
  rounds = rounds;
  states = λ net inputs s stands. delivers.states net inputs s stands.stands stands.is_run_of.wired stands.fed;
}
