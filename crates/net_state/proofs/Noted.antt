-- A network that is opened again as by an earlier delivery.
use Rattle.std.proofs.Common.{◌≡◌, ℕ, ◌+◌, ◌<◌, ◌≤◌, List, length, refl, sym, ap, ◌∙◌, ⊎_elim, arith}
use Rattle.std.specs.Prelude.{Some, slice_get, slice_set, slice_index_or}
use Rattle.std.proofs.lemmas.Bool.{cases_eq}
use Rattle.std.proofs.lemmas.List.{length-set, get_or-set_same, get_or-set_other}
use Rattle.std.proofs.lemmas.Option.{slice_get_within}
use Rattle.net_model.specs.declared.wiring.End.{End}
use Rattle.net_model.specs.declared.wiring.End.TheVariants.{Leaf as AtLeaf, Net as AtNet}
use Rattle.net_model.specs.declared.wiring.Link.{Link}
use Rattle.net_model.specs.Cell.{Cell}
use Rattle.net_state.specs.Held.{HasRooms, HasShapeOf, IsRoomTable, IsWorking, held_of}
use Rattle.net_state.specs.Moving.{IsWriter, sent_from, sent_of}
use Rattle.net_state.specs.Reopening.{FitWaited, IsReopening, OpensAgain, noted_or}
use Rattle.net_state.specs.Standing.{AreAllOut}
use Rattle.net_state.specs.Working.{IsAtRest}
use Rattle.net_state.proofs.Coming.{on_cell}
use Rattle.net_state.proofs.Gaining.{there_too}
use Rattle.net_state.proofs.Untaken.{at_links, untaken_waits}

-- Link by link.

pub reopening_none : (noted capacities waited : List ℕ) → IsReopening 0 noted capacities waited waited
reopening_none noted capacities waited = record {
  as_many = refl;
  done = λ l low. absurd (omega (arith, low));
  left = λ l high. refl;
}

pub reopening_more : (n x : ℕ) (noted capacities old now : List ℕ) → n < length now → IsReopening n noted capacities old now
    → x ≡ noted_or (slice_index_or now n 0) (slice_index_or noted n 0) (slice_index_or capacities n 0)
    → IsReopening (n + 1) noted capacities old (slice_set now n x)
reopening_more n x noted capacities old now low so_far is = record {
  as_many = length-set now n x ∙ so_far.as_many;
  done = λ l less. ⊎_elim
      (λ same.
      ap (λ k. slice_index_or (slice_set now n x) k 0) same
      ∙ (get_or-set_same now n x 0 low
      ∙ (is
      ∙ (ap (λ w. noted_or w (slice_index_or noted n 0) (slice_index_or capacities n 0)) (so_far.left n (omega arith))
      ∙ ap (λ k. noted_or (slice_index_or old k 0) (slice_index_or noted k 0) (slice_index_or capacities k 0)) (sym same)))))
      (λ differ. get_or-set_other now n l x 0 differ ∙ so_far.done l (omega (arith, less, differ)))
      (cases_eq l n);
  left = λ l high. get_or-set_other now n l x 0 (λ same. omega (arith, same, high)) ∙ so_far.left l (omega (arith, high));
}

-- nothing waits to leave
none_out : {X : Type 0} (cells : List (Cell X)) (end : End) → AreAllOut cells → IsWriter cells end → length (sent_from cells end) ≡ 0
none_out cells (AtNet port) out writer = refl
none_out cells (AtLeaf inst port) out writer =
    let on = on_cell (slice_get cells inst.0) (λ cell. port < cell.actor.outs) writer in
    ap (λ o. length (sent_of o port)) on.1 ∙ ap (λ ts. length ts) ((out inst.0 on.0 on.1).0 port on.2)

module _ {X : Type 0} (cells : List (Cell X)) (links : List Link) (capacities waited : List ℕ) (working : IsWorking cells links capacities waited) where
  pub fit_waited : FitWaited (held_of cells links capacities waited)
  fit_waited net s that = record {
    waiting = λ l link flow at here inner.
        let is = untaken_waits net cells links capacities waited s that.is_of that.stands working l link flow at here in
        let fewer = (working.fits l link (at_links net cells links capacities waited s that.is_of that.stands working l link at)).fewer inner in
        omega (arith, is, fewer);
    holds = λ l link flow at here inner.
        let counted = (working.fits l link (at_links net cells links capacities waited s that.is_of that.stands working l link at)).counted in
        let holds = (that.stands.flows.each l link flow at here).capacity_is in
        omega (arith, counted, holds);
  }

  module _ (rest : IsAtRest (held_of cells links capacities waited)) (noted now : List ℕ) (all : IsReopening (length links) noted capacities waited now) where
    now_is : (l : ℕ) (link : Link) → slice_get links l ≡ Some link
        → slice_index_or now l 0 ≡ noted_or (slice_index_or waited l 0) (slice_index_or noted l 0) (slice_index_or capacities l 0)
    now_is l link at = all.done l (slice_get_within links l link at)

    pub reopened_working : IsWorking cells links capacities now
    reopened_working = record {
      each_holds = working.each_holds;
      each_waited = all.as_many ∙ working.each_waited;
      apart = working.apart;
      fits = λ l link at.
          let fits = working.fits l link at in
          let is = now_is l link at in
          let out = none_out cells link.from rest.all_out fits.writer in
          record {
            size = fits.size;
            writer = fits.writer;
            reader = fits.reader;
            inside = fits.inside;
            outbox = fits.outbox;
            inbox = fits.inbox;
            waiting = fits.waiting;
            counted = omega (arith, is, fits.counted);
            grown = fits.grown;
            fewer = λ inner. omega (arith, is, fits.fewer inner);
            since = λ inner. omega (arith, is, out, fits.counted);
          };
      read = working.read;
      few_given = working.few_given;
      few_held = working.few_held;
      few_cells = working.few_cells;
      few_links = working.few_links;
    }

    pub reopened_fits : (l : ℕ) (link : Link) → slice_get links l ≡ Some link → slice_index_or now l 0 ≤ slice_index_or capacities l 0
    reopened_fits l link at = (reopened_working.fits l link at).counted

    pub reopened_rooms : (table fixed : List (List ℕ)) → HasRooms cells links capacities waited table → HasShapeOf table fixed
        → IsRoomTable links capacities now fixed → HasRooms cells links capacities now fixed
    reopened_rooms table fixed had shape rooms = record {
      rows = shape.rows ∙ had.rows;
      widths = λ i cell row at is.
          let before = there_too fixed table i row shape.rows is in
          shape.widths i before.0 row before.1 is ∙ had.widths i cell before.0 at before.1;
      rooms = rooms;
    }

    pub reopened_states : OpensAgain noted (held_of cells links capacities waited) (held_of cells links capacities now)
    reopened_states net opened s that since fit = record {
      now = record { is_of = that.is_of; stands = that.stands };
      since = record {
        whole = since.whole;
        each = λ l link before flow at inner was here.
            let so = since.each l link before flow at inner was here in
            let at_link = at_links net cells links capacities waited s that.is_of that.stands working l link at in
            let is = now_is l link at_link in
            let untaken_is = untaken_waits net cells links capacities waited s that.is_of that.stands working l link flow at here in
            let counted = rest.counted l link at_link inner in
            let holds = (that.stands.flows.each l link flow at here).capacity_is in
            let few = fit.waiting l link flow at here inner in
            let enough = fit.holds l link flow at here inner in
            record {
              all_arrived = so.all_arrived;
              none_since = so.none_since;
              waited_is = so.waited_is ∙ (let same : slice_index_or noted l 0 ≡ slice_index_or now l 0 = omega (arith, is, untaken_is, counted, holds, few, enough) in same);
            };
      };
    }
