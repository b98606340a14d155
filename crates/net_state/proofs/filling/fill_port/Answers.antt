use Rattle.std.proofs.Common.{FitsSigned, rules, ◌<◌, ◌∷◌, [], ◌∙◌, arith, length, map, subst, refl}
use Rattle.std.specs.Prelude.{slice_get}
use Rattle.std.proofs.lemmas.Int.{to_z-of_z}
use Rattle.rvc_base.specs.Storing.{conv}
use Rattle.rvc_base.specs.Width.{num_width}
use Rattle.port_files.specs.Coming.{coming_on}
use Rattle.net_model.specs.Ready.{tokens_of}
use Rattle.net_state.specs.Moving.{EachGains, only_to}
use Rattle.net_state.proofs.Feeding.{ends_as, held_most, input_of, nearer, one_more, pulls_nothing, pulls_then, rest_same, risen_after, takes_same, taking_more, taking_starts}
use Rattle.net_state.proofs.filling.fill_port.Goals as goal

pub held_at-requires-clause-input : goal.held_at-requires-clause-input
held_at-requires-clause-input g c = input_of (map g.A.Firing.cell c.loop-tokens.cells) c.args.inlet.now.inst.0 c.args.inlet.now.port c.args.inlet.now.capacity c.loop-tokens.invariant.0.room

pub next-requires-clause-open : goal.next-requires-clause-open
next-requires-clause-open g c = c.loop-tokens.invariant.2.same_open c.args.feed ∙ c.requires.open

pub store_at-requires-clause-room : goal.store_at-requires-clause-room
store_at-requires-clause-room g c = one_more (map g.A.Firing.cell c.loop-tokens.cells) c.args.inlet.now.inst.0 c.args.inlet.now.port c.args.inlet.now.capacity c.held_at.result
    c.loop-tokens.invariant.0.room c.held_at.ensures c.loop-tokens-test.true

pub loop-tokens-init : goal.loop-tokens-init
loop-tokens-init g c = (
  taking_starts c.args.tokens.now.kind c.args.inlet.now.kind c.args.inlet.now.inst.0 c.args.inlet.now.port c.args.inlet.now.capacity (map g.A.Firing.cell c.args.cells.now)
      (coming_on c.args.tokens.now.pulled (g.F.Feeds.feeds c.args.feeds.now) c.args.feed) c.requires.room,
  c.requires.same_feed,
  pulls_nothing c.args.feed (g.F.Feeds.feeds c.args.feeds.now),
)

pub loop-tokens-preserved : goal.loop-tokens-preserved
loop-tokens-preserved g c =
    let fits : FitsSigned num_width c.in-Token.token = search rules in
    let gains : EachGains (only_to c.args.inlet.now.inst.0 c.args.inlet.now.port (conv c.args.inlet.now.kind c.in-Token.token ∷ [])) (map g.A.Firing.cell c.loop-tokens.cells) (map g.A.Firing.cell c.store_at.new.cells) =
    subst (λ v. EachGains (only_to c.args.inlet.now.inst.0 c.args.inlet.now.port (conv c.args.inlet.now.kind v ∷ [])) (map g.A.Firing.cell c.loop-tokens.cells) (map g.A.Firing.cell c.store_at.new.cells))
    (to_z-of_z num_width c.in-Token.token fits) c.store_at.ensures in (
      taking_more c.args.tokens.now.kind c.loop-tokens.tokens.kind c.next.new.self.kind c.args.inlet.now.kind c.args.inlet.now.inst.0 c.args.inlet.now.port c.args.inlet.now.capacity
          c.loop-tokens.count c.held_at.result c.in-Token.token (map g.A.Firing.cell c.args.cells.now) (map g.A.Firing.cell c.loop-tokens.cells) (map g.A.Firing.cell c.store_at.new.cells)
          (coming_on c.args.tokens.now.pulled (g.F.Feeds.feeds c.args.feeds.now) c.args.feed)
          (coming_on c.loop-tokens.tokens.pulled (g.F.Feeds.feeds c.loop-tokens.feeds) c.args.feed)
          (coming_on c.next.new.self.pulled (g.F.Feeds.feeds c.next.new.feeds) c.args.feed)
          c.loop-tokens.invariant.0 c.in-Token.ensures.kind c.held_at.ensures c.loop-tokens-test.true c.in-Token.ensures.token gains,
      c.in-Token.ensures.still_same_feed,
      pulls_then c.args.feed (g.F.Feeds.feeds c.args.feeds.now) (g.F.Feeds.feeds c.loop-tokens.feeds) (g.F.Feeds.feeds c.next.new.feeds) c.loop-tokens.invariant.2 c.in-Token.ensures.elsewhere,
    )

pub loop-tokens-smaller : goal.loop-tokens-smaller
loop-tokens-smaller g c = nearer c.args.inlet.now.inst.0 c.args.inlet.now.port c.args.inlet.now.capacity c.held_at.result _ (map g.A.Firing.cell c.loop-tokens.cells) (map g.A.Firing.cell c.store_at.new.cells)
    c.loop-tokens.invariant.0.room c.held_at.ensures c.loop-tokens-test.true c.store_at.ensures

pub returns-in-End : goal.returns-in-End
returns-in-End g c = record {
  took = (
    c.loop-tokens.count,
    takes_same c.args.tokens.now.kind c.args.inlet.now.kind c.args.inlet.now.inst.0 c.args.inlet.now.port c.loop-tokens.count (map g.A.Firing.cell c.args.cells.now) (map g.A.Firing.cell c.loop-tokens.cells)
        (coming_on c.args.tokens.now.pulled (g.F.Feeds.feeds c.args.feeds.now) c.args.feed)
        (coming_on c.loop-tokens.tokens.pulled (g.F.Feeds.feeds c.loop-tokens.feeds) c.args.feed)
        (coming_on c.next.new.self.pulled (g.F.Feeds.feeds c.next.new.feeds) c.args.feed)
        c.loop-tokens.invariant.0.takes c.in-End.ensures.end_coming,
    refl,
  );
  filled = (
    let few : length (tokens_of (slice_get (map g.A.Firing.cell c.loop-tokens.cells) c.args.inlet.now.inst.0) c.args.inlet.now.port) < c.args.inlet.now.capacity =
        omega (arith, c.held_at.ensures, c.loop-tokens-test.true) in few,
    ends_as c.args.tokens.now.kind c.loop-tokens.tokens.kind c.in-End.rest
        (coming_on c.loop-tokens.tokens.pulled (g.F.Feeds.feeds c.loop-tokens.feeds) c.args.feed)
        (coming_on c.next.new.self.pulled (g.F.Feeds.feeds c.next.new.feeds) c.args.feed)
        c.loop-tokens.invariant.0.same_kind c.in-End.ensures.end_coming c.in-End.ensures.end,
  );
  within = c.loop-tokens.invariant.0.room;
  failed = tt;
  due = tt;
  kind = c.in-End.ensures.kind ∙ c.loop-tokens.invariant.0.same_kind;
  same_rest = rest_same c.args.tokens.now.kind (coming_on c.args.tokens.now.pulled (g.F.Feeds.feeds c.args.feeds.now) c.args.feed)
      (coming_on c.loop-tokens.tokens.pulled (g.F.Feeds.feeds c.loop-tokens.feeds) c.args.feed)
      (coming_on c.next.new.self.pulled (g.F.Feeds.feeds c.next.new.feeds) c.args.feed)
      c.loop-tokens.invariant.0.rest c.in-End.ensures.end_coming;
  still_same_feed = c.in-End.ensures.still_same_feed;
  elsewhere = pulls_then c.args.feed (g.F.Feeds.feeds c.args.feeds.now) (g.F.Feeds.feeds c.loop-tokens.feeds) (g.F.Feeds.feeds c.next.new.feeds) c.loop-tokens.invariant.2 c.in-End.ensures.elsewhere;
}

pub returns-in-Failed : goal.returns-in-Failed
returns-in-Failed g c = record {
  took = (
    c.loop-tokens.count,
    takes_same c.args.tokens.now.kind c.args.inlet.now.kind c.args.inlet.now.inst.0 c.args.inlet.now.port c.loop-tokens.count (map g.A.Firing.cell c.args.cells.now) (map g.A.Firing.cell c.loop-tokens.cells)
        (coming_on c.args.tokens.now.pulled (g.F.Feeds.feeds c.args.feeds.now) c.args.feed)
        (coming_on c.loop-tokens.tokens.pulled (g.F.Feeds.feeds c.loop-tokens.feeds) c.args.feed)
        (coming_on c.next.new.self.pulled (g.F.Feeds.feeds c.next.new.feeds) c.args.feed)
        c.loop-tokens.invariant.0.takes c.in-Failed.ensures.failed_coming,
    tt,
  );
  filled = tt;
  within = c.loop-tokens.invariant.0.room;
  failed = risen_after (g.F.Feeds.feeds c.args.feeds.now).faults (g.F.Feeds.feeds c.loop-tokens.feeds).faults (g.F.Feeds.feeds c.next.new.feeds).faults
      c.loop-tokens.invariant.2.faults_stay c.in-Failed.ensures.failed;
  due = record {
    unfilled = omega (arith, c.held_at.ensures, c.loop-tokens-test.true);
    short = c.in-Failed.ensures.failed_short;
  };
  kind = c.in-Failed.ensures.kind ∙ c.loop-tokens.invariant.0.same_kind;
  same_rest = rest_same c.args.tokens.now.kind (coming_on c.args.tokens.now.pulled (g.F.Feeds.feeds c.args.feeds.now) c.args.feed)
      (coming_on c.loop-tokens.tokens.pulled (g.F.Feeds.feeds c.loop-tokens.feeds) c.args.feed)
      (coming_on c.next.new.self.pulled (g.F.Feeds.feeds c.next.new.feeds) c.args.feed)
      c.loop-tokens.invariant.0.rest c.in-Failed.ensures.failed_coming;
  still_same_feed = c.in-Failed.ensures.still_same_feed;
  elsewhere = pulls_then c.args.feed (g.F.Feeds.feeds c.args.feeds.now) (g.F.Feeds.feeds c.loop-tokens.feeds) (g.F.Feeds.feeds c.next.new.feeds) c.loop-tokens.invariant.2 c.in-Failed.ensures.elsewhere;
}

pub returns : goal.returns
returns g c =
    let most = held_most (map g.A.Firing.cell c.loop-tokens.cells) c.args.inlet.now.inst.0 c.args.inlet.now.port c.args.inlet.now.capacity c.loop-tokens.invariant.0.room in
    record {
      took = (c.loop-tokens.count, c.loop-tokens.invariant.0.takes, refl);
      filled = omega (arith, most, c.held_at.ensures, c.loop-tokens-test.false);
      within = c.loop-tokens.invariant.0.room;
      failed = tt;
      due = tt;
      kind = c.loop-tokens.invariant.0.same_kind;
      same_rest = c.loop-tokens.invariant.0.rest;
      still_same_feed = c.loop-tokens.invariant.1;
      elsewhere = c.loop-tokens.invariant.2;
    }
