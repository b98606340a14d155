use Rattle.std.proofs.Common.{◌≡◌, ◌++◌, ap, length, map, take, drop, sym, subst, ◌∙◌, arith}
use Rattle.std.specs.Prelude.{is_some}
use Rattle.std.proofs.lemmas.List.{length-map}
use Rattle.net_state.specs.Held.{seen}
use Rattle.trace_text.specs.declared.line.Line.TheVariants.{Grow}
use Rattle.trace_replay.specs.Between.{CanGoOn, GoesBy, between}
use Rattle.trace_replay.specs.Feeding.{IsFeedRead}
use Rattle.trace_replay.specs.Growing.{GrowsOn, StillFits}
use Rattle.trace_replay.specs.declared.growth.Growth.TheVariants.{Untrue, Grown}
use Rattle.trace_replay.proofs.Chained.{written_back}
use Rattle.trace_replay.proofs.Stepped.{grown_counts, grown_goes, grown_ready, untrue_fails}
use Rattle.trace_replay.proofs.between.Replay.grow.Goals as goal

pub returns-in-Grown-clause-goes : goal.returns-in-Grown-clause-goes
returns-in-Grown-clause-goes g c =
    let self = c.args.self.now in
    let old = seen g.A.Firing.cell self.state in
    let new = seen g.A.Firing.cell c.grow_fed.new.state in
    let fo = g.F.Feeds.feeds c.args.feeds.now in
    let fn = g.F.Feeds.feeds c.grow_fed.new.feeds in
    let len : length c.grow_fed.new.readers ≡ self.readers.len = omega (arith, c.grow_fed.auto.readers, c.deref_mut.ensures.len) in
    subst (λ xs. GoesBy self.grow (Grow c.args.link c.args.capacity) (between g.A.Firing.cell self.state self.taken self.readers.items self.numbers fo) (between g.A.Firing.cell c.grow_fed.new.state c.grow_fed.new.taken xs self.numbers fn))
    (sym (written_back self.readers.items c.grow_fed.new.readers self.readers.len len))
    (grown_goes self.grow c.args.link c.args.capacity old new self.taken c.grow_fed.new.taken self.readers.items c.grow_fed.new.readers self.numbers fo fn
    (subst (λ xs. GrowsOn g.A.Firing.cell g.F.Feeds.feeds self.grow c.args.link c.args.capacity self.state self.taken xs c.args.feeds.now c.grow_fed.new.state c.grow_fed.new.taken c.grow_fed.new.readers c.grow_fed.new.feeds Grown)
    c.deref_mut.ensures.value c.in-Grown.ensures.growth))

pub returns-in-Grown-clause-counts : goal.returns-in-Grown-clause-counts
returns-in-Grown-clause-counts g c =
    grown_counts c.args.self.now.grow c.args.link c.args.capacity (seen g.A.Firing.cell c.args.self.now.state) c.args.self.now.taken c.args.self.now.readers.items c.args.self.now.numbers (g.F.Feeds.feeds c.args.feeds.now)

pub returns-in-Grown-clause-still_ready : goal.returns-in-Grown-clause-still_ready
returns-in-Grown-clause-still_ready g c =
    let self = c.args.self.now in
    let old = seen g.A.Firing.cell self.state in
    let new = seen g.A.Firing.cell c.grow_fed.new.state in
    let fo = g.F.Feeds.feeds c.args.feeds.now in
    let fn = g.F.Feeds.feeds c.grow_fed.new.feeds in
    let len : length c.grow_fed.new.readers ≡ self.readers.len = omega (arith, c.grow_fed.auto.readers, c.deref_mut.ensures.len) in
    let long : length c.grow_fed.new.came ≡ self.came.len = omega (arith, c.grow_fed.auto.came, c.deref_mut-2.ensures.len) in
    let came_long : length (take self.came.len (c.grow_fed.new.came ++ drop (length c.grow_fed.new.came) self.came.items)) ≡ length self.came.items =
    ap (λ fs. length fs) (written_back self.came.items c.grow_fed.new.came self.came.len long) ∙ (c.grow_fed.auto.came ∙ ap (λ fs. length fs) c.deref_mut-2.ensures.value) in
    subst (λ xs. CanGoOn (between g.A.Firing.cell c.grow_fed.new.state c.grow_fed.new.taken xs self.numbers fn) self.links.items
    (length (take self.came.len (c.grow_fed.new.came ++ drop (length c.grow_fed.new.came) self.came.items))) self.grow)
    (sym (written_back self.readers.items c.grow_fed.new.readers self.readers.len len))
    (grown_ready self.grow self.links.items (length self.came.items) (length (take self.came.len (c.grow_fed.new.came ++ drop (length c.grow_fed.new.came) self.came.items))) old new
    self.taken c.grow_fed.new.taken self.readers.items c.grow_fed.new.readers self.numbers fo fn came_long
    (subst (λ ls. StillFits ls old new c.grow_fed.new.taken c.grow_fed.new.readers fn) c.deref.ensures.value c.in-Grown.ensures.still_fits) c.requires.ready)

pub returns-in-Grown-clause-still_count : goal.returns-in-Grown-clause-still_count
returns-in-Grown-clause-still_count g c =
    omega (arith, c.requires.count, c.in-Grown.ensures.still_fits.actors.count, length-map c.args.self.now.state.cells g.A.Firing.cell, length-map c.grow_fed.new.state.cells g.A.Firing.cell)

pub returns-in-Grown-clause-noted : goal.returns-in-Grown-clause-noted
returns-in-Grown-clause-noted g c =
    let self = c.args.self.now in
    let long : length c.grow_fed.new.noted ≡ self.noted.len = omega (arith, c.grow_fed.auto.noted, c.deref_mut-3.ensures.len) in
    ap (λ ns. length ns) (written_back self.noted.items c.grow_fed.new.noted self.noted.len long) ∙ (c.grow_fed.auto.noted ∙ ap (λ ns. length ns) c.deref_mut-3.ensures.value)

pub returns-in-Grown-clause-still_read : goal.returns-in-Grown-clause-still_read
returns-in-Grown-clause-still_read g c =
    let self = c.args.self.now in
    let len : length c.grow_fed.new.readers ≡ self.readers.len = omega (arith, c.grow_fed.auto.readers, c.deref_mut.ensures.len) in
    ap (map is_some) (written_back self.readers.items c.grow_fed.new.readers self.readers.len len) ∙ (c.grow_fed.ensures.still_there ∙ ap (map is_some) c.deref_mut.ensures.value)

pub returns-in-Untrue-clause-fails : goal.returns-in-Untrue-clause-fails
returns-in-Untrue-clause-fails g c =
    let self = c.args.self.now in
    untrue_fails self.grow c.args.link c.args.capacity (seen g.A.Firing.cell self.state) (seen g.A.Firing.cell c.grow_fed.new.state) self.taken c.grow_fed.new.taken self.readers.items c.grow_fed.new.readers self.numbers
    (g.F.Feeds.feeds c.args.feeds.now) (g.F.Feeds.feeds c.grow_fed.new.feeds)
    (subst (λ xs. GrowsOn g.A.Firing.cell g.F.Feeds.feeds self.grow c.args.link c.args.capacity self.state self.taken xs c.args.feeds.now c.grow_fed.new.state c.grow_fed.new.taken c.grow_fed.new.readers c.grow_fed.new.feeds Untrue)
    c.deref_mut.ensures.value c.in-Untrue.ensures.growth)

pub returns-in-Unread-clause-feed : goal.returns-in-Unread-clause-feed
returns-in-Unread-clause-feed g c =
    let self = c.args.self.now in
    subst (λ ls. IsFeedRead ls (map is_some self.readers.items) c.in-Unread.feed) c.deref.ensures.value
    (subst (λ xs. IsFeedRead c.deref.result.now (map is_some xs) c.in-Unread.feed) c.deref_mut.ensures.value c.in-Unread.ensures.feed)
