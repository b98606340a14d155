-- Networks that are alike have the same traces, and what is told of a text that is none is told of it in both.
use Rattle.std.proofs.Common.{◌≡◌, inl, inr, ℕ, zero, suc, ◌+◌, Bool, true, false, List, [], ◌∷◌, ◌++◌, length, refl, sym, ap, ◌∙◌, subst, arith}
use Rattle.std.specs.Prelude.{Option, None, Some, slice_get, if◌then◌else◌, ◌==◌, replicate, pos, codes}
use Rattle.rvc_base.specs.declared.trap.Trap.{Trap as TrapName}
use Rattle.rvc_base.specs.Behaviour.{Effect, Fires, TrapsInGuard, TrapsInBody}
use Rattle.trace_text.specs.declared.line.Line.{Line}
use Rattle.trace_text.specs.declared.line.Line.TheVariants.{Header as FirstLine, Inst, Fire, Deliver, Grow, Quiet, Trap as TrapLine, Stall, Budget}
use Rattle.trace_text.specs.Table.{IsWritten}
use Rattle.trace_text.specs.Text.{line_text, line_feed}
use Rattle.trace_text.specs.Spelling.{Spells}
use Rattle.net_model.specs.declared.wiring.End.{End}
use Rattle.net_model.specs.declared.wiring.End.TheVariants.{Leaf as AtLeaf, Net as AtNet}
use Rattle.net_model.specs.declared.wiring.Link.{Link}
use Rattle.net_model.specs.Network.{Leaf, Network}
use Rattle.net_model.specs.State.{Flow, State, effect_at}
use Rattle.net_model.specs.Ends.{Grows}
use Rattle.net_model.specs.Trace.{FitFlows, PlaysFrom, TrapFits, counted_flows, goes, opened_by, with_given}
use Rattle.net_model.specs.Paced.{HasRoomIn, PassesLink, PassesOn, PassesRoom}
use Rattle.net_model.specs.Alike.{Allowed, AreAlike, EffectsAlike, LeavesAlike, StatesAlike}
use Rattle.net_model.proofs.Twins.{StepToo, TwinNets, Twins, each_same, twin, twin_effect, twin_give, twin_net}
use Rattle.net_model.proofs.LikeLines.{between_back, goes_too, line_too, plays_too, quiet_back, stalled_back, stuck_back}
use Rattle.net_cells.proofs.Lawlike.{carried, keep_alike, nets, texts_alike, twins_of}
use Rattle.law_alike.specs.Traces.{trial}
use Rattle.trace_replay.specs.Judging.{AreOfTable, AtEnd, AtEvents, AtFirst, AtInstance, EventFails, FiringFails, IsNotRun, IsOver, IsTrace, LacksRoomIn, Lead, LeadsOn, LineFails, MayCome, Reached, RestFails, BeginsNone, IsOfNoTable, MayNotCome, IsBehindEnd, IsCutOff, GoesPast, EndsPast, TrapComes, Trial, after_line, due, first_line, instance_text, is_end}
use Rattle.trace_replay.specs.declared.why.Why.{Why}

-- ---- names of leaves

-- these leaves have the paths and the classes of those
abbrev SameNames : {X Y : Type 0} → List (Leaf X) → List (Leaf Y) → Type 0
SameNames [] [] = Unit {0}
SameNames (leaf ∷ leaves) (other ∷ others) =
    (leaf.path ≡ other.path) × (leaf.class ≡ other.class) × SameNames leaves others
SameNames leaves others = ⊥

names_same : {X Y : Type 0} (related : ℕ → X → Y → Type 0) (allowed : Allowed) (i : ℕ) (leaves : List (Leaf X)) (others : List (Leaf Y))
    → LeavesAlike related allowed i leaves others → SameNames leaves others
names_same related allowed i [] [] alike = tt
names_same related allowed i (leaf ∷ leaves) (other ∷ others) alike = (alike.0.0, alike.0.1, names_same related allowed (suc i) leaves others alike.1)
names_same related allowed i [] (other ∷ others) alike = absurd alike
names_same related allowed i (leaf ∷ leaves) [] alike = absurd alike

many_same : {X Y : Type 0} (leaves : List (Leaf X)) (others : List (Leaf Y)) → SameNames leaves others → length leaves ≡ length others
many_same [] [] same = refl
many_same (leaf ∷ leaves) (other ∷ others) same = ap suc (many_same leaves others same.2)
many_same [] (other ∷ others) same = absurd same
many_same (leaf ∷ leaves) [] same = absurd same

-- a leaf and its fellow at a place
record NamedSo {X Y : Type 0} (leaves : List (Leaf X)) (k : ℕ) (other : Leaf Y) : Type 0 where
  leaf : Leaf X
  is_there : slice_get leaves k ≡ Some leaf
  path : leaf.path ≡ other.path
  class : leaf.class ≡ other.class

some_is : {A : Type 0} (x y : A) → Some x ≡ Some y → x ≡ y
some_is x y h = cc

same_path : {Y : Type 0} (one other : Leaf Y) → one ≡ other → one.path ≡ other.path
same_path one other is = ap (λ l. l.path) is

same_class : {Y : Type 0} (one other : Leaf Y) → one ≡ other → one.class ≡ other.class
same_class one other is = ap (λ l. l.class) is

named_at : {X Y : Type 0} (leaves : List (Leaf X)) (others : List (Leaf Y)) → SameNames leaves others → (k : ℕ) (other : Leaf Y) → slice_get others k ≡ Some other → NamedSo leaves k other
named_at [] [] same k other at = cc
named_at (leaf ∷ leaves) (first ∷ others) same zero other at =
    let is : first ≡ other = some_is first other at in
    record {
      leaf = leaf;
      is_there = refl;
      path = same.0 ∙ same_path first other is;
      class = same.1 ∙ same_class first other is;
    }
named_at (leaf ∷ leaves) (first ∷ others) same (suc k) other at =
    let more = named_at leaves others same.2 k other at in
    record { leaf = more.leaf; is_there = more.is_there; path = more.path; class = more.class }
named_at [] (first ∷ others) same k other at = absurd same
named_at (leaf ∷ leaves) [] same k other at = absurd same

text_same : {X Y : Type 0} (k : ℕ) (leaf : Leaf X) (other : Leaf Y) → leaf.path ≡ other.path → leaf.class ≡ other.class → instance_text k leaf ≡ instance_text k other
text_same k leaf other path class =
    ap (λ p. line_text (Inst k) ++ p ++ codes " " ++ leaf.class ++ line_feed) path
    ∙ ap (λ c. line_text (Inst k) ++ other.path ++ codes " " ++ c ++ line_feed) class

-- ---- rooms and traps

passes_on : (gives those : ℕ → ℕ) → ((p : ℕ) → gives p ≡ those p) → (i : ℕ) (link : Option Link) (opened flow : Option Flow)
    → PassesOn gives i link opened flow → PassesOn those i link opened flow
passes_on gives those same i (Some link) (Some opened) (Some flow) passes = at_end link.from passes
  where
    at_end : (end : End) → PassesRoom gives i opened flow end → PassesRoom those i opened flow end
    at_end (AtLeaf inst port) h = (h.0, omega (arith, h.1, same port))
    at_end (AtNet port) h = h
passes_on gives those same i (Some link) (Some opened) None passes = passes
passes_on gives those same i (Some link) None flow passes = passes
passes_on gives those same i None opened flow passes = passes

given_too : (i : ℕ) (gives those : ℕ → ℕ) → ((p : ℕ) → gives p ≡ those p) → (link : Link) (end : End) (flow : Flow)
    → with_given i gives link end flow ≡ with_given i those link end flow
given_too i gives those same link (AtLeaf inst port) flow =
    ap (λ n. record {
      sent = flow.sent ++ (if i == inst.0 then replicate n (pos 0) else []);
      arrived = flow.arrived;
      taken = flow.taken;
      capacity = flow.capacity;
    }) (same port)
given_too i gives those same link (AtNet port) flow = refl

module _ {X Y : Type 0} (related : ℕ → X → Y → Type 0) (allowed : Allowed) (t : Trial X) (others : List (Leaf Y)) (starts : List Y)
    (twins_there : TwinNets related allowed t.net others) (begin : Twins related allowed t.net t.start starts) where
  -- the trial of the other network
  abbrev fellow : Trial Y
  fellow = record { net = twin_net t.net others; grow = t.grow; start = twin t.start starts }

  abbrev Fit : State X → List Y → Type 0
  Fit s those = Twins related allowed t.net s those

  passes_too : (opened s : State X) (first those : List Y) (i a l : ℕ) → PassesLink t.net opened s i a l → PassesLink (twin_net t.net others) (twin opened first) (twin s those) i a l
  passes_too opened s first those i a l passes =
      passes_on _ _ (twin_give related allowed t.net others twins_there i a) i (slice_get t.net.links l) (slice_get opened.flows l) (slice_get s.flows l) passes

  passes_back : (opened s : State X) (first those : List Y) (i a l : ℕ) → PassesLink (twin_net t.net others) (twin opened first) (twin s those) i a l → PassesLink t.net opened s i a l
  passes_back opened s first those i a l passes =
      passes_on _ _ (λ p. sym (twin_give related allowed t.net others twins_there i a p)) i (slice_get t.net.links l) (slice_get opened.flows l) (slice_get s.flows l) passes

  room_too : (opened s : State X) (first those : List Y) (i a : ℕ) → HasRoomIn t.net opened s i a → HasRoomIn (twin_net t.net others) (twin opened first) (twin s those) i a
  room_too opened s first those i a room l passes = room l (passes_back opened s first those i a l passes)

  room_back : (opened s : State X) (first those : List Y) (i a : ℕ) → HasRoomIn (twin_net t.net others) (twin opened first) (twin s those) i a → HasRoomIn t.net opened s i a
  room_back opened s first those i a room l passes = room l (passes_too opened s first those i a l passes)

  lacks_too : (opened s : State X) (first those : List Y) (i a : ℕ) → LacksRoomIn t.net opened s i a → LacksRoomIn (twin_net t.net others) (twin opened first) (twin s those) i a
  lacks_too opened s first those i a lacks = (lacks.0, passes_too opened s first those i a lacks.0 lacks.1)

  firing_fails_too : (opened s : State X) (first those : List Y) (i a : ℕ) (why : Why) (e : Option (Effect X)) (f : Option (Effect Y)) → EffectsAlike (related i) e f
      → FiringFails t.net opened s i a e why → FiringFails (twin_net t.net others) (twin opened first) (twin s those) i a f why
  firing_fails_too opened s first those i a why None None alike h = h
  firing_fails_too opened s first those i a why (Some (Fires x sent)) (Some (Fires y sent')) alike h = (h.0, lacks_too opened s first those i a h.1)
  firing_fails_too opened s first those i a why (Some (TrapsInGuard c)) (Some (TrapsInGuard d)) alike h = h
  firing_fails_too opened s first those i a why (Some (TrapsInBody c)) (Some (TrapsInBody d)) alike (inl h) = inl (h.0, lacks_too opened s first those i a h.1)
  firing_fails_too opened s first those i a why (Some (TrapsInBody c)) (Some (TrapsInBody d)) alike (inr h) = inr (h.0, room_too opened s first those i a h.1)
  firing_fails_too opened s first those i a why None (Some (Fires y sent)) alike h = absurd alike
  firing_fails_too opened s first those i a why None (Some (TrapsInGuard d)) alike h = absurd alike
  firing_fails_too opened s first those i a why None (Some (TrapsInBody d)) alike h = absurd alike
  firing_fails_too opened s first those i a why (Some (Fires x sent)) None alike h = absurd alike
  firing_fails_too opened s first those i a why (Some (Fires x sent)) (Some (TrapsInGuard d)) alike h = absurd alike
  firing_fails_too opened s first those i a why (Some (Fires x sent)) (Some (TrapsInBody d)) alike h = absurd alike
  firing_fails_too opened s first those i a why (Some (TrapsInGuard c)) None alike h = absurd alike
  firing_fails_too opened s first those i a why (Some (TrapsInGuard c)) (Some (Fires y sent)) alike h = absurd alike
  firing_fails_too opened s first those i a why (Some (TrapsInGuard c)) (Some (TrapsInBody d)) alike h = absurd alike
  firing_fails_too opened s first those i a why (Some (TrapsInBody c)) None alike h = absurd alike
  firing_fails_too opened s first those i a why (Some (TrapsInBody c)) (Some (Fires y sent)) alike h = absurd alike
  firing_fails_too opened s first those i a why (Some (TrapsInBody c)) (Some (TrapsInGuard d)) alike h = absurd alike

  trap_comes_back : (opened s : State X) (first those : List Y) (i a : ℕ) (c : TrapName) (e : Option (Effect X)) (f : Option (Effect Y)) → EffectsAlike (related i) e f
      → TrapComes (twin_net t.net others) (twin opened first) (twin s those) i a f c → TrapComes t.net opened s i a e c
  trap_comes_back opened s first those i a c None None alike h = absurd h
  trap_comes_back opened s first those i a c (Some (Fires x sent)) (Some (Fires y sent')) alike h = absurd h
  trap_comes_back opened s first those i a c (Some (TrapsInGuard d)) (Some (TrapsInGuard d')) alike h = alike ∙ h
  trap_comes_back opened s first those i a c (Some (TrapsInBody d)) (Some (TrapsInBody d')) alike h = (alike ∙ h.0, room_back opened s first those i a h.1)
  trap_comes_back opened s first those i a c None (Some (Fires y sent)) alike h = absurd alike
  trap_comes_back opened s first those i a c None (Some (TrapsInGuard d)) alike h = absurd alike
  trap_comes_back opened s first those i a c None (Some (TrapsInBody d)) alike h = absurd alike
  trap_comes_back opened s first those i a c (Some (Fires x sent)) None alike h = absurd alike
  trap_comes_back opened s first those i a c (Some (Fires x sent)) (Some (TrapsInGuard d)) alike h = absurd alike
  trap_comes_back opened s first those i a c (Some (Fires x sent)) (Some (TrapsInBody d)) alike h = absurd alike
  trap_comes_back opened s first those i a c (Some (TrapsInGuard d)) None alike h = absurd alike
  trap_comes_back opened s first those i a c (Some (TrapsInGuard d)) (Some (Fires y sent)) alike h = absurd alike
  trap_comes_back opened s first those i a c (Some (TrapsInGuard d)) (Some (TrapsInBody d')) alike h = absurd alike
  trap_comes_back opened s first those i a c (Some (TrapsInBody d)) None alike h = absurd alike
  trap_comes_back opened s first those i a c (Some (TrapsInBody d)) (Some (Fires y sent)) alike h = absurd alike
  trap_comes_back opened s first those i a c (Some (TrapsInBody d)) (Some (TrapsInGuard d')) alike h = absurd alike

  grows_back : (s : State X) (those : List Y) (l capacity : ℕ) → Fit s those → Grows (twin_net t.net others) t.grow (twin s those) l capacity → Grows t.net t.grow s l capacity
  grows_back s those l capacity twins grows = record {
    leaf = grows.leaf;
    action = grows.action;
    stalled = stalled_back related allowed t.net others twins_there s those grows.leaf grows.action l twins grows.stalled;
    below = grows.below;
    doubled = grows.doubled;
  }

  -- a line of the run that fails, fails there too
  event_fails_too : (opened s : State X) (first those : List Y) (line : Line) (why : Why) → Fit s those → EventFails t opened s line why → EventFails fellow (twin opened first) (twin s those) line why
  event_fails_too opened s first those (Fire i a) why twins h =
      firing_fails_too opened s first those i a why (effect_at t.net s i a) (effect_at (twin_net t.net others) (twin s those) i a)
      (twin_effect related allowed t.net others twins_there s those twins i a) h
  event_fails_too opened s first those (TrapLine i a c) why twins h = (
    h.0,
    (λ comes. h.1 (trap_comes_back opened s first those i a c (effect_at t.net s i a) (effect_at (twin_net t.net others) (twin s those) i a)
        (twin_effect related allowed t.net others twins_there s those twins i a) comes)),
  )
  event_fails_too opened s first those (Grow l capacity) why twins h = (h.0, (λ grows. h.1 (grows_back s those l capacity twins grows)))
  event_fails_too opened s first those Quiet why twins h = (h.0, (λ quiet. h.1 (quiet_back related allowed t.net others twins_there s those twins quiet)))
  event_fails_too opened s first those (Stall i a l) why twins h = (h.0, (λ stuck. h.1 (stuck_back related allowed t.net others twins_there t.grow s those i a l twins stuck)))
  event_fails_too opened s first those Budget why twins h = (h.0, (λ between. h.1 (between_back related allowed t.net others twins_there t.grow s those twins between)))
  event_fails_too opened s first those Deliver why twins h = h
  event_fails_too opened s first those (FirstLine n l g) why twins h = h
  event_fails_too opened s first those (Inst k) why twins h = h

  -- ---- lines that may come

  counted_too : (s : State X) (those : List Y) (i a : ℕ) (e : Option (Effect X)) (f : Option (Effect Y)) → EffectsAlike (related i) e f
      → counted_flows t.net s i a e ≡ counted_flows (twin_net t.net others) (twin s those) i a f
  counted_too s those i a None None alike = refl
  counted_too s those i a (Some (Fires x sent)) (Some (Fires y sent')) alike = refl
  counted_too s those i a (Some (TrapsInGuard c)) (Some (TrapsInGuard d)) alike = refl
  counted_too s those i a (Some (TrapsInBody c)) (Some (TrapsInBody d)) alike =
      each_same _ _ (λ link flow. given_too i _ _ (twin_give related allowed t.net others twins_there i a) link link.from flow) t.net.links s.flows
  counted_too s those i a None (Some (Fires y sent)) alike = absurd alike
  counted_too s those i a None (Some (TrapsInGuard d)) alike = absurd alike
  counted_too s those i a None (Some (TrapsInBody d)) alike = absurd alike
  counted_too s those i a (Some (Fires x sent)) None alike = absurd alike
  counted_too s those i a (Some (Fires x sent)) (Some (TrapsInGuard d)) alike = absurd alike
  counted_too s those i a (Some (Fires x sent)) (Some (TrapsInBody d)) alike = absurd alike
  counted_too s those i a (Some (TrapsInGuard c)) None alike = absurd alike
  counted_too s those i a (Some (TrapsInGuard c)) (Some (Fires y sent)) alike = absurd alike
  counted_too s those i a (Some (TrapsInGuard c)) (Some (TrapsInBody d)) alike = absurd alike
  counted_too s those i a (Some (TrapsInBody c)) None alike = absurd alike
  counted_too s those i a (Some (TrapsInBody c)) (Some (Fires y sent)) alike = absurd alike
  counted_too s those i a (Some (TrapsInBody c)) (Some (TrapsInGuard d)) alike = absurd alike

  trap_fits_too : (opened s : State X) (first those : List Y) (line : Line) → Fit s those → TrapFits t.net opened s line → TrapFits (twin_net t.net others) (twin opened first) (twin s those) line
  trap_fits_too opened s first those (TrapLine i a c) twins h =
      subst (λ fs. FitFlows t.net.links opened.flows fs)
      (counted_too s those i a (effect_at t.net s i a) (effect_at (twin_net t.net others) (twin s those) i a) (twin_effect related allowed t.net others twins_there s those twins i a)) h
  trap_fits_too opened s first those (Fire i a) twins h = h
  trap_fits_too opened s first those Deliver twins h = h
  trap_fits_too opened s first those (Grow l capacity) twins h = h
  trap_fits_too opened s first those Quiet twins h = h
  trap_fits_too opened s first those (Stall i a l) twins h = h
  trap_fits_too opened s first those Budget twins h = h
  trap_fits_too opened s first those (FirstLine n l g) twins h = h
  trap_fits_too opened s first those (Inst k) twins h = h

  -- which actors' states belong to the last delivery
  opened_too : (line : Line) (opened next : State X) (first that : List Y) → (those : List Y) × (opened_by line (twin opened first) (twin next that) ≡ twin (opened_by line opened next) those)
  opened_too Deliver opened next first that = (that, refl)
  opened_too (Fire i a) opened next first that = (first, refl)
  opened_too (TrapLine i a c) opened next first that = (first, refl)
  opened_too (Grow l capacity) opened next first that = (first, refl)
  opened_too Quiet opened next first that = (first, refl)
  opened_too (Stall i a l) opened next first that = (first, refl)
  opened_too Budget opened next first that = (first, refl)
  opened_too (FirstLine n l g) opened next first that = (first, refl)
  opened_too (Inst k) opened next first that = (first, refl)

  record ComesToo (opened s next : State X) (first those : List Y) (line : Line) : Type 0 where
    that : List Y
    comes : MayCome fellow (twin opened first) (twin s those) line (twin next that)
    twins : Fit next that

  may_come_too : (opened s next : State X) (first those : List Y) (line : Line) → Fit s those → MayCome t opened s line next → ComesToo opened s next first those line
  may_come_too opened s next first those line twins comes =
      let step : StepToo related allowed t.net (goes (twin_net t.net others) (twin s those) line) next =
      goes_too related allowed t.net others twins_there s next those line twins comes.goes_so in
      let began = opened_too line opened next first step.those in
      record {
        that = step.those;
        comes = record {
          true_there = line_too related allowed t.net others twins_there t.grow s those line [] twins comes.true_there;
          goes_so = step.is;
          trap_fits = trap_fits_too opened s first those line twins comes.trap_fits;
          fits = subst (λ (w : State Y). FitFlows t.net.links w.flows next.flows) (sym began.1) comes.fits;
        };
        twins = step.twins;
      }

  -- ---- what lines come to

  data Fellows : Reached X → Reached Y → Type 0 where
    firsts : Fellows AtFirst AtFirst
    instances : (k : ℕ) (leaf : Leaf X) (leaves : List (Leaf X)) (other : Leaf Y) (more : List (Leaf Y)) → leaf.path ≡ other.path → leaf.class ≡ other.class → SameNames leaves more
        → Fellows (AtInstance k leaf leaves) (AtInstance k other more)
    events : (opened s : State X) (first those : List Y) → Fit s those → Fellows (AtEvents opened s) (AtEvents (twin opened first) (twin s those))
    ends : (line : Line) (last : State X) (those : List Y) → Fit last those → Fellows (AtEnd line last) (AtEnd line (twin last those))

  due_too : (k : ℕ) (leaves : List (Leaf X)) (more : List (Leaf Y)) → SameNames leaves more → Fellows (due k leaves t.start) (due k more (twin t.start starts))
  due_too k [] [] same = events t.start t.start starts starts begin
  due_too k (leaf ∷ leaves) (other ∷ more) same = instances k leaf leaves other more same.0 same.1 same.2
  due_too k [] (other ∷ more) same = absurd same
  due_too k (leaf ∷ leaves) [] same = absurd same

  all_named : SameNames t.net.leaves others
  all_named = names_same related allowed 0 t.net.leaves others twins_there.leaves

  first_same : first_line t ≡ first_line fellow
  first_same = ap (λ n. FirstLine n (length t.net.links) t.grow) (many_same t.net.leaves others all_named)

  after_too : (line : Line) (opened next : State X) (first that : List Y) → Fit next that → Fellows (after_line line opened next) (after_line line (twin opened first) (twin next that))
  after_too line opened next first that twins = by_end (is_end line)
    where
      by_end : (b : Bool) → Fellows (if b then AtEnd line next else AtEvents (opened_by line opened next) next)
          (if b then AtEnd line (twin next that) else AtEvents (opened_by line (twin opened first) (twin next that)) (twin next that))
      by_end true = ends line next that twins
      by_end false =
          let began = opened_too line opened next first that in
          subst (λ w. Fellows (AtEvents (opened_by line opened next) next) (AtEvents w (twin next that))) (sym began.1) (events (opened_by line opened next) next began.0 that twins)

  record LeadsToo (text : List ℕ) (line : Line) (other : Reached Y) (next : Reached X) : Type 0 where
    that : Reached Y
    leads : LeadsOn fellow other text line that
    fellows : Fellows next that

  leads_too : (reached next : Reached X) (other : Reached Y) (text : List ℕ) (line : Line) → Fellows reached other → LeadsOn t reached text line next → LeadsToo text line other next
  leads_too reached next that text line firsts on = record {
    that = due 0 others (twin t.start starts);
    leads = (on.0 ∙ first_same, refl);
    fellows = subst (λ r. Fellows r (due 0 others (twin t.start starts))) (sym on.1) (due_too 0 t.net.leaves others all_named);
  }
  leads_too reached next that text line (instances k leaf leaves other more path class same) on = record {
    that = due (k + 1) more (twin t.start starts);
    leads = ((on.0.0, on.0.1 ∙ text_same k leaf other path class), refl);
    fellows = subst (λ r. Fellows r (due (k + 1) more (twin t.start starts))) (sym on.1) (due_too (k + 1) leaves more same);
  }
  leads_too reached next that text line (events opened s first those twins) (last, comes, is) =
      let too = may_come_too opened s last first those line twins comes in
      record {
        that = after_line line (twin opened first) (twin last too.that);
        leads = (twin last too.that, too.comes, refl);
        fellows = subst (λ r. Fellows r (after_line line (twin opened first) (twin last too.that))) (sym is) (after_too line opened last first too.that too.twins);
      }
  leads_too reached next that text line (ends end last those twins) on = absurd on

  record LeadToo (texts : List (List ℕ)) (other : Reached Y) (last : Reached X) : Type 0 where
    that : Reached Y
    lead : Lead fellow other texts that
    fellows : Fellows last that

  lead_too : (texts : List (List ℕ)) (reached last : Reached X) (other : Reached Y) → Fellows reached other → Lead t reached texts last → LeadToo texts other last
  lead_too [] reached last other fellows is = record { that = other; lead = refl; fellows = subst (λ r. Fellows r other) is fellows }
  lead_too (text ∷ texts) reached last other fellows (line, next, spells, on, more) =
      let step = leads_too reached next other text line fellows on in
      let rest = lead_too texts next last step.that step.fellows more in
      record { that = rest.that; lead = (line, step.that, spells, step.leads, rest.lead); fellows = rest.fellows }

  -- ---- what fails

  line_fails_too : (reached : Reached X) (other : Reached Y) (text : List ℕ) (line : Line) (why : Why) → Fellows reached other → LineFails t reached text line why → LineFails fellow other text line why
  line_fails_too reached that text line why firsts h = (h.0, (λ is. h.1 (is ∙ sym first_same)))
  line_fails_too reached that text line why (instances k leaf leaves other more path class same) h =
      (h.0, (λ is. h.1 (is.0, is.1 ∙ sym (text_same k leaf other path class))))
  line_fails_too reached that text line why (events opened s first those twins) h = event_fails_too opened s first those line why twins h
  line_fails_too reached that text line why (ends end last those twins) h = absurd h

  over_too : (reached : Reached X) (other : Reached Y) → Fellows reached other → IsOver reached → IsOver other
  over_too reached that firsts h = absurd h
  over_too reached that (instances k leaf leaves other more path class same) h = absurd h
  over_too reached that (events opened s first those twins) h = absurd h
  over_too reached that (ends end last those twins) h = tt

  over_back : (reached : Reached X) (other : Reached Y) → Fellows reached other → IsOver other → IsOver reached
  over_back reached that firsts h = absurd h
  over_back reached that (instances k leaf leaves other more path class same) h = absurd h
  over_back reached that (events opened s first those twins) h = absurd h
  over_back reached that (ends end last those twins) h = tt

  rest_fails_too : (reached : Reached X) (other : Reached Y) (rest : List ℕ) (longer : Bool) (why : Why) → Fellows reached other → RestFails t reached rest longer why → RestFails fellow other rest longer why
  rest_fails_too reached other rest longer why fellows (BeginsNone going front byte more is fits begins) =
      BeginsNone (λ over. going (over_back reached other fellows over)) front byte more is fits begins
  rest_fails_too reached other rest longer why fellows (IsOfNoTable going line text more is spells of_none) =
      IsOfNoTable (λ over. going (over_back reached other fellows over)) line text more is spells of_none
  rest_fails_too reached other rest longer why fellows (MayNotCome line cause text more is spells of_table fails) =
      MayNotCome line cause text more is spells of_table (line_fails_too reached other text line cause fellows fails)
  rest_fails_too reached other rest longer why fellows (IsBehindEnd over some_left) = IsBehindEnd (over_too reached other fellows over) some_left
  rest_fails_too reached other rest longer why fellows (IsCutOff going front whole) = IsCutOff (λ over. going (over_back reached other fellows over)) front whole
  rest_fails_too reached other rest longer why fellows (GoesPast going front more) = GoesPast (λ over. going (over_back reached other fellows over)) front more
  rest_fails_too reached other rest longer why fellows (EndsPast over none more) = EndsPast (over_too reached other fellows over) none more

  not_run_too : (text : List ℕ) (n : ℕ) (why : Why) → IsNotRun t text n why → IsNotRun fellow text n why
  not_run_too text n why told =
      let lead = lead_too told.texts AtFirst told.reached AtFirst firsts told.lead in
      record {
        texts = told.texts;
        rest = told.rest;
        reached = lead.that;
        is_text = told.is_text;
        lead = lead.lead;
        number = told.number;
        longer = told.longer;
        is_longer = told.is_longer;
        is_whole = told.is_whole;
        fails = rest_fails_too told.reached lead.that told.rest told.longer why lead.fellows told.fails;
      }

  of_table_too : (lines : List Line) → AreOfTable t lines → AreOfTable fellow lines
  of_table_too lines of_table = record {
    first = subst IsWritten first_same of_table.first;
    instances = λ k other at.
        let named = named_at t.net.leaves others all_named k other at in
        subst (Spells (Inst k)) (text_same k named.leaf other named.path named.class) (of_table.instances k named.leaf named.is_there);
    events = of_table.events;
  }

-- ---- two networks that are alike, and trials that begin in states that are alike

module _ {X Y : Type 0} (related : ℕ → X → Y → Type 0) (allowed : Allowed) (net : Network X) (other : Network Y) (alike : AreAlike related allowed net other) (grow : ℕ) (s : State X) (that : State Y)
    (states : StatesAlike related allowed net s that) where
  pub not_run_alike : (text : List ℕ) (n : ℕ) (why : Why) → IsNotRun (trial net grow s) text n why → IsNotRun (trial other grow that) text n why
  not_run_alike text n why told =
      carried related allowed net other alike (λ m w. IsNotRun (trial m grow w) text n why) s that states
      (not_run_too related allowed (trial net grow s) other.leaves that.actors (nets related allowed net other alike) (twins_of related allowed net other alike s that states) text n why told)

  pub trace_alike : (text : List ℕ) (lines : List Line) (end : Line) (last : State X) → IsTrace (trial net grow s) text lines end last
      → (there : State Y) × IsTrace (trial other grow that) text lines end there × StatesAlike related allowed net last there
  trace_alike text lines end last is_trace =
      let too = plays_too related allowed net other.leaves (nets related allowed net other alike) grow lines s last that.actors (twins_of related allowed net other alike s that states) is_trace.plays in (
        twin last too.0,
        record {
          is_text = is_trace.is_text ∙ texts_alike related allowed net other alike grow lines;
          of_table = carried related allowed net other alike (λ m w. AreOfTable (trial m grow w) lines) s that states
              (of_table_too related allowed (trial net grow s) other.leaves that.actors (nets related allowed net other alike) (twins_of related allowed net other alike s that states) lines is_trace.of_table);
          plays = carried related allowed net other alike (λ m w. PlaysFrom m grow w lines (twin last too.0)) s that states too.1;
          keeps = keep_alike related allowed net other alike s that lines states is_trace.keeps;
          ends = is_trace.ends;
        },
        record { actors = too.2.actors; flows = refl; trapped = refl; holds = too.2.holds },
      )
