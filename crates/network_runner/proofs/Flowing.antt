-- What the firings of a round and its close make of the flows of a network.
use Rattle.std.proofs.Common.{◌≡◌, ◌≢◌, ◌⊎◌, inl, inr, ℕ, zero, suc, ◌+◌, ◌-◌, ◌*◌, ◌≤◌, Bool, true, false, List, [], ◌∷◌, ◌++◌, ℤ, length, map, refl, sym, ap, subst, ◌∙◌, arith, append-nil, append_assoc, length-append}
use Rattle.std.specs.Prelude.{Option, None, Some, slice_get, slice_set, slice_index_or, ◌==◌, if◌then◌else◌}
use Rattle.std.proofs.lemmas.Bool.{cases_eq, eqb-true}
use Rattle.std.proofs.lemmas.List.{length-map}
use Rattle.rvc_base.specs.declared.trap.Trap.{Trap as TrapName}
use Rattle.rvc_base.specs.Behaviour.{Effect, Fires, TrapsInBody, TrapsInGuard}
use Rattle.rvc_base.specs.Lawful.{IsLawful, tokens_on}
use Rattle.rvc_base.specs.Storing.{conv}
use Rattle.trace_text.specs.declared.line.Line.{Line}
use Rattle.trace_text.specs.declared.line.Line.TheVariants.{Trap as TrapLine, Quiet, Stall, Budget}
use Rattle.net_model.specs.declared.wiring.End.{End}
use Rattle.net_model.specs.declared.wiring.End.TheVariants.{Leaf as AtLeaf, Net as AtNet}
use Rattle.net_model.specs.declared.wiring.Link.{Link}
use Rattle.net_model.specs.Limits.{max_rate}
use Rattle.net_model.specs.Network.{Leaf, Network, is_input, is_outside}
use Rattle.net_model.specs.State.{Flow, State, effect_at, effect_of, need_of}
use Rattle.net_model.specs.Event.{Fire, Trap, after_firing, and_then, happens, number_of_trap, sent_on, taken_from, trap}
use Rattle.net_model.specs.Laws.{AreLawful}
use Rattle.net_model.specs.Paced.{AreBursts, Block, Close, GoesOn, Halt, IsBurst, IsRound, Moment, Pace, Share, close_lines, count_of, limit_of, picked, share_of}
use Rattle.net_model.specs.Trace.{OnNext, after_delivery, goes, grown, played}
use Rattle.net_model.specs.Wired.{ComesFromPort, HasOutput, IsWired}
use Rattle.net_model.proofs.Commuting.{Fired, fired_unless}
use Rattle.net_state.proofs.Coming.{by_bool, if_true, if_false}
use Rattle.net_state.proofs.Flows.{WasChanged, changed_at, changed_count}
use Rattle.net_state.proofs.Gaining.{get_set_same, get_set_other, some_is}
use Rattle.round_runner.specs.declared.outcome.RoundEnd.{RoundEnd}
use Rattle.round_runner.specs.declared.outcome.RoundEnd.TheVariants as round
use Rattle.round_runner.specs.declared.outcome.RunEnd.{RunEnd}
use Rattle.round_runner.specs.declared.outcome.RunEnd.TheVariants as end
use Rattle.round_runner.specs.Rounds.{Answers, end_line}

-- What has become of a link's flow by so many firings: it was sent some tokens more, of which none has arrived, and at
-- most as many were sent and taken as actions give and take.
pub record GoneOn (n : ℕ) (link : Link) (before flow : Flow) : Type 0 where
  pub more : List ℤ
  pub sent : flow.sent ≡ before.sent ++ more
  pub arrived : flow.arrived ≡ before.arrived
  pub from_outside : is_input link ≡ true → more ≡ []
  pub few_more : length more ≤ max_rate * n
  pub few_taken : flow.taken ≤ before.taken + max_rate * n

-- the same of each link
abbrev pub AllGoneOn : {X : Type 0} → ℕ → Network X → State X → State X → Type 0
AllGoneOn n net s t = (l : ℕ) (link : Link) (before flow : Flow) → slice_get net.links l ≡ Some link
    → slice_get s.flows l ≡ Some before → slice_get t.flows l ≡ Some flow → GoneOn n link before flow

gone_same : (link : Link) (flow : Flow) → GoneOn 0 link flow flow
gone_same link flow = record {
  more = [];
  sent = sym (append-nil flow.sent);
  arrived = refl;
  from_outside = λ input. refl;
  few_more = omega arith;
  few_taken = omega arith;
}

gone_then : (n m : ℕ) (link : Link) (a b c : Flow) → GoneOn n link a b → GoneOn m link b c → GoneOn (n + m) link a c
gone_then n m link a b c first second = record {
  more = first.more ++ second.more;
  sent = second.sent ∙ (ap (λ ts. ts ++ second.more) first.sent ∙ append_assoc a.sent first.more second.more);
  arrived = second.arrived ∙ first.arrived;
  from_outside = λ input. ap (λ ts. ts ++ second.more) (first.from_outside input) ∙ second.from_outside input;
  few_more = (let len : length (first.more ++ second.more) ≡ length first.more + length second.more = length-append first.more second.more in
      let one = first.few_more in let two = second.few_more in omega (arith, len, one, two));
  few_taken = (let one = first.few_taken in let two = second.few_taken in omega (arith, one, two));
}

-- One firing.

tokens_few : {X : Type 0} (net : Network X) (s : State X) (i a : ℕ) (to : X) (sent : List (List ℤ)) → IsWired net → AreLawful net → effect_at net s i a ≡ Some (Fires to sent)
    → (port : ℕ) → HasOutput port (slice_get net.leaves i) → length (tokens_on sent port) ≤ max_rate
tokens_few {X} net s i a to sent wired lawful effect port has =
    by_options (slice_get net.leaves i) (slice_get s.actors i) (λ leaf is. lawful i leaf is) (λ leaf is. wired.few_given i leaf is a port) has effect
  where
    by_options : (o : Option (Leaf X)) (x : Option X) → ((leaf : Leaf X) → o ≡ Some leaf → IsLawful leaf.behaviour)
        → ((leaf : Leaf X) → o ≡ Some leaf → leaf.behaviour.give a port ≤ max_rate) → HasOutput port o
        → effect_of net.links s.flows i a o x ≡ Some (Fires to sent) → length (tokens_on sent port) ≤ max_rate
    by_options None x law few there e = absurd there
    by_options (Some leaf) None law few there e = cc
    by_options (Some leaf) (Some x) law few there e =
        let gives : length (tokens_on sent port) ≡ leaf.behaviour.give a port = (law leaf refl).gives x to _ sent a e port there in
        let most : leaf.behaviour.give a port ≤ max_rate = few leaf refl in
        omega (arith, gives, most)

sent_few : {X : Type 0} (net : Network X) (s : State X) (i a : ℕ) (to : X) (sent : List (List ℤ)) → IsWired net → AreLawful net → effect_at net s i a ≡ Some (Fires to sent)
    → (link : Link) (end : End) → ComesFromPort net end → length (sent_on i sent link end) ≤ max_rate
sent_few net s i a to sent wired lawful effect link (AtNet port) from = omega arith
sent_few net s i a to sent wired lawful effect link (AtLeaf inst port) from = by_bool (i == inst.0)
    (λ same.
    let is : i ≡ inst.0 = eqb-true i inst.0 same in
    let here : sent_on i sent link (AtLeaf inst port) ≡ map (conv link.kind) (slice_index_or sent port []) = if_true (i == inst.0) _ _ same in
    let len : length (sent_on i sent link (AtLeaf inst port)) ≡ length (tokens_on sent port) = ap (λ ts. length ts) here ∙ length-map (slice_index_or sent port []) (conv link.kind) in
    let few : length (tokens_on sent port) ≤ max_rate = tokens_few net s i a to sent wired lawful effect port (subst (λ k. HasOutput port (slice_get net.leaves k)) (sym is) from) in
    omega (arith, len, few))
    (λ other.
    let none : sent_on i sent link (AtLeaf inst port) ≡ [] = if_false (i == inst.0) _ _ other in
    let len : length (sent_on i sent link (AtLeaf inst port)) ≡ 0 = ap (λ ts. length ts) none in
    omega (arith, len))

none_from_outside : (i : ℕ) (sent : List (List ℤ)) (link : Link) (end : End) → is_outside end ≡ true → sent_on i sent link end ≡ []
none_from_outside i sent link (AtLeaf inst port) outside = cc
none_from_outside i sent link (AtNet port) outside = refl

need_few : {X : Type 0} (net : Network X) → IsWired net → (i a p : ℕ) → need_of (slice_get net.leaves i) a p ≤ max_rate
need_few {X} net wired i a p = by_option (slice_get net.leaves i) refl
  where
    by_option : (o : Option (Leaf X)) → slice_get net.leaves i ≡ o → need_of o a p ≤ max_rate
    by_option None is = omega arith
    by_option (Some leaf) is = wired.few_taken i leaf is a p

taken_few : (i : ℕ) (needs : ℕ → ℕ) (end : End) → ((p : ℕ) → needs p ≤ max_rate) → taken_from i needs end ≤ max_rate
taken_few i needs (AtNet port) few = omega arith
taken_few i needs (AtLeaf inst port) few = by_bool (i == inst.0)
    (λ same. let is : taken_from i needs (AtLeaf inst port) ≡ needs port = if_true (i == inst.0) _ _ same in let most : needs port ≤ max_rate = few port in omega (arith, is, most))
    (λ other. let is : taken_from i needs (AtLeaf inst port) ≡ 0 = if_false (i == inst.0) _ _ other in omega (arith, is))

module _ {X : Type 0} (net : Network X) (wired : IsWired net) (lawful : AreLawful net) where
  pub fire_gone : (s t : State X) (i a : ℕ) → happens net s (Fire i a) ≡ Some t → AllGoneOn 1 net s t
  fire_gone s t i a h l link before flow at there now =
      let one : Fired net s t i a = fired_unless net s t i a s.trapped refl h in
      let was : WasChanged (after_firing i (need_of (slice_get net.leaves i) a) one.sent) net.links s.flows l flow =
      changed_at (after_firing i (need_of (slice_get net.leaves i) a) one.sent) net.links s.flows l flow (ap (λ w. slice_get w.flows l) one.is ∙ now) in
      let link_is : was.link ≡ link = some_is was.link link (sym was.at_link ∙ at) in
      let flow_is : was.flow ≡ before = some_is was.flow before (sym was.at_flow ∙ there) in
      let is : after_firing i (need_of (slice_get net.leaves i) a) one.sent link before ≡ flow =
      sym (was.is ∙ (ap (λ k. after_firing i (need_of (slice_get net.leaves i) a) one.sent k was.flow) link_is ∙ ap (after_firing i (need_of (slice_get net.leaves i) a) one.sent link) flow_is)) in
      subst (GoneOn 1 link before) is (record {
        more = sent_on i one.sent link link.from;
        sent = refl;
        arrived = refl;
        from_outside = λ input. none_from_outside i one.sent link link.from input;
        few_more = (let few : length (sent_on i one.sent link link.from) ≤ max_rate = sent_few net s i a one.to one.sent wired lawful one.effect link link.from (wired.joined l link at).from_port in omega (arith, few));
        few_taken = (let few : taken_from i (need_of (slice_get net.leaves i) a) link.to ≤ max_rate = taken_few i (need_of (slice_get net.leaves i) a) link.to (need_few net wired i a) in omega (arith, few));
      })

  -- the flows are as many
  pub fire_count : (s t : State X) (i a : ℕ) → happens net s (Fire i a) ≡ Some t → length s.flows ≡ length net.links → length t.flows ≡ length net.links
  fire_count s t i a h count =
      let one : Fired net s t i a = fired_unless net s t i a s.trapped refl h in
      ap (λ w. length w.flows) (sym one.is) ∙ changed_count (after_firing i (need_of (slice_get net.leaves i) a) one.sent) net.links s.flows count

  abbrev Whole : State X → Type 0
  Whole s = length s.flows ≡ length net.links

  pub flow_at : (s : State X) (l : ℕ) (link : Link) → Whole s → slice_get net.links l ≡ Some link → (flow : Flow) × (slice_get s.flows l ≡ Some flow)
  flow_at s l link whole at = by_place net.links s.flows l (sym whole) at
    where
      by_place : (links : List Link) (flows : List Flow) (k : ℕ) → length links ≡ length flows → slice_get links k ≡ Some link → (flow : Flow) × (slice_get flows k ≡ Some flow)
      by_place [] flows k same h = cc
      by_place (first ∷ links) [] k same h = absurd (omega (arith, same))
      by_place (first ∷ links) (flow ∷ flows) zero same h = (flow, refl)
      by_place (first ∷ links) (flow ∷ flows) (suc k) same h = by_place links flows k (omega (arith, same)) h

  all_then : (n m : ℕ) (s t u : State X) → Whole t → AllGoneOn n net s t → AllGoneOn m net t u → AllGoneOn (n + m) net s u
  all_then n m s t u whole first second l link before flow at there now =
      let mid = flow_at t l link whole at in
      gone_then n m link before mid.0 flow (first l link before mid.0 at there mid.1) (second l link mid.0 flow at mid.1 now)

  all_same : (s : State X) → AllGoneOn 0 net s s
  all_same s l link before flow at there now = subst (GoneOn 0 link before) (some_is before flow (sym there ∙ now)) (gone_same link before)

  on_next : (o : Option (State X)) (Q : State X → Type 0) (R : Type 0) → OnNext o Q → ((next : State X) → o ≡ Some next → Q next → R) → R
  on_next None Q R h f = absurd h
  on_next (Some next) Q R h f = f next refl h

  -- after so many firings
  abbrev Goes : ℕ → State X → State X → Type 0
  Goes n s t = Whole t × AllGoneOn n net s t

  burst_gone : (opened : State X) (i limit : ℕ) (s : State X) (actions : List ℕ) (halt : Halt) (last : State X) → IsBurst net opened i limit s actions halt last → Whole s
      → Goes (length actions) s last
  burst_gone opened i limit s [] halt last burst whole = subst (Goes 0 s) burst.1 (whole, all_same s)
  burst_gone opened i limit s (a ∷ actions) halt last burst whole =
      on_next (happens net s (Fire i a)) (λ next. IsBurst net opened i (limit - 1) next actions halt last) (Goes (suc (length actions)) s last) burst.3
      (λ next is rest.
      let here : Whole next = fire_count s next i a is whole in
      let later : Goes (length actions) next last = burst_gone opened i (limit - 1) next actions halt last rest here in (
        later.0,
        subst (λ n. AllGoneOn n net s last) (let e : 1 + length actions ≡ suc (length actions) = omega arith in e)
            (all_then 1 (length actions) s next last here (fire_gone s next i a is) later.1),
      ))

  pub bursts_gone : (opened : State X) (share : Share) (marks : List Bool) (i k fired : ℕ) (s : State X) (bursts : List (List ℕ)) (halts : List Halt) (last : State X)
      → AreBursts net opened share marks i k fired s bursts halts last → Whole s → Goes (count_of bursts) s last
  bursts_gone opened share [] i k fired s [] [] last are whole = subst (Goes 0 s) are (whole, all_same s)
  bursts_gone opened share [] i k fired s [] (halt ∷ halts) last are whole = absurd are
  bursts_gone opened share [] i k fired s (actions ∷ bursts) halts last are whole = absurd are
  bursts_gone opened share (true ∷ marks) i k fired s [] halts last are whole = absurd are
  bursts_gone opened share (true ∷ marks) i k fired s (actions ∷ bursts) [] last are whole = absurd are
  bursts_gone opened share (true ∷ marks) i k fired s (actions ∷ bursts) (halt ∷ halts) last are whole =
      let first : Goes (length actions) s are.0 = burst_gone opened i (limit_of share.burst share.left share.picks k fired) s actions halt are.0 are.1 whole in
      let later : Goes (count_of bursts) are.0 last = bursts_gone opened share marks (suc i) (suc k) (fired + length actions) are.0 bursts halts last are.2 first.0 in
      (later.0, all_then (length actions) (count_of bursts) s are.0 last first.0 first.1 later.1)
  bursts_gone opened share (false ∷ marks) i k fired s [] halts last are whole = absurd are
  bursts_gone opened share (false ∷ marks) i k fired s (actions ∷ bursts) [] last are whole = absurd are
  bursts_gone opened share (false ∷ marks) i k fired s (actions ∷ bursts) (halt ∷ halts) last are whole =
      let later : Goes (count_of bursts) s last = bursts_gone opened share marks (suc i) k fired s bursts halts last are.2 whole in
      let none : length actions ≡ 0 = ap (λ acts. length acts) are.0 in
      subst (λ n. Goes n s last) (let e : count_of bursts ≡ length actions + count_of bursts = omega (arith, none) in e) later

-- What closes a round changes no tokens.
pub record SameTokens {X : Type 0} (net : Network X) (s t : State X) : Type 0 where
  pub count : length t.flows ≡ length s.flows
  pub each : (l : ℕ) (before flow : Flow) → slice_get s.flows l ≡ Some before → slice_get t.flows l ≡ Some flow
      → (flow.sent ≡ before.sent) × (flow.arrived ≡ before.arrived) × (flow.taken ≡ before.taken)

pub same_tokens : {X : Type 0} (net : Network X) (s t : State X) → t.flows ≡ s.flows → SameTokens net s t
same_tokens net s t same = record {
  count = ap (λ fs. length fs) same;
  each = λ l before flow there now.
      let is : before ≡ flow = some_is before flow (sym there ∙ (ap (λ fs. slice_get fs l) (sym same) ∙ now)) in
      (ap (λ f. f.sent) (sym is), ap (λ f. f.arrived) (sym is), ap (λ f. f.taken) (sym is));
}

-- what the tests need: the state from which a grown one comes
pub grown_tokens : {X : Type 0} (net : Network X) (s t : State X) (l capacity : ℕ) (o : Option Flow) → slice_get s.flows l ≡ o → grown s l capacity o ≡ Some t → SameTokens net s t
grown_tokens net s t l capacity None here h = cc
grown_tokens {X} net s t l capacity (Some old) here h =
    let wide : Flow = record old { capacity = capacity } in
    let state : State X = record s { flows = slice_set s.flows l wide } in
    let is : state ≡ t = some_state state t h in
    subst (SameTokens net s) is (record {
      count = set_count s.flows l wide;
      each = λ m before flow there now. by_place m before flow there now (cases_eq m l);
    })
  where
    some_state : (a b : State X) → Some a ≡ Some b → a ≡ b
    some_state a b e = cc

    set_count : (xs : List Flow) (k : ℕ) (x : Flow) → length (slice_set xs k x) ≡ length xs
    set_count [] k x = refl
    set_count (y ∷ xs) zero x = refl
    set_count (y ∷ xs) (suc k) x = ap suc (set_count xs k x)

    by_place : (m : ℕ) (before flow : Flow) → slice_get s.flows m ≡ Some before → slice_get (slice_set s.flows l (record old { capacity = capacity })) m ≡ Some flow → (m ≡ l) ⊎ (m ≢ l)
        → (flow.sent ≡ before.sent) × (flow.arrived ≡ before.arrived) × (flow.taken ≡ before.taken)
    by_place m before flow there now (inl same) =
        let was : before ≡ old = some_is before old (sym there ∙ (ap (slice_get s.flows) same ∙ here)) in
        let is : record old { capacity = capacity } ≡ flow =
        some_is (record old { capacity = capacity }) flow (sym (get_set_same s.flows l old (record old { capacity = capacity }) here) ∙ (ap (slice_get (slice_set s.flows l (record old { capacity = capacity }))) (sym same) ∙ now)) in
        (ap (λ f. f.sent) (sym is) ∙ ap (λ f. f.sent) (sym was), ap (λ f. f.arrived) (sym is) ∙ ap (λ f. f.arrived) (sym was), ap (λ f. f.taken) (sym is) ∙ ap (λ f. f.taken) (sym was))
    by_place m before flow there now (inr differ) =
        let is : before ≡ flow = some_is before flow (sym there ∙ (sym (get_set_other s.flows m l (record old { capacity = capacity }) differ) ∙ now)) in
        (ap (λ f. f.sent) (sym is), ap (λ f. f.arrived) (sym is), ap (λ f. f.taken) (sym is))

pub some_state : {X : Type 0} (a b : State X) → Some a ≡ Some b → a ≡ b
some_state a b e = cc

trap_tokens : {X : Type 0} (net : Network X) (s t : State X) (cause : TrapName) (e : Option (Effect X)) → trap s cause e ≡ Some t → SameTokens net s t
trap_tokens net s t cause None h = cc
trap_tokens net s t cause (Some (Fires x sent)) h = cc
trap_tokens {X} net s t cause (Some (TrapsInGuard d)) h = by_test (number_of_trap cause == number_of_trap d) h
  where
    by_test : (b : Bool) → (if b then Some (record s { trapped = true }) else None) ≡ Some t → SameTokens net s t
    by_test true e = same_tokens net s t (ap (λ w. w.flows) (sym (some_state (record s { trapped = true }) t e)))
    by_test false e = cc
trap_tokens {X} net s t cause (Some (TrapsInBody d)) h = by_test (number_of_trap cause == number_of_trap d) h
  where
    by_test : (b : Bool) → (if b then Some (record s { trapped = true }) else None) ≡ Some t → SameTokens net s t
    by_test true e = same_tokens net s t (ap (λ w. w.flows) (sym (some_state (record s { trapped = true }) t e)))
    by_test false e = cc

pub trap_goes : {X : Type 0} (net : Network X) (s t : State X) (i a : ℕ) (cause : TrapName) → happens net s (Trap i a cause) ≡ Some t → SameTokens net s t
trap_goes net s t i a cause h = by_mark s.trapped h
  where
    by_mark : (b : Bool) → (if b then None else trap s cause (effect_at net s i a)) ≡ Some t → SameTokens net s t
    by_mark true e = cc
    by_mark false e = trap_tokens net s t cause (effect_at net s i a) e

one_line : {X : Type 0} (o : Option (State X)) (t : State X) → and_then o (λ w. Some w) ≡ Some t → o ≡ Some t
one_line None t h = cc
one_line (Some w) t h = h

some_line : (a b : Line) → Some a ≡ Some b → a ≡ b
some_line a b e = cc

end_tokens : {X : Type 0} (net : Network X) (s t : State X) (how : RunEnd) (line : Line) → end_line how ≡ Some line → goes net s line ≡ Some t → SameTokens net s t
end_tokens net s t end.Quiet line is h = same_tokens net s t (ap (λ w. w.flows) (sym (some_state s t (ap (goes net s) (some_line Quiet line is) ∙ h))))
end_tokens net s t (end.Trapped inst action cause) line is h =
    trap_goes net s t inst.0 action.0 cause (ap (goes net s) (some_line (TrapLine inst.0 action.0 cause) line is) ∙ h)
end_tokens net s t (end.Stalled inst action link) line is h =
    same_tokens net s t (ap (λ w. w.flows) (sym (some_state s t (ap (goes net s) (some_line (Stall inst.0 action.0 link.0) line is) ∙ h))))
end_tokens net s t end.Budget line is h = same_tokens net s t (ap (λ w. w.flows) (sym (some_state s t (ap (goes net s) (some_line Budget line is) ∙ h))))
end_tokens net s t (end.ReadFault feed) line is h = cc
end_tokens net s t (end.WriteFault channel) line is h = cc

goes_on : {X : Type 0} (net : Network X) (s t : State X) (close : Close) → close ≡ GoesOn → played net s (close_lines close) ≡ Some t → SameTokens net s t
goes_on net s t close is h = same_tokens net s t (ap (λ w. w.flows) (sym (some_state s t (subst (λ c. played net s (close_lines c) ≡ Some t) is h))))

close_tokens : {X : Type 0} (net : Network X) (s t : State X) (answer : RoundEnd) (block : Block) → Answers answer block → played net s (close_lines block.close) ≡ Some t → SameTokens net s t
close_tokens net s t (round.Fired n) block answers h = goes_on net s t block.close answers.0 h
close_tokens net s t round.Idle block answers h = goes_on net s t block.close answers.0 h
close_tokens net s t (round.Grew link capacity) block answers h =
    grown_tokens net s t link.0 capacity (slice_get s.flows link.0) refl
    (one_line (grown s link.0 capacity (slice_get s.flows link.0)) t (subst (λ c. played net s (close_lines c) ≡ Some t) answers h))
close_tokens net s t (round.End how) block answers h =
    end_tokens net s t how answers.0 answers.1 (one_line (goes net s answers.0) t (subst (λ c. played net s (close_lines c) ≡ Some t) answers.2 h))

-- A whole round.

pub round_gone : {X : Type 0} (net : Network X) (pace : Pace) (at : Moment X) (block : Block) (last : State X) (answer : RoundEnd) → IsWired net → AreLawful net → IsRound net pace at block last
    → Answers answer block → length (after_delivery net at.state).flows ≡ length net.links
    → (length last.flows ≡ length net.links) × AllGoneOn (count_of block.bursts) net (after_delivery net at.state) last
round_gone net pace at block last answer wired lawful made answers whole =
    let opened = after_delivery net at.state in
    let gone = bursts_gone net wired lawful opened (share_of net pace at) (picked net pace at) 0 0 0 opened block.bursts made.halts made.fired made.bursts whole in
    let same : SameTokens net made.fired last = close_tokens net made.fired last answer block answers made.leads in (
      same.count ∙ gone.0,
      λ l link before flow there was now.
          let mid = flow_at net wired lawful made.fired l link gone.0 there in
          let first = gone.1 l link before mid.0 there was mid.1 in
          let second = same.each l mid.0 flow mid.1 now in
          record {
            more = first.more;
            sent = second.0 ∙ first.sent;
            arrived = second.1 ∙ first.arrived;
            from_outside = first.from_outside;
            few_more = first.few_more;
            few_taken = (let few = first.few_taken in let is = second.2 in omega (arith, few, is));
          },
    )
