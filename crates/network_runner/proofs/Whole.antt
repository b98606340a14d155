-- A round's writing, and what its steps come to together.
use Rattle.std.proofs.Common.{◌≡◌, ◌⊎◌, ℕ, ◌+◌, true, false, List, [], ◌∷◌, ◌++◌, length, drop, refl, sym, ap, subst, ◌∙◌, append-nil}
use Rattle.std.specs.Prelude.{slice_index_or}
use Rattle.rvc_io.specs.Channels.{Channels}
use Rattle.rvc_io.specs.Feeds.{Inputs}
use Rattle.channel_writer.specs.Held.{WritesOn}
use Rattle.net_model.specs.Network.{Network, kind_at}
use Rattle.net_model.specs.State.{State, sent_to}
use Rattle.net_model.specs.Cell.{Cell, IsSameActor}
use Rattle.net_model.specs.Paced.{lines_of}
use Rattle.net_model.specs.PortFile.{all_encoded}
use Rattle.net_state.proofs.Gaining.{same_actor, some_is}
use Rattle.round_runner.specs.declared.outcome.RoundEnd.{RoundEnd}
use Rattle.round_runner.specs.Rounds.{text_of}
use Rattle.round_runner.specs.Pulling.{NeedsPull}
use Rattle.round_runner.specs.Running.{Running, buffer}
use Rattle.network_runner.specs.Asking.{IsChannel, IsSameRun, WritesWithin, seen_run}
use Rattle.network_runner.specs.Stepping.{CutSoFar, KeepsOthers, SendsFront, WritesFront, with_buffers}
use Rattle.network_runner.proofs.Loops.{none_front}

pub send_breaks : {X : Type 0} (answer : RoundEnd) (run : Running (Cell X)) (old mid : Channels) → (old.tells ≡ true → mid.held 1 ≡ old.held 1) → SendsFront run old mid → WritesFront answer run old mid
send_breaks answer run old mid still fronts = record {
  lines = λ block answers noted. none_front 1 old mid (run.trace ++ text_of (lines_of block)) still;
  outputs = fronts;
}

-- A run stays the same.

pub run_written : {C X : Type 0} (cell : C → Cell X) (run : Running C) (trace : List ℕ) (buffers : List (List ℕ)) → IsSameRun (seen_run cell run) (seen_run cell (with_buffers run trace buffers))
run_written cell run trace buffers = record {
  same_links = refl;
  same_actors = record { count = refl; each = λ i before after was is. subst (IsSameActor before) (some_is before after (sym was ∙ is)) (same_actor before) };
  same_ins = refl;
  same_outs = refl;
  same_reads = refl;
  same_writes = refl;
  same_kind = refl;
  same_burst = refl;
  same_grow = refl;
  same_workers = refl;
}

pub others_seen : {C X : Type 0} (cell : C → Cell X) (run new : Running C) → KeepsOthers run new → KeepsOthers (seen_run cell run) (seen_run cell new)
others_seen cell run new keeps = record { rounds = keeps.rounds; idle = keeps.idle; trace = keeps.trace; buffers = keeps.buffers; ended = keeps.ended }

pub channel_too : {C : Type 0} (run old : Running C) (channel : ℕ) → run.writes ≡ old.writes → IsChannel run channel → IsChannel old channel
channel_too run old channel writes is = subst (λ ws. (channel ≡ 1) ⊎ ((p : ℕ) × (slice_index_or ws p false ≡ true) × (channel ≡ 2 + p))) writes is

pub within_too : {C : Type 0} (run old : Running C) (before after : Channels) → run.writes ≡ old.writes → WritesWithin run before after → WritesWithin old before after
within_too run old before after writes within = record {
  same_telling = within.same_telling;
  same_open = within.same_open;
  same_others = λ told channel other. within.same_others told channel (λ is. other (channel_too run old channel writes is));
  faults_stay = within.faults_stay;
}

-- A feed couldn't be read.

pub drop_all : {A : Type 0} (xs : List A) → drop (length xs) xs ≡ []
drop_all [] = refl
drop_all (x ∷ xs) = drop_all xs

pub cut_now : {X : Type 0} (net : Network X) (inputs : List (List ℕ)) (s : State X) (feed : ℕ) (run new : Running (Cell X)) (feeds : Inputs) (old : Channels) → NeedsPull net inputs s feed feeds
    → new.trace ≡ run.trace → new.buffers ≡ run.buffers → new.counts ≡ run.counts → CutSoFar net inputs s feed run new feeds old old
cut_now net inputs s feed run new feeds old needs trace buffers counts = record {
  needs = needs;
  trace = nothing 1 run.trace new.trace [] trace refl;
  outputs = λ p is. nothing (2 + p) (buffer run p) (buffer new p) (all_encoded (kind_at net.outs p) (drop (length (sent_to p net.links s.flows)) (sent_to p net.links s.flows))) (ap (λ bs. slice_index_or bs p []) buffers)
      (ap (all_encoded (kind_at net.outs p)) (drop_all (sent_to p net.links s.flows)));
  counts = counts;
}
  where
    nothing : (channel : ℕ) (pending now text : List ℕ) → now ≡ pending → text ≡ [] → WritesOn channel old old pending now text
    nothing channel pending now text same none told = record {
      put = [];
      new_is = sym (append-nil (old.held channel));
      text_is = ap (λ t. pending ++ t) none ∙ (append-nil pending ∙ sym same);
    }
