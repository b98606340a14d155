-- Feeds and channels that aren't of the job stay as they were.
use Rattle.std.proofs.Common.{◌≡◌, inl, inr, ℕ, List, ◌∷◌, sym, subst, ◌∙◌, arith, Contains}
use Rattle.std.proofs.lemmas.List.Elements.{Contains-append_left}
use Rattle.rvc_io.specs.Channels.{Channels, WritesOnlyAt}
use Rattle.rvc_io.specs.Feeds.{Inputs}
use Rattle.rvc_words.specs.Words.{PortText}
use Rattle.net_model.specs.declared.wiring.Link.{Link}
use Rattle.network_runner.specs.Filling.{SameOpen}
use Rattle.cmd_ports.specs.Opening.{ChannelFails, ChannelsAreOpened, FeedFails, FeedsAreOpened, IsApart, Opening, channels_of, feeds_of}
use Rattle.cmd_run_network.specs.Answering.{AreAllOpen}
use Rattle.cmd_run_network.specs.Files.{IsChannelOf, IsFeedOf, Keeps, OpensOnly, WritesOnly}
use Rattle.cmd_run_network.specs.Preparing.{WritesHead}
use Rattle.cmd_run_network.proofs.Numbered.{is_channel, is_feed}

-- ---- feeds

module _ (links : List Link) (ins : List (List ℕ)) (words : List PortText) where
  abbrev IsThis : ℕ → Type 0
  IsThis feed = IsFeedOf links ins words feed

  feed_apart : (feed : ℕ) → (IsThis feed → ⊥) → (openings : List Opening) → ((o : Opening) → Contains openings o → Contains (feeds_of links ins words) o) → IsApart feed openings
  feed_apart feed not openings among o h same = not (subst IsThis (sym same) (is_feed links ins words o (among o h)))

  pub opens_some : (openings : List Opening) (old new : Inputs) → ((o : Opening) → Contains openings o → Contains (feeds_of links ins words) o) → FeedsAreOpened openings old new → OpensOnly links ins words old new
  opens_some openings old new among are = record {
    same_names = are.same_names;
    same_open = λ feed not. are.same_open feed (feed_apart feed not openings among);
    faults_stay = are.faults_stay;
  }

  pub opens_all : (old new : Inputs) → FeedsAreOpened (feeds_of links ins words) old new → OpensOnly links ins words old new
  opens_all old new are = opens_some (feeds_of links ins words) old new (λ o h. h) are

  pub opens_before : (feed : ℕ) (old new : Inputs) → FeedFails (feeds_of links ins words) feed old new → OpensOnly links ins words old new
  opens_before feed old new fails = opens_some fails.before old new
      (λ o h. subst (λ os. Contains os o) (sym fails.in_order) (Contains-append_left fails.before (fails.failed ∷ fails.after) o h)) fails.are_opened

  pub opens_then : (old mid new : Inputs) → OpensOnly links ins words old mid → SameOpen mid new → OpensOnly links ins words old new
  opens_then old mid new first then_same = record {
    same_names = λ name. then_same.same_names name ∙ first.same_names name;
    same_open = λ feed not. then_same.same_open feed ∙ first.same_open feed not;
    faults_stay = (let a = first.faults_stay in let b = then_same.faults_stay in omega (arith, a, b));
  }

-- ---- channels

module _ (outs : List (List ℕ)) (words : List PortText) where
  channel_apart : (trace : List ℕ) (channel : ℕ) → (IsChannelOf outs words channel → ⊥) → (openings : List Opening) → ((o : Opening) → Contains openings o → Contains (channels_of trace outs words) o) → IsApart channel openings
  channel_apart trace channel not openings among o h same = not (subst (IsChannelOf outs words) (sym same) (is_channel trace outs words o (among o h)))

  pub writes_some : (trace : List ℕ) (openings : List Opening) (old new : Channels) → ((o : Opening) → Contains openings o → Contains (channels_of trace outs words) o) → ChannelsAreOpened openings old new → WritesOnly outs words old new
  writes_some trace openings old new among are = record {
    same_telling = are.same_telling;
    same_open = λ channel not. are.same_open channel (channel_apart trace channel not openings among);
    same_held = λ tells channel not. are.same_held tells channel (channel_apart trace channel not openings among);
    faults_stay = are.faults_stay;
  }

  pub writes_opened : (trace : List ℕ) (old new : Channels) → ChannelsAreOpened (channels_of trace outs words) old new → WritesOnly outs words old new
  writes_opened trace old new are = writes_some trace (channels_of trace outs words) old new (λ o h. h) are

  pub writes_before : (trace : List ℕ) (channel : ℕ) (old new : Channels) → ChannelFails (channels_of trace outs words) channel old new → WritesOnly outs words old new
  writes_before trace channel old new fails = writes_some trace fails.before old new
      (λ o h. subst (λ os. Contains os o) (sym fails.in_order) (Contains-append_left fails.before (fails.failed ∷ fails.after) o h)) fails.are_opened

  pub writes_then : (old mid new : Channels) → WritesOnly outs words old mid → WritesOnly outs words mid new → WritesOnly outs words old new
  writes_then old mid new first second = record {
    same_telling = second.same_telling ∙ first.same_telling;
    same_open = λ channel not. second.same_open channel not ∙ first.same_open channel not;
    same_held = λ tells channel not. second.same_held (first.same_telling ∙ tells) channel not ∙ first.same_held tells channel not;
    faults_stay = (let a = first.faults_stay in let b = second.faults_stay in omega (arith, a, b));
  }

  pub writes_trace : (old new : Channels) → WritesOnlyAt 1 old new → WritesOnly outs words old new
  writes_trace old new only = record {
    same_telling = only.same_telling;
    same_open = λ channel not. only.same_open channel;
    same_held = λ tells channel not. only.same_held tells channel (λ is. not (inl is));
    faults_stay = only.faults_stay;
  }

  -- channel 0 is none of these
  not_report : IsChannelOf outs words 0 → ⊥
  not_report (inl is) = absurd (omega (arith, is))
  not_report (inr is) = (let n = is.channel_is in absurd (omega (arith, n)))

  pub report_kept : (old new : Channels) → WritesOnly outs words old new → Keeps 0 old new
  report_kept old new only = record { same_open = only.same_open 0 not_report; same_held = λ tells. only.same_held tells 0 not_report }

-- ---- all that was opened stays open

pub all_open : (links : List Link) (ins outs : List (List ℕ)) (words : List PortText) (trace head : List ℕ) (feeds_old feeds_mid feeds_new : Inputs) (old mid new : Channels)
    → FeedsAreOpened (feeds_of links ins words) feeds_old feeds_mid → SameOpen feeds_mid feeds_new → WritesHead trace outs words head old mid
    → ((channel : ℕ) → new.is_open channel ≡ mid.is_open channel) → AreAllOpen links ins outs words trace feeds_new new
all_open links ins outs words trace head feeds_old feeds_mid feeds_new old mid new are same wrote kept = record {
  feeds_are = λ o h. same.same_open o.number ∙ are.opened o h;
  channels_are = λ o h. kept o.number ∙ wrote.only.same_open o.number ∙ wrote.are_opened.opened o h;
}
