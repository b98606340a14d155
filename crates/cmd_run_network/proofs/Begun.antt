-- A run that is about to begin, over feeds and channels that were opened.
use Rattle.std.proofs.Common.{◌≡◌, inl, inr, ℕ, ◌+◌, ◌≤◌, true, false, List, [], refl, sym, ap, subst, ◌∙◌, arith}
use Rattle.std.specs.Prelude.{Option, None, Some, is_some, slice_get, slice_index_or}
use Rattle.rvc_base.specs.declared.round_kind.RoundKind.{RoundKind}
use Rattle.rvc_io.specs.Channels.{Channels}
use Rattle.rvc_io.specs.Count.{HasRisen}
use Rattle.rvc_io.specs.Feeds.{Inputs}
use Rattle.rvc_words.specs.Words.{PortText}
use Rattle.net_model.specs.declared.wiring.Counts.{Counts}
use Rattle.net_model.specs.declared.wiring.End.{End}
use Rattle.net_model.specs.declared.wiring.End.TheVariants.{Leaf as AtLeaf, Net as AtNet}
use Rattle.net_model.specs.declared.wiring.Link.{Link}
use Rattle.net_model.specs.Cell.{Cell}
use Rattle.fnl_flatten.specs.declared.flat.Flat.{Flat}
use Rattle.round_runner.specs.declared.outcome.Plan.{Plan}
use Rattle.round_runner.specs.declared.outcome.RunEnd.{RunEnd}
use Rattle.round_runner.specs.declared.outcome.RunEnd.TheVariants as end
use Rattle.round_runner.specs.Running.{FeedsFit, Running, feed_of, has_feed}
use Rattle.network_runner.specs.Asking.{ChannelsFit, FaultIsTrue, HasInput, HasInputOn, HaveInputs, IsChannel, IsFeed, WritesWithin, seen_run}
use Rattle.cmd_ports.specs.Matching.{names_of}
use Rattle.cmd_ports.specs.Opening.{FeedsAreOpened, feeds_of, file_at, file_from, has_files}
use Rattle.cmd_run_network.specs.Answering.{EndIsCaused}
use Rattle.cmd_run_network.specs.Files.{AreInputs, ComesUnder, IsChannelOf, IsFeedOf, IsUnder, WritesOnly}
use Rattle.cmd_run_network.specs.Preparing.{IsPrepared, WritesHead}
use Rattle.cmd_run_network.proofs.Numbered.{channel_in, fed_file, feed_in, mark_file, opening, port_mark, trace_open}
use Rattle.cmd_run_network.proofs.Kept.{writes_opened, writes_then, writes_trace}

-- ---- inputs

module _ (inputs : List (List ℕ)) (links : List Link) (ins : List (List ℕ)) (words : List PortText) (old new : Inputs) (opened : FeedsAreOpened (feeds_of links ins words) old new) where
  left_of : (l : ℕ) (link : Link) (file : List ℕ) → slice_get links l ≡ Some link → file_from link.from ins words ≡ Some file → new.left (feed_of links l) ≡ old.under file
  left_of l link file at has = opened.whole (opening (feed_of links l) file) (feed_in links 1 (feed_of links l) l link ins words file at has (omega arith))

  by_file : (port : ℕ) (found : Option (List ℕ)) (left : Option (List ℕ)) → file_at (slice_get ins port) words ≡ found → ((file : List ℕ) → found ≡ Some file → left ≡ old.under file)
      → IsUnder found old.under (slice_index_or inputs port []) → HasInput inputs (is_some found) port left
  by_file port None left is whole told = told
  by_file port (Some file) left is whole told = whole file refl ∙ told

  by_end : (l : ℕ) (link : Link) (end : End) → link.from ≡ end → slice_get links l ≡ Some link → ComesUnder inputs ins words end old.under → HasInputOn inputs (has_files ins words) end (new.left (feed_of links l))
  by_end l link (AtLeaf inst port) from at told = tt
  by_end l link (AtNet port) from at told =
      subst (λ b. HasInput inputs b port (new.left (feed_of links l))) (sym (port_mark ins words port))
      (by_file port (file_at (slice_get ins port) words) (new.left (feed_of links l)) refl
      (λ file has. left_of l link file at (subst (λ e. file_from e ins words ≡ Some file) (sym from) has)) told)

  pub have_inputs : AreInputs inputs links ins words old → HaveInputs inputs links (has_files ins words) new
  have_inputs told l link at = by_end l link link.from refl at (told l link at)

  pub feed_open : (l : ℕ) (link : Link) → slice_get links l ≡ Some link → has_feed (has_files ins words) link.from ≡ true → new.is_open (feed_of links l) ≡ true
  feed_open l link at fed =
      let found = fed_file link.from ins words fed in
      opened.opened (opening (feed_of links l) found.0) (feed_in links 1 (feed_of links l) l link ins words found.0 at found.1 (omega arith))

-- ---- the runner

module _ {C X : Type 0} (cell : C → Cell X) (cells : List (Cell X)) (flat : Flat) (words : List PortText) (plan : Plan) (kind : RoundKind) (run : Running C) (head : List ℕ) (counts : Counts) (prepared : IsPrepared cells flat words plan kind (seen_run cell run) head counts) where
  abbrev ins : List (List ℕ)
  ins = names_of flat.ins.items

  abbrev outs : List (List ℕ)
  outs = names_of flat.outs.items

  pub links_are : run.held.links ≡ flat.links.items
  links_are = prepared.begins.links_are ∙ prepared.is_wiring.is_of.links

  pub reads_are : run.reads ≡ has_files ins words
  reads_are = prepared.begins.reads ∙ prepared.is_wiring.reads

  pub writes_are : run.writes ≡ has_files outs words
  writes_are = prepared.begins.writes ∙ prepared.is_wiring.writes

  pub feeds_fit : (old new : Inputs) → FeedsAreOpened (feeds_of flat.links.items ins words) old new → FeedsFit run new
  feeds_fit old new opened = record {
    open_feeds = λ l link at fed. subst (λ links. new.is_open (feed_of links l) ≡ true) (sym links_are)
        (feed_open [] flat.links.items ins words old new opened l link (subst (λ links. slice_get links l ≡ Some link) links_are at) (subst (λ reads. has_feed reads link.from ≡ true) reads_are fed));
    same_feeds = λ l reading at ended. (let clash : true ≡ false = sym ended ∙ (prepared.begins.unread l reading at).1 in absurd (cc));
  }

  pub channels_fit : (trace : List ℕ) (old new : Channels) → WritesHead trace outs words head old new → ChannelsFit run new
  channels_fit trace old new wrote = record {
    trace = wrote.only.same_open 1 ∙ trace_open trace outs words old wrote.between wrote.are_opened;
    outputs = λ p named.
        let found = mark_file outs words p (subst (λ writes. slice_index_or writes p false ≡ true) writes_are named) in
        wrote.only.same_open (2 + p) ∙ wrote.are_opened.opened (opening (2 + p) found.0) (channel_in trace outs words p found.0 found.1);
  }

  pub none_fired : run.counts.firings ≡ 0
  none_fired = prepared.begins.no_firings

  -- what a run reads and writes

  is_feed_of : (feed : ℕ) → IsFeed run feed → IsFeedOf flat.links.items ins words feed
  is_feed_of feed is =
      let found = fed_file is.1.from ins words (subst (λ reads. has_feed reads is.1.from ≡ true) reads_are is.3) in
      record {
        l = is.0;
        link = is.1;
        is_there = subst (λ links. slice_get links is.0 ≡ Some is.1) links_are is.2;
        file = found.0;
        has_file = found.1;
        feed_is = is.4 ∙ ap (λ links. feed_of links is.0) links_are;
      }

  is_channel_of : (channel : ℕ) → IsChannel run channel → IsChannelOf outs words channel
  is_channel_of channel (inl is) = inl is
  is_channel_of channel (inr is) =
      let found = mark_file outs words is.0 (subst (λ writes. slice_index_or writes is.0 false ≡ true) writes_are is.1) in
      inr (record { p = is.0; file = found.0; has_file = found.1; channel_is = is.2 })

  pub writes_run : (old new : Channels) → WritesWithin run old new → WritesOnly outs words old new
  writes_run old new within = record {
    same_telling = within.same_telling;
    same_open = λ channel not. within.same_open channel;
    same_held = λ tells channel not. within.same_others tells channel (λ is. not (is_channel_of channel is));
    faults_stay = within.faults_stay;
  }

  pub writes_all : (trace : List ℕ) (old mid new : Channels) → WritesHead trace outs words head old mid → WritesWithin run mid new → WritesOnly outs words old new
  writes_all trace old mid new wrote within =
      writes_then outs words old mid new
      (writes_then outs words old wrote.between mid (writes_opened outs words trace old wrote.between wrote.are_opened) (writes_trace outs words wrote.between mid wrote.only))
      (writes_run mid new within)

  rises : (a b c : ℕ) → a ≤ b → HasRisen b c → HasRisen a c
  rises a b c low (inl less) = inl (omega (arith, low, less))
  rises a b c low (inr last) = inr last

  pub is_caused : {S T : Type 0} (feeds : S → Inputs) (channels : T → Channels) (new : Running C) (feeds_old feeds_mid feeds_new : S) (old mid now : T) (how : RunEnd)
      → (feeds feeds_old).faults ≤ (feeds feeds_mid).faults → (channels old).faults ≤ (channels mid).faults → FaultIsTrue cell feeds channels run new feeds_mid feeds_new mid now (Some how)
      → EndIsCaused flat.links.items ins outs words (feeds feeds_old) (feeds feeds_new) (channels old) (channels now) how
  is_caused feeds channels new feeds_old feeds_mid feeds_new old mid now end.Quiet low below is = tt
  is_caused feeds channels new feeds_old feeds_mid feeds_new old mid now (end.Trapped inst action trap) low below is = tt
  is_caused feeds channels new feeds_old feeds_mid feeds_new old mid now (end.Stalled inst action link) low below is = tt
  is_caused feeds channels new feeds_old feeds_mid feeds_new old mid now end.Budget low below is = tt
  is_caused feeds channels new feeds_old feeds_mid feeds_new old mid now (end.ReadFault feed) low below is = (rises (feeds feeds_old).faults (feeds feeds_mid).faults (feeds feeds_new).faults low is.0, is_feed_of feed is.1)
  is_caused feeds channels new feeds_old feeds_mid feeds_new old mid now (end.WriteFault channel) low below is = (rises (channels old).faults (channels mid).faults (channels now).faults below is.0, is_channel_of channel is.1)

-- ---- faults

pub wrote_faults : (trace : List ℕ) (outs : List (List ℕ)) (words : List PortText) (head : List ℕ) (old new : Channels) → WritesHead trace outs words head old new → old.faults ≤ new.faults
wrote_faults trace outs words head old new wrote = (let a = wrote.are_opened.faults_stay in let b = wrote.only.faults_stay in omega (arith, a, b))
