-- What stands on the feeds of a replay once they are opened.
use Rattle.std.proofs.Common.{◌≡◌, ◌⊎◌, inl, inr, ℕ, zero, suc, Bool, true, List, [], ◌∷◌, take, refl, sym, ap, subst, ◌∙◌, arith, Contains}
use Rattle.std.specs.Prelude.{Option, None, Some, is_some, slice_get, slice_index_or, if◌then◌else◌}
use Rattle.std.proofs.lemmas.List.Elements.{Contains-append_cases, Contains-append_right}
use Rattle.rvc_io.specs.Feeds.{Inputs}
use Rattle.rvc_words.specs.Words.{PortText}
use Rattle.net_model.specs.declared.wiring.End.{End}
use Rattle.net_model.specs.declared.wiring.End.TheVariants.{Leaf as AtLeaf, Net as AtNet}
use Rattle.net_model.specs.declared.wiring.Link.{Link}
use Rattle.net_model.specs.Network.{is_input}
use Rattle.cmd_ports.specs.Opening.{FeedsAreOpened, IsApart, Opening, feeds_of, file_at, file_from, has_files, replay_feeds}
use Rattle.round_runner.specs.Running as running
use Rattle.cmd_run_network.specs.Files.{AreInputs, ComesUnder, IsUnder}
use Rattle.cmd_run_network.proofs.Numbered.{fed_file, feed_in, is_feed, opening, port_mark}
use Rattle.trace_replay.specs.declared.bytes.TheConstants.{TRACE_FEED}
use Rattle.trace_replay.specs.Feeding.{IsFeedOf as IsFeedRead, OnlyPulls, count_inputs, feed_of, has_feed}
use Rattle.trace_replay.specs.Replaying.{IsEndTold, IsInputTold}
use Rattle.cmd_replay.specs.Replays.{IsReplayFeed, OpensForReplay}

-- ---- numbers of feeds

many_same : (links : List Link) → count_inputs links ≡ running.count_inputs links
many_same [] = refl
many_same (link ∷ links) = ap (λ n. if is_input link then suc n else n) (many_same links)

feed_same : (links : List Link) (l : ℕ) → feed_of links l ≡ running.feed_of links l
feed_same links l = ap suc (many_same (take l links))

fed_same : (marks : List Bool) (end : End) → has_feed marks end ≡ running.has_feed marks end
fed_same marks (AtLeaf inst port) = refl
fed_same marks (AtNet port) = refl

-- what replay reads is the trace, or the file of an input
pub is_read : (links : List Link) (ins : List (List ℕ)) (words : List PortText) (feed : ℕ) → (feed ≡ TRACE_FEED) ⊎ IsFeedRead links (has_files ins words) feed → IsReplayFeed links ins words feed
is_read links ins words feed (inl trace) = inl trace
is_read links ins words feed (inr (l, link, at, fed, is)) =
    let found = fed_file link.from ins words (sym (fed_same (has_files ins words) link.from) ∙ fed) in
    inr (record { l = l; link = link; is_there = at; file = found.0; has_file = found.1; feed_is = is ∙ feed_same links l })

in_one : (x o : Opening) → Contains (x ∷ []) o → x ≡ o
in_one x o (zero, h, e) = e
in_one x o (suc k, h, e) = absurd (omega (arith, h))

module _ (trace : List ℕ) (links : List Link) (ins : List (List ℕ)) (words : List PortText) where
  trace_in : Contains (replay_feeds trace links ins words) (opening 0 trace)
  trace_in = (0, omega arith, refl)

  input_in : (o : Opening) → Contains (feeds_of links ins words) o → Contains (replay_feeds trace links ins words) o
  input_in o h = Contains-append_right (opening 0 trace ∷ []) (feeds_of links ins words) o h

  is_replay_feed : (o : Opening) → Contains (replay_feeds trace links ins words) o → IsReplayFeed links ins words o.number
  is_replay_feed o h = elim (Contains-append_cases (opening 0 trace ∷ []) (feeds_of links ins words) o h) [
    | inl this ↦ inl (ap (λ (x : Opening). x.number) (sym (in_one (opening 0 trace) o this)))
    | inr rest ↦ inr (is_feed links ins words o rest)
  ]

  -- ---- all were opened

  module _ (old new : Inputs) (opened : FeedsAreOpened (replay_feeds trace links ins words) old new) where
    pub trace_open : new.is_open 0 ≡ true
    trace_open = opened.opened (opening 0 trace) trace_in

    pub trace_left : new.left 0 ≡ old.under trace
    trace_left = opened.whole (opening 0 trace) trace_in

    input_of : (l : ℕ) (link : Link) (file : List ℕ) → slice_get links l ≡ Some link → file_from link.from ins words ≡ Some file → Contains (replay_feeds trace links ins words) (opening (running.feed_of links l) file)
    input_of l link file at has = input_in (opening (running.feed_of links l) file) (feed_in links 1 (running.feed_of links l) l link ins words file at has (omega arith))

    left_of : (l : ℕ) (link : Link) (file : List ℕ) → slice_get links l ≡ Some link → file_from link.from ins words ≡ Some file → new.left (feed_of links l) ≡ old.under file
    left_of l link file at has = ap new.left (feed_same links l) ∙ opened.whole (opening (running.feed_of links l) file) (input_of l link file at has)

    pub input_open : (l : ℕ) (link : Link) → slice_get links l ≡ Some link → has_feed (has_files ins words) link.from ≡ true → new.is_open (feed_of links l) ≡ true
    input_open l link at fed =
        let found = fed_file link.from ins words (sym (fed_same (has_files ins words) link.from) ∙ fed) in
        ap new.is_open (feed_same links l) ∙ opened.opened (opening (running.feed_of links l) found.0) (input_of l link found.0 at found.1)

    by_file : (inputs : List (List ℕ)) (port feed : ℕ) (found : Option (List ℕ)) → file_at (slice_get ins port) words ≡ found → ((file : List ℕ) → found ≡ Some file → new.left feed ≡ old.under file)
        → IsUnder found old.under (slice_index_or inputs port []) → IsInputTold (is_some found) feed (slice_index_or inputs port []) new
    by_file inputs port feed None is whole told = told
    by_file inputs port feed (Some file) is whole told = whole file refl ∙ told

    by_end : (inputs : List (List ℕ)) (l : ℕ) (link : Link) (end : End) → link.from ≡ end → slice_get links l ≡ Some link → ComesUnder inputs ins words end old.under
        → IsEndTold (has_files ins words) inputs (feed_of links l) new end
    by_end inputs l link (AtLeaf inst port) from at told = tt
    by_end inputs l link (AtNet port) from at told =
        subst (λ b. IsInputTold b (feed_of links l) (slice_index_or inputs port []) new) (sym (port_mark ins words port))
        (by_file inputs port (feed_of links l) (file_at (slice_get ins port) words) refl
        (λ file has. left_of l link file at (subst (λ e. file_from e ins words ≡ Some file) (sym from) has)) told)

    pub inputs_told : (inputs : List (List ℕ)) → AreInputs inputs links ins words old → (l : ℕ) (link : Link) → slice_get links l ≡ Some link
        → IsEndTold (has_files ins words) inputs (feed_of links l) new link.from
    inputs_told inputs told l link at = by_end inputs l link link.from refl at (told l link at)

  -- ---- what stays

  feed_apart : (feed : ℕ) → (IsReplayFeed links ins words feed → ⊥) → (openings : List Opening) → ((o : Opening) → Contains openings o → Contains (replay_feeds trace links ins words) o) → IsApart feed openings
  feed_apart feed not openings among o h same = not (subst (IsReplayFeed links ins words) (sym same) (is_replay_feed o (among o h)))

  opens_some : (openings : List Opening) (old new : Inputs) → ((o : Opening) → Contains openings o → Contains (replay_feeds trace links ins words) o) → FeedsAreOpened openings old new
      → OpensForReplay links ins words old new
  opens_some openings old new among are = record {
    same_names = are.same_names;
    same_open = λ feed not. are.same_open feed (feed_apart feed not openings among);
    faults_stay = are.faults_stay;
  }

  pub opens_all : (old new : Inputs) → FeedsAreOpened (replay_feeds trace links ins words) old new → OpensForReplay links ins words old new
  opens_all old new are = opens_some (replay_feeds trace links ins words) old new (λ o h. h) are

  pub opens_then : (old mid new : Inputs) → OpensForReplay links ins words old mid → OnlyPulls mid new → OpensForReplay links ins words old new
  opens_then old mid new first pulls = record {
    same_names = λ name. pulls.same_names name ∙ first.same_names name;
    same_open = λ feed not. pulls.same_open feed ∙ first.same_open feed not;
    faults_stay = (let a = first.faults_stay in let b = pulls.faults_stay in omega (arith, a, b));
  }
