-- Every quiet run goes on from where a run ended.
use Rattle.std.proofs.Common.{◌≡◌, ◌≢◌, ℕ, ◌<◌, ◌≤◌, true, List, [], ◌∷◌, ◌++◌, length, sym, ap, ◌∙◌, subst, append-nil, arith}
use Rattle.rvc_base.specs.declared.trap.Trap.{Trap}
use Rattle.rvc_io.specs.Channels.{Channels}
use Rattle.trace_text.specs.declared.line.Line.{Line}
use Rattle.trace_text.specs.declared.line.Line.TheVariants.{Quiet as QuietLine, Trap as TrapLine, Budget as BudgetLine}
use Rattle.cal_model.specs.Selection.{State as ActorState}
use Rattle.cal_model.specs.Sound.{Each, IsSound}
use Rattle.net_model.specs.declared.wiring.Counts.{Counts}
use Rattle.net_model.specs.Network.{Network}
use Rattle.net_model.specs.State.{State, start_of}
use Rattle.net_model.specs.Ends.{IsBetween, IsQuiet}
use Rattle.net_model.specs.Event.{Event}
use Rattle.net_model.specs.Laws.{IsRunOf, LinesAreRuns, SentGrows, StartsInOrder, firings_in, firings_shown, sent_on_link}
use Rattle.net_model.specs.Stable.{IsPrefix}
use Rattle.net_model.specs.Trace.{bytes_out}
use Rattle.determinacy_cert.specs.Certifying.{CertifiedAreDeterminate, NoFailureWhereCertified}
use Rattle.determinacy_cert.specs.Determinacy.{AsManyFirings, AsManyFiringsAreAll, IsDeterminate, IsQuietRun, NoQuietRunBesides, QuietRunsAgree, SentArePrefixes}
use Rattle.fnl_flatten.specs.Flat.{FlatAreWired}
use Rattle.cmd_run_network.specs.Leaving.{HasEnded, setting_of}
use Rattle.fnl_source.specs.Files.{files_of}
use Rattle.cmd_report.specs.About.{About}
use Rattle.rvc_words.specs.declared.job.Job.{Job}
use Rattle.cmd_network.specs.Commands.{Command}
use Rattle.cmd_run.specs.Ends.{Ran}
use Rattle.law_determinate.specs.QuietRuns.{GoesOn, TellsQuietRuns, actors_of}
use Rattle.law_determinate.proofs.Bared.{bytes_grow, each_other, quiet_alike, sent_alike, settled_alike}
use Rattle.law_determinate.proofs.Ended.{ends_between, ends_quiet, ends_trapped}
use Rattle.law_determinate.proofs.Judged.{all_counted, counted_all, leaves_certified, leaves_many}

-- the laws of determinate networks
pub record Laws (X : Type 0) : Type 0 where
  pub runs : LinesAreRuns X
  pub starts : StartsInOrder X
  pub sent : SentArePrefixes X
  pub agree : QuietRunsAgree X
  pub alone : NoQuietRunBesides X
  pub all : AsManyFiringsAreAll X

module _ {X : Type 0} (laws : Laws X) (net : Network X) (inputs : List (List ℕ)) (job : Job) (det : IsDeterminate net) (end : Line) (counts : Counts) (channels : Channels)
    (ended : HasEnded (setting_of net inputs (start_of net inputs) job) end counts channels) (events : List Event) (quiet : State X) (is : IsQuietRun net inputs events quiet) where
  abbrev last : State X
  last = ended.last

  -- its events
  ran : IsRunOf net (start_of net inputs) last (firings_shown (ended.before ++ end ∷ []))
  ran = laws.runs net job.grow (ended.before ++ end ∷ []) (start_of net inputs) last (laws.starts net inputs).0 ended.permitted.plays

  alike : (l : ℕ) → sent_on_link ran.reached l ≡ sent_on_link last l
  alike l = sent_alike ran.reached last ran.same_tokens l

  grows : SentGrows net last quiet
  grows l low = subst (λ w. IsPrefix w (sent_on_link quiet l)) (alike l) (laws.sent net inputs ran.events events ran.reached quiet det ran.leads is l low)

  continues : (p : ℕ) → IsPrefix (bytes_out net last p) (bytes_out net quiet p)
  continues = bytes_grow net last quiet grows

  back : end ≡ QuietLine → SentGrows net quiet last
  back end_is l low =
      let reached_quiet : IsQuiet net ran.reached = quiet_alike net last ran.reached (sym ran.same_tokens)
      (ends_quiet net job.grow (start_of net inputs) last ended.before end ended.permitted.plays end_is) in
      let same : sent_on_link quiet l ≡ sent_on_link ran.reached l = laws.agree net inputs events ran.events quiet ran.reached det is (record { leads = ran.leads; quiet = reached_quiet }) l low in
      ([], sym (alike l) ∙ (sym same ∙ sym (append-nil (sent_on_link quiet l))))

  equals : end ≡ QuietLine → (p : ℕ) → bytes_out net quiet p ≡ bytes_out net last p
  equals end_is p = each_other (bytes_out net last p) (bytes_out net quiet p) (continues p) (bytes_grow net quiet last (back end_is) p)

  untrapped : (i a : ℕ) (trap : Trap) → end ≢ TrapLine i a trap
  untrapped i a trap end_is =
      let mark : last.trapped ≡ true = ends_trapped net job.grow (start_of net inputs) last ended.before end i a trap ended.permitted.plays end_is in
      laws.alone net inputs ran.events events ran.reached quiet det ran.leads (ap (λ s. s.trapped) ran.same_tokens ∙ mark) is

  beyond : end ≡ BudgetLine → job.budget < length (firings_in events)
  beyond end_is =
      let between : IsBetween net job.grow last = ends_between net job.grow (start_of net inputs) last ended.before end ended.permitted.plays end_is in
      let many : AsManyFirings net ran.reached ran.events events = laws.all net inputs ran.events events ran.reached quiet det ran.leads is in
      let made : length (firings_in ran.events) ≡ job.budget = ap length ran.same_firings ∙ (sym ended.counted.firings ∙ ended.spent end_is) in
      let most : length (firings_in ran.events) ≤ length (firings_in events) = many.most in
      let not_all : length (firings_in ran.events) ≢ length (firings_in events) = λ same.
      between.not_quiet (quiet_alike net ran.reached last ran.same_tokens (many.all_made same (settled_alike net last ran.reached (sym ran.same_tokens) between.settled))) in
      less (length (firings_in ran.events)) job.budget (length (firings_in events)) made most not_all
    where
      less : (n b m : ℕ) → n ≡ b → n ≤ m → n ≢ m → b < m
      less n b m is_b most not_m = omega (arith, is_b, most, not_m)

  pub goes_on : GoesOn (setting_of net inputs (start_of net inputs) job) end last channels events quiet
  goes_on = record {
    continues = continues;
    equals = equals;
    file_continues = λ tells p file named. subst (λ w. IsPrefix w (bytes_out net quiet p)) (sym ((ended.wrote.outputs p file named).held tells)) (continues p);
    file_equals = λ end_is tells p file named. (ended.wrote.outputs p file named).held tells ∙ sym (equals end_is p);
    untrapped = untrapped;
    beyond_budget = beyond;
  }

pub tells : Laws ActorState → FlatAreWired ActorState → CertifiedAreDeterminate → NoFailureWhereCertified
    → (cmd : Command) (net : Network ActorState) (end : Line) (counts : Counts) (lines : List ℕ) (about : About) (ran : Ran cmd net end counts lines about)
    → Each IsSound (actors_of ran) → TellsQuietRuns ran
tells laws wired determinate none cmd net end counts lines about ran sound =
    let means = ran.is_to_run.files.means in
    let files = files_of ran.is_to_run.files.reads in
    let instances : about.instances ≡ length means.actors =
    ap (λ a. a.instances) ran.about_is ∙ leaves_many files means.tree.leaves means.actors net.leaves means.are_actors in
    record {
      shown = (
        λ shows. all_counted means.actors ran.are_certified.said ran.are_certified.judged (sym ran.are_certified.counted ∙ (shows ∙ instances)),
        λ each. ran.are_certified.counted
            ∙ (counted_all none files means.tree.leaves means.actors net.leaves ran.are_certified.said means.are_actors ran.are_certified.judged each ∙ sym instances),
      );
      go_on = λ each inputs given.
          goes_on laws net inputs cmd.job
          (determinate net (wired means.tree _ net means.flat) (leaves_certified files means.tree.leaves means.actors net.leaves means.are_actors sound each))
          end counts cmd.channels_after (ran.leaves inputs given);
    }
