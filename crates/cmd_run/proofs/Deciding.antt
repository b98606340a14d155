-- What a library that tells of each name decides of the answer.
use Rattle.std.proofs.Common.{◌≡◌, ℕ, List, sym, subst}
use Rattle.rvc_base.specs.declared.refusal.Refusal.{Refusal}
use Rattle.cal_files.specs.Loading.{Counts, TellsAll}
use Rattle.cal_model.specs.Selection.{State}
use Rattle.net_model.specs.Network.{Network}
use Rattle.trace_text.specs.declared.line.Line.TheVariants.{Quiet as QuietLine, Trap as TrapLine, Stall as StallLine}
use Rattle.fnl_source.specs.Library.{LibraryNetworksAreOne}
use Rattle.cmd_network.specs.Conforming.{Conforms, OneConforms, names_of_ports}
use Rattle.cmd_report.specs.About.{About}
use Rattle.cmd_report.specs.declared.status.ReadAt.TheVariants.{File, Feed}
use Rattle.cmd_report.specs.declared.status.Status.{Status}
use Rattle.cmd_report.specs.declared.status.Status.TheVariants as status
use Rattle.cmd_network.specs.Answers.{IsAnswered, is_reported, is_unreported}
use Rattle.cmd_network.specs.Commands.{Command, ConformingAreNotRefused, HasFiles, IsToRun, RefusesJob, in_files, in_words, top_of, words_of}
use Rattle.cmd_run.specs.Ends.{Comes, ComesFor, IsNoEnd, IsRefused, IsStillRefused, RanOut, RanSome, WasUnread, WasUnwritten, WouldGrowTooFar, by_files, by_growth, by_words}

-- ---- what conforms is run

module _ (cmd : Command) (one : OneConforms) (one_net : LibraryNetworksAreOne) (law : ConformingAreNotRefused) (tells : TellsAll cmd.library)
    (net : Network State) (conforms : Conforms cmd.library (top_of cmd) (words_of cmd) net) where
  is_net : (other : Network State) → IsToRun cmd other → other ≡ net
  is_net other is = one names_of_ports cmd.library (top_of cmd) (words_of cmd) other net tells is.conforms conforms

  has_net : (other : Network State) → HasFiles cmd other → other ≡ net
  has_net other files = one_net cmd.library (top_of cmd) other net tells (record { reads = files.reads; are_loaded = files.are_read.are_loaded; means = files.means }) conforms.means

  pub still_refused : (r : Refusal) (about : About) → IsRefused cmd r about → IsStillRefused cmd net r
  still_refused r about (by_files names breaks) =
      absurd (law names_of_ports cmd.library (top_of cmd) (words_of cmd) net cmd.misses names r tells conforms (in_files breaks.why))
  still_refused r about (by_words names other wrong) =
      absurd (law names_of_ports cmd.library (top_of cmd) (words_of cmd) net cmd.misses names r tells conforms
      (in_words other (record { reads = wrong.files.reads; are_loaded = wrong.files.are_read.are_loaded; means = wrong.files.means }) wrong.wrong))
  still_refused r about (by_growth names other grows) = record { too_far = subst (WouldGrowTooFar cmd) (has_net other grows.files) grows.too_far; refusal = grows.refusal }

  pub comes_for : (said : Status) (lines : List ℕ) (about : About) → Comes cmd said lines about → ComesFor net cmd said lines about
  comes_for status.Quiet lines about c = subst (λ n. RanSome cmd n QuietLine lines about) (is_net c.0 c.1.ran.is_to_run) c.1
  comes_for (status.Trapped inst action trap) lines about c = subst (λ n. RanSome cmd n (TrapLine inst.0 action.0 trap) lines about) (is_net c.0 c.1.ran.is_to_run) c.1
  comes_for (status.Stalled inst action link) lines about c = subst (λ n. RanSome cmd n (StallLine inst.0 action.0 link.0) lines about) (is_net c.0 c.1.ran.is_to_run) c.1
  comes_for (status.Budget firings) lines about c = subst (λ n. RanOut cmd n firings lines about) (is_net c.0 c.1.ran.is_to_run) c.1
  comes_for (status.ReadFault (Feed feed)) lines about c = subst (λ n. WasUnread cmd n feed about) (is_net c.0 c.1.is_to_run) c.1
  comes_for (status.ReadFault (File file)) lines about c = c
  comes_for (status.WriteFault channel) lines about c = subst (λ n. WasUnwritten cmd n channel) (is_net c.0 c.1.is_to_run) c.1
  comes_for (status.Refused r) lines about c = (still_refused r about c.0, c.1)
  comes_for status.OutOfMemory lines about c = c
  comes_for status.Done lines about c = c
  comes_for (status.Usage cause) lines about c = c
  comes_for (status.NotRun number why) lines about c = c
  comes_for (status.Uncertified inst state first second reason) lines about c = c

  pub answered_for : (answer : Status) → IsAnswered Comes cmd answer → IsAnswered (ComesFor net) cmd answer
  answered_for answer (is_reported {said = said} lines about c put) = is_reported lines about (comes_for said lines about c) put
  answered_for answer (is_unreported said lines about c put counted) = is_unreported said lines about (comes_for said lines about c) put counted

  fits_not : WouldGrowTooFar cmd net → (other : Network State) → IsToRun cmd other → (WouldGrowTooFar cmd other → ⊥) → ⊥
  fits_not far other is fits = fits (subst (WouldGrowTooFar cmd) (sym (is_net other is)) far)

  no_end_of : WouldGrowTooFar cmd net → (said : Status) (lines : List ℕ) (about : About) → Comes cmd said lines about → IsNoEnd said
  no_end_of far status.Quiet lines about c = fits_not far c.0 c.1.ran.is_to_run c.1.ran.fits
  no_end_of far (status.Trapped inst action trap) lines about c = fits_not far c.0 c.1.ran.is_to_run c.1.ran.fits
  no_end_of far (status.Stalled inst action link) lines about c = fits_not far c.0 c.1.ran.is_to_run c.1.ran.fits
  no_end_of far (status.Budget firings) lines about c = fits_not far c.0 c.1.ran.is_to_run c.1.ran.fits
  no_end_of far (status.ReadFault at) lines about c = tt
  no_end_of far (status.WriteFault channel) lines about c = tt
  no_end_of far (status.Refused r) lines about c = tt
  no_end_of far status.OutOfMemory lines about c = tt
  no_end_of far status.Done lines about c = tt
  no_end_of far (status.Usage cause) lines about c = tt
  no_end_of far (status.NotRun number why) lines about c = tt
  no_end_of far (status.Uncertified inst state first second reason) lines about c = tt

  pub no_end_so_far : WouldGrowTooFar cmd net → (answer : Status) → IsAnswered Comes cmd answer → IsNoEnd answer
  no_end_so_far far answer (is_reported {said = said} lines about c put) = no_end_of far said lines about c
  no_end_so_far far answer (is_unreported said lines about c put counted) = tt

-- ---- what is refused isn't

module _ (cmd : Command) (law : ConformingAreNotRefused) (tells : TellsAll cmd.library) (misses : Counts) (names : List (List ℕ)) (r : Refusal)
    (refuses : RefusesJob names_of_ports cmd.library (top_of cmd) (words_of cmd) misses names r) where
  none_of : (net : Network State) → IsToRun cmd net → ⊥
  none_of net is = law names_of_ports cmd.library (top_of cmd) (words_of cmd) net misses names r tells is.conforms refuses

  no_run : (said : Status) (lines : List ℕ) (about : About) → Comes cmd said lines about → IsNoEnd said
  no_run status.Quiet lines about c = none_of c.0 c.1.ran.is_to_run
  no_run (status.Trapped inst action trap) lines about c = none_of c.0 c.1.ran.is_to_run
  no_run (status.Stalled inst action link) lines about c = none_of c.0 c.1.ran.is_to_run
  no_run (status.Budget firings) lines about c = none_of c.0 c.1.ran.is_to_run
  no_run (status.ReadFault at) lines about c = tt
  no_run (status.WriteFault channel) lines about c = tt
  no_run (status.Refused r) lines about c = tt
  no_run status.OutOfMemory lines about c = tt
  no_run status.Done lines about c = tt
  no_run (status.Usage cause) lines about c = tt
  no_run (status.NotRun number why) lines about c = tt
  no_run (status.Uncertified inst state first second reason) lines about c = tt

  pub refused_ends_none : (answer : Status) → IsAnswered Comes cmd answer → IsNoEnd answer
  refused_ends_none answer (is_reported {said = said} lines about c put) = no_run said lines about c
  refused_ends_none answer (is_unreported said lines about c put counted) = tt
