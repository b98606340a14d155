-- What was opened under its name stays so.
use Rattle.std.proofs.Common.{◌≡◌, inl, inr, ⊎_elim, ℕ, Bool, List, refl, ◌∙◌}
use Rattle.std.specs.Prelude.{Result, Ok, Err}
use Rattle.rvc_io.specs.Channels.{Channels}
use Rattle.rvc_io.specs.Feeds.{Inputs}
use Rattle.rvc_io.specs.Past.{Done}
use Rattle.rvc_words.specs.Words.{PortText}
use Rattle.net_model.specs.declared.wiring.Link.{Link}
use Rattle.cmd_ports.specs.Opening.{AreNoted, HoldsBefore, Opening, channels_of}
use Rattle.cmd_run_network.specs.declared.outcome.JobFault.{JobFault}
use Rattle.cmd_run_network.specs.declared.outcome.JobFault.TheVariants.{Memory, ReadFault, Refused, WriteFault}
use Rattle.cmd_run_network.specs.Names.{AreOpened, ChannelsOpened, FeedsOpened, OpensByName}

-- ---- just now

pub feeds_now : {S : Type 0} (feeds : S → Inputs) (past : S → List Done) (old new : S) (openings : List Opening) → AreNoted openings (past old) (past new) → FeedsOpened feeds past old new openings
feeds_now feeds past old new openings noted = record { moment = new; noted = noted; none_since = λ n. refl }

pub channels_now : {S : Type 0} (channels : S → Channels) (past : S → List Done) (old new : S) (openings : List Opening) → AreNoted openings (past old) (past new) → ChannelsOpened channels past old new openings
channels_now channels past old new openings noted = record { moment = new; noted = noted; none_since = λ n. refl }

pub holds_so : (openings : List Opening) (number : ℕ) (P Q : List Opening → Type 0) → ((made : List Opening) → P made → Q made) → HoldsBefore openings number P → HoldsBefore openings number Q
holds_so openings number P Q so here = record {
  before = here.before;
  failed = here.failed;
  after = here.after;
  in_order = here.in_order;
  number_is = here.number_is;
  holds = so here.before here.holds;
}

pub feeds_before : {S : Type 0} (feeds : S → Inputs) (past : S → List Done) (old new : S) (openings : List Opening) (feed : ℕ) → HoldsBefore openings feed (λ made. AreNoted made (past old) (past new))
    → HoldsBefore openings feed (FeedsOpened feeds past old new)
feeds_before feeds past old new openings feed here =
    holds_so openings feed (λ made. AreNoted made (past old) (past new)) (FeedsOpened feeds past old new) (λ made noted. feeds_now feeds past old new made noted) here

pub channels_before : {S : Type 0} (channels : S → Channels) (past : S → List Done) (old new : S) (openings : List Opening) (channel : ℕ) → HoldsBefore openings channel (λ made. AreNoted made (past old) (past new))
    → HoldsBefore openings channel (ChannelsOpened channels past old new)
channels_before channels past old new openings channel here =
    holds_so openings channel (λ made. AreNoted made (past old) (past new)) (ChannelsOpened channels past old new) (λ made noted. channels_now channels past old new made noted) here

-- ---- and later

pub still_opened : {S : Type 0} (is_open : S → ℕ → Bool) (past : S → List Done) (old mid new : S) (openings : List Opening) → AreOpened is_open past old mid openings
    → ((n : ℕ) → is_open new n ≡ is_open mid n) → AreOpened is_open past old new openings
still_opened is_open past old mid new openings opened same =
    record { moment = opened.moment; noted = opened.noted; none_since = λ n. same n ∙ opened.none_since n }

pub feeds_still : {S : Type 0} (feeds : S → Inputs) (past : S → List Done) (old mid new : S) (openings : List Opening) → FeedsOpened feeds past old mid openings
    → ((n : ℕ) → (feeds new).is_open n ≡ (feeds mid).is_open n) → FeedsOpened feeds past old new openings
feeds_still feeds past old mid new openings opened same = still_opened (λ s. (feeds s).is_open) past old mid new openings opened same

pub channels_still : {S : Type 0} (channels : S → Channels) (past : S → List Done) (old mid new : S) (openings : List Opening) → ChannelsOpened channels past old mid openings
    → ((n : ℕ) → (channels new).is_open n ≡ (channels mid).is_open n) → ChannelsOpened channels past old new openings
channels_still channels past old mid new openings opened same = still_opened (λ s. (channels s).is_open) past old mid new openings opened same

-- ---- by what a job came to

pub named_still : {A T : Type 0} (links : List Link) (ins outs : List (List ℕ)) (words : List PortText) (trace : List ℕ) (FeedsAre : List Opening → Type 0) (channels : T → Channels) (past : T → List Done) (old mid new : T)
    (came : Result A JobFault) → ((n : ℕ) → (channels new).is_open n ≡ (channels mid).is_open n) → OpensByName links ins outs words trace FeedsAre (ChannelsOpened channels past old mid) came
    → OpensByName links ins outs words trace FeedsAre (ChannelsOpened channels past old new) came
named_still links ins outs words trace FeedsAre channels past old mid new (Ok a) same h = (h.0, channels_still channels past old mid new (channels_of trace outs words) h.1 same)
named_still links ins outs words trace FeedsAre channels past old mid new (Err (Refused refusal)) same h = tt
named_still links ins outs words trace FeedsAre channels past old mid new (Err Memory) same h = tt
named_still links ins outs words trace FeedsAre channels past old mid new (Err (ReadFault feed)) same h = h
named_still links ins outs words trace FeedsAre channels past old mid new (Err (WriteFault channel)) same h = (
  h.0,
  ⊎_elim
      (λ before. inl (holds_so (channels_of trace outs words) channel (ChannelsOpened channels past old mid) (ChannelsOpened channels past old new)
      (λ made opened. channels_still channels past old mid new made opened same) before))
      (λ all. inr (channels_still channels past old mid new (channels_of trace outs words) all same)) h.1,
)
