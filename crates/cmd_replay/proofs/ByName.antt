-- The feeds of a replay are opened under their names.
use Rattle.std.proofs.Common.{◌≡◌, ◌⊎◌, inr, ℕ, List, map, subst}
use Rattle.std.specs.declared.result.Result.TheVariants.{Err}
use Rattle.rvc_words.specs.Words.{port_text}
use Rattle.rvc_words.specs.declared.job.Job.{Job}
use Rattle.rvc_words.specs.declared.job.PortWord.{PortWord}
use Rattle.net_model.specs.declared.wiring.Link.{Link}
use Rattle.net_model.specs.declared.wiring.Port.{Port}
use Rattle.fnl_flatten.specs.declared.flat.Flat.{Flat}
use Rattle.cmd_ports.specs.Matching.{names_of}
use Rattle.cmd_ports.specs.Opening.{Opening, replay_feeds}
use Rattle.trace_replay.specs.declared.why.ReplayFault.{ReplayFault}
use Rattle.trace_replay.specs.declared.why.ReplayFault.TheVariants as judged
use Rattle.cmd_replay.specs.Steps.{OpensByName, openings_of}
use Rattle.cmd_replay.specs.declared.outcome.NotReplayed.TheVariants as stop

-- the same by equal arguments
pub openings_so : (P : List Opening → Type 0) (trace trace_is : List ℕ) (links links_are : List Link) (ins ins_are : List Port) (words words_are : List PortWord)
    → trace ≡ trace_is → links ≡ links_are → ins ≡ ins_are → words ≡ words_are
    → P (replay_feeds trace links (names_of ins) (map port_text words)) → P (replay_feeds trace_is links_are (names_of ins_are) (map port_text words_are))
openings_so P trace trace_is links links_are ins ins_are words words_are a b c d here =
    subst (λ t. P (replay_feeds t links_are (names_of ins_are) (map port_text words_are))) a
    (subst (λ ws. P (replay_feeds trace links_are (names_of ins_are) (map port_text ws))) d
    (subst (λ ls. P (replay_feeds trace ls (names_of ins_are) (map port_text words))) b
    (subst (λ ps. P (replay_feeds trace links (names_of ps) (map port_text words))) c here)))

-- a replay that failed after all were opened
pub all_by_name : (flat : Flat) (job : Job) (FeedsAre : List Opening → Type 0) (fault : ReplayFault) → FeedsAre (openings_of flat job) → OpensByName flat job FeedsAre (Err (stop.Fault fault))
all_by_name flat job FeedsAre (judged.NotRun line why) all = all
all_by_name flat job FeedsAre (judged.ReadFault feed) all = inr all
all_by_name flat job FeedsAre judged.Memory all = tt
