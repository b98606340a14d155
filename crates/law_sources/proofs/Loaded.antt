-- Files that are loaded are what their bytes spell.
use Rattle.std.proofs.Common.{Bool, ℕ, suc, List, [], ◌∷◌, ◌++◌}
use Rattle.cal_imports.specs.Sources.{Source}
use Rattle.cal_files.specs.Loading as actor_loading
use Rattle.cal_files.specs.Loading.{Library}
use Rattle.cal_files.specs.Reads as actor_reads
use Rattle.fnl_source.specs.Files as network
use Rattle.fnl_source.specs.Files.{Asked, Content, Says, is_network, says_network, says_source, sources_from, sources_in}
use Rattle.law_sources.specs.Names.{ActorFilesAreSpelled, ActorNamesDiffer, AreSaid, AreSpelled, NamesDiffer, NetworkFilesAreSpelled, NetworkNamesDiffer, SaidFilesAreSpelled, SaidNamesDiffer}

-- ---- the files of an actor

actor_read : (library : Library) (top : List ℕ) (n : ℕ) (before rs : List actor_reads.Read) → actor_loading.AreReadBehind library top before rs → AreSpelled (actor_reads.sources_from n rs)
actor_read library top n before [] h = tt
actor_read library top n before (r ∷ rs) h =
    (record { text = r.text; is_file = h.0.is_file }, actor_read library top (suc n) (before ++ r ∷ []) rs h.1)

pub actor_files_are_spelled : ActorFilesAreSpelled
actor_files_are_spelled library top reads h = actor_read library top 1 [] reads h.are_read

pub actor_names_differ : NamesDiffer → ActorNamesDiffer
actor_names_differ differ library top names scope h =
    differ (actor_reads.sources_of h.reads) top scope (actor_files_are_spelled library top h.reads h.is_loaded) h.is_resolved

-- ---- the files of a network

said_more : (class text : List ℕ) (n : ℕ) (content : Content) (others : List Source) → Says text (is_network content) content → AreSpelled others
    → AreSpelled (sources_in class n content ++ others)
said_more class text n (network.network net) others h k = k
said_more class text n (network.source tree) others (says_source h) k = (record { text = text; is_file = h }, k)

said_from : (n : ℕ) (reads : List network.Read) → AreSaid reads → AreSpelled (sources_from n reads)
said_from n [] h = tt
said_from n (r ∷ rs) h = said_more r.class r.text n r.content (sources_from (suc n) rs) h.0 (said_from (suc n) rs h.1)

pub said_files_are_spelled : SaidFilesAreSpelled
said_files_are_spelled reads h = said_from 1 reads h

pub said_names_differ : NamesDiffer → SaidNamesDiffer
said_names_differ differ reads class scope said h = differ (network.files_of reads).sources class scope (said_files_are_spelled reads said) h

-- ---- the files that are loaded for one

said_itself : (text : List ℕ) (wanted : Bool) (content : Content) → Says text wanted content → Says text (is_network content) content
said_itself text _ _ (says_network h) = says_network h
said_itself text _ _ (says_source h) = says_source h

are_said : (library : Library) (choice : network.Choice) (top : Asked) (before rs : List network.Read) → network.AreReadBehind library choice top before rs → AreSaid rs
are_said library choice top before [] h = tt
are_said library choice top before (r ∷ rs) h = (said_itself r.text h.0.want.network r.content h.0.says, are_said library choice top (before ++ r ∷ []) rs h.1)

pub network_files_are_spelled : NetworkFilesAreSpelled
network_files_are_spelled library top reads h = said_files_are_spelled reads (are_said library h.choice top [] reads h.are_read)

pub network_names_differ : NamesDiffer → NetworkNamesDiffer
network_names_differ differ library top reads class scope loaded h = said_names_differ differ reads class scope (are_said library loaded.choice top [] reads loaded.are_read) h
