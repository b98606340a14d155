-- Networks that bytes spell by productions alone.
use Rattle.std.proofs.Common.{◌≡◌, ◌+◌, ℕ, List, take, Some}
use Rattle.rvc_base.specs.Rules.{spells_no_network}
use Rattle.fnl_markup.specs.Markup.{IsMarkup, broken_of, fault}
use Rattle.fnl_markup.specs.Tags.{Tag}
use Rattle.fnl_frames.specs.Net.{Net}
use Rattle.fnl_grammar.specs.MarkupLaws.{NoDocumentGoesOn}
use Rattle.fnl_grammar.specs.Laws.{SpellsNetwork, NoneGoesOn, IsNetworkFile, ReadIsNetworkFile, NetworkFileIsRead, IsOneNetworkFile, NoNetworkFileGoesOn}
use Rattle.fnl_grammar.proofs.Spelled.{tags_are_spelled, tags_are_read}
use Rattle.fnl_grammar.proofs.Whole.{read_is_spelled, spelled_is_read, spells_one}

-- the markup of a file is as well what is read
spells : (text : List ℕ) (net : Net) → IsNetworkFile text net → SpellsNetwork text net
spells text net file = record { tags = file.tags; markup = tags_are_read text file.tags file.document; spelled = file.spelled }

pub read_is_network_file : ReadIsNetworkFile
read_is_network_file text net e =
    let it = read_is_spelled text net e in
    record { tags = it.tags; document = tags_are_spelled text it.tags it.markup; spelled = it.spelled }

pub network_file_is_read : NetworkFileIsRead
network_file_is_read text net file = spelled_is_read text net (spells text net file)

pub is_one_network_file : IsOneNetworkFile
is_one_network_file text one other h k = spells_one text one other (spells text one h) (spells text other k)

pub no_network_file_goes_on : NoneGoesOn → NoNetworkFileGoesOn
no_network_file_goes_on law text other at net e same file = law text other at net e same (spells other net file)

pub no_document_goes_on : ((text other : List ℕ) (at : ℕ) (tags : List Tag) → broken_of text ≡ Some (fault spells_no_network at) → take (at + 1) other ≡ take (at + 1) text → IsMarkup other tags → ⊥) → NoDocumentGoesOn
no_document_goes_on law text other at tags e same document = law text other at tags e same (tags_are_read other tags document)
