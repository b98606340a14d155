use Rattle.determinacy_cert.proofs.CertifiedNetworks.{certified_are_determinate}
use Rattle.determinacy_cert.proofs.laws.certified_networks_are_determinate.Goals as goal

-- src/laws.rt:41:1
pub returns : goal.returns
returns c = certified_are_determinate c.sound_actors_are_lawful.ensures c.certified_actors_are_stable.ensures
