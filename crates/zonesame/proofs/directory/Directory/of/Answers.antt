use Rattle.lentzone.proofs.FormLaws.{zone_octets}
use Rattle.zonesame.proofs.directory.Directory.of.Goals as goal

pub fingerprints_in-requires : goal.fingerprints_in-requires
fingerprints_in-requires c = zone_octets _ c.requires
