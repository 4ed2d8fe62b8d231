-- the bytes of each file
use Rattle.std.specs.Prelude.{map}
use Rattle.infuse_link.proofs.infusing.infuse_set.Given as goal

abbrev pub ghost-infuse_sized : goal.ghost-infuse_sized
ghost-infuse_sized a = map (λ v. v.items) a.files.now
