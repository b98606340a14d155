-- What a call adds to what was done.
-- Trusted: part of what a promise means.
use Rattle.std.specs.Prelude.{List, ◌∷◌}
use Rattle.rvc_io.specs.Past.{Done, Opened, Passed, Gave, Lacked, Exceeded}
use Rattle.rvc_io.specs.declared.past.Act.{Act}
use Rattle.rvc_io.specs.declared.past.Act.TheVariants as act

abbrev pub done_by : Act → Done
done_by (act.Opened number name) = Opened number name.now
done_by (act.Passed number bytes) = Passed number bytes.now
done_by (act.Gave name bytes) = Gave name.now bytes.now
done_by (act.Lacked name) = Lacked name.now
done_by (act.Exceeded name) = Exceeded name.now

abbrev pub noted : List Done → Act → List Done
noted past a = done_by a ∷ past
