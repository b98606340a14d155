-- What a reader says at a place.
-- Not trusted: no promise is read with it.
use Rattle.trace_text.specs.declared.place.Place.{Place}
use Rattle.trace_text.specs.declared.place.Place.TheVariants.{Ended, Lost}
use Rattle.trace_text.specs.declared.reader.Step2.{Step2}
use Rattle.trace_text.specs.declared.reader.Step2.TheVariants.{More, Line as TheLine, Bad}

abbrev pub answer_of : Place → Step2
answer_of (Ended line) = TheLine line
answer_of Lost = Bad
answer_of place = More
