use Rattle.std.proofs.Common.{[], refl}
use Rattle.trace_text.proofs.Telling.{empty_front}
use Rattle.trace_text.proofs.Only.{has_read_nothing}
use Rattle.trace_text.proofs.reader.LineReader.new.Goals as goal

pub returns-clause-read : goal.returns-clause-read
returns-clause-read c = has_read_nothing

pub returns-clause-told : goal.returns-clause-told
returns-clause-told c = record {
  texts = [];
  read = [];
  are_lines = tt;
  is_front = empty_front;
  whole = refl;
  has_read = has_read_nothing;
}
