use Rattle.qs_parser.proofs.SoundTop.{sound-source}
use Rattle.qs_parser.proofs.laws.read_is_spelled.Goals as goal

pub returns : goal.returns
returns c = sound-source
