use Rattle.std.proofs.Common.{◌+◌, ◌*◌}
use Rattle.qs_parser.proofs.levels.+powers.Given as goal

abbrev pub decreases-tight : goal.decreases-tight
decreases-tight g l = 2 * l.powers + 1

abbrev pub decreases-power : goal.decreases-power
decreases-power g l = 2 * l.powers
