use Rattle.std.proofs.Common.{◌+◌, ◌*◌}
use Rattle.qs_parser.proofs.knot.+knot.Given as goal

abbrev pub decreases-read : goal.decreases-read
decreases-read l = 2 * l.depth + 1

abbrev pub decreases-closure : goal.decreases-closure
decreases-closure l = 2 * l.depth
