use Rattle.library_tests.proofs.qs_const_tests.Reader.+reading.Given as goal

abbrev pub decreases-expression : goal.decreases-expression
decreases-expression l = l.depth

abbrev pub decreases-named : goal.decreases-named
decreases-named l = l.depth

abbrev pub decreases-operand : goal.decreases-operand
decreases-operand l = l.depth
