use Rattle.std.proofs.Common.{length}
use Rattle.operations.proofs.words.+is_named.Given as goal

-- proposed from what the function passes where it calls itself
abbrev pub decreases-is_named : goal.decreases-is_named
decreases-is_named l = length l.row.now
