-- The place is put in where the search found its gap.
use Rattle.reach.proofs.Growing.{joined_insert}
use Rattle.reach.proofs.insert.Goals as goal

pub returns-in-Err : goal.returns-in-Err
returns-in-Err c =
    joined_insert _ _ c.requires.ordered (rw c.as_slice.ensures.value at c.in-Err.ensures.absent) c.requires.count_bound c.put_in.ensures
