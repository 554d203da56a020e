use mathlib.Core.Path.{◌≡◌}
use Rattle.std.specs.Prelude.{Some}
use Rattle.lines.specs.Items.{item_at}
use Rattle.lines.specs.declared.items.Item.TheVariants.{Last}
use Rattle.lines.proofs.Tables.{begun_last}
use Rattle.lines.proofs.reading.first_line.Goals as goal

pub returns-in-Last-clause-is : goal.returns-in-Last-clause-is
returns-in-Last-clause-is c =
    let e : item_at 2 c.loop-item.rest.now ≡ Some (Last c.in-Last.b) = cc c.in-Some.ensures.is in
    begun_last c.loop-item.invariant.2 c.push-in-Last.ensures.items c.in-Some.ensures.behind.0 e
