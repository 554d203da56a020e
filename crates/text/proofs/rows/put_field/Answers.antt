use Rattle.text.proofs.Puts.{field_put}
use Rattle.text.proofs.rows.put_field.Goals as goal

pub returns : goal.returns
returns c =
    rw c.put_hex.ensures (field_put c.args.out.now c.args.at c.args.digits c.args.v c.args.after)
