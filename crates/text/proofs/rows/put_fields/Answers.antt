use Rattle.text.proofs.Puts.{fields_put}
use Rattle.text.proofs.rows.put_fields.Goals as goal

pub returns : goal.returns
returns c =
    rw (c.put_field-3.ensures, c.put_field-2.ensures, c.put_field.ensures) (fields_put c.args.out.now c.args.at c.args.x c.args.digits c.args.y c.args.z)
