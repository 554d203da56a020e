use Rattle.text.specs.Rows.{fields}
use Rattle.text.proofs.Puts.{fields_length, put_behind}
use Rattle.text.proofs.rows.push_fields.Goals as goal

pub returns-clause-is : goal.returns-clause-is
returns-clause-is g c =
    put_behind c.args.out.now.items (fields c.args.x c.args.digits c.args.y c.args.z) (fields_length c.args.x c.args.digits c.args.y c.args.z) c.len-from.ensures.value c.push_zeros.ensures.is c.as_mut_slice.ensures.value c.put_fields.ensures
