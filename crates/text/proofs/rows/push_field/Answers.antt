use Rattle.text.specs.Rows.{field}
use Rattle.text.proofs.Puts.{field_length, put_behind}
use Rattle.text.proofs.rows.push_field.Goals as goal

pub returns-clause-is : goal.returns-clause-is
returns-clause-is g c =
    put_behind c.args.out.now.items (field c.args.digits c.args.v c.args.after) (field_length c.args.digits c.args.v c.args.after) c.len-from.ensures.value c.push_zeros.ensures.is c.as_mut_slice.ensures.value c.put_field.ensures
