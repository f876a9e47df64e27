use Rattle.line_text.proofs.judgings.put_fault.Goals as goal

pub returns : goal.returns
returns g c = rw (
  c.number_field-entry.ensures,
  c.as_bytes-name.ensures.value,
  c.name_of.ensures.name,
  c.code_of-code.ensures,
) at c.put_fields.ensures
